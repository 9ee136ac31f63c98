use Rattle.std.proofs.Common.{◌≡◌, length, arith}
use Rattle.std.proofs.lemmas.List.{nil_from_length}
use Rattle.bound_terms.proofs.IndexedProperties.{indexes}
use Rattle.bound_terms.proofs.indexing.indexes_value.Goals as goal

pub returns-in-empty : goal.returns-in-empty
returns-in-empty c =
    let none : length c.args.routine.parameters.now ≡ 0 = omega (arith, c.in-empty.len_below) in
    indexes c.args.routine c.is_property.result c.is_property.ensures (nil_from_length c.args.routine.parameters.now none)
