use Rattle.std.proofs.Common.{◌≡◌, pos, length, get_or, arith, rules}
use Rattle.std.specs.Prelude.{FitsSigned}
use Rattle.std.specs.Int.{w64}
use Rattle.std.proofs.lemmas.Int.{to_z-of_z}
use Rattle.vba_values.specs.declared.value.Bound.{Bound}
use Rattle.arrays_udt.proofs.Places.{two_of}
use Rattle.arrays_udt.proofs.offsets.offset_in.Goals as goal

abbrev no_bound : Bound
no_bound = record { low = pos 0; high = pos 0 }

pub returns-in-2-eq2-clause-value : goal.returns-in-2-eq2-clause-value
returns-in-2-eq2-clause-value c =
    let bounds : length c.args.bounds.now ≡ 2 = omega arith in
    let numbers : length c.args.places.now ≡ 2 = omega arith in
    let first : FitsSigned w64 (get_or c.args.places.now 0 (pos 0)) = search rules in
    let last : FitsSigned w64 (get_or c.args.places.now 1 (pos 0)) = search rules in
    let same = simp to_z-of_z at c.offset_in_grid.ensures.value in
    rw (two_of c.args.bounds.now no_bound bounds, two_of c.args.places.now (pos 0) numbers) same

pub returns-in-2-eq2-clause-inside : goal.returns-in-2-eq2-clause-inside
returns-in-2-eq2-clause-inside c =
    let bounds : length c.args.bounds.now ≡ 2 = omega arith in
    rw (two_of c.args.bounds.now no_bound bounds) c.offset_in_grid.ensures.inside
