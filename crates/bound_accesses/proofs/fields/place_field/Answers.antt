use Rattle.std.proofs.Common.{Option, sym, subst}
use Rattle.bound_names.specs.bound_members.specs.bound_calls.specs.declared.term.Term.{Term}
use Rattle.bound_accesses.specs.Fields.{FieldOrNone}
use Rattle.bound_names.specs.View.{env_view}
use Rattle.bound_accesses.proofs.Fielding.{field_or_none}
use Rattle.bound_accesses.proofs.fields.place_field.Goals as goal

pub returns : goal.returns
returns c =
    let env = env_view c.args.env in
    let A : Option Term → Type 0 = λ (o : Option Term). FieldOrNone env c.args.of c.args.lends c.args.name.now o in
    subst A (sym c.place_found.ensures) (field_or_none env c.args.of c.in-Some.number c.args.lends c.args.name.now c.in_ok-found.found (sym c.in-Some.ensures) c.in_ok-found.ensures)
