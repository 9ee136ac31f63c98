use Rattle.std.proofs.Common.{Option, sym, subst}
use Rattle.bound_names.specs.bound_members.specs.bound_calls.specs.declared.term.Term.{Term}
use Rattle.bound_accesses.specs.Fields.{ValueOrNone}
use Rattle.bound_names.specs.View.{env_view}
use Rattle.bound_accesses.proofs.Fielding.{value_or_none}
use Rattle.bound_accesses.proofs.fields.value_field.Goals as goal

pub returns : goal.returns
returns c =
    let env = env_view c.args.env in
    let A : Option Term → Type 0 = λ (o : Option Term). ValueOrNone env c.args.of c.args.name.now o in
    subst A (sym c.value_found.ensures) (value_or_none env c.args.of c.in-Some.number c.args.name.now c.in_ok-found.found (sym c.in-Some.ensures) c.in_ok-found.ensures)
