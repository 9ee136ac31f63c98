use Rattle.std.proofs.Common.{sym, subst, Option}
use Rattle.bound_members.specs.bound_calls.specs.bound_declarations.specs.constant_values.specs.declared_names.specs.binder.specs.Scopes.{Meant, called}
use Rattle.bound_members.specs.bound_calls.specs.bound_declarations.specs.constant_values.specs.declared_names.specs.View.{scope_view}
use Rattle.bound_members.specs.bound_calls.specs.bound_declarations.specs.constant_values.specs.Rounds.{IsThere}
use Rattle.bound_members.specs.bound_calls.specs.bound_declarations.specs.constant_values.proofs.Looked.{declared_there}
use Rattle.bound_names.proofs.callee.named_term.Goals as goal

pub meant_term-requires-clause-there : goal.meant_term-requires-clause-there
meant_term-requires-clause-there c =
    let s = scope_view c.args.env.constants.scope in
    let A : Option Meant → Type 0 = λ (m : Option Meant). IsThere s m in
    subst A (sym c.declares-meant.ensures) (declared_there called s c.args.name.now c.requires.placed)
