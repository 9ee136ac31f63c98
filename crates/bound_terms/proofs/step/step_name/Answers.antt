use Rattle.std.proofs.Common.{refl, sym, subst, Option, Some, None}
use Rattle.std.specs.Prelude.{reverse}
use Rattle.vba_expression.specs.Tree.{name}
use Rattle.bound_project.specs.DraftView.{draft_view}
use Rattle.declared_names.specs.binder.specs.Scopes.{Meant, plainly}
use Rattle.bound_accesses.specs.bound_names.specs.bound_members.specs.bound_calls.specs.bound_forms.specs.ExpressionsBound.{meant_term}
use Rattle.declared_names.specs.View.{scope_view}
use Rattle.bound_accesses.specs.bound_names.specs.bound_members.specs.bound_calls.specs.bound_declarations.specs.constant_values.specs.Rounds.{IsThere}
use Rattle.bound_accesses.specs.bound_names.specs.bound_members.specs.bound_calls.specs.bound_declarations.specs.constant_values.proofs.Looked.{declared_there}
use Rattle.bound_accesses.specs.bound_names.specs.bound_members.specs.bound_calls.specs.Steps.{MakesLeaf}
use Rattle.bound_accesses.specs.bound_names.specs.View.{env_view}
use Rattle.bound_accesses.specs.bound_names.proofs.Declaring.{env_declares}
use Rattle.bound_accesses.specs.bound_names.specs.bound_members.specs.bound_calls.proofs.Steps.{goes_leaf}
use Rattle.bound_terms.proofs.step.step_name.Goals as goal

pub meant_term-requires-clause-there : goal.meant_term-requires-clause-there
meant_term-requires-clause-there c =
    let s = scope_view c.args.env.constants.scope in
    let A : Option Meant → Type 0 = λ (m : Option Meant). IsThere s m in
    subst A (sym c.declares-meant.ensures) (declared_there plainly s c.args.name.now c.requires.env.placed)

pub returns : goal.returns
returns c =
    let env = env_view c.args.env in
    let x = c.args.name.now in
    let d = draft_view c.args.draft.now in
    let e = draft_view c.settle.new.draft in
    let f = draft_view c.meant_term.new.draft in
    let A : Option Meant → Type 0 = λ m. MakesLeaf env e f c.in_ok-term.term (meant_term env x m) in
    goes_leaf env (reverse c.args.stack.now.items) (reverse c.settle.new.stack.items) (reverse c.put_item.new.stack.items) d e f (record { place = x.token.place; name = Some c.args.name; dotted = None; term = c.in_ok-term.term; declared = c.args.env.declared }) (name x)
    (env_declares c.args.env c.requires.env) (c.in_ok-settle.ensures env) (subst A c.declares-meant.ensures c.in_ok-term.ensures) refl refl tt c.in_ok-put_item.ensures
