use Rattle.std.proofs.Common.{◌∙◌, ℕ, Bool, option_map, subst, sym}
use Rattle.std.specs.Prelude.{Option, option_and_then}
use Rattle.vba_expression.specs.View.{view as expression_view}
use Rattle.bound_project.specs.declared.statement.ActionKind.TheVariants as kind
use Rattle.bound_project.specs.DraftView.{draft_view}
use Rattle.bound_terms.specs.bound_accesses.specs.bound_names.specs.bound_members.specs.bound_calls.specs.bound_forms.specs.Operands.{place_told}
use Rattle.bound_terms.specs.bound_accesses.specs.bound_names.specs.bound_members.specs.bound_calls.specs.bound_forms.specs.ExpressionsBound.{bound_as_given}
use Rattle.constant_values.specs.declared_names.specs.binder.specs.Numbering.{behind_block, here, sought_behind}
use Rattle.bound_terms.specs.bound_accesses.specs.bound_names.specs.bound_members.specs.bound_calls.specs.bound_forms.specs.StatementsBound.{for_each_of, loop_variable}
use Rattle.statement_nodes.specs.Actions.{GroupPushed}
use Rattle.statement_nodes.specs.Pushed.{ActionPushed}
use Rattle.bound_terms.specs.bound_accesses.specs.bound_names.specs.View.{env_view}
use Rattle.statement_nodes.specs.statement_numbers.specs.View.{standing_view}
use Rattle.statement_nodes.proofs.Broken.{each_goes, each_stays}
use Rattle.bound_lines.proofs.for_lines.bind_for_each.Goals as goal

pub returns-then-not-goes_over : goal.returns-then-not-goes_over
returns-then-not-goes_over c =
    let env = env_view c.args.env in
    let s = standing_view c.args.standing in
    let x = c.args.element.now in
    let found = c.in_ok-found.found in
    each_stays env c.in_ok-control.control (loop_variable env x) (expression_view c.args.group.now) found.of x.token.place found.place found.may_be (sought_behind here s) (sought_behind (behind_block 0) s) (draft_view c.args.draft.now)
    (draft_view c.push_group.new.draft) (draft_view c.push_node.new.draft) c.requires.empty c.in_ok-control.ensures c.in_ok-found.ensures (sym c.goes_over.ensures ∙ c.if-not-goes_over.true) c.in_ok-push_node.ensures

pub returns : goal.returns
returns c =
    let env = env_view c.args.env in
    let s = standing_view c.args.standing in
    let x = c.args.element.now in
    let group = expression_view c.args.group.now in
    let control = c.in_ok-control.control in
    let found = c.in_ok-found.found in
    let may = c.in-Some.may_be in
    let first = c.in_ok-first.first in
    let behind = c.in_ok-behind.behind in
    let d = draft_view c.args.draft.now in
    let e = draft_view c.push_group.new.draft in
    let g = draft_view c.push_walked.new.draft in
    let P : Option Bool → Type 0 = λ (m : Option Bool). GroupPushed env group found.of found.place m d e in
    let A : ℕ → ℕ → Type 0 =
    λ (n : ℕ) (m : ℕ). ActionPushed (kind.ForEach control first behind) (option_and_then (λ v. option_map (for_each_of env v x.token.place (place_told group) n m) (bound_as_given env group)) (loop_variable env x)) d g in
    let made : A first behind =
    each_goes env control (loop_variable env x) group found.of x.token.place found.place may first behind d e g c.requires.empty c.in_ok-control.ensures (subst P c.in-Some.is c.in_ok-found.ensures) (sym c.goes_over.ensures ∙ c.if-not-goes_over.false)
    c.in_ok-push_walked.ensures in
    subst (λ (n : ℕ). A n (sought_behind (behind_block 0) s)) c.in_ok-first.ensures (subst (λ (m : ℕ). A first m) c.in_ok-behind.ensures made)
