use Rattle.std.proofs.Common.{[], sym, subst, ◌∙◌}
use Rattle.std.proofs.lemmas.Result.{IfOk-weaker}
use Rattle.bound_project.specs.DraftView.{draft_view}
use Rattle.bound_project.specs.declared.statement.ActionKind.{ActionKind}
use Rattle.bound_terms.specs.bound_accesses.specs.bound_names.specs.View.{env_view}
use Rattle.statement_terms.specs.Called.{Lets}
use Rattle.bound_actions.proofs.Assigned.{lets_bare, lets_refused}
use Rattle.bound_actions.proofs.assigning.let_bare.Goals as goal

pub returns : goal.returns
returns c =
    let env = env_view c.args.env in
    let w = c.args.writer in
    let g = c.in_ok-property in
    let d = draft_view c.args.draft.now in
    let r = draft_view c.push_receiver.new.draft in
    let e = draft_view c.pass_rest.new.draft in
    let P : ActionKind → Type 0 = λ (k : ActionKind). Lets c.args.sets env w.property c.args.place [] d e k in
    subst P (sym c.property_kind.ensures)
    (lets_bare c.args.sets env w g.property g.front.now c.in_ok-arguments.arguments c.args.place d r e c.requires.writer g.ensures c.in_ok-arguments.ensures c.in_ok-push_receiver.ensures c.in_ok-pass_rest.ensures)

pub returns-then-not-takes_none : goal.returns-then-not-takes_none
returns-then-not-takes_none c =
    let g = c.in_ok-property in
    let d = draft_view c.args.draft.now in
    let e = draft_view c.break_procedure.new.draft in
    IfOk-weaker c.break_procedure.result _ _
    (λ k b. lets_refused c.args.sets (env_view c.args.env) c.args.writer g.property g.front.now c.args.place d e k c.requires.writer g.ensures (sym c.takes_none.ensures ∙ c.if-not-takes_none.true) b) c.break_procedure.ensures
