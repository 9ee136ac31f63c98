use Rattle.std.proofs.Common.{subst}
use Rattle.std.proofs.lemmas.Result.{IfOk-weaker}
use Rattle.bound_project.specs.DraftView.{draft_view}
use Rattle.bound_project.specs.View.{declarations_view}
use Rattle.bound_members.specs.bound_calls.specs.Taking.{StandsAlone}
use Rattle.bound_members.specs.bound_calls.specs.declared.term.Term.{Term}
use Rattle.bound_members.specs.bound_calls.specs.declared.term.Term.TheVariants as term
use Rattle.statement_terms.proofs.Assigned.{function_assigned}
use Rattle.statement_terms.proofs.assigning.assign_function.Goals as goal

pub returns-in-Value : goal.returns-in-Value
returns-in-Value c =
    let d = draft_view c.args.draft.now in
    let m = draft_view c.alone.new.draft in
    let e = draft_view c.assign_value.new.draft in
    let A : Term → Type 0 = λ (t : Term). StandsAlone (term.Function c.args.function) c.args.tree.place d m t in
    IfOk-weaker c.assign_value.result _ _
    (λ k h may. function_assigned (declarations_view c.args.tree.declared.now) c.args.has_class may c.args.tree.term c.args.function c.args.tree.place c.in-Value.ending d m e k c.requires (subst A c.in-Value.is c.in_ok-ending.ensures) (h may))
    c.assign_value.ensures
