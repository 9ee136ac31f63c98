use Rattle.std.proofs.lemmas.Result.{IfOk-weaker}
use Rattle.std.specs.Prelude.{Bool, Option}
use Rattle.bound_project.specs.DraftView.{draft_view}
use Rattle.bound_project.specs.View.{declarations_view}
use Rattle.bound_members.specs.bound_calls.specs.declared.term.Term.TheVariants as term
use Rattle.statement_terms.specs.Targets.{AssignsIndexed}
use Rattle.statement_terms.proofs.WrittenTargets.{item_indexed, term_indexed}
use Rattle.statement_terms.proofs.targets.assign_indexed_value.Goals as goal

pub returns-in-Some : goal.returns-in-Some
returns-in-Some c = λ may. item_indexed (declarations_view c.args.declared.now) c.args.has_class may c.args.place c.args.ending c.in-Some.numbers (draft_view c.args.draft.now) c.in-Some.ensures

pub returns-in-None : goal.returns-in-None
returns-in-None c =
    let place = c.args.place in
    let x = term.Value c.args.ending in
    let d = draft_view c.args.draft.now in
    let e = draft_view c.assign_value.new.draft in
    IfOk-weaker c.assign_value.result _ (λ k. (may : Option Bool) → AssignsIndexed (declarations_view c.args.declared.now) c.args.has_class may place x d e k) (λ k h may. term_indexed (declarations_view c.args.declared.now) c.args.has_class may place x d e k (h may)) c.assign_value.ensures
