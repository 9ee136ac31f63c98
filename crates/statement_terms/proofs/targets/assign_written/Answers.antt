use Rattle.std.proofs.Common.{sym, subst}
use Rattle.bound_project.specs.DraftView.{draft_view}
use Rattle.bound_project.specs.declared.statement.ActionKind.{ActionKind}
use Rattle.bound_members.specs.bound_calls.specs.declared.term.Term.TheVariants as term
use Rattle.statement_terms.specs.Members.{AssignsIn}
use Rattle.std.specs.Prelude.{false}
use Rattle.statement_terms.proofs.WrittenTargets.{value_assigned}
use Rattle.statement_terms.proofs.targets.assign_written.Goals as goal

pub returns : goal.returns
returns c = λ all of may gives written.
    let d = draft_view c.args.draft.now in
    let e = draft_view c.push_node.new.draft in
    let P : ActionKind → Type 0 = λ (k : ActionKind). AssignsIn all c.args.has_class may c.args.place (term.Value c.args.ending) d e k false in
    subst P (sym c.default_kind.ensures)
    (value_assigned all of c.args.has_class may c.args.place c.args.ending c.in-Some.through d e c.in-Some.ensures gives written c.in_ok-push_node.ensures)
