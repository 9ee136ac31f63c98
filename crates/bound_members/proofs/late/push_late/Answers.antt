use Rattle.std.proofs.Common.{sym}
use Rattle.std.proofs.lemmas.Result.{on_ok_weaker}
use Rattle.bound_project.specs.DraftView.{draft_view}
use Rattle.bound_members.proofs.LateSteps.{late_lent_named, pushes_late, pushes_late_place}
use Rattle.bound_members.proofs.late.push_late.Goals as goal

pub push_late_place-requires-clause-lent : goal.push_late_place-requires-clause-lent
push_late_place-requires-clause-lent c = late_lent_named (draft_view c.args.draft.now).tables c.args.tree.term c.in-Some.lent (sym c.in-Some.ensures) c.requires.tree

pub returns-in_ok-push_late_place-in-Some : goal.returns-in_ok-push_late_place-in-Some
returns-in_ok-push_late_place-in-Some c =
    pushes_late_place c.args.aim c.args.member c.args.argument c.args.tree c.in-Some.lent (draft_view c.args.draft.now) (draft_view c.push_late_place.new.draft) (sym c.in-Some.ensures) c.in_ok-push_late_place-in-Some.ensures

pub returns-in-None : goal.returns-in-None
returns-in-None c =
    on_ok_weaker c.push_late_value.result (λ h. pushes_late c.args.aim c.args.member c.args.argument c.args.tree (draft_view c.args.draft.now) (draft_view c.push_late_value.new.draft) (sym c.in-None.ensures) h) c.push_late_value.ensures
