use Rattle.std.proofs.Common.{sym, ◌∙◌}
use Rattle.bound_project.specs.DraftView.{draft_view}
use Rattle.bound_members.proofs.LateSteps.{adds_late, found_named}
use Rattle.bound_members.proofs.late.add_late.Goals as goal

pub push_late-requires-clause-member : goal.push_late-requires-clause-member
push_late-requires-clause-member c = found_named (draft_view c.args.draft.now).tables c.args.call c.args.aim c.args.found c.requires.late c.requires.member

pub returns : goal.returns
returns c =
    adds_late c.args.call c.args.tree c.args.aim c.args.found c.in_ok-count.count c.args.named (draft_view c.args.draft.now) (draft_view c.push_late.new.draft) c.in_ok-count.ensures c.requires.late c.requires.member
    (sym c.is_told.ensures ∙ c.if-not-is_told.false) c.in_ok-push_late.ensures
