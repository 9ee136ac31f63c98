use Rattle.std.proofs.Common.{ap, ◌∙◌}
use Rattle.std.proofs.lemmas.Result.{on_ok_weaker}
use Rattle.vba_base.specs.declared.place.Place.{Place}
use Rattle.bound_project.specs.DraftView.{draft_view}
use Rattle.bound_members.proofs.MemberSteps.{missing_at}
use Rattle.bound_members.proofs.calls.push_missing.Goals as goal

pub returns : goal.returns
returns c = on_ok_weaker c.push_node.result (λ h. h ∙ ap (λ (p : Place). missing_at (draft_view c.args.draft.now) p) c.nowhere.ensures) c.push_node.ensures
