use Rattle.std.proofs.Common.{sym}
use Rattle.bound_project.specs.DraftView.{draft_view}
use Rattle.statement_terms.proofs.SetTargets.{sets_along, sets_place}
use Rattle.statement_terms.proofs.setting.set_reference.Goals as goal

pub returns-in-Some : goal.returns-in-Some
returns-in-Some c = λ word bounds lends makes. sets_along word c.args.at c.args.place c.in-Some.numbers (draft_view c.args.draft.now) c.requires.object (sym c.in-Some.ensures) bounds lends makes

pub returns : goal.returns
returns c = λ word bounds lends makes.
    sets_place word c.args.at.kind c.args.at.of c.args.place (draft_view c.args.draft.now) (draft_view c.push_node.new.draft) c.requires.object (sym c.in_default.ensures) c.in_ok-push_node.ensures bounds lends makes
