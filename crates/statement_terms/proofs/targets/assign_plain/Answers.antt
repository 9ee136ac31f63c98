use Rattle.std.proofs.Common.{sym}
use Rattle.bound_project.specs.DraftView.{draft_view}
use Rattle.statement_terms.proofs.WrittenTargets.{along_assigned, plain_assigned}
use Rattle.statement_terms.proofs.targets.assign_plain.Goals as goal

pub returns-in-Some : goal.returns-in-Some
returns-in-Some c = along_assigned c.args.place c.args.at c.in-Some.numbers (draft_view c.args.draft.now) c.requires.plain (sym c.in-Some.ensures)

pub returns : goal.returns
returns c = plain_assigned c.args.place c.args.at (draft_view c.args.draft.now) (draft_view c.push_node.new.draft) c.requires.plain (sym c.in_default.ensures) c.in_ok-push_node.ensures
