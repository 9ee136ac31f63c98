use Rattle.bound_project.specs.DraftView.{draft_view}
use Rattle.bound_members.proofs.Told.{none_told}
use Rattle.bound_members.proofs.names.names_ahead.Goals as goal

pub returns-then-not-has_names : goal.returns-then-not-has_names
returns-then-not-has_names c = none_told (draft_view c.args.draft.now)
