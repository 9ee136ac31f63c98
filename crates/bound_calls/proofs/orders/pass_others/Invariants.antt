use Rattle.std.proofs.Common.{◌≡◌}
use Rattle.bound_project.specs.DraftView.{draft_view}
use Rattle.bound_calls.proofs.NamedSteps.{Othering}
use Rattle.bound_calls.proofs.orders.pass_others.Given as goal

abbrev pub invariant-loop-parameter : goal.invariant-loop-parameter
invariant-loop-parameter l = (l.number ≡ l.parameter-index) × Othering l.parameters l.given l.parameter-index (draft_view l.fn.draft) (draft_view l.draft) l.others.items
