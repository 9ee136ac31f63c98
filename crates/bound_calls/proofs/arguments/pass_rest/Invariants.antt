use Rattle.std.proofs.Common.{drop}
use Rattle.bound_project.specs.DraftView.{draft_view}
use Rattle.bound_calls.proofs.Arguing.{Resting}
use Rattle.bound_calls.proofs.arguments.pass_rest.Given as goal

abbrev pub invariant-loop-parameter : goal.invariant-loop-parameter
invariant-loop-parameter l = Resting l.parameters (draft_view l.fn.draft) (draft_view l.draft) (drop l.parameter-index l.parameters)
