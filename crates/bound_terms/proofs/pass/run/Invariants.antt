use Rattle.std.proofs.Common.{drop}
use Rattle.std.specs.Prelude.{reverse}
use Rattle.bound_project.specs.DraftView.{draft_view}
use Rattle.bound_accesses.specs.bound_names.specs.View.{env_view}
use Rattle.bound_accesses.specs.bound_names.specs.bound_members.specs.bound_calls.proofs.Steps.{Reading}
use Rattle.bound_terms.proofs.pass.run.Given as goal

abbrev pub invariant-loop-node : goal.invariant-loop-node
invariant-loop-node l = Reading (env_view l.env) l.nodes (draft_view l.fn.draft) (reverse l.fn.stack.items) (draft_view l.draft) (reverse l.stack.items) (drop l.node-index l.nodes)
