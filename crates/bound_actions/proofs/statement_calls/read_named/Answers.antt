use Rattle.bound_project.specs.DraftView.{draft_view}
use Rattle.bound_project.specs.View.{parameter_view}
use Rattle.std.specs.Prelude.{map}
use Rattle.bound_terms.specs.bound_accesses.specs.bound_names.specs.View.{env_view}
use Rattle.bound_actions.proofs.NamedCalls.{reads_named}
use Rattle.bound_actions.proofs.statement_calls.read_named.Goals as goal

pub returns-then-values-eq0 : goal.returns-then-values-eq0
returns-then-values-eq0 c =
    let read = c.in_ok-passed in
    reads_named (env_view c.args.env) c.args.nodes.now (map parameter_view c.args.parameters.now) read.passed read.named.items read.values (draft_view c.args.draft.now) (draft_view c.read_written.new.draft) c.if-values-eq0.true read.ensures
