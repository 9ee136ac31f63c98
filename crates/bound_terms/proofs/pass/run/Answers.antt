use Rattle.std.specs.Prelude.{reverse}
use Rattle.bound_project.specs.DraftView.{draft_view}
use Rattle.bound_accesses.specs.bound_names.specs.View.{env_view}
use Rattle.bound_accesses.specs.bound_names.specs.bound_members.specs.bound_calls.proofs.Steps.{reading_starts, reading_next, reading_done}
use Rattle.bound_terms.proofs.pass.run.Goals as goal

pub loop-node-init : goal.loop-node-init
loop-node-init c = reading_starts (env_view c.args.env) c.args.nodes.now (draft_view c.args.draft.now) (reverse c.args.stack.now.items) c.requires.named

pub loop-node-preserved : goal.loop-node-preserved
loop-node-preserved c =
    reading_next (env_view c.args.env) c.args.nodes.now (draft_view c.args.draft.now) (draft_view c.loop-node.draft) (draft_view c.step.new.draft) (reverse c.args.stack.now.items) (reverse c.loop-node.stack.items)
    (reverse c.step.new.stack.items) c.loop-node.node-index c.node-item.result c.loop-node-test.true c.node-item.is c.loop-node.invariant c.in_ok-step.ensures

pub returns : goal.returns
returns c =
    reading_done (env_view c.args.env) c.args.nodes.now (draft_view c.args.draft.now) (draft_view c.loop-node.draft) (reverse c.args.stack.now.items) (reverse c.loop-node.stack.items) c.loop-node.node-index c.loop-node-test.false
    c.loop-node.invariant
