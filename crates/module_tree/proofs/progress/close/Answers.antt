use Rattle.std.proofs.Common.{rules, ◌∙◌, ap}
use Rattle.module_tree.specs.Growing.{and_node}
use Rattle.module_tree.specs.View.{nodes_view, arms_view}
use Rattle.module_tree.proofs.Seeing.{closes_one, closes_top, node_block}
use Rattle.module_tree.proofs.progress.close.Goals as goal

pub unwrap-before-requires : goal.unwrap-before-requires
unwrap-before-requires g c = c.pop.ensures.variant.1 (let some = closes_one g.P.Bracketed.view c.args.progress.frames.items _ _ c.requires in search rules)

pub returns : goal.returns
returns g c =
    let view = g.P.Bracketed.view in
    let frame = c.unwrap-before.result in
    closes_top view c.args.progress.frames.items c.pop.new.self.items c.pop.result frame (nodes_view view c.args.progress.read.items)
    (nodes_view view c.in_ok-body.body.items) (nodes_view view c.in_ok-read.read.items) (arms_view view c.in_ok-body.arms.items) (view c.args.ending)
    c.pop.ensures.items c.unwrap-before.ensures c.in_ok-body.ensures.body c.in_ok-body.ensures.arms
    (c.in_ok-read.ensures
    ∙ ap (and_node (nodes_view view frame.before.items))
    (node_block view (record {
      kind = frame.kind;
      opening = frame.opening;
      body = c.in_ok-body.body;
      arms = c.in_ok-body.arms;
      ending = c.args.ending;
    })))
