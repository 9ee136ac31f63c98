use Rattle.std.proofs.Common.{ap, ◌∙◌}
use Rattle.module_tree.specs.View.{nodes_view}
use Rattle.module_tree.proofs.Pushed.{nodes_push}
use Rattle.module_tree.proofs.progress.with_node.Goals as goal

pub returns : goal.returns
returns g c = ap (nodes_view g.P.Bracketed.view) c.in_ok-push.ensures.items ∙ nodes_push g.P.Bracketed.view c.args.nodes.items c.args.node
