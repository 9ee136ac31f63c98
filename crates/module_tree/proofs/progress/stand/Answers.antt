use Rattle.std.proofs.Common.{◌∙◌, ap}
use Rattle.module_tree.specs.Growing.{and_node}
use Rattle.module_tree.specs.View.{nodes_view}
use Rattle.module_tree.proofs.Seeing.{node_alone}
use Rattle.module_tree.proofs.progress.stand.Goals as goal

pub returns : goal.returns
returns g c =
    let e = c.in_ok-read.ensures ∙ ap (and_node (nodes_view g.P.Bracketed.view c.args.progress.read.items)) (node_alone g.P.Bracketed.view c.args.part) in cc
