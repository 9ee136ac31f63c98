use Rattle.std.proofs.Common.{List, ap, ◌∙◌}
use Rattle.bound_project.specs.declared.declared_type.DeclaredType.{DeclaredType}
use Rattle.bound_project.specs.declared.node.Node.{Node}
use Rattle.bound_project.specs.Bodies.{part}
use Rattle.static_rules.specs.Broken.{least_of}
use Rattle.static_rules.specs.Scan.{loop_places, nodes_places, selected_type}
use Rattle.static_rules.proofs.Steps.{noted_twice}
use Rattle.static_rules.proofs.scan.note_statement.Goals as goal

pub returns : goal.returns
returns c =
    let found = c.args.least.now in
    let s = c.args.statement in
    let own = part c.args.nodes.now s.first_node s.nodes in
    let nodes =
    c.note_nodes.ensures ∙ ap (λ (ns : List Node). least_of found (nodes_places c.selected_type.result ns)) c.nodes_of-own.ensures
    ∙ ap (λ (of : DeclaredType). least_of found (nodes_places of own)) c.selected_type.ensures in
    noted_twice found c.note_nodes.new.least c.note_action.new.least (nodes_places (selected_type s.action) own) (loop_places s.action) nodes c.note_action.ensures
