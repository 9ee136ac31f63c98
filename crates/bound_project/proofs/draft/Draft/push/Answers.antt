use Rattle.std.proofs.Common.{List, [], ◌∷◌, ◌++◌, ap, ◌∙◌}
use Rattle.bound_project.specs.declared.node.Node.{Node}
use Rattle.bound_project.specs.Drafts.{Kept, tables_in, drafted}
use Rattle.bound_project.proofs.Drafts.{maybe, node_more}
use Rattle.bound_project.proofs.draft.Draft.push.Goals as goal

pub invariant_of-self : goal.invariant_of-self
invariant_of-self c =
    let d = c.args.self.now in
    let t = tables_in d.constants.items d.orders.items in
    let more = node_more t d.scratch.items d.nodes.items d.statements.items d.bodies.items c.args.node d.kept c.requires in
    record { kept = maybe (λ l. Kept t l d.nodes.items d.statements.items d.bodies.items) _ d.scratch.items (d.scratch.items ++ c.args.node ∷ []) c.push.new.self.items d.kept more.0 c.push.ensures.items }

pub returns : goal.returns
returns c =
    let d = c.args.self.now in
    let t = tables_in d.constants.items d.orders.items in
    ap (λ (l : List Node). drafted t l d.nodes.items d.statements.items d.bodies.items) c.in_ok-push.ensures.items
    ∙ (node_more t d.scratch.items d.nodes.items d.statements.items d.bodies.items c.args.node d.kept c.requires).1
