use Rattle.std.proofs.Common.{◌≡◌, List, [], ◌∷◌, ◌++◌, ap, ◌∙◌}
use Rattle.std.specs.Prelude.{Vec}
use Rattle.std.specs.declared.alloc.Global.{Global}
use Rattle.bound_project.specs.declared.node.Node.{Node}
use Rattle.bound_project.specs.declared.statement.StatementNode.{StatementNode}
use Rattle.bound_project.specs.declared.project.Body.{Body}
use Rattle.bound_project.specs.Drafts.{Kept, tables_in, drafted}
use Rattle.bound_project.proofs.Drafts.{maybe, body_end}
use Rattle.bound_project.proofs.draft.Draft.end_body.Goals as goal

pub invariant_of-self : goal.invariant_of-self
invariant_of-self c =
    let d = c.args.self.now in
    let t = tables_in d.constants.items d.orders.items in
    let b : Body = record { nodes = d.nodes; statements = d.statements; blocks = c.args.blocks } in
    let made : Body = record { nodes = c.replace-nodes.result; statements = c.replace-statements.result; blocks = c.args.blocks } in
    let same : made ≡ b =
    ap (λ (ns : Vec Node Global). record { nodes = ns; statements = c.replace-statements.result; blocks = c.args.blocks }) c.replace-nodes.ensures.value
    ∙ ap (λ (ss : Vec StatementNode Global). record { nodes = d.nodes; statements = ss; blocks = c.args.blocks }) c.replace-statements.ensures.value in
    let nodes = ap (λ (v : Vec Node Global). v.items) c.replace-nodes.ensures.after ∙ c.new.ensures.items in
    let statements = ap (λ (v : Vec StatementNode Global). v.items) c.replace-statements.ensures.after ∙ c.new-2.ensures.items in
    let more = body_end t d.scratch.items d.bodies.items b made c.replace-nodes.new.dest.items c.replace-statements.new.dest.items same nodes statements d.kept in
    record {
      kept = maybe (λ l. Kept t d.scratch.items c.replace-nodes.new.dest.items c.replace-statements.new.dest.items l) _ d.bodies.items (d.bodies.items ++ made ∷ []) c.push.new.self.items
          more.0 more.1.0 c.push.ensures.items;
    }

pub returns : goal.returns
returns c =
    let d = c.args.self.now in
    let t = tables_in d.constants.items d.orders.items in
    let b : Body = record { nodes = d.nodes; statements = d.statements; blocks = c.args.blocks } in
    let made : Body = record { nodes = c.replace-nodes.result; statements = c.replace-statements.result; blocks = c.args.blocks } in
    let same : made ≡ b =
    ap (λ (ns : Vec Node Global). record { nodes = ns; statements = c.replace-statements.result; blocks = c.args.blocks }) c.replace-nodes.ensures.value
    ∙ ap (λ (ss : Vec StatementNode Global). record { nodes = d.nodes; statements = ss; blocks = c.args.blocks }) c.replace-statements.ensures.value in
    let nodes = ap (λ (v : Vec Node Global). v.items) c.replace-nodes.ensures.after ∙ c.new.ensures.items in
    let statements = ap (λ (v : Vec StatementNode Global). v.items) c.replace-statements.ensures.after ∙ c.new-2.ensures.items in
    ap (λ (l : List Body). drafted t d.scratch.items c.replace-nodes.new.dest.items c.replace-statements.new.dest.items l) c.in_ok-push.ensures.items
    ∙ (body_end t d.scratch.items d.bodies.items b made c.replace-nodes.new.dest.items c.replace-statements.new.dest.items same nodes statements d.kept).1.1
