use Rattle.std.proofs.Common.{List, [], ◌∷◌, ◌++◌, ap, ◌∙◌}
use Rattle.std.specs.Prelude.{Vec, ℕ}
use Rattle.std.specs.declared.alloc.Global.{Global}
use Rattle.bound_project.specs.Drafts.{Kept, tables_in, drafted}
use Rattle.bound_project.proofs.Drafts.{maybe, order_more}
use Rattle.bound_project.proofs.draft.Draft.add_order.Goals as goal

pub invariant_of-self : goal.invariant_of-self
invariant_of-self c =
    let d = c.args.self.now in
    let more = order_more d.constants.items d.orders.items c.args.order d.scratch.items d.nodes.items d.statements.items d.bodies.items d.kept in
    record { kept = maybe (λ l. Kept (tables_in d.constants.items l) d.scratch.items d.nodes.items d.statements.items d.bodies.items) _ d.orders.items (d.orders.items ++ c.args.order ∷ []) c.push.new.self.items d.kept more.0 c.push.ensures.items }

pub returns-clause-draft : goal.returns-clause-draft
returns-clause-draft c =
    let d = c.args.self.now in
    ap (λ (l : List (Vec ℕ Global)). drafted (tables_in d.constants.items l) d.scratch.items d.nodes.items d.statements.items d.bodies.items) c.in_ok-push.ensures.items
    ∙ (order_more d.constants.items d.orders.items c.args.order d.scratch.items d.nodes.items d.statements.items d.bodies.items d.kept).1
