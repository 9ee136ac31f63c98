use Rattle.std.proofs.Common.{List, [], ◌∷◌, ◌++◌, ap, ◌∙◌}
use Rattle.vba_values.specs.declared.value.Value.{Value}
use Rattle.bound_project.specs.Drafts.{Kept, tables_in, drafted}
use Rattle.bound_project.proofs.Drafts.{maybe, constant_more}
use Rattle.bound_project.proofs.draft.Draft.add_constant.Goals as goal

pub invariant_of-self : goal.invariant_of-self
invariant_of-self c =
    let d = c.args.self.now in
    let more = constant_more d.constants.items d.orders.items c.args.value d.scratch.items d.nodes.items d.statements.items d.bodies.items d.kept in
    record { kept = maybe (λ l. Kept (tables_in l d.orders.items) d.scratch.items d.nodes.items d.statements.items d.bodies.items) _ d.constants.items (d.constants.items ++ c.args.value ∷ []) c.push.new.self.items d.kept more.0 c.push.ensures.items }

pub returns-clause-draft : goal.returns-clause-draft
returns-clause-draft c =
    let d = c.args.self.now in
    ap (λ (l : List Value). drafted (tables_in l d.orders.items) d.scratch.items d.nodes.items d.statements.items d.bodies.items) c.in_ok-push.ensures.items
    ∙ (constant_more d.constants.items d.orders.items c.args.value d.scratch.items d.nodes.items d.statements.items d.bodies.items d.kept).1
