use Rattle.std.proofs.Common.{◌||◌, not, sym, ap, ◌∙◌}
use Rattle.std.specs.List.{list_any}
use Rattle.bound_calls.specs.Shapes.{shapes_given}
use Rattle.bound_members.specs.Shapes.{is_item, item_given}
use Rattle.bound_members.proofs.taking.item_given.Goals as goal

pub returns-then-not-is_add : goal.returns-then-not-is_add
returns-then-not-is_add c = λ t.
    let gs = shapes_given c.args.shapes.now in
    ap (λ b. not b) c.if-not-is_add.true ∙ ap (λ b. item_given b gs) (sym c.if-not-is_add.true ∙ c.is_add.ensures t)

pub returns-else-begins_plain : goal.returns-else-begins_plain
returns-else-begins_plain c = λ t.
    let gs = shapes_given c.args.shapes.now in
    c.any_item.ensures ∙ ap (λ b. b || list_any is_item gs) (sym c.if-begins_plain.false ∙ c.begins_plain.ensures) ∙ ap (λ b. item_given b gs) (sym c.if-not-is_add.false ∙ c.is_add.ensures t)
