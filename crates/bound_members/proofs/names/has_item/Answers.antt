use Rattle.std.proofs.Common.{ℕ, ◌==◌, ◌||◌, not, List, map, sym, ap, ◌∙◌}
use Rattle.std.specs.List.{list_any}
use Rattle.bound_project.specs.DraftView.{draft_view}
use Rattle.bound_project.specs.Pieces.{by_name_in, name_in}
use Rattle.bound_calls.specs.bound_forms.specs.Operands.{is_item_name}
use Rattle.bound_members.proofs.names.has_item.Goals as goal

pub returns-then-not-is_add : goal.returns-then-not-is_add
returns-then-not-is_add c =
    let t = (draft_view c.args.draft.now).tables in
    let by = by_name_in t c.args.names in
    ap (λ b. not b) c.if-not-is_add.true ∙ ap (λ b. not b || (not (by.before == 0) || list_any is_item_name by.names)) (sym c.if-not-is_add.true ∙ c.is_add.ensures t)

pub returns-else-names-ne0 : goal.returns-else-names-ne0
returns-else-names-ne0 c =
    let t = (draft_view c.args.draft.now).tables in
    let by = by_name_in t c.args.names in
    c.names_item.ensures ∙ ap (λ (l : List ℕ). list_any is_item_name (map (name_in t) l)) c.order.ensures ∙ ap (λ (n : ℕ). not (n == 0) || list_any is_item_name by.names) (sym c.if-names-ne0.false)
    ∙ ap (λ b. not b || (not (by.before == 0) || list_any is_item_name by.names)) (sym c.if-not-is_add.false ∙ c.is_add.ensures t)
