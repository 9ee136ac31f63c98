-- One item more.
use Rattle.std.proofs.Common.{◌≡◌, List, [], ◌∷◌, ◌++◌, map, ap, ◌∙◌}
use Rattle.std.specs.Prelude.{reverse}
use Rattle.std.proofs.lemmas.List.{map-append, reverse-append}
use Rattle.procedure_names.specs.declared.item.Item.{Item}
use Rattle.procedure_names.specs.Used.{item_view, stack}

pub stack_push : (items : List Item) (i : Item) → stack (items ++ i ∷ []) ≡ item_view i ∷ stack items
stack_push items i = ap reverse (map-append item_view items (i ∷ [])) ∙ reverse-append (map item_view items) (item_view i ∷ [])
