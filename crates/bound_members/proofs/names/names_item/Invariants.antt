use Rattle.std.proofs.Common.{◌≡◌, map, drop}
use Rattle.std.specs.List.{list_any}
use Rattle.bound_project.specs.DraftView.{draft_view}
use Rattle.bound_project.specs.Pieces.{name_in}
use Rattle.bound_calls.specs.bound_forms.specs.Operands.{is_item_name}
use Rattle.bound_members.proofs.names.names_item.Given as goal

abbrev pub invariant-loop-constant : goal.invariant-loop-constant
invariant-loop-constant l =
    let name = name_in (draft_view l.draft).tables in list_any is_item_name (map name (drop l.constant-index l.order)) ≡ list_any is_item_name (map name l.order)
