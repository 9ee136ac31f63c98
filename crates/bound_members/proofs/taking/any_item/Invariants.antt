use Rattle.std.proofs.Common.{◌≡◌, drop}
use Rattle.std.specs.List.{list_any}
use Rattle.bound_calls.specs.Shapes.{shapes_given}
use Rattle.bound_members.specs.Shapes.{is_item}
use Rattle.bound_members.proofs.taking.any_item.Given as goal

abbrev pub invariant-loop-shape : goal.invariant-loop-shape
invariant-loop-shape l = list_any is_item (shapes_given (drop l.shape-index l.shapes)) ≡ list_any is_item (shapes_given l.shapes)
