use Rattle.std.proofs.Common.{map, sym, ap, ◌∙◌}
use Rattle.bound_project.specs.Project.{types_of}
use Rattle.bound_project.specs.View.{declarations_view}
use Rattle.vba_values.specs.Types.{declared}
use Rattle.vba_values.specs.Val.{array, empty, vals_of}
use Rattle.vba_values.specs.View.{view}
use Rattle.arrays_udt.specs.Fresh.{initial}
use Rattle.arrays_udt.specs.Resize.{cut_or_filled}
use Rattle.arrays_udt.specs.Shapes.{elements}
use Rattle.run_arrays.proofs.Kept.{resized_items}
use Rattle.run_arrays.proofs.preserve.resized.Goals as goal

pub returns : goal.returns
returns c =
    let shape = c.args.bounds.now in
    let of = declared c.args.element.now in
    let whole = cut_or_filled (elements c.args.old.now) (map view c.args.items.now) empty in
    c.in_ok-array.ensures
    ∙ ap (λ vs. array shape of (vals_of vs)) (c.in_ok-kept.ensures ∙ ap (cut_or_filled (elements shape) whole) c.in_ok-first.ensures)
    ∙ sym (resized_items shape c.args.old.now of (map view c.args.items.now) (initial (types_of (declarations_view c.args.declared.now)) of) c.requires)
