use Rattle.std.proofs.Common.{◌≡◌, true, map, refl, ap, ◌∙◌, rules}
use Rattle.vba_values.specs.View.{array_view, view}
use Rattle.vba_values.specs.declared.value.ArrayValue.{out-ArrayValue}
use Rattle.arrays_udt.specs.Fields.{types_of}
use Rattle.arrays_udt.specs.Fresh.{initial}
use Rattle.arrays_udt.specs.Resize.{cut_or_filled, element_type, is_resize}
use Rattle.arrays_udt.specs.Shapes.{elements}
use Rattle.arrays_udt.proofs.Inner.{view_array_out}
use Rattle.arrays_udt.proofs.Resized.{resize_done}
use Rattle.arrays_udt.proofs.resize.resize_kept.Goals as goal

pub returns : goal.returns
returns c =
    let resize : is_resize (out-ArrayValue c.args.array.now).bounds.items c.args.shape.now ≡ true = search rules in
    let bounds : c.in_ok-bounds.bounds.items ≡ c.args.shape.now = c.in_ok-bounds.ensures.items ∙ c.bounds-2.ensures.value in
    let count : c.in-Some.count ≡ elements c.args.shape.now = c.in-Some.ensures.value ∙ ap elements c.bounds-3.ensures.value in
    let items : map view c.resize_items.new.items.items ≡ cut_or_filled (elements c.args.shape.now) (map view (out-ArrayValue c.args.array.now).items.items) (initial (types_of c.args.types.now.items) (element_type (array_view c.args.array.now))) =
    rw (view_array_out c.args.array.now, ← count) c.in_ok-resize_items.ensures.sized in
    resize_done c.args.array.now _ c.args.shape.now _ resize c.requires.whole bounds refl items
