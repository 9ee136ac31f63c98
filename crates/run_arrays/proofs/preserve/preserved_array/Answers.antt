use Rattle.std.proofs.Common.{sym, ap, ◌∙◌}
use Rattle.std.specs.Prelude.{option_map}
use Rattle.bound_project.specs.View.{declarations_view, declared_view}
use Rattle.vba_values.specs.declared.value.ArrayValue.{out-ArrayValue}
use Rattle.vba_values.specs.Types.{declared}
use Rattle.vba_values.specs.View.{views}
use Rattle.arrays_udt.proofs.Inner.{view_array_out}
use Rattle.vba_meaning.specs.Effects.{on_fine}
use Rattle.vba_meaning.specs.Arrays.{preserved, resized_array}
use Rattle.run_arrays.proofs.preserve.preserved_array.Goals as goal

pub returns : goal.returns
returns c = λ m.
    let d = declarations_view c.args.declared.now in
    let written = option_map declared_view c.args.written in
    let shape = c.args.bounds.now in
    let there = out-ArrayValue c.args.array.now in
    let of = declared there.element in
    ap (λ v. preserved d written shape v m) (view_array_out c.args.array.now)
    ∙ ap (λ e. on_fine e (λ u m1. resized_array d shape there.bounds.items of (views there.items.items) m1)) (c.in_ok-is_of_type.ensures m)
    ∙ ap (λ bounds. resized_array d shape bounds of (views there.items.items) m) (sym c.as_slice-bounds_there.ensures.value)
    ∙ ap (λ items. resized_array d shape c.as_slice-bounds_there.result.now of (views items) m) (sym c.as_slice-items.ensures.value)
    ∙ c.in_ok-value.ensures m
