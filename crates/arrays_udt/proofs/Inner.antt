-- Values in order, seen by their views.
use Rattle.std.proofs.Common.{◌≡◌, ℕ, zero, suc, ◌<◌, List, [], ◌∷◌, length, get_or, IsSome, refl, ap, arith, rules}
use Rattle.std.specs.Prelude.{slice_set, Box}
use Rattle.std.specs.Box.{with_value}
use Rattle.std.specs.declared.alloc.Global.{Global}
use Rattle.vba_values.specs.declared.value.Value.{Value, Array, Udt, the_lemmas}
use Rattle.vba_values.specs.declared.value.ArrayValue.{ArrayValue, ArrayValue-F, roll-ArrayValue, out-ArrayValue}
use Rattle.vba_values.specs.declared.value.UdtValue.{UdtValue, UdtValue-F, roll-UdtValue}
use Rattle.vba_values.specs.Val.{Val, val, array, udt}
use Rattle.vba_values.specs.Types.{declared}
use Rattle.vba_values.specs.View.{view, views, array_view, udt_view}
use Rattle.arrays_udt.specs.Paths.{path_value, inner_value, with_path, with_inner}
use Rattle.arrays_udt.specs.declared.paths.PathStep.{PathStep}

pub inner_inside : (items : List Value) (place : ℕ) (path : List PathStep) → IsSome (inner_value (views items) place path) → place < length items
inner_inside [] place path h = absurd (search rules)
inner_inside (x ∷ items) zero path h = search rules
inner_inside (x ∷ items) (suc place) path h =
    let rest : place < length items = inner_inside items place path h in omega arith

pub inner_at : (items : List Value) (place : ℕ) (path : List PathStep) (d : Value) → place < length items → inner_value (views items) place path ≡ path_value (view (get_or items place d)) path
inner_at [] place path d h = absurd (omega arith)
inner_at (x ∷ items) zero path d h = refl
inner_at (x ∷ items) (suc place) path d h = inner_at items place path d (omega arith)

pub inner_set : (items : List Value) (place : ℕ) (w d : Value) (path : List PathStep) (new : Val) → place < length items → view w ≡ with_path (view (get_or items place d)) path new → views (slice_set items place w) ≡ with_inner (views items) place path new
inner_set [] place w d path new h e = absurd (omega arith)
inner_set (x ∷ items) zero w d path new h e = ap (λ v. val v (views items)) e
inner_set (x ∷ items) (suc place) w d path new h e = ap (λ vs. val (view x) vs) (inner_set items place w d path new (omega arith) e)

view-Array : (b : Box ArrayValue Global) → view (Array b) ≡ array_view b.value
view-Array b = search (rules, the_lemmas)

view-Udt : (b : Box UdtValue Global) → view (Udt b) ≡ udt_view b.value
view-Udt b = search (rules, the_lemmas)

pub view_array_with : (b : Box ArrayValue Global) (a : ArrayValue) → view (Array (with_value b a)) ≡ array_view a
view_array_with b a = view-Array (with_value b a)

pub view_udt_with : (b : Box UdtValue Global) (u : UdtValue) → view (Udt (with_value b u)) ≡ udt_view u
view_udt_with b u = view-Udt (with_value b u)

pub view_udt_of : (u : UdtValue-F Value ArrayValue UdtValue) → udt_view (roll-UdtValue u) ≡ udt u.udt (views u.fields.items)
view_udt_of u = search (rules, the_lemmas)

pub view_array_of : (a : ArrayValue-F Value ArrayValue UdtValue) → array_view (roll-ArrayValue a) ≡ array a.bounds.items (declared a.element) (views a.items.items)
view_array_of a = search (rules, the_lemmas)

pub view_array_out : (a : ArrayValue) → array_view a ≡ array (out-ArrayValue a).bounds.items (declared (out-ArrayValue a).element) (views (out-ArrayValue a).items.items)
view_array_out a = search (rules, the_lemmas)
