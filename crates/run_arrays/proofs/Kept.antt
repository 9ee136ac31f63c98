-- ReDim Preserve by cutting off or filling up.
use Rattle.std.proofs.Common.{◌≡◌, ℕ, zero, suc, ◌<◌, ◌≤◌, ◌-◌, true, false, ℤ, List, [], ◌∷◌, map, take, replicate, length, get_or, refl, sym, ap, ◌∙◌, arith, inl, inr, length-append}
use Rattle.std.specs.Prelude.{if◌then◌else◌}
use Rattle.std.specs.List.{range_with_len}
use Rattle.std.proofs.Math.Seq.{get_or-append_right}
use Rattle.std.proofs.lemmas.Bool.{cases_lt}
use Rattle.std.proofs.lemmas.List.{get_or_append_left, get_or-take, get_or-replicate, length-take, length-replicate}
use Rattle.vba_values.specs.declared.value.Bound.{Bound}
use Rattle.vba_values.specs.Types.{Declared}
use Rattle.vba_values.specs.Val.{Val, empty, array, vals_of}
use Rattle.arrays_udt.proofs.Places.{layout_below}
use Rattle.arrays_udt.proofs.Resized.{count-vals_of, resized_is}
use Rattle.arrays_udt.specs.Resize.{cut_or_filled, is_resize, item_at, kept, resized}
use Rattle.arrays_udt.specs.Shapes.{elements, is_place, layout, place_at}

item_at-vals_of : (vs : List Val) (n : ℕ) → item_at (vals_of vs) n ≡ get_or vs n empty
item_at-vals_of [] n = refl
item_at-vals_of (v ∷ vs) zero = refl
item_at-vals_of (v ∷ vs) (suc n) = item_at-vals_of vs n

past : (vs : List Val) (n : ℕ) → length vs ≤ n → get_or vs n empty ≡ empty
past [] n h = refl
past (v ∷ vs) zero h = absurd (omega arith)
past (v ∷ vs) (suc n) h = past vs n (omega arith)

front_at : (n k : ℕ) (vs : List Val) → k < n → k < length vs → get_or (cut_or_filled n vs empty) k empty ≡ get_or vs k empty
front_at n k vs a b =
    get_or_append_left (take n vs) (replicate (n - length vs) empty) empty k (omega (arith, length-take n vs)) ∙ get_or-take n vs k empty a

rest_at : (n k : ℕ) (vs : List Val) → k < n → length vs ≤ k → get_or (cut_or_filled n vs empty) k empty ≡ empty
rest_at n k vs a b =
    get_or-append_right (take n vs) (replicate (n - length vs) empty) k empty (omega (arith, length-take n vs))
    ∙ get_or-replicate (n - length vs) (k - length (take n vs)) empty empty (omega (arith, length-take n vs))

-- what is cut or filled up with Empty has the same items up to there
item_alike : (n k : ℕ) (vs : List Val) → k < n → item_at (vals_of vs) k ≡ item_at (vals_of (cut_or_filled n vs empty)) k
item_alike n k vs h =
    item_at-vals_of vs k
    ∙ elim (cases_lt k (length vs)) [
      | inl a ↦ sym (front_at n k vs h a)
      | inr a ↦ past vs k a ∙ sym (rest_at n k vs h a)
    ]
    ∙ sym (item_at-vals_of (cut_or_filled n vs empty) k)

kept_alike : (bounds : List Bound) (vs : List Val) (item : Val) (place : List ℤ) → kept bounds (vals_of vs) item place ≡ kept bounds (vals_of (cut_or_filled (elements bounds) vs empty)) item place
kept_alike bounds vs item place =
    elim (is_place bounds place)
    as (λ b. is_place bounds place ≡ b
    → (if b then item_at (vals_of vs) (layout bounds place) else item) ≡ (if b then item_at (vals_of (cut_or_filled (elements bounds) vs empty)) (layout bounds place) else item)) [
      | true ↦ λ e. item_alike (elements bounds) (layout bounds place) vs (layout_below bounds place e)
      | false ↦ λ e. refl
    ] refl

map_alike : (f g : ℕ → Val) → ((n : ℕ) → f n ≡ g n) → (ns : List ℕ) → map f ns ≡ map g ns
map_alike f g h [] = refl
map_alike f g h (n ∷ ns) = ap (λ v. v ∷ map f ns) (h n) ∙ ap (λ vs. g n ∷ vs) (map_alike f g h ns)

cut_length : (n : ℕ) (vs : List Val) → length (cut_or_filled n vs empty) ≡ n
cut_length n vs = length-append (take n vs) (replicate (n - length vs) empty) ∙ omega (arith, length-take n vs, length-replicate (n - length vs) empty)

-- an array with new bounds has the items of the old places, filled up with Empty where there are too few, and then new ones
pub resized_items : (shape bounds : List Bound) (of : Declared) (vs : List Val) (item : Val) → is_resize bounds shape ≡ true
    → resized shape item (array bounds of (vals_of vs)) ≡ array shape of (vals_of (cut_or_filled (elements shape) (cut_or_filled (elements bounds) vs empty) item))
resized_items shape bounds of vs item h =
    let whole = cut_or_filled (elements bounds) vs empty in
    ap (λ items. array shape of (vals_of items))
    (map_alike (λ offset. kept bounds (vals_of vs) item (place_at shape offset)) (λ offset. kept bounds (vals_of whole) item (place_at shape offset))
    (λ offset. kept_alike bounds vs item (place_at shape offset)) (range_with_len 0 (elements shape)))
    ∙ resized_is shape bounds of whole item h (count-vals_of whole ∙ cut_length (elements bounds) vs)
