-- Resizing keeps the front of the items: an offset stands for the same place before and after.
use Rattle.std.proofs.Common.{◌≡◌, ℕ, zero, suc, ◌<◌, ◌≤◌, ◌+◌, ◌-◌, ◌*◌, ◌/◌, ◌%◌, true, false, ◌&&◌, ℤ, List, [], ◌∷◌, map, take, replicate, length, get_or, refl, sym, ap, ◌∙◌, arith, rules}
use Rattle.std.specs.List.{range_with_len}
use Rattle.std.specs.Ordering.{int_eq}
use Rattle.std.proofs.Common.{inl, inr, length-append}
use Rattle.std.proofs.Math.Seq.{get_or-append_right}
use Rattle.std.proofs.lemmas.Bool.{cases_lt}
use Rattle.std.proofs.lemmas.Bool.Decides.{Decides-int_eq}
use Rattle.std.proofs.lemmas.List.{get_or_append_left, get_or-take, get_or-replicate, length-take, length-replicate, length-map, append-nil, take-map}
use Rattle.std.proofs.lemmas.Int.{ints}
use Rattle.std.proofs.lemmas.List.FromFn.{fill_by_all}
use Rattle.std.proofs.lemmas.Nat.{mod-mul-add, row-Below}
use Rattle.vba_values.specs.declared.value.Bound.{Bound}
use Rattle.vba_values.specs.Types.{Declared, declared}
use Rattle.vba_values.specs.Val.{Val, empty, array, vals_of}
use Rattle.vba_values.specs.View.{view, array_view}
use Rattle.vba_values.specs.declared.value.ArrayValue.{ArrayValue, ArrayValue-F, roll-ArrayValue, out-ArrayValue}
use Rattle.vba_values.specs.declared.value.UdtValue.{UdtValue}
use Rattle.arrays_udt.proofs.Both.{both_first, both_second}
use Rattle.arrays_udt.proofs.Inner.{view_array_of, view_array_out}
use Rattle.vba_values.specs.declared.value.Value.{Value}
use Rattle.arrays_udt.specs.Fresh.{filled}
use Rattle.arrays_udt.specs.Resize.{is_resize, IsWhole, can_resize, count, cut_or_filled, item_at, kept, resized}
use Rattle.arrays_udt.specs.Shapes.{extent, elements, places, is_place, layout, place_at}
use Rattle.arrays_udt.proofs.Places.{layout_below, layout-place_at, is_place-place_at, some_places}

-- a list that has f n at each offset n
filled_by : {X : Type 0} (f : ℕ → X) (xs : List X) (d : X) (n : ℕ) → length xs ≡ n → ((k : ℕ) → k < n → get_or xs k d ≡ f k) → map f (range_with_len 0 n) ≡ xs
filled_by f xs d n l h = sym (fill_by_all f xs n d l h)

item_at-vals_of : (vs : List Val) (n : ℕ) → item_at (vals_of vs) n ≡ get_or vs n empty
item_at-vals_of [] n = refl
item_at-vals_of (v ∷ vs) zero = refl
item_at-vals_of (v ∷ vs) (suc n) = item_at-vals_of vs n

pub count-vals_of : (vs : List Val) → count (vals_of vs) ≡ length vs
count-vals_of [] = refl
count-vals_of (v ∷ vs) = ap suc (count-vals_of vs)

int_same : (x y : ℤ) → int_eq x y ≡ true → x ≡ y
int_same x y h = grind (arith, ints, Decides-int_eq)

-- the parts of a bound that two lists of bounds share
record Shares (old new : Bound) (olds news : List Bound) : Type 0 where
  low : old.low ≡ new.low
  high : old.high ≡ new.high
  rest : is_resize olds news ≡ true

shared : (old new : Bound) (olds news : List Bound) → int_eq old.low new.low && (int_eq old.high new.high && is_resize olds news) ≡ true → Shares old new olds news
shared old new olds news h =
    let others = both_second (int_eq old.low new.low) (int_eq old.high new.high && is_resize olds news) h in
    record {
      low = int_same old.low new.low (both_first (int_eq old.low new.low) (int_eq old.high new.high && is_resize olds news) h);
      high = int_same old.high new.high (both_first (int_eq old.high new.high) (is_resize olds news) others);
      rest = both_second (int_eq old.high new.high) (is_resize olds news) others;
    }

-- bounds that differ at most in the last upper bound lay places out alike
layout_shared : (old new : Bound) (olds news : List Bound) (number : ℤ) (numbers : List ℤ) → Shares old new olds news → layout olds numbers ≡ layout news numbers → layout (old ∷ olds) (number ∷ numbers) ≡ layout (new ∷ news) (number ∷ numbers)
layout_shared old new olds news number numbers s e = rw (s.low, s.high, e)

layout_same : (olds news : List Bound) (numbers : List ℤ) → is_resize olds news ≡ true → layout olds numbers ≡ layout news numbers
layout_same [] news numbers h = absurd (search rules)
layout_same (old ∷ []) [] numbers h = absurd (search rules)
layout_same (old ∷ next ∷ olds) [] numbers h = absurd (search rules)
layout_same (old ∷ []) (new ∷ []) [] h = refl
layout_same (old ∷ []) (new ∷ []) (number ∷ numbers) h = rw (int_same old.low new.low (both_first (int_eq old.low new.low) true h)) (omega arith)
layout_same (old ∷ []) (new ∷ next ∷ news) numbers h = absurd (let s = shared old new [] (next ∷ news) h in let r = s.rest in search rules)
layout_same (old ∷ next ∷ olds) (new ∷ news) [] h = refl
layout_same (old ∷ next ∷ olds) (new ∷ news) (number ∷ numbers) h =
    let s = shared old new (next ∷ olds) news h in layout_shared old new (next ∷ olds) news number numbers s (layout_same (next ∷ olds) news numbers s.rest)

small_rem : (n e : ℕ) → n < e → n % e ≡ n
small_rem n e h =
    let behind : n ≡ 0 * e + n = omega arith in
    ap (λ m. m % e) behind ∙ mod-mul-add 0 e n h

-- an offset of both stands for the same place in both
place_shared : (old new : Bound) (olds news : List Bound) (n : ℕ) → Shares old new olds news → place_at olds (n / extent old) ≡ place_at news (n / extent old) → place_at (old ∷ olds) n ≡ place_at (new ∷ news) n
place_shared old new olds news n s e = rw e (rw (s.low, s.high) refl)

place_same : (olds news : List Bound) (n : ℕ) → is_resize olds news ≡ true → n < places olds → n < places news → place_at olds n ≡ place_at news n
place_same [] news n h a b = absurd (search rules)
place_same (old ∷ []) [] n h a b = absurd (search rules)
place_same (old ∷ next ∷ olds) [] n h a b = absurd (search rules)
place_same (old ∷ []) (new ∷ []) n h a b =
    rw (small_rem n (extent old) (omega arith), small_rem n (extent new) (omega arith), int_same old.low new.low (both_first (int_eq old.low new.low) true h))
place_same (old ∷ []) (new ∷ next ∷ news) n h a b = absurd (let s = shared old new [] (next ∷ news) h in let r = s.rest in search rules)
place_same (old ∷ next ∷ olds) (new ∷ news) n h a b =
    let s = shared old new (next ∷ olds) news h in
    let extents : extent old ≡ extent new = rw (s.low, s.high) refl in
    let c : n < extent old * places news = rw extents b in
    place_shared old new (next ∷ olds) news n s
    (place_same (next ∷ olds) news (n / extent old) s.rest
    (row-Below n (extent old) (extent old) (places (next ∷ olds)) a (omega arith)).1
    (row-Below n (extent old) (extent old) (places news) c (omega arith)).1)

-- what stands at a place after a resize
kept_old : (olds news : List Bound) (vs : List Val) (item : Val) (n : ℕ) → is_resize olds news ≡ true → n < elements news → n < elements olds → kept olds (vals_of vs) item (place_at news n) ≡ get_or vs n empty
kept_old olds news vs item n h b a =
    rw (← place_same olds news n h (some_places olds n a) (some_places news n b), is_place-place_at olds n a, layout-place_at olds n a) (item_at-vals_of vs n)

outside : (olds news : List Bound) (n : ℕ) → is_resize olds news ≡ true → n < elements news → elements olds ≤ n → is_place olds (place_at news n) ≡ false
outside olds news n h b a = elim (is_place olds (place_at news n)) as (λ w. is_place olds (place_at news n) ≡ w → w ≡ false) [
  | true ↦ λ inside. absurd (
      let below : layout olds (place_at news n) < elements olds = layout_below olds (place_at news n) inside in
      let same : layout olds (place_at news n) ≡ n = layout_same olds news (place_at news n) h ∙ layout-place_at news n b in
      omega arith)
  | false ↦ λ inside. refl
] refl

kept_new : (olds news : List Bound) (vs : List Val) (item : Val) (n : ℕ) → is_resize olds news ≡ true → n < elements news → elements olds ≤ n → kept olds (vals_of vs) item (place_at news n) ≡ item
kept_new olds news vs item n h b a = rw (outside olds news n h b a) refl

front_at : (n k : ℕ) (vs : List Val) (item : Val) → k < n → k < length vs → get_or (cut_or_filled n vs item) k empty ≡ get_or vs k empty
front_at n k vs item a b =
    get_or_append_left (take n vs) (replicate (n - length vs) item) empty k (omega (arith, length-take n vs)) ∙ get_or-take n vs k empty a

rest_at : (n k : ℕ) (vs : List Val) (item : Val) → k < n → length vs ≤ k → get_or (cut_or_filled n vs item) k empty ≡ item
rest_at n k vs item a b =
    get_or-append_right (take n vs) (replicate (n - length vs) item) k empty (omega (arith, length-take n vs))
    ∙ get_or-replicate (n - length vs) (k - length (take n vs)) item empty (omega (arith, length-take n vs))

pub kept_items : (olds news : List Bound) (vs : List Val) (item : Val) → is_resize olds news ≡ true → length vs ≡ elements olds
    → map (λ offset. kept olds (vals_of vs) item (place_at news offset)) (range_with_len 0 (elements news)) ≡ cut_or_filled (elements news) vs item
kept_items olds news vs item h l =
    filled_by (λ offset. kept olds (vals_of vs) item (place_at news offset)) (cut_or_filled (elements news) vs item) empty (elements news)
    (length-append (take (elements news) vs) (replicate (elements news - length vs) item) ∙ omega (arith, length-take (elements news) vs, length-replicate (elements news - length vs) item))
    (λ k b. elim (cases_lt k (elements olds)) [
      | inl a ↦ front_at (elements news) k vs item b (omega arith) ∙ sym (kept_old olds news vs item k h b a)
      | inr a ↦ rest_at (elements news) k vs item b (omega arith) ∙ sym (kept_new olds news vs item k h b a)
    ])

pub resized_is : (shape bounds : List Bound) (element : Declared) (vs : List Val) (item : Val) → is_resize bounds shape ≡ true → count (vals_of vs) ≡ elements bounds
    → resized shape item (array bounds element (vals_of vs)) ≡ array shape element (vals_of (cut_or_filled (elements shape) vs item))
resized_is shape bounds element vs item h l =
    ap (λ items. array shape element (vals_of items)) (kept_items bounds shape vs item h (sym (count-vals_of vs) ∙ l))

-- cut items, seen by their views
pub cut_is : (items : List Value) (n : ℕ) (item : Val) → n ≤ length items → map view (take n items) ≡ cut_or_filled n (map view items) item
cut_is items n item h =
    let none : n - length (map view items) ≡ 0 = omega (arith, length-map items view) in
    rw none (sym (append-nil (take n (map view items)) ∙ take-map view n items))

-- an array that is filled has as many items as its bounds say
pub filled_whole : (bounds : List Bound) (element : Declared) (item : Val) → IsWhole (filled bounds element item)
filled_whole bounds element item = count-vals_of (replicate (elements bounds) item) ∙ length-replicate (elements bounds) item

-- an array with new bounds and the items that belong to them was resized
pub resize_done : (old : ArrayValue) (new : ArrayValue-F Value ArrayValue UdtValue) (shape : List Bound) (item : Val) → is_resize (out-ArrayValue old).bounds.items shape ≡ true → IsWhole (array_view old)
    → new.bounds.items ≡ shape → declared new.element ≡ declared (out-ArrayValue old).element → map view new.items.items ≡ cut_or_filled (elements shape) (map view (out-ArrayValue old).items.items) item
    → (can_resize shape (array_view old) ≡ true) × (array_view (roll-ArrayValue new) ≡ resized shape item (array_view old))
resize_done old new shape item r w b e m =
    let whole = rw (view_array_out old) at w in
    let done = resized_is shape (out-ArrayValue old).bounds.items (declared (out-ArrayValue old).element) (map view (out-ArrayValue old).items.items) item r whole in
    let made : array new.bounds.items (declared new.element) (vals_of (map view new.items.items)) ≡ array shape (declared (out-ArrayValue old).element) (vals_of (cut_or_filled (elements shape) (map view (out-ArrayValue old).items.items) item)) = rw (b, e, m) refl in
    rw (view_array_out old) (r, view_array_of new ∙ made ∙ sym done)
