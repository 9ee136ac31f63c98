-- Places and offsets.
use Rattle.std.proofs.Common.{◌≡◌, ℕ, zero, suc, ◌<◌, ◌≤◌, ◌+◌, ◌*◌, ◌/◌, ◌%◌, Bool, true, false, ◌&&◌, ℤ, pos, negsuc, ◌+ℤ◌, ◌-ℤ◌, List, [], ◌∷◌, length, get_or, Ok, Err, if◌then◌else◌, refl, ap, arith, rules}
use Rattle.std.specs.List.{list_all}
use Rattle.std.proofs.lemmas.Int.{ints}
use Rattle.std.proofs.lemmas.Nat.{mul-add-lt, div-mul-add, mod-mul-add, div-add-mod', mod_below, row-Below}
use Rattle.vba_values.specs.declared.value.Bound.{Bound}
use Rattle.arrays_udt.proofs.Both.{both, both_first, both_second}
use Rattle.arrays_udt.specs.Shapes.{natural, extent, elements, places, is_ordered, is_within, are_within, is_place, layout, place_at, offset_of}
use Rattle.arrays_udt.specs.Errors.{out_of_range}
use borrow.Author.Differences.{up}

pub natural_up : (z : ℤ) → natural z ≡ up z
natural_up (pos n) = refl
natural_up (negsuc n) = refl

-- one bound: its numbers, and how far they are above its low bound
pub within_below : (bound : Bound) (number : ℤ) → is_within bound number ≡ true → natural (number -ℤ bound.low) < extent bound
within_below bound number h = grind (arith, ints, natural_up)

number_back : (bound : Bound) (number : ℤ) → is_within bound number ≡ true → bound.low +ℤ pos (natural (number -ℤ bound.low)) ≡ number
number_back bound number h = grind (arith, ints, natural_up)

number_within : (bound : Bound) (n : ℕ) → n < extent bound → is_within bound (bound.low +ℤ pos n) ≡ true
number_within bound n h = grind (arith, ints, natural_up)

distance_back : (low : ℤ) (n : ℕ) → natural ((low +ℤ pos n) -ℤ low) ≡ n
distance_back low n = grind (arith, ints, natural_up)

-- an ordered bound has a place, so one bound more has no fewer elements
extent_some : (bound : Bound) → is_ordered bound ≡ true → 0 < extent bound
extent_some bound h = grind (arith, ints, natural_up)

grows : (n e : ℕ) → 0 < e → n ≤ e * n
grows n e h = grind arith

layout_within : (bounds : List Bound) (numbers : List ℤ) → are_within bounds numbers ≡ true → layout bounds numbers < places bounds
layout_within [] [] h = omega arith
layout_within [] (number ∷ numbers) h = absurd (search rules)
layout_within (bound ∷ bounds) [] h = absurd (search rules)
layout_within (bound ∷ bounds) (number ∷ numbers) h =
    mul-add-lt (layout bounds numbers) (extent bound) (natural (number -ℤ bound.low)) (places bounds)
    (layout_within bounds numbers (both_second _ _ h)) (within_below bound number (both_first _ _ h))

place_at-layout_within : (bounds : List Bound) (numbers : List ℤ) → are_within bounds numbers ≡ true → place_at bounds (layout bounds numbers) ≡ numbers
place_at-layout_within [] [] h = refl
place_at-layout_within [] (number ∷ numbers) h = absurd (search rules)
place_at-layout_within (bound ∷ bounds) [] h = absurd (search rules)
place_at-layout_within (bound ∷ bounds) (number ∷ numbers) h =
    let below = within_below bound number (both_first _ _ h) in
    let distance = mod-mul-add (layout bounds numbers) (extent bound) (natural (number -ℤ bound.low)) below in
    let rest = div-mul-add (layout bounds numbers) (extent bound) (natural (number -ℤ bound.low)) below in
    let first = both_first (is_within bound number) (are_within bounds numbers) h in
    let others = both_second (is_within bound number) (are_within bounds numbers) h in
    rw (distance, rest, number_back bound number first, place_at-layout_within bounds numbers others)

some_extent : (n e m : ℕ) → n < e * m → 0 < e
some_extent n zero m h = absurd (omega arith)
some_extent n (suc e) m h = omega arith

are_within-place_at : (bounds : List Bound) (n : ℕ) → n < places bounds → are_within bounds (place_at bounds n) ≡ true
are_within-place_at [] n h = refl
are_within-place_at (bound ∷ bounds) n h =
    both _ _ (number_within bound (n % extent bound) (mod_below n (extent bound) (some_extent n (extent bound) (places bounds) h)))
    (are_within-place_at bounds (n / extent bound) (row-Below n (extent bound) (extent bound) (places bounds) h (omega arith)).1)

layout-place_at_within : (bounds : List Bound) (n : ℕ) → n < places bounds → layout bounds (place_at bounds n) ≡ n
layout-place_at_within [] n h = omega arith
layout-place_at_within (bound ∷ bounds) n h =
    rw (distance_back bound.low (n % extent bound), layout-place_at_within bounds (n / extent bound) (row-Below n (extent bound) (extent bound) (places bounds) h (omega arith)).1) (div-add-mod' n (extent bound))

pub ordered_rest : (bound : Bound) (bounds : List Bound) → list_all is_ordered (bound ∷ bounds) ≡ true → list_all is_ordered bounds ≡ true
ordered_rest bound bounds h = both_second (is_ordered bound) (list_all is_ordered bounds) h

pub places_rest : (bound : Bound) (bounds : List Bound) → list_all is_ordered (bound ∷ bounds) ≡ true → places bounds ≤ places (bound ∷ bounds)
places_rest bound bounds h = grows (places bounds) (extent bound) (extent_some bound (both_first (is_ordered bound) (list_all is_ordered bounds) h))

pub places_behind : (bound : Bound) (bounds : List Bound) (n : ℕ) → n < extent bound → places bounds ≤ places (bound ∷ bounds)
places_behind bound bounds n h = grows (places bounds) (extent bound) (omega arith)

pub offset_below : (bound : Bound) (bounds : List Bound) (n m : ℕ) → n < extent bound → m < places bounds → m * extent bound + n < places (bound ∷ bounds)
offset_below bound bounds n m h k = mul-add-lt m (extent bound) n (places bounds) k h

-- an array with bounds
pub some_places : (bounds : List Bound) (n : ℕ) → n < elements bounds → n < places bounds
some_places [] n h = absurd (omega arith)
some_places (bound ∷ bounds) n h = h

pub layout_below : (bounds : List Bound) (numbers : List ℤ) → is_place bounds numbers ≡ true → layout bounds numbers < elements bounds
layout_below [] numbers h = absurd (search rules)
layout_below (bound ∷ bounds) numbers h = layout_within (bound ∷ bounds) numbers h

pub place_at-layout : (bounds : List Bound) (numbers : List ℤ) → is_place bounds numbers ≡ true → place_at bounds (layout bounds numbers) ≡ numbers
place_at-layout [] numbers h = absurd (search rules)
place_at-layout (bound ∷ bounds) numbers h = place_at-layout_within (bound ∷ bounds) numbers h

pub is_place-place_at : (bounds : List Bound) (n : ℕ) → n < elements bounds → is_place bounds (place_at bounds n) ≡ true
is_place-place_at [] n h = absurd (omega arith)
is_place-place_at (bound ∷ bounds) n h = are_within-place_at (bound ∷ bounds) n h

pub layout-place_at : (bounds : List Bound) (n : ℕ) → n < elements bounds → layout bounds (place_at bounds n) ≡ n
layout-place_at [] n h = absurd (omega arith)
layout-place_at (bound ∷ bounds) n h = layout-place_at_within (bound ∷ bounds) n h

-- one and two bounds
and_true : (a : Bool) → a && true ≡ a
and_true true = refl
and_true false = refl

pub elements_one : (bound : Bound) → elements (bound ∷ []) ≡ extent bound
elements_one bound = omega arith

pub offset_of_one : (bound : Bound) (number : ℤ) → offset_of (bound ∷ []) (number ∷ []) ≡ (if is_within bound number then Ok (natural (number -ℤ bound.low)) else Err out_of_range)
offset_of_one bound number = elim (is_within bound number) as (λ w. (if w && true then Ok (0 * extent bound + natural (number -ℤ bound.low)) else Err out_of_range) ≡ (if w then Ok (natural (number -ℤ bound.low)) else Err out_of_range)) [
  | true ↦ ap Ok (omega arith)
  | false ↦ refl
]

pub offset_of_two : (bound last : Bound) (number other : ℤ) → offset_of (bound ∷ last ∷ []) (number ∷ other ∷ []) ≡ (if is_within bound number && is_within last other then Ok (natural (other -ℤ last.low) * extent bound + natural (number -ℤ bound.low)) else Err out_of_range)
offset_of_two bound last number other =
    rw (and_true (is_within last other)) (ap (λ n. if is_within bound number && is_within last other then Ok (n * extent bound + natural (number -ℤ bound.low)) else Err out_of_range) (let e : 0 * extent last + natural (other -ℤ last.low) ≡ natural (other -ℤ last.low) = omega arith in e))

-- two bounds and two numbers
pub two_of : {A : Type 0} (xs : List A) (d : A) → length xs ≡ 2 → xs ≡ get_or xs 0 d ∷ get_or xs 1 d ∷ []
two_of [] d h = absurd (omega arith)
two_of (x ∷ []) d h = absurd (omega arith)
two_of (x ∷ y ∷ []) d h = refl
two_of (x ∷ y ∷ z ∷ zs) d h = absurd (omega arith)
