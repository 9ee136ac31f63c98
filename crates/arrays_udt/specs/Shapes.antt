-- Bounds of arrays, and the offsets at which their elements lie.
use Rattle.std.specs.Prelude.{ℕ, ◌+◌, ◌*◌, ◌/◌, ◌%◌, nat_lt, nat_le, Bool, true, false, not, ◌&&◌, ℤ, pos, negsuc, ◌+ℤ◌, ◌-ℤ◌, int_le, List, [], ◌∷◌, length, Result, Ok, Err, if◌then◌else◌}
use Rattle.std.specs.List.{list_all}
use Rattle.vba_values.specs.declared.fault.Bad.{Bad}
use Rattle.vba_values.specs.declared.value.Bound.{Bound}
use Rattle.arrays_udt.specs.Errors.{out_of_range, too_many_elements}

-- a number that isn't negative; 0 for the others
abbrev pub natural : ℤ → ℕ
natural (pos n) = n
natural (negsuc n) = 0

-- how many places a bound has
abbrev pub extent : Bound → ℕ
extent bound = natural (bound.high -ℤ bound.low +ℤ pos 1)

-- how many places some bounds have: the product of how many each of them has
abbrev pub places : List Bound → ℕ
places [] = 1
places (bound ∷ bounds) = extent bound * places bounds

-- how many elements an array with these bounds has: an array without bounds has none
abbrev pub elements : List Bound → ℕ
elements [] = 0
elements (bound ∷ bounds) = places (bound ∷ bounds)

-- a high bound isn't below its low bound
abbrev pub is_ordered : Bound → Bool
is_ordered bound = int_le bound.low bound.high

-- an array has 1 to 60 bounds
abbrev pub are_bounds : List Bound → Bool
are_bounds bounds = nat_lt 0 (length bounds) && nat_le (length bounds) 60 && list_all is_ordered bounds

-- bounds that arrays can have
abbrev pub is_shape : List Bound → Bool
is_shape bounds = are_bounds bounds && nat_le (elements bounds) 1048576

abbrev pub shape_of : List Bound → Result (List Bound) Bad
shape_of bounds =
    if not (are_bounds bounds) then Err out_of_range
    else if nat_le (elements bounds) 1048576 then Ok bounds
    else Err too_many_elements

-- a number within a bound
abbrev pub is_within : Bound → ℤ → Bool
is_within bound number = int_le bound.low number && int_le number bound.high

-- a number for each bound, and within it
abbrev pub are_within : List Bound → List ℤ → Bool
are_within [] [] = true
are_within (bound ∷ bounds) (number ∷ numbers) = is_within bound number && are_within bounds numbers
are_within bounds numbers = false

-- a place of an array: a number within each bound; an array without bounds has no place
abbrev pub is_place : List Bound → List ℤ → Bool
is_place [] numbers = false
is_place (bound ∷ bounds) numbers = are_within (bound ∷ bounds) numbers

-- the offset of a place: the first number runs fastest
abbrev pub layout : List Bound → List ℤ → ℕ
layout (bound ∷ bounds) (number ∷ numbers) = layout bounds numbers * extent bound + natural (number -ℤ bound.low)
layout bounds numbers = 0

-- the place at an offset
abbrev pub place_at : List Bound → ℕ → List ℤ
place_at [] offset = []
place_at (bound ∷ bounds) offset = (bound.low +ℤ pos (offset % extent bound)) ∷ place_at bounds (offset / extent bound)

abbrev pub offset_of : List Bound → List ℤ → Result ℕ Bad
offset_of bounds numbers = if is_place bounds numbers then Ok (layout bounds numbers) else Err out_of_range
