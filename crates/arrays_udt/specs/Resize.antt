-- ReDim Preserve.
use Rattle.std.specs.Prelude.{◌≡◌, ℕ, zero, suc, Bool, true, false, ◌&&◌, ℤ, List, [], ◌∷◌, ◌++◌, ◌-◌, length, map, replicate, take, Result, Ok, Err, if◌then◌else◌}
use Rattle.std.specs.List.{range_with_len}
use Rattle.std.specs.Ordering.{int_eq}
use Rattle.vba_base.specs.declared.fault.OrMemory.{OrMemory}
use Rattle.vba_base.specs.declared.fault.OrMemory.TheVariants.{Fault, NoMemory}
use Rattle.vba_values.specs.declared.fault.Bad.{Bad}
use Rattle.vba_values.specs.declared.value.Bound.{Bound}
use Rattle.vba_values.specs.Types.{Declared}
use Rattle.vba_values.specs.Types as type
use Rattle.vba_values.specs.Val.{Val, Vals, empty, array, no_vals, val, vals_of}
use Rattle.arrays_udt.specs.Errors.{out_of_range}
use Rattle.arrays_udt.specs.Shapes.{elements, is_place, layout, place_at}

abbrev pub are_last : List Bound → List Bound → Bool
are_last [] [] = true
are_last olds news = false

-- bounds that differ at most in the last upper bound
abbrev pub is_resize : List Bound → List Bound → Bool
is_resize (old ∷ olds) (new ∷ news) =
    int_eq old.low new.low && (if are_last olds news then true else int_eq old.high new.high && is_resize olds news)
is_resize olds news = false

-- how many values
abbrev pub count : Vals → ℕ
count no_vals = zero
count (val v vs) = suc (count vs)

-- the value at an offset; past the end Empty
abbrev pub item_at : Vals → ℕ → Val
item_at no_vals offset = empty
item_at (val v vs) zero = v
item_at (val v vs) (suc offset) = item_at vs offset

-- what a place of the new bounds has: what stood there, or else the new item
abbrev pub kept : List Bound → Vals → Val → List ℤ → Val
kept bounds items item place = if is_place bounds place then item_at items (layout bounds place) else item

-- an array with new bounds, place by place
abbrev pub resized : List Bound → Val → Val → Val
resized shape item (array bounds element items) =
    array shape element (vals_of (map (λ offset. kept bounds items item (place_at shape offset)) (range_with_len 0 (elements shape))))
resized shape item other = other

-- the front of values, filled up to a number of them
abbrev pub cut_or_filled : ℕ → List Val → Val → List Val
cut_or_filled number vs item = take number vs ++ replicate (number - length vs) item

-- the declared type of an array's elements
abbrev pub element_type : Val → Declared
element_type (array bounds element items) = element
element_type other = type.variant

-- whether an array can be resized so
abbrev pub can_resize : List Bound → Val → Bool
can_resize shape (array bounds element items) = is_resize bounds shape
can_resize shape other = false

-- the array was resized; or more than its last upper bound would differ, or memory ran out, and then nothing changed
abbrev pub Resizes : {X : Type 0} → Result X (OrMemory Bad) → List Bound → Val → Val → Val → Type 0
Resizes (Ok x) shape item old new = (can_resize shape old ≡ true) × (new ≡ resized shape item old)
Resizes (Err (Fault bad)) shape item old new = (can_resize shape old ≡ false) × (bad ≡ out_of_range) × (new ≡ old)
Resizes (Err NoMemory) shape item old new = (can_resize shape old ≡ true) × (new ≡ old)

-- the array has as many items as its bounds say
abbrev pub IsWhole : Val → Type 0
IsWhole (array bounds element items) = count items ≡ elements bounds
IsWhole other = Unit {0}
