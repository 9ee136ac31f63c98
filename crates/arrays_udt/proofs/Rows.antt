-- Worked rows of shapes, places and paths.
use Rattle.std.specs.Prelude.{◌≡◌, ℕ, ℤ, pos, negsuc, [], ◌∷◌, Ok, Err, None, true, false, refl}
use Rattle.vba_values.specs.declared.fault.Bad.TheVariants.{Raise, Outside}
use Rattle.vba_values.specs.declared.fault.OutKind.TheVariants.{Elements}
use Rattle.vba_values.specs.declared.types.WholeKind.TheVariants as kind
use Rattle.vba_values.specs.declared.value.Bound.{Bound}
use Rattle.vba_values.specs.Types as type
use Rattle.vba_values.specs.Val.{Val, whole, array, vals_of}
use Rattle.arrays_udt.specs.Paths.{are_apart, path_value, with_path}
use Rattle.arrays_udt.specs.Resize.{is_resize, resized}
use Rattle.arrays_udt.specs.Shapes.{offset_of, place_at, shape_of}
use Rattle.arrays_udt.specs.declared.paths.PathStep.TheVariants.{Field, Element}

abbrev to : ℤ → ℤ → Bound
to low high = record { low = low; high = high }

-- ReDim a(3), ReDim a(1048575) and ReDim a(1048576)
pub four : shape_of (to (pos 0) (pos 3) ∷ []) ≡ Ok (to (pos 0) (pos 3) ∷ [])
four = refl

pub most : shape_of (to (pos 0) (pos 1048575) ∷ []) ≡ Ok (to (pos 0) (pos 1048575) ∷ [])
most = refl

pub one_more : shape_of (to (pos 0) (pos 1048576) ∷ []) ≡ Err (Outside Elements)
one_more = refl

pub no_bounds : shape_of [] ≡ Err (Raise 9)
no_bounds = refl

-- the bounds 0 to -1 of an array without elements
pub empty_bounds : shape_of (to (pos 0) (negsuc 0) ∷ []) ≡ Err (Raise 9)
empty_bounds = refl

-- out of order and too many: 9 comes first
pub wide_and_wrong : shape_of (to (negsuc 2147483647) (pos 2147483647) ∷ to (pos 2) (pos 1) ∷ []) ≡ Err (Raise 9)
wide_and_wrong = refl

-- a(-1 To 1, 1 To 4): the first number runs fastest
pub second_row : offset_of (to (negsuc 0) (pos 1) ∷ to (pos 1) (pos 4) ∷ []) (negsuc 0 ∷ pos 2 ∷ []) ≡ Ok 3
second_row = refl

pub last_place : place_at (to (negsuc 0) (pos 1) ∷ to (pos 1) (pos 4) ∷ []) 11 ≡ pos 1 ∷ pos 4 ∷ []
last_place = refl

pub past_the_bound : offset_of (to (pos 0) (pos 3) ∷ []) (pos 4 ∷ []) ≡ Err (Raise 9)
past_the_bound = refl

-- an array without bounds has no place
pub no_place : offset_of [] [] ≡ Err (Raise 9)
no_place = refl

pub one_number_too_few : offset_of (to (pos 0) (pos 3) ∷ to (pos 0) (pos 3) ∷ []) (pos 1 ∷ []) ≡ Err (Raise 9)
one_number_too_few = refl

-- ReDim Preserve changes the last upper bound alone
pub last_high : is_resize (to (pos 0) (pos 1) ∷ to (pos 0) (pos 1) ∷ []) (to (pos 0) (pos 1) ∷ to (pos 0) (pos 9) ∷ []) ≡ true
last_high = refl

pub first_high : is_resize (to (pos 0) (pos 1) ∷ to (pos 0) (pos 1) ∷ []) (to (pos 0) (pos 2) ∷ to (pos 0) (pos 1) ∷ []) ≡ false
first_high = refl

pub last_low : is_resize (to (pos 0) (pos 1) ∷ []) (to (pos 1) (pos 1) ∷ []) ≡ false
last_low = refl

pub more_bounds : is_resize (to (pos 0) (pos 1) ∷ []) (to (pos 0) (pos 1) ∷ to (pos 0) (pos 1) ∷ []) ≡ false
more_bounds = refl

abbrev long : ℕ → Val
long n = whole kind.Long (pos n)

pub longer : resized (to (pos 1) (pos 3) ∷ []) (long 0) (array (to (pos 1) (pos 2) ∷ []) type.long (vals_of (long 7 ∷ long 8 ∷ []))) ≡ array (to (pos 1) (pos 3) ∷ []) type.long (vals_of (long 7 ∷ long 8 ∷ long 0 ∷ []))
longer = refl

-- a write changes one element
pub one_element : with_path (array (to (pos 0) (pos 1) ∷ []) type.long (vals_of (long 7 ∷ long 8 ∷ []))) (Element 1 ∷ []) (long 9) ≡ array (to (pos 0) (pos 1) ∷ []) type.long (vals_of (long 7 ∷ long 9 ∷ []))
one_element = refl

pub no_field : path_value (array (to (pos 0) (pos 0) ∷ []) type.long (vals_of (long 7 ∷ []))) (Field 0 ∷ []) ≡ None
no_field = refl

pub apart : are_apart (Field 0 ∷ Element 1 ∷ []) (Field 0 ∷ Element 2 ∷ []) ≡ true
apart = refl
