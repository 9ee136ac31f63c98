-- Arrays and their bounds, and the functions that make arrays and texts of one another.
use Rattle.std.specs.Prelude.{ℕ, suc, nat_lt, ℤ, pos, ◌+ℤ◌, ◌-ℤ◌, List, [], ◌∷◌, length, map, slice_get, Option, Some, None, Result, Ok, Err, if◌then◌else◌}
use Rattle.currency.specs.NumberText.{blank}
use Rattle.vba_base.specs.Answer.{◌>>=◌}
use Rattle.vba_values.specs.declared.fault.Bad.{Bad}
use Rattle.vba_values.specs.declared.types.WholeKind.TheVariants as kind
use Rattle.vba_values.specs.declared.value.Bound.{Bound}
use Rattle.vba_values.specs.Coerce.{text_of}
use Rattle.vba_values.specs.Errors.{type_mismatch}
use Rattle.vba_values.specs.Types.{Declared}
use Rattle.vba_values.specs.Types as type
use Rattle.vba_values.specs.Val.{Val, Vals, whole, text, array, no_vals, val, vals_of}
use Rattle.arrays_udt.specs.Errors.{out_of_range, too_many_elements}
use Rattle.vba_lib.specs.Arguments.{text_answer}
use Rattle.vba_lib.specs.Searching.{joined_by, parts}

-- the bounds of a value that is an array
abbrev pub bounds_of : Val → Result (List Bound) Bad
bounds_of (array bounds element items) = Ok bounds
bounds_of value = Err type_mismatch

-- one of some bounds, counted from 1: an array without storage has none
abbrev pub found_bound : Option Bound → Result Bound Bad
found_bound None = Err out_of_range
found_bound (Some bound) = Ok bound

abbrev pub numbered_bound : List Bound → ℤ → Result Bound Bad
numbered_bound bounds (pos (suc before)) = found_bound (slice_get bounds before)
numbered_bound bounds number = Err out_of_range

-- UBound and LBound of the first bound, and of a numbered one
abbrev pub bound_of : Val → ℤ → Result Bound Bad
bound_of value number = bounds_of value >>= λ bounds. numbered_bound bounds number

abbrev pub u_bound : Val → ℤ → Result Val Bad
u_bound value number = bound_of value number >>= λ bound. Ok (whole kind.Long bound.high)

abbrev pub l_bound : Val → ℤ → Result Val Bad
l_bound value number = bound_of value number >>= λ bound. Ok (whole kind.Long bound.low)

-- an array of these values from a lower bound on
abbrev pub array_from : ℤ → Declared → List Val → Result Val Bad
array_from low element values =
    if nat_lt 1048576 (length values) then Err too_many_elements
    else Ok (array (record { low = low; high = low +ℤ pos (length values) -ℤ pos 1 } ∷ []) element (vals_of values))

-- Split: the parts between the separators, in an array of String from 0 on; an empty text has no parts, and an empty separator
-- stands nowhere
abbrev pub split_parts : List ℕ → List ℕ → List (List ℕ)
split_parts separator [] = []
split_parts [] units = units ∷ []
split_parts separator units = parts separator units

abbrev pub split_by : List ℕ → List ℕ → Result Val Bad
split_by separator units = array_from (pos 0) type.text (map text (split_parts separator units))

abbrev pub split : Val → Result Val Bad
split value = text_of value >>= λ units. split_by (blank ∷ []) units

abbrev pub split_at : Val → Val → Result Val Bad
split_at value separator = text_of value >>= λ units. text_of separator >>= λ by. split_by by units

-- Join: the elements of an array with one bound, each as a String
abbrev pub elements_of : Val → Result Vals Bad
elements_of (array (bound ∷ []) element items) = Ok items
elements_of value = Err type_mismatch

abbrev pub texts_of : Vals → Result (List (List ℕ)) Bad
texts_of no_vals = Ok []
texts_of (val v vs) = text_of v >>= λ units. texts_of vs >>= λ texts. Ok (units ∷ texts)

abbrev pub join_elements : List ℕ → Vals → Result Val Bad
join_elements separator items = texts_of items >>= λ texts. text_answer (joined_by separator texts)

abbrev pub join_by : List ℕ → Val → Result Val Bad
join_by separator value = elements_of value >>= λ items. join_elements separator items

abbrev pub join : Val → Result Val Bad
join value = join_by (blank ∷ []) value

abbrev pub join_with : Val → Val → Result Val Bad
join_with value separator = text_of separator >>= λ by. join_by by value
