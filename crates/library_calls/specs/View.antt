-- What the code's values stand for.
use Rattle.std.specs.Prelude.{◌≡◌, ◌<◌, ◌≤◌, ℕ, nat_lt, Bool, false, ◌&&◌, pos, List, [], ◌∷◌, ◌++◌, length, drop, nat_eq, bytes_eq, Option, Some, None, Result, Ok, Err, IsOk, if◌then◌else◌}
use Rattle.std.specs.List.{starts_with}
use Rattle.std.specs.Char.Utf16.{is_high_surrogate, is_low_surrogate}
use Rattle.arrays_udt.specs.Errors.{too_many_elements}
use Rattle.vba_base.specs.Answer.{Fails}
use Rattle.vba_base.specs.declared.fault.OrMemory.{OrMemory}
use Rattle.vba_base.specs.declared.fault.OrMemory.TheVariants.{Fault, NoMemory}
use Rattle.vba_lib.specs.Arguments.{text_too_long}
use Rattle.vba_values.specs.declared.fault.Bad.{Bad}
use Rattle.vba_values.specs.declared.types.WholeKind.TheVariants as kind
use Rattle.vba_values.specs.Coerce.{text_of}
use Rattle.vba_values.specs.Val.{Val, Vals, whole, currency, no_vals, val}
use Rattle.std.specs.Result.{result_unwrap_or}
use Rattle.library_calls.specs.declared.arguments.TextArgument.{TextArgument}
use Rattle.library_calls.specs.declared.arguments.TextArgument.TheVariants.{Lent, Made}
use Rattle.library_calls.specs.declared.numbers.Number.{Number}
use Rattle.library_calls.specs.declared.numbers.Number.TheVariants.{Byte, Integer, Long, LongLong, Currency}

-- the units of a text argument
abbrev pub units_of : TextArgument → List ℕ
units_of (Lent units) = units.now
units_of (Made units) = units

-- the value that a number is
abbrev pub number_view : Number → Val
number_view (Byte n) = whole kind.Byte (pos n)
number_view (Integer n) = whole kind.Integer n
number_view (Long n) = whole kind.Long n
number_view (LongLong n) = whole kind.LongLong n
number_view (Currency count) = currency count

-- how many units the first character of a text has
abbrev pub first_size : List ℕ → ℕ
first_size [] = 0
first_size (unit ∷ []) = 1
first_size (unit ∷ next ∷ units) = if is_high_surrogate unit && is_low_surrogate next then 2 else 1

-- whether a fold is that of the first half of a character that is a pair
abbrev pub ends_inside : List ℕ → List ℕ → Bool
ends_inside fold (high ∷ low ∷ []) = bytes_eq fold (high ∷ [])
ends_inside fold character = false

-- what is left of a fold behind that of a character
abbrev pub behind_fold : List ℕ → List ℕ → Option (List ℕ)
behind_fold fold first = if starts_with nat_eq fold first then Some (drop (length first) fold) else None

-- values of which an array doesn't have too many
abbrev pub few_values : List Val → Result (List Val) Bad
few_values values = if nat_lt 1048576 (length values) then Err too_many_elements else Ok values

-- these are the values that are meant, of which there aren't too many; or there are, or memory ran out
abbrev pub Pushes : {X : Type 0} → Result X (OrMemory Bad) → List Val → List Val → Type 0
Pushes (Ok x) meant values = (values ≡ meant) × (length values ≤ 1048576)
Pushes (Err (Fault bad)) meant values = (bad ≡ too_many_elements) × (1048576 < length meant)
Pushes (Err NoMemory) meant values = Unit {0}

-- a text got these units behind it and isn't too long by them; or it would be, or memory ran out
abbrev pub Extends : {X : Type 0} → Result X (OrMemory Bad) → List ℕ → List ℕ → List ℕ → Type 0
Extends (Ok x) old units new = (new ≡ old ++ units) × (length new ≤ 16777216)
Extends (Err (Fault bad)) old units new = (bad ≡ text_too_long) × (16777216 < length (old ++ units))
Extends (Err NoMemory) old units new = Unit {0}

-- what is meant is an answer, or else the fault is the one that is meant
abbrev pub Checks : {X Y : Type 0} → Result X (OrMemory Bad) → Result Y Bad → Type 0
Checks (Ok x) meant = IsOk meant
Checks (Err e) meant = Fails e meant

-- the texts of values that have texts
abbrev pub texts_in : Vals → List (List ℕ)
texts_in no_vals = []
texts_in (val v vs) = result_unwrap_or (text_of v) [] ∷ texts_in vs
