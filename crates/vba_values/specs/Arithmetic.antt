-- The operators + - * \ Mod and unary minus.
use Rattle.std.specs.Prelude.{ℕ, Bool, true, false, ◌||◌, ◌&&◌, nat_lt, ℤ, pos, negsuc, ◌+ℤ◌, ◌-ℤ◌, ◌*ℤ◌, neg_ℤ, int_div, int_rem, List, [], ◌++◌, length, Result, Ok, Err, if◌then◌else◌, Option, Some, None}
use Rattle.std.specs.Ordering.{int_eq}
use Rattle.currency.specs.HalfEven.{half_even}
use Rattle.currency.specs.NumberText.{Numeral, read}
use Rattle.vba_base.specs.Answer.{◌>>=◌}
use Rattle.vba_values.specs.declared.fault.Bad.{Bad}
use Rattle.vba_values.specs.declared.fault.Bad.TheVariants.{Raise, Outside}
use Rattle.vba_values.specs.declared.fault.OutKind.TheVariants.{DoubleResult, TextLength}
use Rattle.vba_values.specs.declared.types.OpKind.{OpKind}
use Rattle.vba_values.specs.declared.types.OpKind.TheVariants as op
use Rattle.vba_values.specs.declared.types.WholeKind.{WholeKind}
use Rattle.vba_values.specs.declared.types.WholeKind.TheVariants as kind
use Rattle.vba_values.specs.Coerce.{is_text, to_currency, to_whole}
use Rattle.vba_values.specs.Errors.{overflow, type_mismatch}
use Rattle.vba_values.specs.declared.operands.Work.{Work}
use Rattle.vba_values.specs.declared.operands.Work.TheVariants as work
use Rattle.vba_values.specs.Operands.{is_no_operand, is_null, work_of, number_of, count_of}
use Rattle.vba_values.specs.Texts.{amount, not_number}
use Rattle.vba_values.specs.Val.{Val, empty, null, missing, boolean, whole, currency, text, object, array, udt}
use Rattle.vba_values.specs.Whole.{fits, ranged}

-- Division by zero
abbrev pub division_by_zero : Bad
division_by_zero = Raise 11

-- a result would be a Double: the run stops
abbrev pub double_result : Bad
double_result = Outside DoubleResult

-- a text that an operator gives has at most 16777216 units
abbrev pub joined : List ℕ → List ℕ → Result Val Bad
joined left right = if nat_lt 16777216 (length (left ++ right)) then Err (Outside TextLength) else Ok (text (left ++ right))

-- a whole result where an operand is a Variant: a Byte that doesn't fit becomes Integer, an Integer becomes Long; the rest would be Doubles
abbrev pub widened_to : WholeKind → Result Val Bad → ℤ → Result Val Bad
widened_to k wider z = if fits k z then Ok (whole k z) else wider

abbrev pub widened : WholeKind → ℤ → Result Val Bad
widened kind.LongLong z = widened_to kind.LongLong (Err double_result) z
widened kind.Long z = widened_to kind.Long (Err double_result) z
widened kind.Integer z = widened_to kind.Integer (widened_to kind.Long (Err double_result) z) z
widened kind.Byte z = widened_to kind.Byte (widened_to kind.Integer (widened_to kind.Long (Err double_result) z) z) z

-- the result in its kind: Overflow where it doesn't fit, but beside a Variant it is widened
abbrev pub whole_result : Bool → WholeKind → ℤ → Result Val Bad
whole_result variant k z = if variant then widened k z else ranged k z

-- the exact result of + - * on whole numbers
abbrev pub exact : OpKind → ℤ → ℤ → ℤ
exact op.Add left right = left +ℤ right
exact op.Sub left right = left -ℤ right
exact other left right = left *ℤ right

-- the same on counts of ten-thousandths; a product is rounded half to even to four decimals
abbrev pub exact_count : OpKind → ℤ → ℤ → ℤ
exact_count op.Add left right = left +ℤ right
exact_count op.Sub left right = left -ℤ right
exact_count other left right = half_even (left *ℤ right) 10000

-- + - * of two numbers in a kind
abbrev pub worked : OpKind → Bool → Work → Val → Val → Result Val Bad
worked o variant (work.Whole k) left right = whole_result variant k (exact o (number_of left) (number_of right))
worked o variant work.Currency left right = amount (exact_count o (count_of left) (count_of right))

-- + - * of two numbers in the kind of their work
abbrev pub of_numbers : OpKind → Bool → Val → Val → Result Val Bad
of_numbers o variant left right = worked o variant (work_of left right) left right

-- a text beside a number has to be a number text, and the result would be a Double
abbrev pub double_of_text : List ℕ → Option Numeral → Bad
double_of_text units None = not_number units
double_of_text units (Some n) = double_result

abbrev pub double_of : List ℕ → Bad
double_of units = double_of_text units (read units)

-- both texts have to be number texts, the left one first
abbrev pub double_of_texts : List ℕ → List ℕ → Option Numeral → Bad
double_of_texts left right None = not_number left
double_of_texts left right (Some n) = double_of right

-- + and - of Currency with text are done in Currency; all else of text with a number would be a Double
abbrev pub text_beside_currency : OpKind → List ℕ → (Val → Result Val Bad) → Result Val Bad
text_beside_currency op.Mul units rest = Err (double_of units)
text_beside_currency o units rest = to_currency (text units) >>= rest

-- + - * of a text and what is behind it: two texts, or a text and Empty, are joined by +
abbrev pub text_before : OpKind → List ℕ → Val → Result Val Bad
text_before op.Add left (text right) = joined left right
text_before o left (text right) = Err (double_of_texts left right (read left))
text_before op.Add left empty = joined left []
text_before o left (currency count) = text_beside_currency o left (λ amount. of_numbers o false amount (currency count))
text_before o left right = Err (double_of left)

-- + - * of what is no text, and a text behind it: Empty and a text are joined by +
abbrev pub text_behind : OpKind → Val → List ℕ → Result Val Bad
text_behind op.Add empty right = joined [] right
text_behind o (currency count) right = text_beside_currency o right (λ amount. of_numbers o false (currency count) amount)
text_behind o left right = Err (double_of right)

-- + - * with a text
abbrev pub with_text : OpKind → Val → Val → Result Val Bad
with_text o (text left) right = text_before o left right
with_text o left (text right) = text_behind o left right
with_text o left right = Err type_mismatch

-- + - * of two operands, neither of them Null; of numbers it is told whether one is declared Variant
abbrev pub sum_or_product : OpKind → Bool → Val → Val → Result Val Bad
sum_or_product o variant left right =
    if is_text left || is_text right then with_text o left right else of_numbers o variant left right

-- + - *: Missing, objects, arrays and user-defined values raise Type mismatch, Null gives Null
abbrev pub arithmetic : OpKind → Bool → Val → Val → Result Val Bad
arithmetic o variant left right =
    if is_no_operand left || is_no_operand right then Err type_mismatch
    else if is_null left || is_null right then Ok null
    else sum_or_product o variant left right

-- the kind of whole numbers to which Currency and text are coerced under \ and Mod and the bitwise operators: LongLong beside a LongLong
abbrev pub whole_kind_beside : Val → WholeKind
whole_kind_beside (whole kind.LongLong z) = kind.LongLong
whole_kind_beside other = kind.Long

-- an operand of \ and Mod and the bitwise operators, beside another: a number or a Boolean, or Null
abbrev pub as_whole : Val → Val → Result Val Bad
as_whole empty other = Ok empty
as_whole null other = Ok null
as_whole (boolean b) other = Ok (boolean b)
as_whole (whole k z) other = Ok (whole k z)
as_whole (currency count) other = to_whole (whole_kind_beside other) (currency count)
as_whole (text units) other = to_whole (whole_kind_beside other) (text units)
as_whole value other = Err type_mismatch

-- the kind of the work of whole numbers; there is no Currency among them
abbrev pub whole_work : Work → WholeKind
whole_work (work.Whole k) = k
whole_work work.Currency = kind.LongLong

-- \ truncates toward zero, Mod has the sign of the dividend; of the least number by -1 only \ doesn't fit
abbrev pub divided : OpKind → WholeKind → ℤ → ℤ → Result Val Bad
divided op.Mod k left right = if int_eq right (pos 0) then Err division_by_zero else ranged k (int_rem left right)
divided o k left right = if int_eq right (pos 0) then Err division_by_zero else ranged k (int_div left right)

-- \ and Mod of two whole numbers in the kind of their work
abbrev pub division_of : OpKind → Val → Val → Result Val Bad
division_of o left right = divided o (whole_work (work_of left right)) (number_of left) (number_of right)

-- \ and Mod: Null beside anything but what raises gives Null
unfoldable pub division : OpKind → Val → Val → Result Val Bad
division o left right =
    if is_no_operand left || is_no_operand right then Err type_mismatch
    else if is_null left || is_null right then Ok null
    else as_whole left right >>= λ dividend. as_whole right left >>= λ divisor. division_of o dividend divisor

-- unary minus: Byte, Boolean and Empty give Integer, all others their own kind
abbrev pub negated : Bool → Val → Result Val Bad
negated variant empty = Ok (whole kind.Integer (pos 0))
negated variant null = Ok null
negated variant (boolean b) = whole_result variant kind.Integer (neg_ℤ (number_of (boolean b)))
negated variant (whole kind.Byte z) = whole_result variant kind.Integer (neg_ℤ z)
negated variant (whole k z) = whole_result variant k (neg_ℤ z)
negated variant (currency count) = amount (neg_ℤ count)
negated variant (text units) = Err (double_of units)
negated variant value = Err type_mismatch
