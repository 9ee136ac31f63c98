-- The comparisons = <> < > <= >=.
use Rattle.std.specs.Prelude.{ℕ, Bool, true, false, ◌||◌, ◌&&◌, not, ℤ, pos, List, [], Option, Some, None, Result, Ok, Err, if◌then◌else◌}
use Rattle.std.specs.Ordering.{int_cmp, nat_cmp, ordering_reverse}
use Rattle.std.specs.Cmp.Lexicographic.{slice_cmp}
use Rattle.std.specs.declared.cmp.Ordering.{Ordering}
use Rattle.std.specs.declared.cmp.Ordering.TheVariants.{Less, Equal, Greater}
use Rattle.currency.specs.NumberText.{Numeral, read}
use Rattle.currency.specs.Parsed.{compare_numeral}
use Rattle.vba_base.specs.Answer.{◌>>=◌}
use Rattle.vba_base.specs.Fold.{folded}
use Rattle.vba_values.specs.declared.fault.Bad.{Bad}
use Rattle.vba_values.specs.declared.types.OpKind.{OpKind}
use Rattle.vba_values.specs.declared.types.OpKind.TheVariants as op
use Rattle.vba_values.specs.declared.types.Compare.{Compare}
use Rattle.vba_values.specs.declared.types.Compare.TheVariants.{Binary, Folded}
use Rattle.vba_values.specs.Arithmetic.{double_result}
use Rattle.vba_values.specs.Coerce.{is_text, text_of}
use Rattle.vba_values.specs.Errors.{type_mismatch}
use Rattle.vba_values.specs.Operands.{is_empty, is_no_operand, is_null, count_of}
use Rattle.vba_values.specs.Texts.{not_number}
use Rattle.vba_values.specs.Types.{Declared}
use Rattle.vba_values.specs.Types as type
use Rattle.vba_values.specs.Val.{Val, empty, null, boolean, text}

-- whether an order is one that the comparison asks for
abbrev pub holds : OpKind → Ordering → Bool
holds op.Eq Equal = true
holds op.Ne Less = true
holds op.Ne Greater = true
holds op.Lt Less = true
holds op.Le Less = true
holds op.Le Equal = true
holds op.Gt Greater = true
holds op.Ge Greater = true
holds op.Ge Equal = true
holds o order = false

-- texts compare by units, or by the units of their case folds
abbrev pub compare_texts : Compare → List ℕ → List ℕ → Ordering
compare_texts Binary left right = slice_cmp nat_cmp left right
compare_texts Folded left right = slice_cmp nat_cmp (folded left) (folded right)

abbrev pub is_variant : Declared → Bool
is_variant type.variant = true
is_variant other = false

abbrev pub is_string : Declared → Bool
is_string type.text = true
is_string (type.fixed_text size) = true
is_string other = false

-- the declared types of numbers; Boolean counts as one
abbrev pub is_number : Declared → Bool
is_number type.boolean = true
is_number type.byte = true
is_number type.integer = true
is_number type.long = true
is_number type.long_long = true
is_number type.currency = true
is_number other = false

-- a number beside a text, exactly, where the text is a number text
abbrev pub compare_read : List ℕ → ℤ → Option Numeral → Result Ordering Bad
compare_read units count None = Err (not_number units)
compare_read units count (Some n) = Ok (compare_numeral count n)

abbrev pub compare_with_text : Val → List ℕ → Result Ordering Bad
compare_with_text number units = compare_read units (count_of number) (read units)

abbrev pub reversed : Result Ordering Bad → Result Ordering Bad
reversed (Ok order) = Ok (ordering_reverse order)
reversed (Err bad) = Err bad

-- a number and a text, with their declared types: a declared number beside a Variant compares with the number that the text
-- writes, a Variant number is less than a Variant text; the rest would be compared as Doubles
abbrev pub compare_number_text : Val → Declared → List ℕ → Declared → Result Ordering Bad
compare_number_text number number_declared units text_declared =
    if is_number number_declared && is_variant text_declared then compare_with_text number units
    else if is_variant number_declared && is_variant text_declared then Ok Less
    else Err double_result

-- a text and what is behind it, with their declared types: Empty is ""
abbrev pub compare_text_before : Compare → List ℕ → Declared → Val → Declared → Result Ordering Bad
compare_text_before compare left left_declared (text right) right_declared = Ok (compare_texts compare left right)
compare_text_before compare left left_declared empty right_declared = Ok (compare_texts compare left [])
compare_text_before compare left left_declared right right_declared = reversed (compare_number_text right right_declared left left_declared)

-- what is no text and a text behind it, with their declared types: Empty is ""
abbrev pub compare_text_behind : Compare → Val → Declared → List ℕ → Declared → Result Ordering Bad
compare_text_behind compare left left_declared right right_declared =
    if is_empty left then Ok (compare_texts compare [] right) else compare_number_text left left_declared right right_declared

-- the order of two operands, by their values and declared types; without a text Empty is 0
abbrev pub compare_values : Compare → Val → Declared → Val → Declared → Result Ordering Bad
compare_values compare (text left) left_declared right right_declared = compare_text_before compare left left_declared right right_declared
compare_values compare left left_declared (text right) right_declared = compare_text_behind compare left left_declared right right_declared
compare_values compare left left_declared right right_declared = Ok (int_cmp (count_of left) (count_of right))

-- a declared String beside a Variant: both are compared as texts
abbrev pub are_texts : Declared → Declared → Bool
are_texts left right = (is_string left && is_variant right) || (is_variant left && is_string right)

-- a text and the text of an operand
abbrev pub compare_with_text_of : Compare → List ℕ → Val → Result Ordering Bad
compare_with_text_of compare left right = text_of right >>= λ r. Ok (compare_texts compare left r)

unfoldable pub compare_as_texts : Compare → Val → Val → Result Ordering Bad
compare_as_texts compare left right = text_of left >>= λ l. compare_with_text_of compare l right

abbrev pub order_of : Compare → Val → Declared → Val → Declared → Result Ordering Bad
order_of compare left left_declared right right_declared =
    if are_texts left_declared right_declared then compare_as_texts compare left right
    else compare_values compare left left_declared right right_declared

abbrev pub answer_of : OpKind → Result Ordering Bad → Result Val Bad
answer_of o (Ok order) = Ok (boolean (holds o order))
answer_of o (Err bad) = Err bad

-- a comparison: what no operator takes raises Type mismatch, Null gives Null
abbrev pub comparison : OpKind → Compare → Val → Declared → Val → Declared → Result Val Bad
comparison o compare left left_declared right right_declared =
    if is_no_operand left || is_no_operand right then Err type_mismatch
    else if is_null left || is_null right then Ok null
    else answer_of o (order_of compare left left_declared right right_declared)
