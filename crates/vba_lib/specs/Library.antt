-- The functions of the VBA library: what each takes, what it answers, and what a use of it is declared as.
use Rattle.std.specs.Prelude.{ℕ, Bool, true, false, not, ◌&&◌, ℤ, pos, List, [], ◌∷◌, Result, Ok, Err, if◌then◌else◌}
use Rattle.std.specs.List.{list_any}
use Rattle.vba_base.specs.Answer.{◌>>=◌}
use Rattle.vba_values.specs.declared.fault.Bad.{Bad}
use Rattle.vba_values.specs.declared.types.Compare.{Compare}
use Rattle.vba_values.specs.declared.types.WholeKind.TheVariants as kind
use Rattle.vba_values.specs.Coerce.{coerce_of, to_boolean}
use Rattle.vba_values.specs.Errors.{invalid_null}
use Rattle.vba_values.specs.Operands.{is_empty, is_null}
use Rattle.vba_values.specs.Types.{Declared}
use Rattle.vba_values.specs.Types as type
use Rattle.vba_values.specs.Val.{Val, null, boolean, whole, text}
use Rattle.vba_lib.specs.declared.function.LibraryFunction.{LibraryFunction}
use Rattle.vba_lib.specs.declared.function.LibraryFunction.TheVariants as function
use Rattle.vba_lib.specs.Arguments.{long_of, text_answer, wrong_number}
use Rattle.vba_lib.specs.Arrays.{array_from, join, join_with, l_bound, split, split_at, u_bound}
use Rattle.vba_lib.specs.Characters.{asc, asc_w, chr, chr_w, string}
use Rattle.vba_lib.specs.Kinds.{is_array, is_missing, is_object, type_name, var_type}
use Rattle.vba_lib.specs.Numbers.{abs, fix, hex, int, oct, sgn}
use Rattle.vba_lib.specs.Searching.{in_str, in_str_by, in_str_from, replace, str_comp, str_comp_by}
use Rattle.vba_lib.specs.Texts.{l_case, l_trim, left, len, mid, mid_of_length, r_trim, right, space, str_reverse, trim, u_case}

-- the functions that have a form with $
abbrev pub has_text_form : LibraryFunction → Bool
has_text_form function.Left = true
has_text_form function.Right = true
has_text_form function.Mid = true
has_text_form function.UCase = true
has_text_form function.LCase = true
has_text_form function.Trim = true
has_text_form function.LTrim = true
has_text_form function.RTrim = true
has_text_form function.Space = true
has_text_form function.String = true
has_text_form function.ChrW = true
has_text_form function.Chr = true
has_text_form function.Replace = true
has_text_form function.Join = true
has_text_form function.StrReverse = true
has_text_form function.Hex = true
has_text_form function.Oct = true
has_text_form function.TypeName = true
has_text_form function.CStr = true
has_text_form other = false

-- the least and the greatest number of arguments; 255 is no limit
abbrev pub arity_of : LibraryFunction → ℕ × ℕ
arity_of function.Array = (0, 255)
arity_of function.InStr = (2, 4)
arity_of function.Mid = (2, 3)
arity_of function.StrComp = (2, 3)
arity_of function.Replace = (3, 3)
arity_of function.IIf = (3, 3)
arity_of function.Left = (2, 2)
arity_of function.Right = (2, 2)
arity_of function.String = (2, 2)
arity_of function.Split = (1, 2)
arity_of function.Join = (1, 2)
arity_of function.UBound = (1, 2)
arity_of function.LBound = (1, 2)
arity_of other = (1, 1)

-- the type to which a function coerces: CVar takes any value as it is
abbrev pub target_of : LibraryFunction → Declared
target_of function.CByte = type.byte
target_of function.CInt = type.integer
target_of function.CLng = type.long
target_of function.CLngLng = type.long_long
target_of function.CCur = type.currency
target_of function.CBool = type.boolean
target_of function.CStr = type.text
target_of other = type.variant

-- the declared type of a use without $, but for an array that of its elements
abbrev pub element_type : LibraryFunction → Declared
element_type function.UBound = type.long
element_type function.LBound = type.long
element_type function.VarType = type.long
element_type function.Asc = type.integer
element_type function.AscW = type.integer
element_type function.Sgn = type.integer
element_type function.IsEmpty = type.boolean
element_type function.IsNull = type.boolean
element_type function.IsObject = type.boolean
element_type function.IsArray = type.boolean
element_type function.IsMissing = type.boolean
element_type function.TypeName = type.text
element_type function.Replace = type.text
element_type function.Split = type.text
element_type other = target_of other

abbrev pub answer_type : LibraryFunction → Declared
answer_type function.Split = type.array_of type.text
answer_type other = element_type other

-- the declared type of a use: each name written with $ is a String
abbrev pub declared_of : LibraryFunction → Bool → Declared
declared_of function text_form = if text_form then type.text else answer_type function

-- the functions that take Null as a value, or whose coercions say what comes of it
abbrev pub takes_null : LibraryFunction → Bool
takes_null function.UBound = true
takes_null function.LBound = true
takes_null function.IsEmpty = true
takes_null function.IsNull = true
takes_null function.IsObject = true
takes_null function.IsArray = true
takes_null function.IsMissing = true
takes_null function.TypeName = true
takes_null function.VarType = true
takes_null function.Array = true
takes_null function.IIf = true
takes_null function.CByte = true
takes_null function.CInt = true
takes_null function.CLng = true
takes_null function.CLngLng = true
takes_null function.CCur = true
takes_null function.CBool = true
takes_null function.CStr = true
takes_null function.CVar = true
takes_null other = false

-- the functions that give Null where they are given it, but with $ raise Invalid use of Null, as all others do
abbrev pub gives_null : LibraryFunction → Bool
gives_null function.Len = true
gives_null function.Left = true
gives_null function.Right = true
gives_null function.Mid = true
gives_null function.InStr = true
gives_null function.UCase = true
gives_null function.LCase = true
gives_null function.Trim = true
gives_null function.LTrim = true
gives_null function.RTrim = true
gives_null function.Abs = true
gives_null function.Int = true
gives_null function.Fix = true
gives_null function.Hex = true
gives_null function.Oct = true
gives_null function.StrComp = true
gives_null other = false

abbrev pub of_null : LibraryFunction → Bool → Result Val Bad
of_null function text_form = if gives_null function && not text_form then Ok null else Err invalid_null

-- what a function gives as it is: a text that isn't too long, and any other value
abbrev pub kept : Val → Result Val Bad
kept (text units) = text_answer units
kept value = Ok value

-- IIf: the second where the first is True, and else the third
abbrev pub chosen_of : Val → Val → Val → Val
chosen_of (boolean true) first second = first
chosen_of test first second = second

abbrev pub i_if : Val → Val → Val → Result Val Bad
i_if test first second = to_boolean test >>= λ truth. kept (chosen_of truth first second)

-- functions of one argument: those that tell its kind, and coercions
abbrev pub of_kind : LibraryFunction → Val → Result Val Bad
of_kind function.IsEmpty value = Ok (boolean (is_empty value))
of_kind function.IsNull value = Ok (boolean (is_null value))
of_kind function.IsObject value = Ok (boolean (is_object value))
of_kind function.IsArray value = Ok (boolean (is_array value))
of_kind function.IsMissing value = Ok (boolean (is_missing value))
of_kind function.TypeName value = Ok (text (type_name value))
of_kind function.VarType value = Ok (whole kind.Long (pos (var_type value)))
of_kind function.CByte value = coerce_of value (target_of function.CByte)
of_kind function.CInt value = coerce_of value (target_of function.CInt)
of_kind function.CLng value = coerce_of value (target_of function.CLng)
of_kind function.CLngLng value = coerce_of value (target_of function.CLngLng)
of_kind function.CCur value = coerce_of value (target_of function.CCur)
of_kind function.CBool value = coerce_of value (target_of function.CBool)
of_kind function.CStr value = coerce_of value (target_of function.CStr)
of_kind function.CVar value = coerce_of value (target_of function.CVar)
of_kind function value = Err wrong_number

-- functions of one argument
abbrev pub of_one : LibraryFunction → Val → Result Val Bad
of_one function.Len value = len value
of_one function.UCase value = u_case value
of_one function.LCase value = l_case value
of_one function.Trim value = trim value
of_one function.LTrim value = l_trim value
of_one function.RTrim value = r_trim value
of_one function.Space value = space value
of_one function.StrReverse value = str_reverse value
of_one function.ChrW value = chr_w value
of_one function.AscW value = asc_w value
of_one function.Chr value = chr value
of_one function.Asc value = asc value
of_one function.Split value = split value
of_one function.Join value = join value
of_one function.UBound value = u_bound value (pos 1)
of_one function.LBound value = l_bound value (pos 1)
of_one function.Abs value = abs value
of_one function.Int value = int value
of_one function.Fix value = fix value
of_one function.Sgn value = sgn value
of_one function.Hex value = hex value
of_one function.Oct value = oct value
of_one function value = of_kind function value

-- functions of two arguments
abbrev pub of_two : LibraryFunction → Compare → Val → Val → Result Val Bad
of_two function.Left compare first second = left first second
of_two function.Right compare first second = right first second
of_two function.Mid compare first second = mid first second
of_two function.InStr compare first second = in_str compare first second
of_two function.String compare first second = string first second
of_two function.Split compare first second = split_at first second
of_two function.Join compare first second = join_with first second
of_two function.UBound compare first second = long_of second >>= λ number. u_bound first number
of_two function.LBound compare first second = long_of second >>= λ number. l_bound first number
of_two function.StrComp compare first second = str_comp compare first second
of_two function compare first second = Err wrong_number

-- functions of three arguments
abbrev pub of_three : LibraryFunction → Compare → Val → Val → Val → Result Val Bad
of_three function.Mid compare first second third = mid_of_length first second third
of_three function.InStr compare first second third = in_str_from compare first second third
of_three function.Replace compare first second third = replace first second third
of_three function.StrComp compare first second third = str_comp_by compare first second third
of_three function.IIf compare first second third = i_if first second third
of_three function compare first second third = Err wrong_number

-- InStr alone takes four
abbrev pub of_four : LibraryFunction → Compare → Val → Val → Val → Val → Result Val Bad
of_four function.InStr compare first second third fourth = in_str_by compare first second third fourth
of_four function compare first second third fourth = Err wrong_number

-- a function by its number of arguments
abbrev pub of_arguments : LibraryFunction → Compare → List Val → Result Val Bad
of_arguments function compare (first ∷ []) = of_one function first
of_arguments function compare (first ∷ second ∷ []) = of_two function compare first second
of_arguments function compare (first ∷ second ∷ third ∷ []) = of_three function compare first second third
of_arguments function compare (first ∷ second ∷ third ∷ fourth ∷ []) = of_four function compare first second third fourth
of_arguments function compare arguments = Err wrong_number

-- Array takes any number of arguments
abbrev pub is_array_function : LibraryFunction → Bool
is_array_function function.Array = true
is_array_function other = false

-- a function's answer: of its name with or without $, its arguments in order, the module's way to compare texts, and the lower bound
-- for Array
abbrev pub library_of : LibraryFunction → Bool → List Val → Compare → ℤ → Result Val Bad
library_of function text_form arguments compare base =
    if not (takes_null function) && list_any is_null arguments then of_null function text_form
    else if is_array_function function then array_from base type.variant arguments
    else of_arguments function compare arguments
