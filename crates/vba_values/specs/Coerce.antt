-- Let-coercion: what a value becomes where a declared type wants it.
use Rattle.std.specs.Prelude.{ℕ, ◌==◌, not, Bool, true, false, if◌then◌else◌, ℤ, pos, ◌*ℤ◌, List, [], Result, Ok, Err}
use Rattle.std.specs.Fmt.{signed_decimal}
use Rattle.std.specs.Ordering.{int_eq}
use Rattle.currency.specs.HalfEven.{half_even}
use Rattle.currency.specs.Printed.{printed}
use Rattle.vba_base.specs.Answer.{◌>>=◌}
use Rattle.vba_values.specs.declared.fault.Bad.{Bad}
use Rattle.vba_values.specs.declared.types.WholeKind.{WholeKind}
use Rattle.vba_values.specs.declared.types.WholeKind.TheVariants as kind
use Rattle.vba_values.specs.Errors.{type_mismatch, invalid_null}
use Rattle.vba_values.specs.Texts.{amount, boolean_of_text, currency_of_text, of_length, whole_of_text, word_of}
use Rattle.vba_values.specs.Types.{Declared}
use Rattle.vba_values.specs.Types as type
use Rattle.vba_values.specs.Val.{Val, empty, null, missing, boolean, whole, currency, text, object, array, udt}
use Rattle.vba_values.specs.Whole.{boolean_in, ranged}

-- to Boolean: a number is True exactly where it isn't 0
abbrev pub is_nonzero : ℤ → Bool
is_nonzero z = not (int_eq z (pos 0))

abbrev pub to_boolean : Val → Result Val Bad
to_boolean empty = Ok (boolean false)
to_boolean null = Err invalid_null
to_boolean missing = Err type_mismatch
to_boolean (boolean b) = Ok (boolean b)
to_boolean (whole k z) = Ok (boolean (is_nonzero z))
to_boolean (currency count) = Ok (boolean (is_nonzero count))
to_boolean (text t) = boolean_of_text t
to_boolean (object reference) = Err type_mismatch
to_boolean (array bounds element items) = Err type_mismatch
to_boolean (udt place fields) = Err type_mismatch

-- to Byte, Integer, Long or LongLong: fractions are rounded half to even, and Overflow is outside the range
abbrev pub to_whole : WholeKind → Val → Result Val Bad
to_whole k empty = Ok (whole k (pos 0))
to_whole k null = Err invalid_null
to_whole k missing = Err type_mismatch
to_whole k (boolean b) = Ok (whole k (boolean_in k b))
to_whole k (whole from z) = ranged k z
to_whole k (currency count) = ranged k (half_even count 10000)
to_whole k (text t) = whole_of_text k t
to_whole k (object reference) = Err type_mismatch
to_whole k (array bounds element items) = Err type_mismatch
to_whole k (udt place fields) = Err type_mismatch

-- to Currency: the same amount, True as -1; Overflow is outside the range
abbrev pub to_currency : Val → Result Val Bad
to_currency empty = Ok (currency (pos 0))
to_currency null = Err invalid_null
to_currency missing = Err type_mismatch
to_currency (boolean b) = amount (boolean_in kind.Integer b *ℤ pos 10000)
to_currency (whole k z) = amount (z *ℤ pos 10000)
to_currency (currency count) = Ok (currency count)
to_currency (text t) = currency_of_text t
to_currency (object reference) = Err type_mismatch
to_currency (array bounds element items) = Err type_mismatch
to_currency (udt place fields) = Err type_mismatch

-- the text of a value, as CStr gives it
abbrev pub text_of : Val → Result (List ℕ) Bad
text_of empty = Ok []
text_of null = Err invalid_null
text_of missing = Err type_mismatch
text_of (boolean b) = Ok (word_of b)
text_of (whole k z) = Ok (signed_decimal z)
text_of (currency count) = Ok (printed count)
text_of (text t) = Ok t
text_of (object reference) = Err type_mismatch
text_of (array bounds element items) = Err type_mismatch
text_of (udt place fields) = Err type_mismatch

-- to String
abbrev pub to_text : Val → Result Val Bad
to_text v = text_of v >>= λ t. Ok (text t)

-- to String * n: the text, cut or filled with blanks
abbrev pub to_fixed_text : ℕ → Val → Result Val Bad
to_fixed_text size v = text_of v >>= λ t. Ok (text (of_length size t))

-- to Object, a class, Collection, Worksheet or Range: only an object, which Set has tested
abbrev pub to_object : Val → Result Val Bad
to_object empty = Err type_mismatch
to_object null = Err invalid_null
to_object missing = Err type_mismatch
to_object (boolean b) = Err type_mismatch
to_object (whole k z) = Err type_mismatch
to_object (currency count) = Err type_mismatch
to_object (text t) = Err type_mismatch
to_object (object reference) = Ok (object reference)
to_object (array bounds element items) = Err type_mismatch
to_object (udt place fields) = Err type_mismatch

-- to a user-defined type: only a value of that type
abbrev pub to_udt : ℕ → Val → Result Val Bad
to_udt wanted empty = Err type_mismatch
to_udt wanted null = Err invalid_null
to_udt wanted missing = Err type_mismatch
to_udt wanted (boolean b) = Err type_mismatch
to_udt wanted (whole k z) = Err type_mismatch
to_udt wanted (currency count) = Err type_mismatch
to_udt wanted (text t) = Err type_mismatch
to_udt wanted (object reference) = Err type_mismatch
to_udt wanted (array bounds element items) = Err type_mismatch
to_udt wanted (udt place fields) = if place == wanted then Ok (udt place fields) else Err type_mismatch

-- whether two declared types are the same
abbrev pub is_same_type : Declared → Declared → Bool
is_same_type type.boolean type.boolean = true
is_same_type type.byte type.byte = true
is_same_type type.integer type.integer = true
is_same_type type.long type.long = true
is_same_type type.long_long type.long_long = true
is_same_type type.currency type.currency = true
is_same_type type.text type.text = true
is_same_type (type.fixed_text m) (type.fixed_text n) = m == n
is_same_type type.object type.object = true
is_same_type (type.class m) (type.class n) = m == n
is_same_type type.collection type.collection = true
is_same_type type.worksheet type.worksheet = true
is_same_type type.range type.range = true
is_same_type type.variant type.variant = true
is_same_type (type.udt m) (type.udt n) = m == n
is_same_type (type.array_of s) (type.array_of t) = is_same_type s t
is_same_type s t = false

-- to an array: only an array with elements of the same type
abbrev pub to_array : Declared → Val → Result Val Bad
to_array wanted empty = Err type_mismatch
to_array wanted null = Err invalid_null
to_array wanted missing = Err type_mismatch
to_array wanted (boolean b) = Err type_mismatch
to_array wanted (whole k z) = Err type_mismatch
to_array wanted (currency count) = Err type_mismatch
to_array wanted (text t) = Err type_mismatch
to_array wanted (object reference) = Err type_mismatch
to_array wanted (array bounds element items) = if is_same_type element wanted then Ok (array bounds element items) else Err type_mismatch
to_array wanted (udt place fields) = Err type_mismatch

-- the value that a declared type gets: a Variant takes any value as it is
abbrev pub coerce_of : Val → Declared → Result Val Bad
coerce_of v type.boolean = to_boolean v
coerce_of v type.byte = to_whole kind.Byte v
coerce_of v type.integer = to_whole kind.Integer v
coerce_of v type.long = to_whole kind.Long v
coerce_of v type.long_long = to_whole kind.LongLong v
coerce_of v type.currency = to_currency v
coerce_of v type.text = to_text v
coerce_of v (type.fixed_text size) = to_fixed_text size v
coerce_of v type.object = to_object v
coerce_of v (type.class number) = to_object v
coerce_of v type.collection = to_object v
coerce_of v type.worksheet = to_object v
coerce_of v type.range = to_object v
coerce_of v type.variant = Ok v
coerce_of v (type.udt place) = to_udt place v
coerce_of v (type.array_of element) = to_array element v

-- values that a copy takes no memory for
abbrev pub is_flat : Val → Bool
is_flat empty = true
is_flat null = true
is_flat missing = true
is_flat (boolean b) = true
is_flat (whole k z) = true
is_flat (currency count) = true
is_flat (text t) = false
is_flat (object reference) = true
is_flat (array bounds element items) = false
is_flat (udt place fields) = false

abbrev pub is_text : Val → Bool
is_text empty = false
is_text null = false
is_text missing = false
is_text (boolean b) = false
is_text (whole k z) = false
is_text (currency count) = false
is_text (text t) = true
is_text (object reference) = false
is_text (array bounds element items) = false
is_text (udt place fields) = false

-- whether a coercion may want memory: to make a text, to compare one with True and False, or for a copy
abbrev pub takes_memory : Val → Declared → Bool
takes_memory v type.boolean = is_text v
takes_memory v type.byte = false
takes_memory v type.integer = false
takes_memory v type.long = false
takes_memory v type.long_long = false
takes_memory v type.currency = false
takes_memory v type.text = true
takes_memory v (type.fixed_text size) = true
takes_memory v type.object = false
takes_memory v (type.class number) = false
takes_memory v type.collection = false
takes_memory v type.worksheet = false
takes_memory v type.range = false
takes_memory v type.variant = not (is_flat v)
takes_memory v (type.udt place) = true
takes_memory v (type.array_of element) = true
