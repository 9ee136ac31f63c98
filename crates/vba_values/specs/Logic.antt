-- The operators And Or Xor Eqv Imp Not.
use Rattle.std.specs.Prelude.{ℕ, ◌-◌, Bool, true, false, ◌||◌, ◌&&◌, not, ℤ, pos, negsuc, unsigned_abs, bit_and, bit_or, bit_xor, Result, Ok, Err, if◌then◌else◌}
use Rattle.std.specs.Int.{Width, w8, w16, w32, w64, cast_signed, cast_unsigned}
use Rattle.std.specs.Ordering.{int_eq}
use Rattle.vba_base.specs.Answer.{◌>>=◌}
use Rattle.vba_values.specs.declared.fault.Bad.{Bad}
use Rattle.vba_values.specs.declared.types.OpKind.{OpKind}
use Rattle.vba_values.specs.declared.types.OpKind.TheVariants as op
use Rattle.vba_values.specs.declared.types.WholeKind.{WholeKind}
use Rattle.vba_values.specs.declared.types.WholeKind.TheVariants as kind
use Rattle.vba_values.specs.Arithmetic.{as_whole, whole_work}
use Rattle.vba_values.specs.Coerce.{is_nonzero}
use Rattle.vba_values.specs.Errors.{type_mismatch}
use Rattle.vba_values.specs.Operands.{is_no_operand, is_null, work_of, number_of}
use Rattle.vba_values.specs.Val.{Val, empty, null, missing, boolean, whole, currency, text, object, array, udt}

-- on Booleans
abbrev pub logic : OpKind → Bool → Bool → Bool
logic op.And left right = left && right
logic op.Or left right = left || right
logic op.Xor left right = if left then not right else right
logic op.Eqv left right = if left then right else not right
logic o left right = not left || right

-- the bits of a kind
abbrev pub width_of : WholeKind → Width
width_of kind.Byte = w8
width_of kind.Integer = w16
width_of kind.Long = w32
width_of kind.LongLong = w64

-- a number's bits, and the number of bits: a Byte has no sign, the others are in two's complement
abbrev pub bits_of : WholeKind → ℤ → ℕ
bits_of k z = cast_unsigned (width_of k) z

abbrev pub of_bits : WholeKind → ℕ → ℤ
of_bits kind.Byte bits = pos bits
of_bits k bits = cast_signed (width_of k) bits

-- all bits of a kind
abbrev pub all_bits : WholeKind → ℕ
all_bits k = bits_of k (negsuc 0)

-- bit by bit: Eqv is 1 where the bits are alike, Imp where the left one is 0 or the right one is 1
abbrev pub bitwise : OpKind → WholeKind → ℕ → ℕ → ℕ
bitwise op.And k left right = bit_and left right
bitwise op.Or k left right = bit_or left right
bitwise op.Xor k left right = bit_xor left right
bitwise op.Eqv k left right = bit_xor (all_bits k) (bit_xor left right)
bitwise o k left right = bit_or (bit_xor (all_bits k) left) right

abbrev pub bitwise_in : OpKind → WholeKind → ℤ → ℤ → Val
bitwise_in o k left right = whole k (of_bits k (bitwise o k (bits_of k left) (bits_of k right)))

-- bit by bit in the kind of the work
unfoldable pub logic_of_numbers : OpKind → Val → Val → Val
logic_of_numbers o left right = bitwise_in o (whole_work (work_of left right)) (number_of left) (number_of right)

-- two Booleans stay Boolean
abbrev pub logic_of : OpKind → Val → Val → Val
logic_of o (boolean left) (boolean right) = boolean (logic o left right)
logic_of o left right = logic_of_numbers o left right

-- False and 0
abbrev pub is_zero : Val → Bool
is_zero value = not (is_nonzero (number_of value))

-- an operand beside Null as a Boolean or a number: Empty is an Integer 0
abbrev pub beside_null : Val → Val
beside_null empty = whole kind.Integer (pos 0)
beside_null value = value

-- all bits of a value's kind: True, -1, or 255 for a Byte
abbrev pub all_of : Val → Val
all_of (whole k z) = whole k (of_bits k (all_bits k))
all_of value = boolean true

-- a value before Null
abbrev pub before_null : OpKind → Val → Val
before_null op.And value = if is_zero value then value else null
before_null op.Or value = if is_zero value then null else value
before_null op.Imp value = if is_zero value then all_of value else null
before_null o value = null

-- a value behind Null
abbrev pub behind_null : OpKind → Val → Val
behind_null op.And value = if is_zero value then value else null
behind_null op.Or value = if is_zero value then null else value
behind_null op.Imp value = if is_zero value then null else value
behind_null o value = null

-- an operand before Null, and one behind it: Currency and text are first coerced to Long
unfoldable pub logic_before_null : OpKind → Val → Result Val Bad
logic_before_null o left = as_whole left null >>= λ value. Ok (before_null o (beside_null value))

unfoldable pub logic_behind_null : OpKind → Val → Result Val Bad
logic_behind_null o right = as_whole right null >>= λ value. Ok (behind_null o (beside_null value))

-- an operand beside Null
abbrev pub logic_null : OpKind → Val → Val → Result Val Bad
logic_null o left right = if is_null left then logic_behind_null o right else logic_before_null o left

-- Currency and text are first coerced to Long, or to LongLong beside LongLong
unfoldable pub logic_whole : OpKind → Val → Val → Result Val Bad
logic_whole o left right = as_whole left right >>= λ l. as_whole right left >>= λ r. Ok (logic_of o l r)

-- And Or Xor Eqv Imp
abbrev pub logical : OpKind → Val → Val → Result Val Bad
logical o left right =
    if is_no_operand left || is_no_operand right then Err type_mismatch
    else if is_null left || is_null right then logic_null o left right
    else logic_whole o left right

-- each bit of a value turned; a Boolean stays Boolean, Empty is an Integer 0
abbrev pub complement : Val → Val
complement null = null
complement (boolean b) = boolean (not b)
complement (whole k z) = whole k (of_bits k (bit_xor (all_bits k) (bits_of k z)))
complement value = whole kind.Integer (negsuc 0)

-- Not
abbrev pub logical_not : Val → Result Val Bad
logical_not value = if is_no_operand value then Err type_mismatch else as_whole value null >>= λ v. Ok (complement v)
