-- Worked rows of the operators.
use Rattle.std.specs.Prelude.{◌≡◌, ℕ, true, false, ℤ, pos, negsuc, List, codes, Ok, Err, Some, None, refl}
use Rattle.currency.specs.HalfEven.{nearest}
use Rattle.currency.specs.NumberText.{read, read_digits}
use Rattle.vba_values.specs.Arithmetic.{division}
use Rattle.vba_values.specs.Comparison.{compare_as_texts}
use Rattle.vba_values.specs.Logic.{logic_before_null, logic_behind_null}
use Rattle.vba_values.specs.Operators.{join}
use Rattle.vba_values.specs.declared.fault.Bad.TheVariants.{Raise, Outside}
use Rattle.vba_values.specs.declared.fault.OutKind.TheVariants.{DoubleResult}
use Rattle.vba_values.specs.declared.types.OpKind.TheVariants as op
use Rattle.vba_values.specs.declared.types.WholeKind.TheVariants as kind
use Rattle.vba_values.specs.declared.types.Compare.TheVariants.{Binary}
use Rattle.vba_values.specs.Operators.{binary_of, unary_of}
use Rattle.vba_values.specs.StaticTypes.{static_of}
use Rattle.vba_values.specs.Types as type
use Rattle.vba_values.specs.Val.{empty, null, boolean, whole, currency, text}

-- 200 * 200 overflows as Integers, and is a Long beside a Variant
pub product_overflows : binary_of op.Mul (whole kind.Integer (pos 200)) type.integer (whole kind.Integer (pos 200)) type.integer Binary ≡ Err (Raise 6)
product_overflows = refl

pub product_widens : binary_of op.Mul (whole kind.Integer (pos 200)) type.variant (whole kind.Integer (pos 200)) type.integer Binary ≡ Ok (whole kind.Long (pos 40000))
product_widens = refl

pub past_long : binary_of op.Add (whole kind.Long (pos 2147483647)) type.variant (whole kind.Integer (pos 1)) type.integer Binary ≡ Err (Outside DoubleResult)
past_long = refl

-- 0.0001@ * 0.5@ is 0, 0.0003@ * 0.5@ is 0.0002
pub half_even_down : binary_of op.Mul (currency (pos 1)) type.currency (currency (pos 5000)) type.currency Binary ≡ Ok (currency (pos 0))
unfolding nearest
half_even_down = refl

pub half_even_up : binary_of op.Mul (currency (pos 3)) type.currency (currency (pos 5000)) type.currency Binary ≡ Ok (currency (pos 2))
unfolding nearest
half_even_up = refl

pub least_by_minus_one : binary_of op.IntDiv (whole kind.Long (negsuc 2147483647)) type.long (whole kind.Integer (negsuc 0)) type.integer Binary ≡ Err (Raise 6)
unfolding division
least_by_minus_one = refl

pub remainder_sign : binary_of op.Mod (whole kind.Integer (negsuc 6)) type.integer (whole kind.Integer (pos 3)) type.integer Binary ≡ Ok (whole kind.Integer (negsuc 0))
unfolding division
remainder_sign = refl

pub by_zero : binary_of op.IntDiv (whole kind.Integer (pos 10)) type.integer (whole kind.Long (pos 0)) type.long Binary ≡ Err (Raise 11)
unfolding division
by_zero = refl

pub empty_and_null : binary_of op.And empty type.variant null type.variant Binary ≡ Ok (whole kind.Integer (pos 0))
unfolding logic_before_null
empty_and_null = refl

pub empty_imp_null : binary_of op.Imp empty type.variant null type.variant Binary ≡ Ok (whole kind.Integer (negsuc 0))
unfolding logic_before_null
empty_imp_null = refl

pub byte_imp_null : binary_of op.Imp (whole kind.Byte (pos 0)) type.byte null type.variant Binary ≡ Ok (whole kind.Byte (pos 255))
unfolding logic_before_null
byte_imp_null = refl

pub null_xor_null : binary_of op.Xor null type.variant null type.variant Binary ≡ Ok null
unfolding logic_behind_null
null_xor_null = refl

pub null_imp_number : binary_of op.Imp null type.variant (whole kind.Long (pos 7)) type.long Binary ≡ Ok (whole kind.Long (pos 7))
unfolding logic_behind_null
null_imp_number = refl

pub byte_minus : unary_of op.Neg (whole kind.Byte (pos 5)) type.byte ≡ Ok (whole kind.Integer (negsuc 4))
byte_minus = refl

pub not_five : unary_of op.Not (whole kind.Integer (pos 5)) type.integer ≡ Ok (whole kind.Integer (negsuc 5))
not_five = refl

pub number_below_text : binary_of op.Lt (whole kind.Integer (pos 9)) type.variant (text (codes "10")) type.variant Binary ≡ Ok (boolean true)
number_below_text = refl

pub declared_with_text : binary_of op.Eq (whole kind.Integer (pos 10)) type.integer (text (codes "10.0")) type.variant Binary ≡ Ok (boolean true)
unfolding read read_digits
declared_with_text = refl

-- a declared String beside a Variant True compares with its text
pub string_with_variant : binary_of op.Lt (text (codes "U")) type.text (boolean true) type.variant Binary ≡ Ok (boolean false)
unfolding compare_as_texts
string_with_variant = refl

pub joined_nulls : binary_of op.Join null type.variant null type.variant Binary ≡ Ok null
unfolding join
joined_nulls = refl

pub string_times_number : static_of op.Mul type.text type.long ≡ None
string_times_number = refl

pub minus_of_byte : static_of op.Neg type.byte type.byte ≡ Some type.integer
minus_of_byte = refl
