-- The tables, checked on rows that are written out.
use Rattle.std.specs.Prelude.{◌≡◌, [], ◌∷◌, true, false, pos, negsuc, codes, Ok, Err, refl}
use Rattle.std.specs.Fmt.{digits}
use Rattle.currency.specs.HalfEven.{nearest}
use Rattle.currency.specs.NumberText.{read, read_digits}
use Rattle.currency.specs.Printed.{printed}
use Rattle.vba_values.specs.declared.types.WholeKind.TheVariants.{Byte, Integer, Long}
use Rattle.vba_values.specs.Coerce.{coerce_of, text_of}
use Rattle.vba_values.specs.Errors.{overflow, type_mismatch, invalid_null, number_text}
use Rattle.vba_values.specs.Texts.{boolean_of_numeral}
use Rattle.vba_values.specs.Types as type
use Rattle.vba_values.specs.Val.{empty, null, missing, boolean, whole, currency, text, array, no_vals}

-- CLng(2.5@) is 2, CLng(3.5@) is 4, and CLng(-2.5@) is -2
long_of_two_and_a_half : coerce_of (currency (pos 25000)) type.long ≡ Ok (whole Long (pos 2))
unfolding nearest
long_of_two_and_a_half = refl

long_of_three_and_a_half : coerce_of (currency (pos 35000)) type.long ≡ Ok (whole Long (pos 4))
unfolding nearest
long_of_three_and_a_half = refl

long_of_minus_two_and_a_half : coerce_of (currency (negsuc 24999)) type.long ≡ Ok (whole Long (negsuc 1))
unfolding nearest
long_of_minus_two_and_a_half = refl

-- CLng("2.5") is 2, CLng(" -3.5 ") is -4, and CLng("5.") is 5
long_of_text : coerce_of (text (codes "2.5")) type.long ≡ Ok (whole Long (pos 2))
unfolding nearest read read_digits
long_of_text = refl

long_of_blank_text : coerce_of (text (codes " -3.5 ")) type.long ≡ Ok (whole Long (negsuc 3))
unfolding nearest read read_digits
long_of_blank_text = refl

long_of_last_point : coerce_of (text (codes "5.")) type.long ≡ Ok (whole Long (pos 5))
unfolding nearest read read_digits
long_of_last_point = refl

-- rounded once: 2.50001 is 3, and not first 2.5 and then 2
rounded_once : coerce_of (text (codes "2.50001")) type.byte ≡ Ok (whole Byte (pos 3))
unfolding nearest read read_digits
rounded_once = refl

-- texts that stop the run, and texts that raise Type mismatch
exponent : coerce_of (text (codes "1e3")) type.long ≡ Err number_text
unfolding read read_digits
exponent = refl

first_point : coerce_of (text (codes ".5")) type.currency ≡ Err number_text
unfolding read read_digits
first_point = refl

hexadecimal : coerce_of (text (codes "&HXYZ")) type.byte ≡ Err number_text
unfolding read read_digits
hexadecimal = refl

no_digit : coerce_of (text (codes "-.")) type.long ≡ Err type_mismatch
unfolding read read_digits
no_digit = refl

letters : coerce_of (text (codes "12x")) type.long ≡ Err type_mismatch
unfolding read read_digits
letters = refl

tab : coerce_of (text (9 ∷ 53 ∷ [])) type.long ≡ Err type_mismatch
unfolding read read_digits
tab = refl

-- True is 255 as a Byte, and -1 otherwise
true_as_byte : coerce_of (boolean true) type.byte ≡ Ok (whole Byte (pos 255))
true_as_byte = refl

true_as_integer : coerce_of (boolean true) type.integer ≡ Ok (whole Integer (negsuc 0))
true_as_integer = refl

true_as_currency : coerce_of (boolean true) type.currency ≡ Ok (currency (negsuc 9999))
true_as_currency = refl

-- 40000 is no Integer, and 255 is the last Byte
integer_overflow : coerce_of (whole Long (pos 40000)) type.integer ≡ Err overflow
integer_overflow = refl

last_byte : coerce_of (whole Long (pos 255)) type.byte ≡ Ok (whole Byte (pos 255))
last_byte = refl

byte_overflow : coerce_of (whole Long (pos 256)) type.byte ≡ Err overflow
byte_overflow = refl

no_negative_byte : coerce_of (whole Integer (negsuc 0)) type.byte ≡ Err overflow
no_negative_byte = refl

-- as a number text "0.00001" is True, and "-0" is False
tiny_is_true : boolean_of_numeral (codes "0.00001") (read (codes "0.00001")) ≡ Ok (boolean true)
unfolding read read_digits
tiny_is_true = refl

minus_zero_is_false : boolean_of_numeral (codes "-0") (read (codes "-0")) ≡ Ok (boolean false)
unfolding read read_digits
minus_zero_is_false = refl

-- texts of values
text_of_whole : text_of (whole Integer (negsuc 41)) ≡ Ok (codes "-42")
unfolding digits
text_of_whole = refl

text_of_currency : text_of (currency (negsuc 4999)) ≡ Ok (codes "-0.5")
unfolding printed digits
text_of_currency = refl

text_of_null : text_of null ≡ Err invalid_null
text_of_null = refl

-- String * 3 of "True" and of ""
cut_text : coerce_of (boolean true) (type.fixed_text 3) ≡ Ok (text (codes "Tru"))
cut_text = refl

blank_text : coerce_of empty (type.fixed_text 3) ≡ Ok (text (codes "   "))
blank_text = refl

-- an array of String * 4 is none of String * 5
array_of_another_length : coerce_of (array [] (type.fixed_text 4) no_vals) (type.array_of (type.fixed_text 5)) ≡ Err type_mismatch
array_of_another_length = refl

array_of_the_same : coerce_of (array [] type.long no_vals) (type.array_of type.long) ≡ Ok (array [] type.long no_vals)
array_of_the_same = refl

-- a Variant takes Missing and Null as they are
missing_in_variant : coerce_of missing type.variant ≡ Ok missing
missing_in_variant = refl

null_in_object : coerce_of null type.object ≡ Err invalid_null
null_in_object = refl
