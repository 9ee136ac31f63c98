-- The definitions, checked on rows that are written out.
use Rattle.std.specs.Prelude.{◌≡◌, pos, negsuc, true, false, [], ◌∷◌, codes, Some, None, Ok, Err, refl}
use Rattle.std.specs.Fmt.{digits}
use Rattle.caseless.proofs.Computing.{caseless}
use Rattle.currency.specs.HalfEven.{nearest}
use Rattle.currency.specs.NumberText.{read, read_digits}
use Rattle.vba_base.specs.Fold.{folded}
use Rattle.vba_values.specs.declared.fault.Bad.TheVariants.{Raise, Outside}
use Rattle.vba_values.specs.declared.fault.OutKind.TheVariants.{DoubleResult, NumberText, TextLength}
use Rattle.vba_values.specs.declared.object.HostRef.TheVariants.{RowsOf, Sheet}
use Rattle.vba_values.specs.declared.object.ObjRef.TheVariants.{Nothing, Host}
use Rattle.vba_values.specs.declared.types.Compare.TheVariants.{Binary, Folded}
use Rattle.vba_values.specs.declared.types.WholeKind.TheVariants.{Byte, Integer, Long, LongLong}
use Rattle.vba_values.specs.Types as type
use Rattle.vba_values.specs.Val.{empty, null, missing, boolean, whole, currency, text, object, array, no_vals, vals_of}
use Rattle.vba_lib.specs.declared.function.LibraryFunction.TheVariants as function
use Rattle.vba_lib.specs.Characters.{place_from_80}
use Rattle.vba_lib.specs.Library.{arity_of, declared_of, has_text_form, library_of}
use Rattle.vba_lib.specs.Names.{constant_named, function_named, is_outside}

-- Len("abc") is 3, Len(True) is 4, and Len(Null) is Null
len_of_text : library_of function.Len false ((text (codes "abc")) ∷ []) Binary (pos 0) ≡ Ok (whole Long (pos 3))
len_of_text = refl

len_of_true : library_of function.Len false ((boolean true) ∷ []) Binary (pos 0) ≡ Ok (whole Long (pos 4))
len_of_true = refl

len_of_null : library_of function.Len false (null ∷ []) Binary (pos 0) ≡ Ok null
len_of_null = refl

-- Left("abc", 2) is "ab", Left("abc", 5) is "abc", and Left("abc", -1) raises 5
left_two : library_of function.Left false ((text (codes "abc")) ∷ (whole Long (pos 2)) ∷ []) Binary (pos 0) ≡ Ok (text (codes "ab"))
left_two = refl

left_more : library_of function.Left false ((text (codes "abc")) ∷ (whole Long (pos 5)) ∷ []) Binary (pos 0) ≡ Ok (text (codes "abc"))
left_more = refl

left_negative : library_of function.Left false ((text (codes "abc")) ∷ (whole Long (negsuc 0)) ∷ []) Binary (pos 0) ≡ Err (Raise 5)
left_negative = refl

-- Left(12, "1") is "1"
left_of_number : library_of function.Left false ((whole Long (pos 12)) ∷ (text (codes "1")) ∷ []) Binary (pos 0) ≡ Ok (text (codes "1"))
unfolding digits nearest read read_digits
left_of_number = refl

-- Right("abc", 2) is "bc", and Right("abc", 0) is ""
right_two : library_of function.Right false ((text (codes "abc")) ∷ (whole Long (pos 2)) ∷ []) Binary (pos 0) ≡ Ok (text (codes "bc"))
right_two = refl

right_none : library_of function.Right false ((text (codes "abc")) ∷ (whole Long (pos 0)) ∷ []) Binary (pos 0) ≡ Ok (text [])
right_none = refl

-- Mid("abc", 2) is "bc", Mid("abc", 2, 1) is "b", and Mid("abc", 9) is ""
mid_from : library_of function.Mid false ((text (codes "abc")) ∷ (whole Long (pos 2)) ∷ []) Binary (pos 0) ≡ Ok (text (codes "bc"))
mid_from = refl

mid_one : library_of function.Mid false ((text (codes "abc")) ∷ (whole Long (pos 2)) ∷ (whole Long (pos 1)) ∷ []) Binary (pos 0) ≡ Ok (text (codes "b"))
mid_one = refl

mid_past : library_of function.Mid false ((text (codes "abc")) ∷ (whole Long (pos 9)) ∷ []) Binary (pos 0) ≡ Ok (text [])
mid_past = refl

-- Mid("abc", 0) and Mid("abc", 1, -1) raise 5
mid_start_0 : library_of function.Mid false ((text (codes "abc")) ∷ (whole Long (pos 0)) ∷ []) Binary (pos 0) ≡ Err (Raise 5)
mid_start_0 = refl

mid_negative : library_of function.Mid false ((text (codes "abc")) ∷ (whole Long (pos 1)) ∷ (whole Long (negsuc 0)) ∷ []) Binary (pos 0) ≡ Err (Raise 5)
mid_negative = refl

-- Mid("abc", 0, Null) is Null, Mid$("abc", 0, Null) raises 94, and Mid("abc", 2, ) raises 13
mid_of_null : library_of function.Mid false ((text (codes "abc")) ∷ (whole Long (pos 0)) ∷ null ∷ []) Binary (pos 0) ≡ Ok null
mid_of_null = refl

mid_text_of_null : library_of function.Mid true ((text (codes "abc")) ∷ (whole Long (pos 0)) ∷ null ∷ []) Binary (pos 0) ≡ Err (Raise 94)
mid_text_of_null = refl

mid_missing : library_of function.Mid false ((text (codes "abc")) ∷ (whole Long (pos 2)) ∷ missing ∷ []) Binary (pos 0) ≡ Err (Raise 13)
mid_missing = refl

-- InStr("abcb", "b") is 2, InStr(3, "abcb", "b") is 4, and InStr("abc", "x") is 0
in_str_first : library_of function.InStr false ((text (codes "abcb")) ∷ (text (codes "b")) ∷ []) Binary (pos 0) ≡ Ok (whole Long (pos 2))
in_str_first = refl

in_str_from_three : library_of function.InStr false ((whole Long (pos 3)) ∷ (text (codes "abcb")) ∷ (text (codes "b")) ∷ []) Binary (pos 0) ≡ Ok (whole Long (pos 4))
in_str_from_three = refl

in_str_none : library_of function.InStr false ((text (codes "abc")) ∷ (text (codes "x")) ∷ []) Binary (pos 0) ≡ Ok (whole Long (pos 0))
in_str_none = refl

-- InStr(2, "abc", "") is 2, InStr(4, "abc", "") is 0, and so is InStr("", "")
in_str_empty : library_of function.InStr false ((whole Long (pos 2)) ∷ (text (codes "abc")) ∷ (text []) ∷ []) Binary (pos 0) ≡ Ok (whole Long (pos 2))
in_str_empty = refl

in_str_empty_past : library_of function.InStr false ((whole Long (pos 4)) ∷ (text (codes "abc")) ∷ (text []) ∷ []) Binary (pos 0) ≡ Ok (whole Long (pos 0))
in_str_empty_past = refl

in_str_of_empty : library_of function.InStr false ((text []) ∷ (text []) ∷ []) Binary (pos 0) ≡ Ok (whole Long (pos 0))
in_str_of_empty = refl

-- InStr(0, "abc", "a") raises 5, and InStr(0, Null, "a") is Null
in_str_start_0 : library_of function.InStr false ((whole Long (pos 0)) ∷ (text (codes "abc")) ∷ (text (codes "a")) ∷ []) Binary (pos 0) ≡ Err (Raise 5)
in_str_start_0 = refl

in_str_of_null : library_of function.InStr false ((whole Long (pos 0)) ∷ null ∷ (text (codes "a")) ∷ []) Binary (pos 0) ≡ Ok null
in_str_of_null = refl

-- InStr(1, "aB", "b") is 0, but 2 with 1 behind it; with 7 behind it the module says
in_str_case : library_of function.InStr false ((whole Long (pos 1)) ∷ (text (codes "aB")) ∷ (text (codes "b")) ∷ []) Binary (pos 0) ≡ Ok (whole Long (pos 0))
in_str_case = refl

in_str_folded : library_of function.InStr false ((whole Long (pos 1)) ∷ (text (codes "aB")) ∷ (text (codes "b")) ∷ (whole Long (pos 1)) ∷ []) Binary (pos 0) ≡ Ok (whole Long (pos 2))
unfolding folded caseless
in_str_folded = refl

in_str_binary : library_of function.InStr false ((whole Long (pos 1)) ∷ (text (codes "aB")) ∷ (text (codes "b")) ∷ (whole Long (pos 0)) ∷ []) Folded (pos 0) ≡ Ok (whole Long (pos 0))
in_str_binary = refl

in_str_module : library_of function.InStr false ((whole Long (pos 1)) ∷ (text (codes "aB")) ∷ (text (codes "b")) ∷ (whole Long (pos 7)) ∷ []) Folded (pos 0) ≡ Ok (whole Long (pos 2))
unfolding folded caseless
in_str_module = refl

-- under Option Compare Text a sharp s is found as ss, and as no single s
in_str_sharp : library_of function.InStr false ((text (0x78 ∷ 0xdf ∷ [])) ∷ (text (codes "SS")) ∷ []) Folded (pos 0) ≡ Ok (whole Long (pos 2))
unfolding folded caseless
in_str_sharp = refl

in_str_half_sharp : library_of function.InStr false ((text (0x78 ∷ 0xdf ∷ [])) ∷ (text (codes "s")) ∷ []) Folded (pos 0) ≡ Ok (whole Long (pos 0))
unfolding folded caseless
in_str_half_sharp = refl

-- a slice may end inside of a pair of surrogates
in_str_half_pair : library_of function.InStr false ((text (0xd801 ∷ 0xdc00 ∷ [])) ∷ (text (0xd801 ∷ [])) ∷ []) Folded (pos 0) ≡ Ok (whole Long (pos 1))
unfolding folded caseless
in_str_half_pair = refl

-- UCase and LCase change the letters of ASCII alone
u_case_ascii : library_of function.UCase false ((text (0x61 ∷ 0xe4 ∷ 0x5a ∷ [])) ∷ []) Binary (pos 0) ≡ Ok (text (0x41 ∷ 0xe4 ∷ 0x5a ∷ []))
u_case_ascii = refl

l_case_ascii : library_of function.LCase false ((text (0x41 ∷ 0xc4 ∷ 0x7a ∷ [])) ∷ []) Binary (pos 0) ≡ Ok (text (0x61 ∷ 0xc4 ∷ 0x7a ∷ []))
l_case_ascii = refl

-- Trim(" a b ") is "a b", LTrim keeps the blank behind and RTrim the one before, and a tab is no blank
trim_both : library_of function.Trim false ((text (codes " a b ")) ∷ []) Binary (pos 0) ≡ Ok (text (codes "a b"))
trim_both = refl

trim_before : library_of function.LTrim false ((text (codes " a b ")) ∷ []) Binary (pos 0) ≡ Ok (text (codes "a b "))
trim_before = refl

trim_behind : library_of function.RTrim false ((text (codes " a b ")) ∷ []) Binary (pos 0) ≡ Ok (text (codes " a b"))
trim_behind = refl

trim_blanks : library_of function.Trim false ((text (codes "  ")) ∷ []) Binary (pos 0) ≡ Ok (text [])
trim_blanks = refl

trim_tab : library_of function.Trim false ((text (9 ∷ [])) ∷ []) Binary (pos 0) ≡ Ok (text (9 ∷ []))
trim_tab = refl

-- Space(3), Space(-1) raises 5, and Space(16777217) is too long
space_three : library_of function.Space false ((whole Long (pos 3)) ∷ []) Binary (pos 0) ≡ Ok (text (codes "   "))
space_three = refl

space_negative : library_of function.Space false ((whole Long (negsuc 0)) ∷ []) Binary (pos 0) ≡ Err (Raise 5)
space_negative = refl

space_long : library_of function.Space false ((whole Long (pos 16777217)) ∷ []) Binary (pos 0) ≡ Err (Outside TextLength)
space_long = refl

space_of_null : library_of function.Space false (null ∷ []) Binary (pos 0) ≡ Err (Raise 94)
space_of_null = refl

-- String(3, "ab") is "aaa", String(2, 65) is "AA", and so is String(2, 321)
string_of_text : library_of function.String false ((whole Long (pos 3)) ∷ (text (codes "ab")) ∷ []) Binary (pos 0) ≡ Ok (text (codes "aaa"))
string_of_text = refl

string_of_number : library_of function.String false ((whole Long (pos 2)) ∷ (whole Long (pos 65)) ∷ []) Binary (pos 0) ≡ Ok (text (codes "AA"))
string_of_number = refl

string_modulo : library_of function.String false ((whole Long (pos 2)) ∷ (whole Long (pos 321)) ∷ []) Binary (pos 0) ≡ Ok (text (codes "AA"))
string_modulo = refl

-- String(1, 128) is the Euro sign
string_euro : library_of function.String false ((whole Long (pos 1)) ∷ (whole Long (pos 128)) ∷ []) Binary (pos 0) ≡ Ok (text (0x20ac ∷ []))
string_euro = refl

-- String(n, "") and String(n, Empty) raise 5, and so do a number below 0, True as -1, and n below 0
string_of_empty_text : library_of function.String false ((whole Long (pos 2)) ∷ (text []) ∷ []) Binary (pos 0) ≡ Err (Raise 5)
string_of_empty_text = refl

string_of_empty : library_of function.String false ((whole Long (pos 2)) ∷ empty ∷ []) Binary (pos 0) ≡ Err (Raise 5)
string_of_empty = refl

string_below : library_of function.String false ((whole Long (pos 2)) ∷ (whole Long (negsuc 0)) ∷ []) Binary (pos 0) ≡ Err (Raise 5)
string_below = refl

string_of_true : library_of function.String false ((whole Long (pos 2)) ∷ (boolean true) ∷ []) Binary (pos 0) ≡ Err (Raise 5)
string_of_true = refl

string_negative : library_of function.String false ((whole Long (negsuc 0)) ∷ (text (codes "a")) ∷ []) Binary (pos 0) ≡ Err (Raise 5)
string_negative = refl

string_of_missing : library_of function.String false ((whole Long (pos 2)) ∷ missing ∷ []) Binary (pos 0) ≡ Err (Raise 13)
string_of_missing = refl

-- ChrW(-32768) is the unit 32768, ChrW(65535) the last one, and ChrW(65536) raises 5
chr_w_least : library_of function.ChrW false ((whole Long (negsuc 32767)) ∷ []) Binary (pos 0) ≡ Ok (text (32768 ∷ []))
chr_w_least = refl

chr_w_last : library_of function.ChrW false ((whole Long (pos 65535)) ∷ []) Binary (pos 0) ≡ Ok (text (65535 ∷ []))
chr_w_last = refl

chr_w_past : library_of function.ChrW false ((whole Long (pos 65536)) ∷ []) Binary (pos 0) ≡ Err (Raise 5)
chr_w_past = refl

chr_w_below : library_of function.ChrW false ((whole Long (negsuc 32768)) ∷ []) Binary (pos 0) ≡ Err (Raise 5)
chr_w_below = refl

-- AscW of the unit 65535 is -1, and AscW("") raises 5
asc_w_last : library_of function.AscW false ((text (65535 ∷ [])) ∷ []) Binary (pos 0) ≡ Ok (whole Integer (negsuc 0))
asc_w_last = refl

asc_w_empty : library_of function.AscW false ((text []) ∷ []) Binary (pos 0) ≡ Err (Raise 5)
asc_w_empty = refl

-- Chr(128) is the Euro sign, Chr(129) a control, and Chr(256) raises 5
chr_euro : library_of function.Chr false ((whole Long (pos 128)) ∷ []) Binary (pos 0) ≡ Ok (text (0x20ac ∷ []))
chr_euro = refl

chr_control : library_of function.Chr false ((whole Long (pos 129)) ∷ []) Binary (pos 0) ≡ Ok (text (0x81 ∷ []))
chr_control = refl

chr_past : library_of function.Chr false ((whole Long (pos 256)) ∷ []) Binary (pos 0) ≡ Err (Raise 5)
chr_past = refl

chr_below : library_of function.Chr false ((whole Long (negsuc 0)) ∷ []) Binary (pos 0) ≡ Err (Raise 5)
chr_below = refl

-- Asc of the Euro sign is 128, of a character without a code 63, and Asc("") raises 5
asc_euro : library_of function.Asc false ((text (0x20ac ∷ [])) ∷ []) Binary (pos 0) ≡ Ok (whole Integer (pos 128))
unfolding place_from_80
asc_euro = refl

asc_none : library_of function.Asc false ((text (0x3b1 ∷ [])) ∷ []) Binary (pos 0) ≡ Ok (whole Integer (pos 63))
unfolding place_from_80
asc_none = refl

asc_control : library_of function.Asc false ((text (0x80 ∷ [])) ∷ []) Binary (pos 0) ≡ Ok (whole Integer (pos 63))
unfolding place_from_80
asc_control = refl

asc_empty : library_of function.Asc false ((text []) ∷ []) Binary (pos 0) ≡ Err (Raise 5)
asc_empty = refl

-- Replace("aaa", "aa", "b") is "ba", and an empty find changes nothing
replace_each : library_of function.Replace false ((text (codes "aaa")) ∷ (text (codes "aa")) ∷ (text (codes "b")) ∷ []) Binary (pos 0) ≡ Ok (text (codes "ba"))
replace_each = refl

replace_none : library_of function.Replace false ((text (codes "abc")) ∷ (text []) ∷ (text (codes "x")) ∷ []) Binary (pos 0) ≡ Ok (text (codes "abc"))
replace_none = refl

replace_by_nothing : library_of function.Replace false ((text (codes "a-b-")) ∷ (text (codes "-")) ∷ (text []) ∷ []) Binary (pos 0) ≡ Ok (text (codes "ab"))
replace_by_nothing = refl

replace_of_null : library_of function.Replace false (null ∷ (text (codes "a")) ∷ (text (codes "b")) ∷ []) Binary (pos 0) ≡ Err (Raise 94)
replace_of_null = refl

-- Split("a b") has two elements from 0, Split("") has none, and an empty separator gives all as one
split_blank : library_of function.Split false ((text (codes "a b")) ∷ []) Binary (pos 0) ≡ Ok (array (record { low = pos 0; high = pos 1 } ∷ []) type.text (vals_of ((text (codes "a")) ∷ (text (codes "b")) ∷ [])))
split_blank = refl

split_of_empty : library_of function.Split false ((text []) ∷ []) Binary (pos 0) ≡ Ok (array (record { low = pos 0; high = negsuc 0 } ∷ []) type.text (vals_of ([])))
split_of_empty = refl

split_by_empty : library_of function.Split false ((text (codes "a b")) ∷ (text []) ∷ []) Binary (pos 0) ≡ Ok (array (record { low = pos 0; high = pos 0 } ∷ []) type.text (vals_of ((text (codes "a b")) ∷ [])))
split_by_empty = refl

-- Split(",a,", ",") has an empty text at each end
split_comma : library_of function.Split false ((text (codes ",a,")) ∷ (text (codes ",")) ∷ []) Binary (pos 0) ≡ Ok (array (record { low = pos 0; high = pos 2 } ∷ []) type.text (vals_of ((text []) ∷ (text (codes "a")) ∷ (text []) ∷ [])))
split_comma = refl

split_of_null : library_of function.Split false (null ∷ []) Binary (pos 0) ≡ Err (Raise 94)
split_of_null = refl

-- Join puts a blank between the elements unless another text is given
join_blank : library_of function.Join false ((array (record { low = pos 3; high = pos 4 } ∷ []) type.variant (vals_of ((text (codes "a")) ∷ (whole Long (pos 1)) ∷ []))) ∷ []) Binary (pos 0) ≡ Ok (text (codes "a 1"))
unfolding digits
join_blank = refl

join_comma : library_of function.Join false ((array (record { low = pos 3; high = pos 4 } ∷ []) type.variant (vals_of ((text (codes "a")) ∷ (whole Long (pos 1)) ∷ []))) ∷ (text (codes ", ")) ∷ []) Binary (pos 0) ≡ Ok (text (codes "a, 1"))
unfolding digits
join_comma = refl

-- Join of no elements is "", of what has no bounds or is no array raises 13, and of Null 94; so do its elements
join_none : library_of function.Join false ((array (record { low = pos 0; high = negsuc 0 } ∷ []) type.text (vals_of ([]))) ∷ []) Binary (pos 0) ≡ Ok (text [])
join_none = refl

join_no_storage : library_of function.Join false ((array [] type.text no_vals) ∷ []) Binary (pos 0) ≡ Err (Raise 13)
join_no_storage = refl

join_of_text : library_of function.Join false ((text (codes "a")) ∷ []) Binary (pos 0) ≡ Err (Raise 13)
join_of_text = refl

join_of_null : library_of function.Join false (null ∷ []) Binary (pos 0) ≡ Err (Raise 94)
join_of_null = refl

join_null_element : library_of function.Join false ((array (record { low = pos 0; high = pos 0 } ∷ []) type.variant (vals_of (null ∷ []))) ∷ []) Binary (pos 0) ≡ Err (Raise 94)
join_null_element = refl

join_object_element : library_of function.Join false ((array (record { low = pos 0; high = pos 0 } ∷ []) type.variant (vals_of ((object Nothing) ∷ []))) ∷ []) Binary (pos 0) ≡ Err (Raise 13)
join_object_element = refl

-- UBound and LBound of the first bound, and of a numbered one
u_bound_first : library_of function.UBound false ((array (record { low = pos 3; high = pos 4 } ∷ []) type.variant (vals_of ((text (codes "a")) ∷ (whole Long (pos 1)) ∷ []))) ∷ []) Binary (pos 0) ≡ Ok (whole Long (pos 4))
u_bound_first = refl

l_bound_first : library_of function.LBound false ((array (record { low = pos 3; high = pos 4 } ∷ []) type.variant (vals_of ((text (codes "a")) ∷ (whole Long (pos 1)) ∷ []))) ∷ (whole Long (pos 1)) ∷ []) Binary (pos 0) ≡ Ok (whole Long (pos 3))
l_bound_first = refl

-- the array of the bounds 0 to 1048575
u_bound_large : library_of function.UBound false ((array (record { low = pos 0; high = pos 1048575 } ∷ []) type.byte no_vals) ∷ []) Binary (pos 0) ≡ Ok (whole Long (pos 1048575))
u_bound_large = refl

-- UBound(a, 0) and UBound(a, 2) raise 9, and so does an array without storage
u_bound_0 : library_of function.UBound false ((array (record { low = pos 3; high = pos 4 } ∷ []) type.variant (vals_of ((text (codes "a")) ∷ (whole Long (pos 1)) ∷ []))) ∷ (whole Long (pos 0)) ∷ []) Binary (pos 0) ≡ Err (Raise 9)
u_bound_0 = refl

u_bound_2 : library_of function.UBound false ((array (record { low = pos 3; high = pos 4 } ∷ []) type.variant (vals_of ((text (codes "a")) ∷ (whole Long (pos 1)) ∷ []))) ∷ (whole Long (pos 2)) ∷ []) Binary (pos 0) ≡ Err (Raise 9)
u_bound_2 = refl

u_bound_no_storage : library_of function.UBound false ((array [] type.long no_vals) ∷ []) Binary (pos 0) ≡ Err (Raise 9)
u_bound_no_storage = refl

-- UBound(Null) raises 13, UBound(a, Null) raises 94
u_bound_of_null : library_of function.UBound false (null ∷ []) Binary (pos 0) ≡ Err (Raise 13)
u_bound_of_null = refl

u_bound_null : library_of function.UBound false ((array (record { low = pos 3; high = pos 4 } ∷ []) type.variant (vals_of ((text (codes "a")) ∷ (whole Long (pos 1)) ∷ []))) ∷ null ∷ []) Binary (pos 0) ≡ Err (Raise 94)
u_bound_null = refl

-- the tests of kinds
is_empty : library_of function.IsEmpty false (empty ∷ []) Binary (pos 0) ≡ Ok (boolean true)
is_empty = refl

is_null_of_null : library_of function.IsNull false (null ∷ []) Binary (pos 0) ≡ Ok (boolean true)
is_null_of_null = refl

is_object_of_nothing : library_of function.IsObject false ((object Nothing) ∷ []) Binary (pos 0) ≡ Ok (boolean true)
is_object_of_nothing = refl

is_array_of_array : library_of function.IsArray false ((array (record { low = pos 3; high = pos 4 } ∷ []) type.variant (vals_of ((text (codes "a")) ∷ (whole Long (pos 1)) ∷ []))) ∷ []) Binary (pos 0) ≡ Ok (boolean true)
is_array_of_array = refl

is_missing_of_missing : library_of function.IsMissing false (missing ∷ []) Binary (pos 0) ≡ Ok (boolean true)
is_missing_of_missing = refl

is_missing_of_empty : library_of function.IsMissing false (empty ∷ []) Binary (pos 0) ≡ Ok (boolean false)
is_missing_of_empty = refl

-- TypeName: of an array it is its element type with () behind it
type_name_of_long : library_of function.TypeName false ((whole Long (pos 32768)) ∷ []) Binary (pos 0) ≡ Ok (text (codes "Long"))
type_name_of_long = refl

type_name_of_missing : library_of function.TypeName false (missing ∷ []) Binary (pos 0) ≡ Ok (text (codes "Error"))
type_name_of_missing = refl

type_name_of_nothing : library_of function.TypeName false ((object Nothing) ∷ []) Binary (pos 0) ≡ Ok (text (codes "Nothing"))
type_name_of_nothing = refl

type_name_of_rows : library_of function.TypeName false ((object (Host (RowsOf 3))) ∷ []) Binary (pos 0) ≡ Ok (text (codes "Range"))
type_name_of_rows = refl

type_name_of_sheet : library_of function.TypeName false ((object (Host (Sheet 1))) ∷ []) Binary (pos 0) ≡ Ok (text (codes "Worksheet"))
type_name_of_sheet = refl

type_name_of_null : library_of function.TypeName false (null ∷ []) Binary (pos 0) ≡ Ok (text (codes "Null"))
type_name_of_null = refl

type_name_of_array : library_of function.TypeName false ((array (record { low = pos 3; high = pos 4 } ∷ []) type.variant (vals_of ((text (codes "a")) ∷ (whole Long (pos 1)) ∷ []))) ∷ []) Binary (pos 0) ≡ Ok (text (codes "Variant()"))
type_name_of_array = refl

type_name_of_fixed : library_of function.TypeName false ((array [] (type.fixed_text 3) no_vals) ∷ []) Binary (pos 0) ≡ Ok (text (codes "String()"))
type_name_of_fixed = refl

-- VarType: of an array it is 8192 more than that of its element type
var_type_of_empty : library_of function.VarType false (empty ∷ []) Binary (pos 0) ≡ Ok (whole Long (pos 0))
var_type_of_empty = refl

var_type_of_null : library_of function.VarType false (null ∷ []) Binary (pos 0) ≡ Ok (whole Long (pos 1))
var_type_of_null = refl

var_type_of_missing : library_of function.VarType false (missing ∷ []) Binary (pos 0) ≡ Ok (whole Long (pos 10))
var_type_of_missing = refl

var_type_of_nothing : library_of function.VarType false ((object Nothing) ∷ []) Binary (pos 0) ≡ Ok (whole Long (pos 9))
var_type_of_nothing = refl

var_type_of_byte : library_of function.VarType false ((whole Byte (pos 1)) ∷ []) Binary (pos 0) ≡ Ok (whole Long (pos 17))
var_type_of_byte = refl

var_type_of_long_long : library_of function.VarType false ((whole LongLong (pos 1)) ∷ []) Binary (pos 0) ≡ Ok (whole Long (pos 20))
var_type_of_long_long = refl

var_type_of_variants : library_of function.VarType false ((array (record { low = pos 3; high = pos 4 } ∷ []) type.variant (vals_of ((text (codes "a")) ∷ (whole Long (pos 1)) ∷ []))) ∷ []) Binary (pos 0) ≡ Ok (whole Long (pos 8204))
var_type_of_variants = refl

var_type_of_types : library_of function.VarType false ((array [] (type.udt 0) no_vals) ∷ []) Binary (pos 0) ≡ Ok (whole Long (pos 8228))
var_type_of_types = refl

var_type_of_rows : library_of function.VarType false ((object (Host (RowsOf 3))) ∷ []) Binary (pos 0) ≡ Ok (whole Long (pos 9))
var_type_of_rows = refl

-- Abs(True) is the Integer 1, and of the least number of a kind it raises 6
abs_of_true : library_of function.Abs false ((boolean true) ∷ []) Binary (pos 0) ≡ Ok (whole Integer (pos 1))
abs_of_true = refl

abs_least : library_of function.Abs false ((whole Integer (negsuc 32767)) ∷ []) Binary (pos 0) ≡ Err (Raise 6)
abs_least = refl

abs_least_currency : library_of function.Abs false ((currency (negsuc 9223372036854775807)) ∷ []) Binary (pos 0) ≡ Err (Raise 6)
abs_least_currency = refl

-- Abs("5") would be a Double, Abs("a") raises 13, and Abs("1e3") stops
abs_of_text : library_of function.Abs false ((text (codes "5")) ∷ []) Binary (pos 0) ≡ Err (Outside DoubleResult)
unfolding nearest read read_digits
abs_of_text = refl

abs_of_word : library_of function.Abs false ((text (codes "a")) ∷ []) Binary (pos 0) ≡ Err (Raise 13)
unfolding nearest read read_digits
abs_of_word = refl

abs_of_exponent : library_of function.Abs false ((text (codes "1e3")) ∷ []) Binary (pos 0) ≡ Err (Outside NumberText)
unfolding nearest read read_digits
abs_of_exponent = refl

abs_of_null : library_of function.Abs false (null ∷ []) Binary (pos 0) ≡ Ok null
abs_of_null = refl

-- Int(-2.5@) is -3 and Fix(-2.5@) is -2, as Currency; of the least Currency Int raises 6
int_down : library_of function.Int false ((currency (negsuc 24999)) ∷ []) Binary (pos 0) ≡ Ok (currency (negsuc 29999))
int_down = refl

fix_toward_zero : library_of function.Fix false ((currency (negsuc 24999)) ∷ []) Binary (pos 0) ≡ Ok (currency (negsuc 19999))
fix_toward_zero = refl

int_least : library_of function.Int false ((currency (negsuc 9223372036854775807)) ∷ []) Binary (pos 0) ≡ Err (Raise 6)
int_least = refl

fix_least : library_of function.Fix false ((currency (negsuc 9223372036854775807)) ∷ []) Binary (pos 0) ≡ Ok (currency (negsuc 9223372036854769999))
fix_least = refl

int_of_empty : library_of function.Int false (empty ∷ []) Binary (pos 0) ≡ Ok (whole Integer (pos 0))
int_of_empty = refl

-- Sgn is an Integer, and Sgn(Null) raises 94
sgn_negative : library_of function.Sgn false ((currency (negsuc 0)) ∷ []) Binary (pos 0) ≡ Ok (whole Integer (negsuc 0))
sgn_negative = refl

sgn_positive : library_of function.Sgn false ((whole Byte (pos 7)) ∷ []) Binary (pos 0) ≡ Ok (whole Integer (pos 1))
sgn_positive = refl

sgn_of_null : library_of function.Sgn false (null ∷ []) Binary (pos 0) ≡ Err (Raise 94)
sgn_of_null = refl

-- Hex and Oct write 16 bits for Integer and below, 32 for Long and 64 for LongLong
hex_byte : library_of function.Hex false ((whole Byte (pos 255)) ∷ []) Binary (pos 0) ≡ Ok (text (codes "FF"))
unfolding digits
hex_byte = refl

hex_true : library_of function.Hex false ((boolean true) ∷ []) Binary (pos 0) ≡ Ok (text (codes "FFFF"))
unfolding digits
hex_true = refl

hex_long : library_of function.Hex false ((whole Long (negsuc 0)) ∷ []) Binary (pos 0) ≡ Ok (text (codes "FFFFFFFF"))
unfolding digits
hex_long = refl

hex_long_long : library_of function.Hex false ((whole LongLong (negsuc 0)) ∷ []) Binary (pos 0) ≡ Ok (text (codes "FFFFFFFFFFFFFFFF"))
unfolding digits
hex_long_long = refl

hex_text : library_of function.Hex false ((text (codes "255.5")) ∷ []) Binary (pos 0) ≡ Ok (text (codes "100"))
unfolding digits nearest read read_digits
hex_text = refl

oct_empty : library_of function.Oct false (empty ∷ []) Binary (pos 0) ≡ Ok (text (codes "0"))
unfolding digits
oct_empty = refl

oct_integer : library_of function.Oct false ((whole Integer (negsuc 0)) ∷ []) Binary (pos 0) ≡ Ok (text (codes "177777"))
unfolding digits
oct_integer = refl

-- Hex(Null) is Null, and Hex$(Null) raises 94
hex_text_of_null : library_of function.Hex true (null ∷ []) Binary (pos 0) ≡ Err (Raise 94)
hex_text_of_null = refl

hex_of_null : library_of function.Hex false (null ∷ []) Binary (pos 0) ≡ Ok null
hex_of_null = refl

-- StrComp("a", "B") is 1, and -1 with 1 behind it
str_comp_binary : library_of function.StrComp false ((text (codes "a")) ∷ (text (codes "B")) ∷ []) Binary (pos 0) ≡ Ok (whole Integer (pos 1))
str_comp_binary = refl

str_comp_folded : library_of function.StrComp false ((text (codes "a")) ∷ (text (codes "B")) ∷ (whole Long (pos 1)) ∷ []) Binary (pos 0) ≡ Ok (whole Integer (negsuc 0))
unfolding folded caseless
str_comp_folded = refl

-- StrComp("STRASSE", "straße", 1) is 0
str_comp_sharp : library_of function.StrComp false ((text (codes "STRASSE")) ∷ (text (0x73 ∷ 0x74 ∷ 0x72 ∷ 0x61 ∷ 0xdf ∷ 0x65 ∷ [])) ∷ (whole Long (pos 1)) ∷ []) Binary (pos 0) ≡ Ok (whole Integer (pos 0))
unfolding folded caseless
str_comp_sharp = refl

-- StrReverse("abc") is "cba"
str_reverse_row : library_of function.StrReverse false ((text (codes "abc")) ∷ []) Binary (pos 0) ≡ Ok (text (codes "cba"))
str_reverse_row = refl

-- Array begins at the module's base, also without values
array_base_1 : library_of function.Array false ((text (codes "a")) ∷ missing ∷ []) Binary (pos 1) ≡ Ok (array (record { low = pos 1; high = pos 2 } ∷ []) type.variant (vals_of ((text (codes "a")) ∷ missing ∷ [])))
array_base_1 = refl

array_none : library_of function.Array false ([]) Binary (pos 0) ≡ Ok (array (record { low = pos 0; high = negsuc 0 } ∷ []) type.variant (vals_of ([])))
array_none = refl

-- IIf gives the second or the third, and IIf(Null, 1, 2) raises 94
i_if_first : library_of function.IIf false ((boolean true) ∷ (whole Long (pos 1)) ∷ null ∷ []) Binary (pos 0) ≡ Ok (whole Long (pos 1))
i_if_first = refl

i_if_second : library_of function.IIf false ((whole Long (pos 0)) ∷ (whole Long (pos 1)) ∷ null ∷ []) Binary (pos 0) ≡ Ok null
i_if_second = refl

i_if_null : library_of function.IIf false (null ∷ (whole Long (pos 1)) ∷ (whole Long (pos 2)) ∷ []) Binary (pos 0) ≡ Err (Raise 94)
i_if_null = refl

-- the coercions: CLng(2.5@) is 2, CLng(" -3.5 ") is -4, CLng("1e3") stops, and CBool("0.00001") is True
c_lng_of_half : library_of function.CLng false ((currency (pos 25000)) ∷ []) Binary (pos 0) ≡ Ok (whole Long (pos 2))
unfolding nearest
c_lng_of_half = refl

c_lng_of_text : library_of function.CLng false ((text (codes " -3.5 ")) ∷ []) Binary (pos 0) ≡ Ok (whole Long (negsuc 3))
unfolding nearest read read_digits
c_lng_of_text = refl

c_lng_of_exponent : library_of function.CLng false ((text (codes "1e3")) ∷ []) Binary (pos 0) ≡ Err (Outside NumberText)
unfolding nearest read read_digits
c_lng_of_exponent = refl

c_bool_of_fraction : library_of function.CBool false ((text (codes "0.00001")) ∷ []) Binary (pos 0) ≡ Ok (boolean true)
unfolding nearest read read_digits folded caseless
c_bool_of_fraction = refl

c_byte_of_true : library_of function.CByte false ((boolean true) ∷ []) Binary (pos 0) ≡ Ok (whole Byte (pos 255))
c_byte_of_true = refl

-- CStr(Null) raises 94, and CVar(Null) is Null
c_str_of_null : library_of function.CStr false (null ∷ []) Binary (pos 0) ≡ Err (Raise 94)
c_str_of_null = refl

c_var_of_null : library_of function.CVar false (null ∷ []) Binary (pos 0) ≡ Ok null
c_var_of_null = refl

-- the names of functions and constants, the arguments that they take, and the declared types of their uses
left_named : function_named (codes "left") ≡ Some function.Left
left_named = refl

no_function : function_named (codes "left$") ≡ None
no_function = refl

new_line_named : constant_named (codes "vbnewline") ≡ Some (text (13 ∷ 10 ∷ []))
new_line_named = refl

object_error_named : constant_named (codes "vbobjecterror") ≡ Some (whole Long (negsuc 2147221503))
object_error_named = refl

date_add_outside : is_outside (codes "dateadd") ≡ true
date_add_outside = refl

mid_outside : is_outside (codes "mid") ≡ false
mid_outside = refl

array_takes_any : arity_of function.Array ≡ (0, 255)
array_takes_any = refl

mid_type : declared_of function.Mid false ≡ type.variant
mid_type = refl

mid_text_type : declared_of function.Mid true ≡ type.text
mid_text_type = refl

split_type : declared_of function.Split false ≡ type.array_of type.text
split_type = refl

c_lng_type : declared_of function.CLng false ≡ type.long
c_lng_type = refl

in_str_has_no_text_form : has_text_form function.InStr ≡ false
in_str_has_no_text_form = refl
