-- What the answers of the library's functions refer to: what their arguments refer to, and most of them to nothing.
use Rattle.std.proofs.Common.{◌≡◌, ℕ, zero, suc, Bool, true, false, List, [], ◌∷◌, length, map, Result, Ok, Err, ℤ, pos, negsuc, refl}
use Rattle.std.specs.Prelude.{◌+◌, ◌+ℤ◌, ◌-ℤ◌, ◌*ℤ◌, int_div, unsigned_abs, drop, if◌then◌else◌, ◌&&◌, not, nat_lt}
use Rattle.std.specs.List.{list_any}
use Rattle.std.specs.Int.{int_div_euclid}
use Rattle.currency.specs.NumberText.{blank}
use Rattle.arrays_udt.specs.Errors.{too_many_elements}
use Rattle.vba_base.specs.Answer.{◌>>=◌}
use Rattle.vba_values.specs.declared.fault.Bad.{Bad}
use Rattle.vba_values.specs.declared.types.Compare.{Compare}
use Rattle.vba_values.specs.declared.types.WholeKind.TheVariants as kind
use Rattle.vba_values.specs.Types.{Declared}
use Rattle.vba_values.specs.Val.{Val, empty, null, boolean, whole, currency, text, array, vals_of}
use Rattle.vba_values.specs.Coerce.{to_boolean, text_of}
use Rattle.vba_values.specs.Operands.{is_null}
use Rattle.vba_lib.specs.declared.function.LibraryFunction.{LibraryFunction}
use Rattle.vba_lib.specs.declared.function.LibraryFunction.TheVariants as function
use Rattle.vba_lib.specs.Arguments.{long_of, text_answer}
use Rattle.vba_lib.specs.Arrays.{bound_of, u_bound, l_bound, array_from, split_parts, split_by, split, elements_of, texts_of, join, join_by}
use Rattle.vba_lib.specs.Characters.{chr_w, asc_w, chr, character_of, is_unit_number, asc, repeated_unit, first_unit, unit_of}
use Rattle.vba_lib.specs.Numbers.{numeric, absolute, abs, rounded_down, int, truncated, fix, sgn, written_bits, hex, oct}
use Rattle.vba_lib.specs.Searching.{stands, first_place, place_of, in_str_from, str_comp_by, replace}
use Rattle.vba_lib.specs.Texts.{len, first_units, last_units, from_place, mid_of_length, u_case, l_case, l_trim, r_trim, trim, repeated, blanks, space, str_reverse}
use Rattle.vba_lib.specs.Library.{takes_null, gives_null, of_null, kept, chosen_of, target_of, of_kind, of_one, of_two, of_three, of_four, of_arguments, is_array_function, library_of}
use Rattle.vba_meaning.specs.References.{objects_in, objects_in_values}
use Rattle.object_lives.proofs.Values.{In, none_in, front_of, back_of, Refers, OkIn, FreeOk, free_in, if_free, bind_free, behind_free, ranged_free, amount_free, unless_in, coerced_in, through, map_free, vals_in}

-- ---- texts

text_free : (units : List ℕ) → FreeOk (text_answer units)
text_free units = if_free (nat_lt 16777216 (length units)) (Err _) (Ok (text units)) tt refl

repeated_free : (n unit : ℕ) → FreeOk (repeated n unit)
repeated_free n unit = if_free (nat_lt 16777216 n) (Err _) (Ok _) tt refl

first_free : (units : List ℕ) (z : ℤ) → FreeOk (first_units units z)
first_free units (pos n) = text_free _
first_free units (negsuc n) = tt

last_free : (units : List ℕ) (z : ℤ) → FreeOk (last_units units z)
last_free units (pos n) = text_free _
last_free units (negsuc n) = tt

blanks_free : (z : ℤ) → FreeOk (blanks z)
blanks_free (pos n) = repeated_free n _
blanks_free (negsuc n) = tt

place_free : (compare : Compare) (z : ℤ) (units sought : List ℕ) → FreeOk (place_of compare z units sought)
place_free compare (pos (suc n)) units sought = ranged_free kind.Long (pos (first_place (stands compare sought) (n + 1) (drop n units)))
place_free compare (pos zero) units sought = tt
place_free compare (negsuc n) units sought = tt

character_free : (z : ℤ) → FreeOk (character_of z)
character_free (pos n) = if_free (nat_lt n 256) (Ok _) (Err _) refl tt
character_free (negsuc n) = tt

times_free : (z : ℤ) (v : Val) → FreeOk (repeated_unit z v)
times_free (pos n) v = bind_free (unit_of v) _ (λ unit. repeated_free n unit)
times_free (negsuc n) v = tt

-- whatever comes before a text
of_text : (v : Val) (f : List ℕ → Result Val Bad) → ((t : List ℕ) → FreeOk (f t)) → FreeOk (text_of v >>= f)
of_text v f h = bind_free (text_of v) f h

of_long : (v : Val) (f : ℤ → Result Val Bad) → ((z : ℤ) → FreeOk (f z)) → FreeOk (long_of v >>= f)
of_long v f h = bind_free (long_of v) f h

-- ---- numbers

numeric_free : (v : Val) → FreeOk (numeric v)
numeric_free empty = refl
numeric_free (boolean b) = refl
numeric_free (whole k z) = refl
numeric_free (currency count) = refl
numeric_free (text units) = tt
numeric_free v = tt

absolute_free : (v : Val) → objects_in v ≡ [] → FreeOk (absolute v)
absolute_free (whole k z) e = ranged_free k _
absolute_free (currency count) e = amount_free (pos (unsigned_abs count))
absolute_free v e = e

down_free : (v : Val) → objects_in v ≡ [] → FreeOk (rounded_down v)
down_free (currency count) e = amount_free (int_div_euclid count (pos 10000) *ℤ pos 10000)
down_free v e = e

truncated_free : (v : Val) → objects_in v ≡ [] → FreeOk (truncated v)
truncated_free (currency count) e = amount_free (int_div count (pos 10000) *ℤ pos 10000)
truncated_free v e = e

-- ---- arrays

split_free : (by units : List ℕ) → FreeOk (split_by by units)
split_free by units =
    if_free (nat_lt 1048576 (length (map text (split_parts by units)))) (Err _) (Ok _) tt (map_free text (λ t. refl) (split_parts by units))

join_free : (by : List ℕ) (v : Val) → FreeOk (join_by by v)
join_free by v = bind_free (elements_of v) _ (λ items. bind_free (texts_of items) _ (λ texts. text_free _))

upper_free : (v : Val) (z : ℤ) → FreeOk (u_bound v z)
upper_free v z = bind_free (bound_of v z) _ (λ b. refl)

lower_free : (v : Val) (z : ℤ) → FreeOk (l_bound v z)
lower_free v z = bind_free (bound_of v z) _ (λ b. refl)

-- ---- functions

-- of one argument, that tell its kind, and coercions
kind_in : (f : LibraryFunction) (v : Val) → OkIn (objects_in v) (of_kind f v)
kind_in function.IsEmpty v = none_in _
kind_in function.IsNull v = none_in _
kind_in function.IsObject v = none_in _
kind_in function.IsArray v = none_in _
kind_in function.IsMissing v = none_in _
kind_in function.TypeName v = none_in _
kind_in function.VarType v = none_in _
kind_in function.CByte v = coerced_in v (target_of function.CByte)
kind_in function.CInt v = coerced_in v (target_of function.CInt)
kind_in function.CLng v = coerced_in v (target_of function.CLng)
kind_in function.CLngLng v = coerced_in v (target_of function.CLngLng)
kind_in function.CCur v = coerced_in v (target_of function.CCur)
kind_in function.CBool v = coerced_in v (target_of function.CBool)
kind_in function.CStr v = coerced_in v (target_of function.CStr)
kind_in function.CVar v = coerced_in v (target_of function.CVar)
kind_in f v = tt

pub one_in : (f : LibraryFunction) (v : Val) → OkIn (objects_in v) (of_one f v)
one_in function.Len v = free_in (objects_in v) (len v) (of_text v _ (λ t. ranged_free kind.Long (pos (length t))))
one_in function.UCase v = free_in (objects_in v) (u_case v) (of_text v _ (λ t. text_free _))
one_in function.LCase v = free_in (objects_in v) (l_case v) (of_text v _ (λ t. text_free _))
one_in function.Trim v = free_in (objects_in v) (trim v) (of_text v _ (λ t. text_free _))
one_in function.LTrim v = free_in (objects_in v) (l_trim v) (of_text v _ (λ t. text_free _))
one_in function.RTrim v = free_in (objects_in v) (r_trim v) (of_text v _ (λ t. text_free _))
one_in function.Space v = free_in (objects_in v) (space v) (of_long v _ (λ z. blanks_free z))
one_in function.StrReverse v = free_in (objects_in v) (str_reverse v) (of_text v _ (λ t. text_free _))
one_in function.ChrW v = free_in (objects_in v) (chr_w v) (of_long v _ (λ z. if_free (is_unit_number z) (Ok _) (Err _) refl tt))
one_in function.AscW v = free_in (objects_in v) (asc_w v) (of_text v _ (λ t. bind_free (first_unit t) _ (λ unit. refl)))
one_in function.Chr v = free_in (objects_in v) (chr v) (of_long v _ (λ z. character_free z))
one_in function.Asc v = free_in (objects_in v) (asc v) (of_text v _ (λ t. bind_free (first_unit t) _ (λ unit. refl)))
one_in function.Split v = free_in (objects_in v) (split v) (of_text v _ (λ t. split_free (blank ∷ []) t))
one_in function.Join v = free_in (objects_in v) (join v) (join_free (blank ∷ []) v)
one_in function.UBound v = free_in (objects_in v) (u_bound v (pos 1)) (upper_free v (pos 1))
one_in function.LBound v = free_in (objects_in v) (l_bound v (pos 1)) (lower_free v (pos 1))
one_in function.Abs v = free_in (objects_in v) (abs v) (behind_free (numeric v) _ (numeric_free v) (λ w e. absolute_free w e))
one_in function.Int v = free_in (objects_in v) (int v) (behind_free (numeric v) _ (numeric_free v) (λ w e. down_free w e))
one_in function.Fix v = free_in (objects_in v) (fix v) (behind_free (numeric v) _ (numeric_free v) (λ w e. truncated_free w e))
one_in function.Sgn v = free_in (objects_in v) (sgn v) (bind_free (numeric v) _ (λ w. refl))
one_in function.Hex v = free_in (objects_in v) (hex v) (bind_free (written_bits v) _ (λ bits. refl))
one_in function.Oct v = free_in (objects_in v) (oct v) (bind_free (written_bits v) _ (λ bits. refl))
one_in f v = kind_in f v

pub two_free : (f : LibraryFunction) (compare : Compare) (v w : Val) → FreeOk (of_two f compare v w)
two_free function.Left compare v w = of_text v _ (λ t. of_long w _ (λ z. first_free t z))
two_free function.Right compare v w = of_text v _ (λ t. of_long w _ (λ z. last_free t z))
two_free function.Mid compare v w = of_text v _ (λ t. of_long w _ (λ z. bind_free (from_place t z) _ (λ u. text_free u)))
two_free function.InStr compare v w = of_text v _ (λ t. of_text w _ (λ u. place_free compare (pos 1) t u))
two_free function.String compare v w = of_long v _ (λ z. times_free z w)
two_free function.Split compare v w = of_text v _ (λ t. of_text w _ (λ u. split_free u t))
two_free function.Join compare v w = of_text w _ (λ u. join_free u v)
two_free function.UBound compare v w = of_long w _ (λ z. upper_free v z)
two_free function.LBound compare v w = of_long w _ (λ z. lower_free v z)
two_free function.StrComp compare v w = of_text v _ (λ t. of_text w _ (λ u. refl))
two_free f compare v w = tt

-- IIf alone of three arguments gives one of them
chosen_in : {xs : List ℕ} (test v w : Val) → Refers xs v → Refers xs w → Refers xs (chosen_of test v w)
chosen_in (boolean true) v w h k = h
chosen_in (boolean false) v w h k = k
chosen_in test v w h k = k

kept_in : {xs : List ℕ} (v : Val) → Refers xs v → OkIn xs (kept v)
kept_in {xs = xs} (text units) h = free_in xs (text_answer units) (text_free units)
kept_in v h = h

if_in : {xs : List ℕ} (r : Result Val Bad) (v w : Val) → Refers xs v → Refers xs w → OkIn xs (r >>= λ truth. kept (chosen_of truth v w))
if_in (Ok truth) v w h k = kept_in (chosen_of truth v w) (chosen_in truth v w h k)
if_in (Err bad) v w h k = tt

pub mid_free : (v w x : Val) → FreeOk (mid_of_length v w x)
mid_free v w x = of_text v _ (λ t. of_long w _ (λ z. of_long x _ (λ n. bind_free (from_place t z) _ (λ u. first_free u n))))

pub in_str_free : (compare : Compare) (v w x : Val) → FreeOk (in_str_from compare v w x)
in_str_free compare v w x = of_long v _ (λ z. of_text w _ (λ t. of_text x _ (λ u. place_free compare z t u)))

pub replace_free : (v w x : Val) → FreeOk (replace v w x)
replace_free v w x = of_text v _ (λ t. of_text w _ (λ u. of_text x _ (λ new. text_free _)))

pub str_comp_free : (compare : Compare) (v w x : Val) → FreeOk (str_comp_by compare v w x)
str_comp_free compare v w x = of_text v _ (λ t. of_text w _ (λ u. of_long x _ (λ n. refl)))

three_in : {xs : List ℕ} (f : LibraryFunction) (compare : Compare) (v w x : Val) → Refers xs w → Refers xs x → OkIn xs (of_three f compare v w x)
three_in {xs = xs} function.Mid compare v w x h k = free_in xs (mid_of_length v w x) (mid_free v w x)
three_in {xs = xs} function.InStr compare v w x h k = free_in xs (in_str_from compare v w x) (in_str_free compare v w x)
three_in {xs = xs} function.Replace compare v w x h k = free_in xs (replace v w x) (replace_free v w x)
three_in {xs = xs} function.StrComp compare v w x h k = free_in xs (str_comp_by compare v w x) (str_comp_free compare v w x)
three_in function.IIf compare v w x h k = if_in (to_boolean v) w x h k
three_in f compare v w x h k = tt

pub four_free : (f : LibraryFunction) (compare : Compare) (v w x y : Val) → FreeOk (of_four f compare v w x y)
four_free function.InStr compare v w x y = of_long v _ (λ z. of_text w _ (λ t. of_text x _ (λ u. of_long y _ (λ n. place_free _ z t u))))
four_free f compare v w x y = tt

-- what the arguments refer to, one by one
alone : {xs : List ℕ} (v : Val) (vs : List Val) → In (objects_in_values (v ∷ vs)) xs → Refers xs v
alone v vs h = front_of (objects_in v) (objects_in_values vs) h

others : {xs : List ℕ} (v : Val) (vs : List Val) → In (objects_in_values (v ∷ vs)) xs → In (objects_in_values vs) xs
others v vs h = back_of (objects_in v) (objects_in_values vs) h

arguments_in : {xs : List ℕ} (f : LibraryFunction) (compare : Compare) (vs : List Val) → In (objects_in_values vs) xs → OkIn xs (of_arguments f compare vs)
arguments_in f compare [] h = tt
arguments_in f compare (v ∷ []) h = through (of_one f v) v (one_in f v) (alone v [] h)
arguments_in {xs = xs} f compare (v ∷ w ∷ []) h = free_in xs (of_two f compare v w) (two_free f compare v w)
arguments_in f compare (v ∷ w ∷ x ∷ []) h =
    three_in f compare v w x (alone w (x ∷ []) (others v (w ∷ x ∷ []) h)) (alone x [] (others w (x ∷ []) (others v (w ∷ x ∷ []) h)))
arguments_in {xs = xs} f compare (v ∷ w ∷ x ∷ y ∷ []) h = free_in xs (of_four f compare v w x y) (four_free f compare v w x y)
arguments_in f compare (v ∷ w ∷ x ∷ y ∷ z ∷ vs) h = tt

array_in : {xs : List ℕ} (base : ℤ) (of : Declared) (vs : List Val) → In (objects_in_values vs) xs → OkIn xs (array_from base of vs)
array_in base of vs h =
    unless_in (nat_lt 1048576 (length vs)) too_many_elements (array (record { low = base; high = base +ℤ pos (length vs) -ℤ pos 1 } ∷ []) of (vals_of vs)) (vals_in vs h)

either_in : (xs : List ℕ) (b : Bool) (r q : Result Val Bad) → OkIn xs r → OkIn xs q → OkIn xs (if b then r else q)
either_in xs true r q h k = h
either_in xs false r q h k = k

pub null_free : (f : LibraryFunction) (text_form : Bool) → FreeOk (of_null f text_form)
null_free f text_form = if_free (gives_null f && not text_form) (Ok null) (Err _) refl tt

pub library_in : (xs : List ℕ) (f : LibraryFunction) (text_form : Bool) (vs : List Val) (compare : Compare) (base : ℤ) → In (objects_in_values vs) xs → OkIn xs (library_of f text_form vs compare base)
library_in xs f text_form vs compare base h =
    either_in xs (not (takes_null f) && list_any is_null vs) (of_null f text_form) _ (free_in xs (of_null f text_form) (null_free f text_form))
    (either_in xs (is_array_function f) (array_from base _ vs) (of_arguments f compare vs) (array_in base _ vs h) (arguments_in f compare vs h))

-- UBound and LBound give a number
pub bound_value_in : (xs : List ℕ) (upper : Bool) (v : Val) (z : ℤ) (compare : Compare) → OkIn xs (library_of (if upper then function.UBound else function.LBound) false (v ∷ whole kind.Long z ∷ []) compare (pos 0))
bound_value_in xs true v z compare = free_in xs (of_two function.UBound compare v (whole kind.Long z)) (two_free function.UBound compare v (whole kind.Long z))
bound_value_in xs false v z compare = free_in xs (of_two function.LBound compare v (whole kind.Long z)) (two_free function.LBound compare v (whole kind.Long z))
