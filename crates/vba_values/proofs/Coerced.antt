-- Let-coercion gives what its type can hold, and keeps it.
use Rattle.std.proofs.Common.{◌≡◌, ℕ, ◌-◌, ◌≤◌, ◌++◌, Bool, true, false, ◌⊎◌, inl, inr, ℤ, pos, ◌*ℤ◌, List, length, take, replicate, Ok, Err, if◌then◌else◌, refl, sym, ap, ◌∙◌, arith, rules, length-append}
use Rattle.std.specs.Prelude.{◌==◌, Option, Some, None, Result}
use Rattle.std.proofs.lemmas.Bool.{eqb-true, eq-eqb}
use Rattle.std.proofs.lemmas.List.{append-nil, length-replicate, length-take, take_all}
use mathlib.Core.Bool.{true≢false}
use Rattle.currency.specs.HalfEven.{half_even}
use Rattle.currency.specs.NumberText.{Numeral, blank, read}
use Rattle.currency.specs.Parsed.{rounded}
use Rattle.currency.specs.Range.{is_i64}
use Rattle.vba_values.specs.declared.fault.Bad.{Bad}
use Rattle.vba_values.specs.declared.object.ObjRef.{ObjRef}
use Rattle.vba_values.specs.declared.types.WholeKind.{WholeKind}
use Rattle.vba_values.specs.declared.types.WholeKind.TheVariants as kind
use Rattle.vba_values.specs.Coerce.{coerce_of, is_same_type, to_array, to_boolean, to_currency, to_fixed_text, to_object, to_text, to_udt, to_whole}
use Rattle.vba_values.specs.Errors.{overflow, type_mismatch}
use Rattle.vba_values.specs.Held.{can_hold, has_parts}
use Rattle.vba_values.specs.Texts.{amount, boolean_of_numeral, currency_of_numeral, is_same_word, of_length, whole_of_numeral, word_of}
use Rattle.vba_values.specs.Types.{Declared}
use Rattle.vba_values.specs.Types as type
use Rattle.vba_values.specs.Val.{Val, empty, null, missing, boolean, whole, currency, text, object, array, udt}
use Rattle.vba_values.specs.Whole.{boolean_in, fits, ranged}

-- whether what an answer gives meets a test
abbrev only : (Val → Bool) → Result Val Bad → Bool
only p (Ok v) = p v
only p (Err bad) = true

given : (p : Val → Bool) (r : Result Val Bad) (w : Val) → only p r ≡ true → r ≡ Ok w → p w ≡ true
given p (Ok v) w h e = let same : v ≡ w = cc in rw (← same) h
given p (Err bad) w h e = absurd (cc)

-- an answer that a test decides
only_tested : (p : Val → Bool) (c : Bool) (v : Val) (bad : Bad) → p v ≡ c → only p (if c then Ok v else Err bad) ≡ true
only_tested p true v bad h = h
only_tested p false v bad h = refl

only_if : (p : Val → Bool) (c : Bool) (v : Val) (bad : Bad) → p v ≡ true → only p (if c then Ok v else Err bad) ≡ true
only_if p true v bad h = h
only_if p false v bad h = refl

-- whole numbers
abbrev whole_type : WholeKind → Declared
whole_type kind.Byte = type.byte
whole_type kind.Integer = type.integer
whole_type kind.Long = type.long
whole_type kind.LongLong = type.long_long

hold_whole : (k : WholeKind) (z : ℤ) → can_hold (whole_type k) (whole k z) ≡ fits k z
hold_whole kind.Byte z = refl
hold_whole kind.Integer z = refl
hold_whole kind.Long z = refl
hold_whole kind.LongLong z = refl

fits_zero : (k : WholeKind) → fits k (pos 0) ≡ true
fits_zero kind.Byte = refl
fits_zero kind.Integer = refl
fits_zero kind.Long = refl
fits_zero kind.LongLong = refl

fits_boolean : (k : WholeKind) (b : Bool) → fits k (boolean_in k b) ≡ true
fits_boolean kind.Byte true = refl
fits_boolean kind.Integer true = refl
fits_boolean kind.Long true = refl
fits_boolean kind.LongLong true = refl
fits_boolean k false = fits_zero k

ranged_held : (k : WholeKind) (z : ℤ) → only (can_hold (whole_type k)) (ranged k z) ≡ true
ranged_held k z = only_tested (can_hold (whole_type k)) (fits k z) (whole k z) overflow (hold_whole k z)

numeral_held : (k : WholeKind) (t : List ℕ) (n : Option Numeral) → only (can_hold (whole_type k)) (whole_of_numeral k t n) ≡ true
numeral_held k t None = refl
numeral_held k t (Some n) = ranged_held k (rounded 0 n)

whole_held : (k : WholeKind) (v : Val) → only (can_hold (whole_type k)) (to_whole k v) ≡ true
whole_held k empty = hold_whole k (pos 0) ∙ fits_zero k
whole_held k (boolean b) = hold_whole k (boolean_in k b) ∙ fits_boolean k b
whole_held k (whole from z) = ranged_held k z
whole_held k (currency count) = ranged_held k (half_even count 10000)
whole_held k (text t) = numeral_held k t (read t)
whole_held k null = refl
whole_held k missing = refl
whole_held k (object o) = refl
whole_held k (array b t vs) = refl
whole_held k (udt n vs) = refl

-- Booleans
word_held : (c d : Bool) (t : List ℕ) (n : Option Numeral) → only (can_hold type.boolean) (if c then Ok (boolean true) else if d then Ok (boolean false) else boolean_of_numeral t n) ≡ true
word_held true d t n = refl
word_held false true t n = refl
word_held false false t None = refl
word_held false false t (Some n) = refl

boolean_held : (v : Val) → only (can_hold type.boolean) (to_boolean v) ≡ true
boolean_held (text t) = word_held (is_same_word t (word_of true)) (is_same_word t (word_of false)) t (read t)
boolean_held empty = refl
boolean_held null = refl
boolean_held missing = refl
boolean_held (boolean b) = refl
boolean_held (whole k z) = refl
boolean_held (currency count) = refl
boolean_held (object o) = refl
boolean_held (array b t vs) = refl
boolean_held (udt n vs) = refl

-- Currency
amount_held : (z : ℤ) → only (can_hold type.currency) (amount z) ≡ true
amount_held z = only_if (can_hold type.currency) (is_i64 z) (currency z) overflow refl

amount_numeral_held : (t : List ℕ) (n : Option Numeral) → only (can_hold type.currency) (currency_of_numeral t n) ≡ true
amount_numeral_held t None = refl
amount_numeral_held t (Some n) = amount_held (rounded 4 n)

currency_held : (v : Val) → only (can_hold type.currency) (to_currency v) ≡ true
currency_held empty = refl
currency_held null = refl
currency_held missing = refl
currency_held (boolean b) = amount_held (boolean_in kind.Integer b *ℤ pos 10000)
currency_held (whole k z) = amount_held (z *ℤ pos 10000)
currency_held (currency count) = refl
currency_held (text t) = amount_numeral_held t (read t)
currency_held (object o) = refl
currency_held (array b t vs) = refl
currency_held (udt n vs) = refl

-- texts
length_of : (size : ℕ) (t : List ℕ) → length (of_length size t) ≡ size
length_of size t =
    length-append (take size t) (replicate (size - length t) blank) ∙ omega (arith, length-take size t, length-replicate (size - length t) blank)

fixed : (size : ℕ) (t : List ℕ) → can_hold (type.fixed_text size) (text (of_length size t)) ≡ true
fixed size t = eq-eqb (length (of_length size t)) size (length_of size t)

text_held : (v : Val) → only (can_hold type.text) (to_text v) ≡ true
text_held empty = refl
text_held null = refl
text_held missing = refl
text_held (boolean b) = refl
text_held (whole k z) = refl
text_held (currency count) = refl
text_held (text t) = refl
text_held (object o) = refl
text_held (array b t vs) = refl
text_held (udt n vs) = refl

fixed_held : (size : ℕ) (v : Val) → only (can_hold (type.fixed_text size)) (to_fixed_text size v) ≡ true
fixed_held size empty = fixed size _
fixed_held size null = refl
fixed_held size missing = refl
fixed_held size (boolean b) = fixed size _
fixed_held size (whole k z) = fixed size _
fixed_held size (currency count) = fixed size _
fixed_held size (text t) = fixed size t
fixed_held size (object o) = refl
fixed_held size (array b t vs) = refl
fixed_held size (udt n vs) = refl

-- objects, where a type can hold each of them
object_held : (p : Val → Bool) → ((o : ObjRef) → p (object o) ≡ true) → (v : Val) → only p (to_object v) ≡ true
object_held p h empty = refl
object_held p h null = refl
object_held p h missing = refl
object_held p h (boolean b) = refl
object_held p h (whole k z) = refl
object_held p h (currency count) = refl
object_held p h (text t) = refl
object_held p h (object o) = h o
object_held p h (array b t vs) = refl
object_held p h (udt n vs) = refl

-- values of Types, and arrays
udt_held : (wanted : ℕ) (v : Val) → only (can_hold (type.udt wanted)) (to_udt wanted v) ≡ true
udt_held wanted empty = refl
udt_held wanted null = refl
udt_held wanted missing = refl
udt_held wanted (boolean b) = refl
udt_held wanted (whole k z) = refl
udt_held wanted (currency count) = refl
udt_held wanted (text t) = refl
udt_held wanted (object o) = refl
udt_held wanted (array b t vs) = refl
udt_held wanted (udt n vs) = only_tested (can_hold (type.udt wanted)) (n == wanted) (udt n vs) type_mismatch refl

array_held : (wanted : Declared) (v : Val) → only (can_hold (type.array_of wanted)) (to_array wanted v) ≡ true
array_held wanted empty = refl
array_held wanted null = refl
array_held wanted missing = refl
array_held wanted (boolean b) = refl
array_held wanted (whole k z) = refl
array_held wanted (currency count) = refl
array_held wanted (text t) = refl
array_held wanted (object o) = refl
array_held wanted (array b t vs) = only_tested (can_hold (type.array_of wanted)) (is_same_type t wanted) (array b t vs) type_mismatch refl
array_held wanted (udt n vs) = refl

held : (v : Val) (to : Declared) → only (can_hold to) (coerce_of v to) ≡ true
held v type.boolean = boolean_held v
held v type.byte = whole_held kind.Byte v
held v type.integer = whole_held kind.Integer v
held v type.long = whole_held kind.Long v
held v type.long_long = whole_held kind.LongLong v
held v type.currency = currency_held v
held v type.text = text_held v
held v (type.fixed_text size) = fixed_held size v
held v type.object = object_held (can_hold type.object) (λ o. refl) v
held v (type.class number) = object_held (can_hold (type.class number)) (λ o. refl) v
held v type.collection = object_held (can_hold type.collection) (λ o. refl) v
held v type.worksheet = object_held (can_hold type.worksheet) (λ o. refl) v
held v type.range = object_held (can_hold type.range) (λ o. refl) v
held v type.variant = refl
held v (type.udt wanted) = udt_held wanted v
held v (type.array_of wanted) = array_held wanted v

pub coerced_is_held : (v w : Val) (to : Declared) → coerce_of v to ≡ Ok w → can_hold to w ≡ true
coerced_is_held v w to e = given (can_hold to) (coerce_of v to) w (held v to) e

-- a text of the length stays as it is
of_its_length : (size : ℕ) (t : List ℕ) → length t ≡ size → of_length size t ≡ t
of_its_length size t h =
    let none : size - length t ≡ 0 = omega arith in
    let short : length t ≤ size = omega arith in
    rw (none, take_all size t short) (append-nil t)

pub held_is_kept : (v : Val) (to : Declared) → can_hold to v ≡ true → coerce_of v to ≡ Ok v
held_is_kept (boolean b) type.boolean h = refl
held_is_kept (whole kind.Byte z) type.byte h = rw h refl
held_is_kept (whole kind.Integer z) type.integer h = rw h refl
held_is_kept (whole kind.Long z) type.long h = rw h refl
held_is_kept (whole kind.LongLong z) type.long_long h = rw h refl
held_is_kept (currency count) type.currency h = refl
held_is_kept (text t) type.text h = refl
held_is_kept (text t) (type.fixed_text size) h = ap (λ t. Ok (text t)) (of_its_length size t (eqb-true (length t) size h))
held_is_kept (object o) type.object h = refl
held_is_kept (object o) (type.class number) h = refl
held_is_kept (object o) type.collection h = refl
held_is_kept (object o) type.worksheet h = refl
held_is_kept (object o) type.range h = refl
held_is_kept v type.variant h = refl
held_is_kept (udt n vs) (type.udt wanted) h = rw h refl
held_is_kept (array b t vs) (type.array_of wanted) h = rw h refl
held_is_kept _ _ h = absurd (true≢false (sym h))

-- values with parts are those of Variants, arrays and Types
abbrev is_open : Declared → Bool
is_open type.variant = true
is_open (type.udt wanted) = true
is_open (type.array_of wanted) = true
is_open other = false

no_parts : (to : Declared) (w : Val) → is_open to ≡ false → can_hold to w ≡ true → has_parts w ≡ false
no_parts type.variant w p h = absurd (true≢false p)
no_parts (type.udt wanted) w p h = absurd (true≢false p)
no_parts (type.array_of wanted) w p h = absurd (true≢false p)
no_parts _ (array b t vs) p h = absurd (true≢false (sym h))
no_parts _ (udt n vs) p h = absurd (true≢false (sym h))
no_parts _ w p h = refl

tested_same : (c : Bool) (v w : Val) (bad : Bad) → (if c then Ok v else Err bad) ≡ Ok w → w ≡ v
tested_same true v w bad e = cc
tested_same false v w bad e = absurd (cc)

udt_same : (wanted : ℕ) (v w : Val) → to_udt wanted v ≡ Ok w → w ≡ v
udt_same wanted (udt n vs) w e = tested_same (n == wanted) (udt n vs) w type_mismatch e
udt_same wanted empty w e = absurd (cc)
udt_same wanted null w e = absurd (cc)
udt_same wanted missing w e = absurd (cc)
udt_same wanted (boolean b) w e = absurd (cc)
udt_same wanted (whole k z) w e = absurd (cc)
udt_same wanted (currency count) w e = absurd (cc)
udt_same wanted (text t) w e = absurd (cc)
udt_same wanted (object o) w e = absurd (cc)
udt_same wanted (array b t vs) w e = absurd (cc)

array_same : (wanted : Declared) (v w : Val) → to_array wanted v ≡ Ok w → w ≡ v
array_same wanted (array b t vs) w e = tested_same (is_same_type t wanted) (array b t vs) w type_mismatch e
array_same wanted empty w e = absurd (cc)
array_same wanted null w e = absurd (cc)
array_same wanted missing w e = absurd (cc)
array_same wanted (boolean b) w e = absurd (cc)
array_same wanted (whole k z) w e = absurd (cc)
array_same wanted (currency count) w e = absurd (cc)
array_same wanted (text t) w e = absurd (cc)
array_same wanted (object o) w e = absurd (cc)
array_same wanted (udt n vs) w e = absurd (cc)

abbrev Parts : Val → Val → Type 0
Parts v w = (w ≡ v) ⊎ (has_parts w ≡ false)

plain_parts : (v w : Val) (to : Declared) → is_open to ≡ false → coerce_of v to ≡ Ok w → Parts v w
plain_parts v w to p e = inr (no_parts to w p (coerced_is_held v w to e))

pub coerced_parts : (v w : Val) (to : Declared) → coerce_of v to ≡ Ok w → Parts v w
coerced_parts v w type.variant e = inl (cc)
coerced_parts v w (type.udt wanted) e = inl (udt_same wanted v w e)
coerced_parts v w (type.array_of wanted) e = inl (array_same wanted v w e)
coerced_parts v w type.boolean e = plain_parts v w type.boolean refl e
coerced_parts v w type.byte e = plain_parts v w type.byte refl e
coerced_parts v w type.integer e = plain_parts v w type.integer refl e
coerced_parts v w type.long e = plain_parts v w type.long refl e
coerced_parts v w type.long_long e = plain_parts v w type.long_long refl e
coerced_parts v w type.currency e = plain_parts v w type.currency refl e
coerced_parts v w type.text e = plain_parts v w type.text refl e
coerced_parts v w (type.fixed_text size) e = plain_parts v w (type.fixed_text size) refl e
coerced_parts v w type.object e = plain_parts v w type.object refl e
coerced_parts v w (type.class number) e = plain_parts v w (type.class number) refl e
coerced_parts v w type.collection e = plain_parts v w type.collection refl e
coerced_parts v w type.worksheet e = plain_parts v w type.worksheet refl e
coerced_parts v w type.range e = plain_parts v w type.range refl e
