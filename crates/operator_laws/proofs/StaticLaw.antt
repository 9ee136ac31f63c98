-- Operators of declared operands give what their static types promise.
use Rattle.std.proofs.Common.{◌≡◌, ℕ, Bool, true, false, ◌||◌, ◌&&◌, ℤ, List, Option, Some, None, Result, Ok, Err, refl, ap, ◌∙◌, subst}
use Rattle.std.specs.Prelude.{if◌then◌else◌, nat_lt, ◌++◌, length, neg_ℤ, pos, int_div, int_rem}
use Rattle.std.specs.Ordering.{int_eq}
use Rattle.currency.specs.HalfEven.{half_even}
use Rattle.currency.specs.Range.{is_i64}
use Rattle.currency.specs.NumberText.{Numeral, read}
use Rattle.currency.specs.Parsed.{rounded}
use Rattle.currency.specs.Printed.{printed}
use Rattle.vba_base.specs.Answer.{◌>>=◌}
use Rattle.vba_values.specs.declared.fault.Bad.{Bad}
use Rattle.vba_values.specs.declared.fault.Bad.TheVariants.{Outside}
use Rattle.vba_values.specs.declared.fault.OutKind.TheVariants.{TextLength}
use Rattle.vba_values.specs.declared.types.Compare.{Compare}
use Rattle.vba_values.specs.declared.types.OpKind.{OpKind}
use Rattle.vba_values.specs.declared.types.OpKind.TheVariants as op
use Rattle.vba_values.specs.declared.types.WholeKind.{WholeKind}
use Rattle.vba_values.specs.declared.types.WholeKind.TheVariants as kind
use Rattle.vba_values.specs.declared.operands.Work.{Work}
use Rattle.vba_values.specs.declared.operands.Work.TheVariants as work
use Rattle.vba_values.specs.Arithmetic.{arithmetic, as_whole, of_numbers, divided, division, division_by_zero, division_of, exact, exact_count, joined, negated, whole_kind_beside, whole_work, worked}
use Rattle.std.specs.Fmt.{signed_decimal}
use Rattle.vba_values.specs.Coerce.{to_currency}
use Rattle.vba_values.specs.Comparison.{comparison, is_variant}
use Rattle.vba_values.specs.Errors.{overflow, type_mismatch, number_text}
use Rattle.vba_values.specs.Logic.{bitwise_in, logical, logical_not, logic_of, logic_null, logic_of_numbers, logic_whole}
use Rattle.vba_values.specs.Operands.{is_no_operand, is_null, kind_beside, number_of, count_of, wider, wider_whole, work_of}
use Rattle.vba_values.specs.Operators.{binary_of, unary_of, has_two_operands, join, join_text}
use Rattle.operator_laws.specs.StaticLaw.{is_of, is_answer}
use Rattle.vba_values.specs.StaticTypes.{is_open, static_of, kind_type, arithmetic_type, division_type, logic_type, join_type, comparison_type, minus_type, not_type, whole_kind, long_beside}
use Rattle.vba_values.specs.Texts.{amount, word_of, looks_like_number, not_number, whole_of_numeral, currency_of_numeral}
use Rattle.vba_values.specs.Types.{Declared}
use Rattle.vba_values.specs.Types as type
use Rattle.vba_values.specs.Val.{Val, null, missing, boolean, whole, currency, text, object, array, udt}
use Rattle.vba_values.specs.Whole.{fits, ranged}

-- the values of the types that numbers and texts are declared with
data Typed : Type 0 where
  boolean_typed : Bool → Typed
  byte_typed : ℤ → Typed
  integer_typed : ℤ → Typed
  long_typed : ℤ → Typed
  long_long_typed : ℤ → Typed
  currency_typed : ℤ → Typed
  text_typed : List ℕ → Typed
  fixed_typed : ℕ → List ℕ → Typed

abbrev type_of : Typed → Declared
type_of (boolean_typed b) = type.boolean
type_of (byte_typed z) = type.byte
type_of (integer_typed z) = type.integer
type_of (long_typed z) = type.long
type_of (long_long_typed z) = type.long_long
type_of (currency_typed count) = type.currency
type_of (text_typed units) = type.text
type_of (fixed_typed size units) = type.fixed_text size

abbrev value_of : Typed → Val
value_of (boolean_typed b) = boolean b
value_of (byte_typed z) = whole kind.Byte z
value_of (integer_typed z) = whole kind.Integer z
value_of (long_typed z) = whole kind.Long z
value_of (long_long_typed z) = whole kind.LongLong z
value_of (currency_typed count) = currency count
value_of (text_typed units) = text units
value_of (fixed_typed size units) = text units

-- what holds of each declared value that no operator takes, and of each number and text, holds of all declared values
by_types : (P : Declared → Val → Type 0)
    → ((d : Declared) (v : Val) → is_open d ≡ true → is_no_operand v ≡ true → P d v)
    → ((t : Typed) → P (type_of t) (value_of t))
    → (d : Declared) (v : Val) → is_variant d ≡ false → is_of d v ≡ true → P d v
by_types P untaken typed type.variant v n i = absurd (cc)
by_types P untaken typed type.boolean (boolean b) n i = typed (boolean_typed b)
by_types P untaken typed type.byte (whole kind.Byte z) n i = typed (byte_typed z)
by_types P untaken typed type.integer (whole kind.Integer z) n i = typed (integer_typed z)
by_types P untaken typed type.long (whole kind.Long z) n i = typed (long_typed z)
by_types P untaken typed type.long_long (whole kind.LongLong z) n i = typed (long_long_typed z)
by_types P untaken typed type.currency (currency count) n i = typed (currency_typed count)
by_types P untaken typed type.text (text units) n i = typed (text_typed units)
by_types P untaken typed (type.fixed_text size) (text units) n i = typed (fixed_typed size units)
by_types P untaken typed type.object (object o) n i = untaken type.object (object o) refl refl
by_types P untaken typed (type.class number) (object o) n i = untaken (type.class number) (object o) refl refl
by_types P untaken typed type.collection (object o) n i = untaken type.collection (object o) refl refl
by_types P untaken typed type.worksheet (object o) n i = untaken type.worksheet (object o) refl refl
by_types P untaken typed type.range (object o) n i = untaken type.range (object o) refl refl
by_types P untaken typed (type.udt place) (udt p vs) n i = untaken (type.udt place) (udt p vs) refl refl
by_types P untaken typed (type.array_of d) (array b e vs) n i = untaken (type.array_of d) (array b e vs) refl refl
by_types P untaken typed _ _ n i = absurd (cc)

-- what a static type, if there is one, promises of a result
abbrev Held : Option Declared → Result Val Bad → Type 0
Held None result = Unit {0}
Held (Some given) result = is_answer given result ≡ true

held : (o : Option Declared) (result : Result Val Bad) (given : Declared) → o ≡ Some given → Held o result
    → is_answer given result ≡ true
held o result given same h = subst (λ x. Held x result) same h

-- a result in a kind of whole numbers
kind_answers : (k : WholeKind) (z : ℤ) → is_answer (kind_type (work.Whole k)) (Ok (whole k z)) ≡ true
kind_answers kind.Byte z = refl
kind_answers kind.Integer z = refl
kind_answers kind.Long z = refl
kind_answers kind.LongLong z = refl

ranged_answers : (k : WholeKind) (z : ℤ) → is_answer (kind_type (work.Whole k)) (ranged k z) ≡ true
ranged_answers k z = by_fit (fits k z) where
  by_fit : (t : Bool) → is_answer (kind_type (work.Whole k)) (if t then Ok (whole k z) else Err overflow) ≡ true
  by_fit true = kind_answers k z
  by_fit false = refl

amount_answers : (z : ℤ) → is_answer type.currency (amount z) ≡ true
amount_answers z = by_fit (is_i64 z) where
  by_fit : (t : Bool) → is_answer type.currency (if t then Ok (currency z) else Err overflow) ≡ true
  by_fit true = refl
  by_fit false = refl

worked_answers : (o : OpKind) (w : Work) (l r : Val) → is_answer (kind_type w) (worked o false w l r) ≡ true
worked_answers o (work.Whole k) l r = ranged_answers k (exact o (number_of l) (number_of r))
worked_answers o work.Currency l r = amount_answers (exact_count o (count_of l) (count_of r))

joined_answers : (l r : List ℕ) → is_answer type.text (joined l r) ≡ true
joined_answers l r = by_length (nat_lt 16777216 (length (l ++ r))) where
  by_length : (t : Bool) → is_answer type.text (if t then Err (Outside TextLength) else Ok (text (l ++ r))) ≡ true
  by_length true = refl
  by_length false = refl

-- a text that is no number text ends the work, and not with a Double
no_number_answers : (t : Declared) (units : List ℕ) → is_answer t (Err (not_number units)) ≡ true
no_number_answers t units = by_looks (looks_like_number units) where
  by_looks : (b : Bool) → is_answer t (Err (if b then number_text else type_mismatch)) ≡ true
  by_looks true = refl
  by_looks false = refl

-- work that goes on with a number in range
after_ranged : (t : Declared) (k : WholeKind) (z : ℤ) (rest : Val → Result Val Bad)
    → ((x : ℤ) → is_answer t (rest (whole k x)) ≡ true) → is_answer t (ranged k z >>= rest) ≡ true
after_ranged t k z rest h = by_fit (fits k z) where
  by_fit : (b : Bool) → is_answer t ((if b then Ok (whole k z) else Err overflow) >>= rest) ≡ true
  by_fit true = h z
  by_fit false = refl

after_text : (t : Declared) (k : WholeKind) (units : List ℕ) (n : Option Numeral) (rest : Val → Result Val Bad)
    → ((x : ℤ) → is_answer t (rest (whole k x)) ≡ true) → is_answer t (whole_of_numeral k units n >>= rest) ≡ true
after_text t k units None rest h = no_number_answers t units
after_text t k units (Some n) rest h = after_ranged t k (rounded 0 n) rest h

after_amount : (t : Declared) (z : ℤ) (rest : Val → Result Val Bad)
    → ((x : ℤ) → is_answer t (rest (currency x)) ≡ true) → is_answer t (amount z >>= rest) ≡ true
after_amount t z rest h = by_fit (is_i64 z) where
  by_fit : (b : Bool) → is_answer t ((if b then Ok (currency z) else Err overflow) >>= rest) ≡ true
  by_fit true = h z
  by_fit false = refl

after_currency : (t : Declared) (units : List ℕ) (n : Option Numeral) (rest : Val → Result Val Bad)
    → ((x : ℤ) → is_answer t (rest (currency x)) ≡ true) → is_answer t (currency_of_numeral units n >>= rest) ≡ true
after_currency t units None rest h = no_number_answers t units
after_currency t units (Some n) rest h = after_amount t (rounded 4 n) rest h

-- unary minus and Not
minus_answers : (v : Typed) → Held (minus_type (type_of v)) (negated (is_variant (type_of v)) (value_of v))
minus_answers (boolean_typed b) = ranged_answers kind.Integer (neg_ℤ (number_of (boolean b)))
minus_answers (byte_typed z) = ranged_answers kind.Integer (neg_ℤ z)
minus_answers (integer_typed z) = ranged_answers kind.Integer (neg_ℤ z)
minus_answers (long_typed z) = ranged_answers kind.Long (neg_ℤ z)
minus_answers (long_long_typed z) = ranged_answers kind.LongLong (neg_ℤ z)
minus_answers (currency_typed count) = amount_answers (neg_ℤ count)
minus_answers (text_typed units) = tt
minus_answers (fixed_typed size units) = tt

not_answers : (v : Typed) → Held (not_type (type_of v)) (logical_not (value_of v))
not_answers (currency_typed count) = after_ranged type.long kind.Long (half_even count 10000) _ (λ x. refl)
not_answers (text_typed units) = after_text type.long kind.Long units (read units) _ (λ x. refl)
not_answers (fixed_typed size units) = after_text type.long kind.Long units (read units) _ (λ x. refl)
not_answers (boolean_typed b) = refl
not_answers (byte_typed z) = refl
not_answers (integer_typed z) = refl
not_answers (long_typed z) = refl
not_answers (long_long_typed z) = refl

-- what the kit's operand tests say of numbers and texts
no_variant : (v : Typed) → is_variant (type_of v) ≡ false
no_variant (boolean_typed b) = refl
no_variant _ = refl

is_operand : (v : Typed) → is_no_operand (value_of v) ≡ false
is_operand (boolean_typed b) = refl
is_operand _ = refl

is_some : (v : Typed) → is_null (value_of v) ≡ false
is_some (boolean_typed b) = refl
is_some _ = refl

is_closed : (v : Typed) → is_open (type_of v) ≡ false
is_closed (boolean_typed b) = refl
is_closed _ = refl

-- + - *
abbrev Worked : OpKind → Typed → Typed → Type 0
Worked o l r =
    Held (arithmetic_type o (type_of l) (type_of r))
    (arithmetic o (is_variant (type_of l) || is_variant (type_of r)) (value_of l) (value_of r))

times_answers : (l r : Typed) → Worked op.Mul l r
times_answers (text_typed units) (boolean_typed b) = tt
times_answers (text_typed units) _ = tt
times_answers (fixed_typed size units) (boolean_typed b) = tt
times_answers (fixed_typed size units) _ = tt
times_answers _ (text_typed units) = tt
times_answers _ (fixed_typed size units) = tt
times_answers l r = worked_answers op.Mul (work_of (value_of l) (value_of r)) (value_of l) (value_of r)

-- a comparison: of two numbers, or of two texts
comparison_answers : (o : OpKind) (c : Compare) (l r : Typed)
    → Held (comparison_type (type_of l) (type_of r))
    (comparison o c (value_of l) (type_of l) (value_of r) (type_of r))
comparison_answers o c (text_typed units) (text_typed others) = refl
comparison_answers o c (text_typed units) (fixed_typed size others) = refl
comparison_answers o c (text_typed units) _ = tt
comparison_answers o c (fixed_typed size units) (text_typed others) = refl
comparison_answers o c (fixed_typed size units) (fixed_typed other_size others) = refl
comparison_answers o c (fixed_typed size units) _ = tt
comparison_answers o c _ (text_typed units) = tt
comparison_answers o c _ (fixed_typed size units) = tt
comparison_answers o c _ _ = refl

-- the text of a number or a text
abbrev text_in : Typed → List ℕ
text_in (boolean_typed b) = word_of b
text_in (byte_typed z) = signed_decimal z
text_in (integer_typed z) = signed_decimal z
text_in (long_typed z) = signed_decimal z
text_in (long_long_typed z) = signed_decimal z
text_in (currency_typed count) = printed count
text_in (text_typed units) = units
text_in (fixed_typed size units) = units

has_text : (v : Typed) → join_text (value_of v) ≡ Ok (text_in v)
has_text (boolean_typed b) = refl
has_text _ = refl

-- the choice between Type mismatch and a result is made as the type's is between Variant and another
opened : (t b : Bool) (x : Option Declared) (y : Result Val Bad) → t ≡ true → b ≡ true
    → Held (if t then Some type.variant else x) (if b then Err type_mismatch else y)
opened true true x y t b = refl
opened _ _ x y t b = absurd (cc)

-- the choices fall to the other side for numbers and texts
closed : (t b n : Bool) (x : Option Declared) (y z : Result Val Bad) → t ≡ false → b ≡ false → n ≡ false
    → Held x z → Held (if t then Some type.variant else x) (if b then Err type_mismatch else if n then y else z)
closed false false false x y z t b n h = h
closed _ _ _ x y z t b n h = absurd (cc)

or_false : (a b : Bool) → a ≡ false → b ≡ false → (a || b) ≡ false
or_false false b e f = f
or_false true b e f = absurd (cc)

and_false : (a b : Bool) → a ≡ false → (a && b) ≡ false
and_false false b e = refl
and_false true b e = absurd (cc)

both_closed : (l r : Typed) → (is_open (type_of l) || is_open (type_of r)) ≡ false
both_closed l r = or_false (is_open (type_of l)) (is_open (type_of r)) (is_closed l) (is_closed r)

both_operands : (l r : Typed) → (is_no_operand (value_of l) || is_no_operand (value_of r)) ≡ false
both_operands l r = or_false (is_no_operand (value_of l)) (is_no_operand (value_of r)) (is_operand l) (is_operand r)

neither_null : (l r : Typed) → (is_null (value_of l) || is_null (value_of r)) ≡ false
neither_null l r = or_false (is_null (value_of l)) (is_null (value_of r)) (is_some l) (is_some r)

not_both_null : (l r : Typed) → (is_null (value_of l) && is_null (value_of r)) ≡ false
not_both_null l r = and_false (is_null (value_of l)) (is_null (value_of r)) (is_some l)

both_join : (l r : Typed)
    → is_answer type.text (join_text (value_of l) >>= λ a. join_text (value_of r) >>= λ b. joined a b) ≡ true
both_join l r = rw (has_text l, has_text r) (joined_answers (text_in l) (text_in r))

join_answers : (l r : Typed) → Held (join_type (type_of l) (type_of r)) (join (value_of l) (value_of r))
unfolding join
join_answers l r = closed _ _ _ _ _ _ (both_closed l r) (both_operands l r) (not_both_null l r) (both_join l r)

-- the kind of whole numbers to which an operand of \ and Mod and the bitwise operators comes, beside another
abbrev kind_of : Typed → Typed → WholeKind
kind_of (boolean_typed b) other = kind.Integer
kind_of (byte_typed z) other = kind.Byte
kind_of (integer_typed z) other = kind.Integer
kind_of (long_typed z) other = kind.Long
kind_of (long_long_typed z) other = kind.LongLong
kind_of (currency_typed count) other = whole_kind_beside (value_of other)
kind_of (text_typed units) other = whole_kind_beside (value_of other)
kind_of (fixed_typed size units) other = whole_kind_beside (value_of other)

long_of : (other : Typed) → long_beside (type_of other) ≡ work.Whole (whole_kind_beside (value_of other))
long_of (boolean_typed b) = refl
long_of _ = refl

kind_is : (v other : Typed) → whole_kind (type_of v) (type_of other) ≡ work.Whole (kind_of v other)
kind_is (currency_typed count) other = long_of other
kind_is (text_typed units) other = long_of other
kind_is (fixed_typed size units) other = long_of other
kind_is (boolean_typed b) other = refl
kind_is _ other = refl

abbrev is_boolean_value : Val → Bool
is_boolean_value (boolean b) = true
is_boolean_value value = false

-- a value that an operand comes to: a number of a kind, and a Boolean only where the operand is one
abbrev Whole : Bool → WholeKind → Val → Type 0
Whole b k v = ((w : Val) → kind_beside v w ≡ work.Whole k) × (is_boolean_value v ≡ b)

-- work that goes on with an operand as a whole number
after_whole : (t : Declared) (v other : Typed) (rest : Val → Result Val Bad)
    → ((x : Val) → Whole (is_boolean_value (value_of v)) (kind_of v other) x → is_answer t (rest x) ≡ true)
    → is_answer t (as_whole (value_of v) (value_of other) >>= rest) ≡ true
after_whole t (boolean_typed b) other rest h = h (boolean b) (λ w. refl, refl)
after_whole t (byte_typed z) other rest h = h (whole kind.Byte z) (λ w. refl, refl)
after_whole t (integer_typed z) other rest h = h (whole kind.Integer z) (λ w. refl, refl)
after_whole t (long_typed z) other rest h = h (whole kind.Long z) (λ w. refl, refl)
after_whole t (long_long_typed z) other rest h = h (whole kind.LongLong z) (λ w. refl, refl)
after_whole t (currency_typed count) other rest h =
    after_ranged t (whole_kind_beside (value_of other)) (half_even count 10000) rest
    (λ x. h (whole (whole_kind_beside (value_of other)) x) (λ w. refl, refl))
after_whole t (text_typed units) other rest h =
    after_text t (whole_kind_beside (value_of other)) units (read units) rest
    (λ x. h (whole (whole_kind_beside (value_of other)) x) (λ w. refl, refl))
after_whole t (fixed_typed size units) other rest h =
    after_text t (whole_kind_beside (value_of other)) units (read units) rest
    (λ x. h (whole (whole_kind_beside (value_of other)) x) (λ w. refl, refl))

-- \ and Mod in a kind
remainder_answers : (k : WholeKind) (x y : ℤ) → is_answer (kind_type (work.Whole k)) (divided op.Mod k x y) ≡ true
remainder_answers k x y = by_zero (int_eq y (pos 0)) where
  by_zero : (t : Bool)
      → is_answer (kind_type (work.Whole k)) (if t then Err division_by_zero else ranged k (int_rem x y)) ≡ true
  by_zero true = refl
  by_zero false = ranged_answers k (int_rem x y)

quotient_answers : (k : WholeKind) (x y : ℤ) → is_answer (kind_type (work.Whole k)) (divided op.IntDiv k x y) ≡ true
quotient_answers k x y = by_zero (int_eq y (pos 0)) where
  by_zero : (t : Bool)
      → is_answer (kind_type (work.Whole k)) (if t then Err division_by_zero else ranged k (int_div x y)) ≡ true
  by_zero true = refl
  by_zero false = ranged_answers k (int_div x y)

-- the type of whole work, and the kind in which it is done
abbrev both_type : Typed → Typed → Declared
both_type l r = kind_type (wider (whole_kind (type_of l) (type_of r)) (whole_kind (type_of r) (type_of l)))

abbrev both_kind : Typed → Typed → WholeKind
both_kind l r = wider_whole (kind_of l r) (kind_of r l)

whole_type : (l r : Typed) → both_type l r ≡ kind_type (work.Whole (both_kind l r))
whole_type l r =
    ap (λ w. kind_type (wider w (whole_kind (type_of r) (type_of l)))) (kind_is l r)
    ∙ ap (λ w. kind_type (wider (work.Whole (kind_of l r)) w)) (kind_is r l)

work_is : (x y : Val) (k j : WholeKind)
    → ((w : Val) → kind_beside x w ≡ work.Whole k) → ((w : Val) → kind_beside y w ≡ work.Whole j)
    → whole_work (work_of x y) ≡ wider_whole k j
work_is x y k j h i =
    ap (λ w. whole_work (wider w (kind_beside y x))) (h y) ∙ ap (λ w. whole_work (wider (work.Whole k) w)) (i x)

abbrev made : Typed → Typed → (Val → Val → Result Val Bad) → Result Val Bad
made l r make = as_whole (value_of l) (value_of r) >>= λ x. as_whole (value_of r) (value_of l) >>= λ y. make x y

-- two operands as whole numbers, and what is made of them in the kind of the work
both_whole : (l r : Typed) (make : Val → Val → Result Val Bad)
    → ((x y : Val) → Whole (is_boolean_value (value_of l)) (kind_of l r) x
    → Whole (is_boolean_value (value_of r)) (kind_of r l) y
    → is_answer (kind_type (work.Whole (both_kind l r))) (make x y) ≡ true)
    → is_answer (both_type l r) (made l r make) ≡ true
both_whole l r make h =
    ap (λ t. is_answer t (made l r make)) (whole_type l r)
    ∙ after_whole _ l r _ (λ x wx. after_whole _ r l _ (λ y wy. h x y wx wy))

in_kind : (make : WholeKind → Result Val Bad) → ((k : WholeKind)
    → is_answer (kind_type (work.Whole k)) (make k) ≡ true)
    → (j k : WholeKind) → j ≡ k → is_answer (kind_type (work.Whole k)) (make j) ≡ true
in_kind make h j k e = subst (λ m. is_answer (kind_type (work.Whole m)) (make j) ≡ true) e (h j)

both_remainder : (l r : Typed) → is_answer (both_type l r) (made l r (division_of op.Mod)) ≡ true
both_remainder l r = both_whole l r (division_of op.Mod) (λ x y wx wy.
    in_kind (λ k. divided op.Mod k (number_of x) (number_of y)) (λ k. remainder_answers k (number_of x) (number_of y))
    _ _ (work_is x y _ _ wx.0 wy.0))

both_quotient : (l r : Typed) → is_answer (both_type l r) (made l r (division_of op.IntDiv)) ≡ true
both_quotient l r = both_whole l r (division_of op.IntDiv) (λ x y wx wy.
    in_kind (λ k. divided op.IntDiv k (number_of x) (number_of y)) (λ k. quotient_answers k (number_of x) (number_of y))
    _ _ (work_is x y _ _ wx.0 wy.0))

mod_answers : (l r : Typed) → Held (division_type (type_of l) (type_of r)) (division op.Mod (value_of l) (value_of r))
unfolding division
mod_answers l r = closed _ _ _ _ _ _ (both_closed l r) (both_operands l r) (neither_null l r) (both_remainder l r)

int_div_answers : (l r : Typed)
    → Held (division_type (type_of l) (type_of r)) (division op.IntDiv (value_of l) (value_of r))
unfolding division
int_div_answers l r = closed _ _ _ _ _ _ (both_closed l r) (both_operands l r) (neither_null l r) (both_quotient l r)

-- bit by bit where not both are Booleans
logic_apart : (o : OpKind) (x y : Val) → (is_boolean_value x && is_boolean_value y) ≡ false
    → logic_of o x y ≡ logic_of_numbers o x y
logic_apart o (boolean a) (boolean b) h = absurd (cc)
logic_apart o _ _ h = refl

bits_answer : (o : OpKind) (x y : Val) (k : WholeKind) → whole_work (work_of x y) ≡ k
    → is_answer (kind_type (work.Whole k)) (Ok (logic_of_numbers o x y)) ≡ true
unfolding logic_of_numbers
bits_answer o x y k e =
    in_kind (λ j. Ok (bitwise_in o j (number_of x) (number_of y))) (λ j. kind_answers j _) _ k e

both_bits : (o : OpKind) (l r : Typed) → (is_boolean_value (value_of l) && is_boolean_value (value_of r)) ≡ false
    → is_answer (both_type l r) (logic_whole o (value_of l) (value_of r)) ≡ true
unfolding logic_whole
both_bits o l r apart = both_whole l r (λ x y. Ok (logic_of o x y)) (λ x y wx wy.
    ap (λ v. is_answer (kind_type (work.Whole (both_kind l r))) (Ok v))
    (logic_apart o x y
    (ap (λ b. b && is_boolean_value y) wx.1 ∙ ap (λ b. is_boolean_value (value_of l) && b) wy.1 ∙ apart))
    ∙ bits_answer o x y _ (work_is x y _ _ wx.0 wy.0))

numbers_answer : (o : OpKind) (l r : Typed) → (is_boolean_value (value_of l) && is_boolean_value (value_of r)) ≡ false
    → Held (division_type (type_of l) (type_of r)) (logical o (value_of l) (value_of r))
numbers_answer o l r apart =
    closed _ _ _ _ _ _ (both_closed l r) (both_operands l r) (neither_null l r) (both_bits o l r apart)

logic_answers : (o : OpKind) (l r : Typed)
    → Held (logic_type (type_of l) (type_of r)) (logical o (value_of l) (value_of r))
unfolding logic_whole
logic_answers o (boolean_typed a) (boolean_typed b) = refl
logic_answers o l r = numbers_answer o l r refl

-- + and -: two texts are joined by +, a text beside Currency is one
amount_behind : (o : OpKind) (units : List ℕ) (count : ℤ)
    → is_answer type.currency
    (to_currency (text units) >>= λ amount. of_numbers o false amount (currency count)) ≡ true
amount_behind o units count =
    after_currency type.currency units (read units) _
    (λ x. worked_answers o work.Currency (currency x) (currency count))

amount_before : (o : OpKind) (count : ℤ) (units : List ℕ)
    → is_answer type.currency
    (to_currency (text units) >>= λ amount. of_numbers o false (currency count) amount) ≡ true
amount_before o count units =
    after_currency type.currency units (read units) _
    (λ x. worked_answers o work.Currency (currency count) (currency x))

plus_answers : (l r : Typed) → Worked op.Add l r
plus_answers (text_typed units) (text_typed others) = joined_answers units others
plus_answers (text_typed units) (fixed_typed size others) = joined_answers units others
plus_answers (fixed_typed size units) (text_typed others) = joined_answers units others
plus_answers (fixed_typed size units) (fixed_typed other_size others) = joined_answers units others
plus_answers (text_typed units) (currency_typed count) = amount_behind op.Add units count
plus_answers (fixed_typed size units) (currency_typed count) = amount_behind op.Add units count
plus_answers (currency_typed count) (text_typed units) = amount_before op.Add count units
plus_answers (currency_typed count) (fixed_typed size units) = amount_before op.Add count units
plus_answers (text_typed units) _ = tt
plus_answers (fixed_typed size units) _ = tt
plus_answers _ (text_typed units) = tt
plus_answers _ (fixed_typed size units) = tt
plus_answers l r = worked_answers op.Add (work_of (value_of l) (value_of r)) (value_of l) (value_of r)

less_answers : (l r : Typed) → Worked op.Sub l r
less_answers (text_typed units) (currency_typed count) = amount_behind op.Sub units count
less_answers (fixed_typed size units) (currency_typed count) = amount_behind op.Sub units count
less_answers (currency_typed count) (text_typed units) = amount_before op.Sub count units
less_answers (currency_typed count) (fixed_typed size units) = amount_before op.Sub count units
less_answers (text_typed units) _ = tt
less_answers (fixed_typed size units) _ = tt
less_answers _ (text_typed units) = tt
less_answers _ (fixed_typed size units) = tt
less_answers l r = worked_answers op.Sub (work_of (value_of l) (value_of r)) (value_of l) (value_of r)

-- an operand that no operator takes
or_left : (a b : Bool) → a ≡ true → (a || b) ≡ true
or_left true b h = refl
or_left false b h = absurd (cc)

or_right : (a b : Bool) → b ≡ true → (a || b) ≡ true
or_right true b h = refl
or_right false b h = h

untaken_logic : (o : OpKind) (l : Val) (ld : Declared) (r : Val) (rd : Declared) → (is_open ld || is_open rd) ≡ true
    → (is_no_operand l || is_no_operand r) ≡ true → Held (logic_type ld rd) (logical o l r)
untaken_logic o l type.boolean r type.boolean d v = absurd (cc)
untaken_logic o l ld r rd d v =
    opened (is_open ld || is_open rd) (is_no_operand l || is_no_operand r)
    (Some (kind_type (wider (whole_kind ld rd) (whole_kind rd ld))))
    (if is_null l || is_null r then logic_null o l r else logic_whole o l r) d v

untaken : (o : OpKind) (l : Val) (ld : Declared) (r : Val) (rd : Declared) (c : Compare) → has_two_operands o ≡ true
    → (is_open ld || is_open rd) ≡ true → (is_no_operand l || is_no_operand r) ≡ true
    → Held (static_of o ld rd) (binary_of o l ld r rd c)
unfolding join division
untaken op.Neg l ld r rd c two d v = absurd (cc)
untaken op.Not l ld r rd c two d v = absurd (cc)
untaken op.Add l ld r rd c two d v = opened (is_open ld || is_open rd) (is_no_operand l || is_no_operand r) _ _ d v
untaken op.Sub l ld r rd c two d v = opened (is_open ld || is_open rd) (is_no_operand l || is_no_operand r) _ _ d v
untaken op.Mul l ld r rd c two d v = opened (is_open ld || is_open rd) (is_no_operand l || is_no_operand r) _ _ d v
untaken op.IntDiv l ld r rd c two d v = opened (is_open ld || is_open rd) (is_no_operand l || is_no_operand r) _ _ d v
untaken op.Mod l ld r rd c two d v = opened (is_open ld || is_open rd) (is_no_operand l || is_no_operand r) _ _ d v
untaken op.Divide l ld r rd c two d v = tt
untaken op.Power l ld r rd c two d v = tt
untaken op.Join l ld r rd c two d v = opened (is_open ld || is_open rd) (is_no_operand l || is_no_operand r) _ _ d v
untaken op.Eq l ld r rd c two d v = opened (is_open ld || is_open rd) (is_no_operand l || is_no_operand r) _ _ d v
untaken op.Ne l ld r rd c two d v = opened (is_open ld || is_open rd) (is_no_operand l || is_no_operand r) _ _ d v
untaken op.Lt l ld r rd c two d v = opened (is_open ld || is_open rd) (is_no_operand l || is_no_operand r) _ _ d v
untaken op.Le l ld r rd c two d v = opened (is_open ld || is_open rd) (is_no_operand l || is_no_operand r) _ _ d v
untaken op.Gt l ld r rd c two d v = opened (is_open ld || is_open rd) (is_no_operand l || is_no_operand r) _ _ d v
untaken op.Ge l ld r rd c two d v = opened (is_open ld || is_open rd) (is_no_operand l || is_no_operand r) _ _ d v
untaken op.And l ld r rd c two d v = untaken_logic op.And l ld r rd d v
untaken op.Or l ld r rd c two d v = untaken_logic op.Or l ld r rd d v
untaken op.Xor l ld r rd c two d v = untaken_logic op.Xor l ld r rd d v
untaken op.Eqv l ld r rd c two d v = untaken_logic op.Eqv l ld r rd d v
untaken op.Imp l ld r rd c two d v = untaken_logic op.Imp l ld r rd d v

taken : (o : OpKind) (l r : Typed) (c : Compare) → has_two_operands o ≡ true
    → Held (static_of o (type_of l) (type_of r)) (binary_of o (value_of l) (type_of l) (value_of r) (type_of r) c)
taken op.Neg l r c two = absurd (cc)
taken op.Not l r c two = absurd (cc)
taken op.Add l r c two = plus_answers l r
taken op.Sub l r c two = less_answers l r
taken op.Mul l r c two = times_answers l r
taken op.IntDiv l r c two = int_div_answers l r
taken op.Mod l r c two = mod_answers l r
taken op.Divide l r c two = tt
taken op.Power l r c two = tt
taken op.Join l r c two = join_answers l r
taken op.Eq l r c two = comparison_answers op.Eq c l r
taken op.Ne l r c two = comparison_answers op.Ne c l r
taken op.Lt l r c two = comparison_answers op.Lt c l r
taken op.Le l r c two = comparison_answers op.Le c l r
taken op.Gt l r c two = comparison_answers op.Gt c l r
taken op.Ge l r c two = comparison_answers op.Ge c l r
taken op.And l r c two = logic_answers op.And l r
taken op.Or l r c two = logic_answers op.Or l r
taken op.Xor l r c two = logic_answers op.Xor l r
taken op.Eqv l r c two = logic_answers op.Eqv l r
taken op.Imp l r c two = logic_answers op.Imp l r

binary_held : (o : OpKind) (l : Val) (ld : Declared) (r : Val) (rd : Declared) (c : Compare)
    → has_two_operands o ≡ true
    → is_variant ld ≡ false → is_variant rd ≡ false → is_of ld l ≡ true → is_of rd r ≡ true
    → Held (static_of o ld rd) (binary_of o l ld r rd c)
binary_held o l ld r rd c two ln rn li ri =
    by_types (λ d v. Held (static_of o d rd) (binary_of o v d r rd c))
    (λ d v e n. untaken o v d r rd c two (or_left (is_open d) (is_open rd) e)
    (or_left (is_no_operand v) (is_no_operand r) n))
    (λ t. by_types (λ d v. Held (static_of o (type_of t) d) (binary_of o (value_of t) (type_of t) v d c))
    (λ d v e n. untaken o (value_of t) (type_of t) v d c two (or_right (is_open (type_of t)) (is_open d) e)
    (or_right (is_no_operand (value_of t)) (is_no_operand v) n))
    (λ s. taken o t s c two) rd r rn ri)
    ld l ln li

pub binary_answers : (o : OpKind) (l : Val) (ld : Declared) (r : Val) (rd : Declared) (c : Compare) (given : Declared)
    → has_two_operands o ≡ true
    → is_variant ld ≡ false → is_variant rd ≡ false → is_of ld l ≡ true → is_of rd r ≡ true
    → static_of o ld rd ≡ Some given
    → is_answer given (binary_of o l ld r rd c) ≡ true
binary_answers o l ld r rd c given two ln rn li ri same =
    held (static_of o ld rd) (binary_of o l ld r rd c) given same (binary_held o l ld r rd c two ln rn li ri)

-- the operators of one operand
untaken_not : (v : Val) (d : Declared) → is_open d ≡ true → is_no_operand v ≡ true → Held (not_type d) (logical_not v)
untaken_not v d e n = opened (is_open d) (is_no_operand v) _ _ e n

untaken_minus : (v : Val) (d : Declared) → is_open d ≡ true → is_no_operand v ≡ true
    → Held (minus_type d) (negated (is_variant d) v)
untaken_minus missing d e n = opened (is_open d) true _ (Ok null) e refl
untaken_minus (object o) d e n = opened (is_open d) true _ (Ok null) e refl
untaken_minus (array b t vs) d e n = opened (is_open d) true _ (Ok null) e refl
untaken_minus (udt p vs) d e n = opened (is_open d) true _ (Ok null) e refl
untaken_minus _ d e n = absurd (cc)

unary_held : (o : OpKind) (v : Val) (d : Declared) → has_two_operands o ≡ false → is_variant d ≡ false
    → is_of d v ≡ true
    → Held (static_of o d d) (unary_of o v d)
unary_held op.Neg v d one n i =
    by_types (λ e w. Held (minus_type e) (negated (is_variant e) w))
    (λ e w a b. untaken_minus w e a b) minus_answers d v n i
unary_held op.Not v d one n i =
    by_types (λ e w. Held (not_type e) (logical_not w)) (λ e w a b. untaken_not w e a b) not_answers d v n i
unary_held _ v d one n i = absurd (cc)

pub unary_answers : (o : OpKind) (v : Val) (d : Declared) (given : Declared) → has_two_operands o ≡ false
    → is_variant d ≡ false
    → is_of d v ≡ true → static_of o d d ≡ Some given → is_answer given (unary_of o v d) ≡ true
unary_answers o v d given one n i same = held (static_of o d d) (unary_of o v d) given same (unary_held o v d one n i)
