-- What values refer to that are computed: the answers of the tables of values, arrays and the library refer to what their
-- operands refer to, and most of them to nothing.
use Rattle.std.proofs.Common.{◌≡◌, ℕ, zero, suc, ◌+◌, ◌<◌, Bool, true, false, List, [], ◌∷◌, ◌++◌, length, map, replicate, Option, Some, None, Result, Ok, Err, ℤ, pos, refl, ap, ◌∙◌, arith}
use Rattle.std.specs.Prelude.{◌*◌, ◌*ℤ◌, neg_ℤ, if◌then◌else◌, ◌&&◌, ◌||◌, nat_lt, ◌==◌}
use Rattle.std.specs.List.{range_with_len}
use Rattle.std.specs.Ordering.{int_eq}
use Rattle.std.proofs.lemmas.Bool.{eq-eqb}
use Rattle.std.specs.declared.cmp.Ordering.{Ordering}
use Rattle.vba_base.specs.Answer.{◌>>=◌}
use Rattle.currency.specs.NumberText.{Numeral, read}
use Rattle.currency.specs.Parsed.{rounded}
use Rattle.currency.specs.Range.{is_i64}
use Rattle.vba_values.specs.declared.fault.Bad.{Bad}
use Rattle.vba_values.specs.declared.types.OpKind.{OpKind}
use Rattle.vba_values.specs.declared.types.OpKind.TheVariants as op
use Rattle.vba_values.specs.declared.types.WholeKind.{WholeKind}
use Rattle.vba_values.specs.declared.types.WholeKind.TheVariants as kind
use Rattle.vba_values.specs.declared.types.Compare.{Compare}
use Rattle.vba_values.specs.declared.operands.Work.{Work}
use Rattle.vba_values.specs.declared.operands.Work.TheVariants as work
use Rattle.vba_values.specs.declared.value.Bound.{Bound}
use Rattle.vba_values.specs.Types.{Declared}
use Rattle.vba_values.specs.Types as type
use Rattle.vba_values.specs.Val.{Val, Vals, empty, null, missing, boolean, whole, currency, text, object, array, udt, no_vals, val, vals_of}
use Rattle.vba_values.specs.Whole.{fits, ranged, boolean_in}
use Rattle.vba_values.specs.Texts.{amount, whole_of_numeral, currency_of_numeral, boolean_of_numeral, boolean_of_text, is_same_word, word_of}
use Rattle.vba_values.specs.Coerce.{is_text, coerce_of, to_boolean, to_whole, to_currency, text_of, to_text, to_fixed_text, to_object, to_udt, to_array, is_same_type}
use Rattle.vba_values.specs.Operands.{is_no_operand, is_null, work_of, number_of, count_of}
use Rattle.vba_values.specs.Arithmetic.{exact_count, joined, widened_to, widened, whole_result, worked, of_numbers, text_beside_currency, text_before, text_behind, with_text, arithmetic, as_whole, divided, division, negated, double_result}
use Rattle.vba_values.specs.Comparison.{is_variant, answer_of, order_of, comparison}
use Rattle.vba_values.specs.Errors.{type_mismatch}
use Rattle.vba_values.specs.Logic.{logic_of_numbers, logic_of, is_zero, beside_null, before_null, behind_null, logic_before_null, logic_behind_null, logic_whole, logical, complement, logical_not, all_of}
use Rattle.vba_values.specs.Operators.{join_text, join_behind, join, binary_of, unary_of}
use Rattle.arrays_udt.specs.Fields.{Field, has_bounds, stored, fields_at}
use Rattle.arrays_udt.specs.Fresh.{filled, initial_by, field_by, udt_within, udt_initial, initial, field_initial}
use Rattle.arrays_udt.specs.Shapes.{elements, is_place, layout, place_at}
use Rattle.arrays_udt.specs.Resize.{item_at, kept, resized}
use Rattle.sheet_host.specs.declared.area.Area.{Area}
use Rattle.sheet_host.specs.declared.cell.CellValue.{CellValue}
use Rattle.sheet_host.specs.declared.cell.CellValue.TheVariants as cell
use Rattle.sheet_host.specs.Books.{Sheets}
use Rattle.sheet_host.specs.Gathered.{firsts}
use Rattle.sheet_host.specs.Reading.{value_of_cell, element_of, element_limit, area_value}
use Rattle.vba_meaning.specs.References.{objects_in, objects_in_vals, objects_in_values, times}
use Rattle.object_counts.proofs.Indexed.{times-append}

-- ---- lists of references

-- these are all among those
pub record In (xs ys : List ℕ) : Type 0 where
  pub at : (o : ℕ) → 0 < times o xs → 0 < times o ys

pub either_of : {X : Type 0} (a b : ℕ) → 0 < a + b → (0 < a → X) → (0 < b → X) → X
either_of zero b h f g = g (omega (arith, h))
either_of (suc a) b h f g = f (omega arith)

pub none_in : (ys : List ℕ) → In [] ys
none_in ys = record { at = λ o lt. absurd (omega (arith, lt)) }

pub in_self : (xs : List ℕ) → In xs xs
in_self xs = record { at = λ o lt. lt }

pub in_front : (xs ys : List ℕ) → In xs (xs ++ ys)
in_front xs ys = record { at = λ o lt. omega (arith, times-append o xs ys, lt) }

pub in_back : (xs ys : List ℕ) → In ys (xs ++ ys)
in_back xs ys = record { at = λ o lt. omega (arith, times-append o xs ys, lt) }

pub in_both : {zs : List ℕ} (xs ys : List ℕ) → In xs zs → In ys zs → In (xs ++ ys) zs
in_both xs ys a b = record { at = λ o lt. either_of (times o xs) (times o ys) (omega (arith, times-append o xs ys, lt)) (a.at o) (b.at o) }

pub in_then : {xs ys zs : List ℕ} → In xs ys → In ys zs → In xs zs
in_then a b = record { at = λ o lt. b.at o (a.at o lt) }

pub front_of : {zs : List ℕ} (xs ys : List ℕ) → In (xs ++ ys) zs → In xs zs
front_of xs ys h = record { at = λ o lt. h.at o (omega (arith, times-append o xs ys, lt)) }

pub back_of : {zs : List ℕ} (xs ys : List ℕ) → In (xs ++ ys) zs → In ys zs
back_of xs ys h = record { at = λ o lt. h.at o (omega (arith, times-append o xs ys, lt)) }

pub own_time : (o : ℕ) → 0 < times o (o ∷ [])
own_time o = by_test (o == o) (eq-eqb o o refl) where
  by_test : (b : Bool) → b ≡ true → 0 < (if b then 1 else 0) + 0
  by_test true e = omega arith
  by_test false e = absurd cc

-- ---- answers

-- a value refers to these alone
abbrev pub Refers : List ℕ → Val → Type 0
Refers xs v = In (objects_in v) xs

-- so does a value that a table gives
abbrev pub OkIn : List ℕ → Result Val Bad → Type 0
OkIn xs (Ok v) = Refers xs v
OkIn xs (Err bad) = Unit {0}

-- it refers to nothing
abbrev pub Free : Val → Type 0
Free v = objects_in v ≡ []

abbrev pub FreeOk : Result Val Bad → Type 0
FreeOk (Ok v) = Free v
FreeOk (Err bad) = Unit {0}

pub free_refers : {xs : List ℕ} (v : Val) → Free v → Refers xs v
free_refers v e = record { at = λ o lt. absurd (omega (arith, ap (times o) e, lt)) }

pub free_in : (xs : List ℕ) (r : Result Val Bad) → FreeOk r → OkIn xs r
free_in xs (Ok v) e = free_refers v e
free_in xs (Err bad) e = tt

pub if_free : (b : Bool) (r q : Result Val Bad) → FreeOk r → FreeOk q → FreeOk (if b then r else q)
if_free true r q h k = h
if_free false r q h k = k

if_is_free : (b : Bool) (v w : Val) → Free v → Free w → Free (if b then v else w)
if_is_free true v w h k = h
if_is_free false v w h k = k

-- whatever comes before
pub bind_free : {A : Type 0} (r : Result A Bad) (f : A → Result Val Bad) → ((x : A) → FreeOk (f x)) → FreeOk (r >>= f)
bind_free (Ok x) f h = h x
bind_free (Err bad) f h = tt

pub behind_free : (r : Result Val Bad) (f : Val → Result Val Bad) → FreeOk r → ((v : Val) → Free v → FreeOk (f v)) → FreeOk (r >>= f)
behind_free (Ok v) f e h = h v e
behind_free (Err bad) f e h = tt

-- ---- coercion

pub ranged_free : (k : WholeKind) (z : ℤ) → FreeOk (ranged k z)
ranged_free k z = if_free (fits k z) (Ok (whole k z)) (Err _) refl tt

pub amount_free : (z : ℤ) → FreeOk (amount z)
amount_free z = if_free (is_i64 z) (Ok (currency z)) (Err _) refl tt

whole_text_free : (k : WholeKind) (t : List ℕ) (n : Option Numeral) → FreeOk (whole_of_numeral k t n)
whole_text_free k t None = tt
whole_text_free k t (Some n) = ranged_free k _

currency_text_free : (t : List ℕ) (n : Option Numeral) → FreeOk (currency_of_numeral t n)
currency_text_free t None = tt
currency_text_free t (Some n) = amount_free (rounded 4 n)

numeral_free : (t : List ℕ) (n : Option Numeral) → FreeOk (boolean_of_numeral t n)
numeral_free t None = tt
numeral_free t (Some n) = refl

boolean_text_free : (t : List ℕ) → FreeOk (boolean_of_text t)
boolean_text_free t =
    if_free (is_same_word t (word_of true)) (Ok (boolean true)) _ refl (if_free (is_same_word t (word_of false)) (Ok (boolean false)) _ refl (numeral_free t (read t)))

to_boolean_free : (v : Val) → FreeOk (to_boolean v)
to_boolean_free empty = refl
to_boolean_free null = tt
to_boolean_free missing = tt
to_boolean_free (boolean b) = refl
to_boolean_free (whole k z) = refl
to_boolean_free (currency count) = refl
to_boolean_free (text t) = boolean_text_free t
to_boolean_free (object reference) = tt
to_boolean_free (array bounds of items) = tt
to_boolean_free (udt place fields) = tt

to_whole_free : (k : WholeKind) (v : Val) → FreeOk (to_whole k v)
to_whole_free k empty = refl
to_whole_free k null = tt
to_whole_free k missing = tt
to_whole_free k (boolean b) = refl
to_whole_free k (whole from z) = ranged_free k z
to_whole_free k (currency count) = ranged_free k _
to_whole_free k (text t) = whole_text_free k t (read t)
to_whole_free k (object reference) = tt
to_whole_free k (array bounds of items) = tt
to_whole_free k (udt place fields) = tt

to_currency_free : (v : Val) → FreeOk (to_currency v)
to_currency_free empty = refl
to_currency_free null = tt
to_currency_free missing = tt
to_currency_free (boolean b) = amount_free (boolean_in kind.Integer b *ℤ pos 10000)
to_currency_free (whole k z) = amount_free (z *ℤ pos 10000)
to_currency_free (currency count) = refl
to_currency_free (text t) = currency_text_free t (read t)
to_currency_free (object reference) = tt
to_currency_free (array bounds of items) = tt
to_currency_free (udt place fields) = tt

to_object_in : (v : Val) → OkIn (objects_in v) (to_object v)
to_object_in empty = tt
to_object_in null = tt
to_object_in missing = tt
to_object_in (boolean b) = tt
to_object_in (whole k z) = tt
to_object_in (currency count) = tt
to_object_in (text t) = tt
to_object_in (object reference) = in_self _
to_object_in (array bounds of items) = tt
to_object_in (udt place fields) = tt

-- what is let through by a test
if_in : {xs : List ℕ} (b : Bool) (v : Val) (bad : Bad) → Refers xs v → OkIn xs (if b then Ok v else Err bad)
if_in true v bad h = h
if_in false v bad h = tt

to_udt_in : (wanted : ℕ) (v : Val) → OkIn (objects_in v) (to_udt wanted v)
to_udt_in wanted empty = tt
to_udt_in wanted null = tt
to_udt_in wanted missing = tt
to_udt_in wanted (boolean b) = tt
to_udt_in wanted (whole k z) = tt
to_udt_in wanted (currency count) = tt
to_udt_in wanted (text t) = tt
to_udt_in wanted (object reference) = tt
to_udt_in wanted (array bounds of items) = tt
to_udt_in wanted (udt place fields) = if_in (place == wanted) (udt place fields) _ (in_self _)

to_array_in : (wanted : Declared) (v : Val) → OkIn (objects_in v) (to_array wanted v)
to_array_in wanted empty = tt
to_array_in wanted null = tt
to_array_in wanted missing = tt
to_array_in wanted (boolean b) = tt
to_array_in wanted (whole k z) = tt
to_array_in wanted (currency count) = tt
to_array_in wanted (text t) = tt
to_array_in wanted (object reference) = tt
to_array_in wanted (array bounds of items) = if_in (is_same_type of wanted) (array bounds of items) _ (in_self _)
to_array_in wanted (udt place fields) = tt

pub coerced_in : (v : Val) (of : Declared) → OkIn (objects_in v) (coerce_of v of)
coerced_in v type.boolean = free_in (objects_in v) (to_boolean v) (to_boolean_free v)
coerced_in v type.byte = free_in (objects_in v) (to_whole kind.Byte v) (to_whole_free kind.Byte v)
coerced_in v type.integer = free_in (objects_in v) (to_whole kind.Integer v) (to_whole_free kind.Integer v)
coerced_in v type.long = free_in (objects_in v) (to_whole kind.Long v) (to_whole_free kind.Long v)
coerced_in v type.long_long = free_in (objects_in v) (to_whole kind.LongLong v) (to_whole_free kind.LongLong v)
coerced_in v type.currency = free_in (objects_in v) (to_currency v) (to_currency_free v)
coerced_in v type.text = free_in (objects_in v) (to_text v) (bind_free (text_of v) (λ t. Ok (text t)) (λ t. refl))
coerced_in v (type.fixed_text size) = free_in (objects_in v) (to_fixed_text size v) (bind_free (text_of v) _ (λ t. refl))
coerced_in v type.object = to_object_in v
coerced_in v (type.class number) = to_object_in v
coerced_in v type.collection = to_object_in v
coerced_in v type.worksheet = to_object_in v
coerced_in v type.range = to_object_in v
coerced_in v type.variant = in_self _
coerced_in v (type.udt place) = to_udt_in place v
coerced_in v (type.array_of of) = to_array_in of v

pub unless_in : {xs : List ℕ} (b : Bool) (bad : Bad) (v : Val) → Refers xs v → OkIn xs (if b then Err bad else Ok v)
unless_in true bad v h = tt
unless_in false bad v h = h

-- what an answer refers to is what the operand does
pub through : {xs : List ℕ} (r : Result Val Bad) (v : Val) → OkIn (objects_in v) r → Refers xs v → OkIn xs r
through (Ok w) v h k = in_then h k
through (Err bad) v h k = tt

-- ---- operators

joined_free : (l r : List ℕ) → FreeOk (joined l r)
joined_free l r = if_free (nat_lt 16777216 (length (l ++ r))) (Err _) (Ok (text (l ++ r))) tt refl

widened_to_free : (k : WholeKind) (r : Result Val Bad) (z : ℤ) → FreeOk r → FreeOk (widened_to k r z)
widened_to_free k r z h = if_free (fits k z) (Ok (whole k z)) r refl h

widened_free : (k : WholeKind) (z : ℤ) → FreeOk (widened k z)
widened_free kind.LongLong z = widened_to_free kind.LongLong (Err double_result) z tt
widened_free kind.Long z = widened_to_free kind.Long (Err double_result) z tt
widened_free kind.Integer z = widened_to_free kind.Integer _ z (widened_to_free kind.Long (Err double_result) z tt)
widened_free kind.Byte z = widened_to_free kind.Byte _ z (widened_to_free kind.Integer _ z (widened_to_free kind.Long (Err double_result) z tt))

result_free : (variant : Bool) (k : WholeKind) (z : ℤ) → FreeOk (whole_result variant k z)
result_free variant k z = if_free variant (widened k z) (ranged k z) (widened_free k z) (ranged_free k z)

worked_free : (o : OpKind) (variant : Bool) (w : Work) (l r : Val) → FreeOk (worked o variant w l r)
worked_free o variant (work.Whole k) l r = result_free variant k _
worked_free o variant work.Currency l r = amount_free (exact_count o (count_of l) (count_of r))

numbers_free : (o : OpKind) (variant : Bool) (l r : Val) → FreeOk (of_numbers o variant l r)
numbers_free o variant l r = worked_free o variant (work_of l r) l r

beside_currency_free : (o : OpKind) (t : List ℕ) (f : Val → Result Val Bad) → ((v : Val) → FreeOk (f v)) → FreeOk (text_beside_currency o t f)
beside_currency_free op.Mul t f h = tt
beside_currency_free o t f h = bind_free (to_currency (text t)) f h

text_before_free : (o : OpKind) (t : List ℕ) (r : Val) → FreeOk (text_before o t r)
text_before_free op.Add t (text u) = joined_free t u
text_before_free o t (text u) = tt
text_before_free op.Add t empty = joined_free t []
text_before_free o t (currency count) = beside_currency_free o t _ (λ v. numbers_free o false v (currency count))
text_before_free o t r = tt

text_behind_free : (o : OpKind) (l : Val) (t : List ℕ) → FreeOk (text_behind o l t)
text_behind_free op.Add empty t = joined_free [] t
text_behind_free o (currency count) t = beside_currency_free o t _ (λ v. numbers_free o false (currency count) v)
text_behind_free o l t = tt

with_text_free : (o : OpKind) (l r : Val) → FreeOk (with_text o l r)
with_text_free o (text t) r = text_before_free o t r
with_text_free o l (text t) = text_behind_free o l t
with_text_free o l r = tt

arithmetic_free : (o : OpKind) (variant : Bool) (l r : Val) → FreeOk (arithmetic o variant l r)
arithmetic_free o variant l r =
    if_free (is_no_operand l || is_no_operand r) (Err _) _ tt (if_free (is_null l || is_null r) (Ok null) _ refl
    (if_free (is_text l || is_text r) (with_text o l r) (of_numbers o variant l r) (with_text_free o l r) (numbers_free o variant l r)))

as_whole_free : (v other : Val) → FreeOk (as_whole v other)
as_whole_free empty other = refl
as_whole_free null other = refl
as_whole_free (boolean b) other = refl
as_whole_free (whole k z) other = refl
as_whole_free (currency count) other = to_whole_free _ (currency count)
as_whole_free (text t) other = to_whole_free _ (text t)
as_whole_free v other = tt

divided_free : (o : OpKind) (k : WholeKind) (l r : ℤ) → FreeOk (divided o k l r)
divided_free op.Mod k l r = if_free (int_eq r (pos 0)) (Err _) _ tt (ranged_free k _)
divided_free o k l r = if_free (int_eq r (pos 0)) (Err _) _ tt (ranged_free k _)

division_free : (o : OpKind) (l r : Val) → FreeOk (division o l r)
unfolding division
division_free o l r =
    if_free (is_no_operand l || is_no_operand r) (Err _) _ tt (if_free (is_null l || is_null r) (Ok null) _ refl
    (bind_free (as_whole l r) _ (λ v. bind_free (as_whole r l) _ (λ w. divided_free o _ _ _))))

negated_free : (variant : Bool) (v : Val) → FreeOk (negated variant v)
negated_free variant empty = refl
negated_free variant null = refl
negated_free variant (boolean b) = result_free variant kind.Integer (neg_ℤ (number_of (boolean b)))
negated_free variant (whole kind.Byte z) = result_free variant kind.Integer (neg_ℤ z)
negated_free variant (whole k z) = result_free variant k (neg_ℤ z)
negated_free variant (currency count) = amount_free (neg_ℤ count)
negated_free variant (text t) = tt
negated_free variant v = tt

join_behind_free : (t : List ℕ) (v : Val) → FreeOk (join_behind t v)
join_behind_free t v = bind_free (join_text v) _ (λ u. joined_free t u)

join_free : (l r : Val) → FreeOk (join l r)
unfolding join
join_free l r =
    if_free (is_no_operand l || is_no_operand r) (Err _) _ tt (if_free (is_null l && is_null r) (Ok null) _ refl (bind_free (join_text l) _ (λ t. join_behind_free t r)))

answer_free : (o : OpKind) (r : Result Ordering Bad) → FreeOk (answer_of o r)
answer_free o (Ok order) = refl
answer_free o (Err bad) = tt

comparison_free : (o : OpKind) (compare : Compare) (l : Val) (ld : Declared) (r : Val) (rd : Declared) → FreeOk (comparison o compare l ld r rd)
comparison_free o compare l ld r rd =
    if_free (is_no_operand l || is_no_operand r) (Err _) _ tt (if_free (is_null l || is_null r) (Ok null) _ refl (answer_free o (order_of compare l ld r rd)))

logic_numbers_free : (o : OpKind) (l r : Val) → Free (logic_of_numbers o l r)
unfolding logic_of_numbers
logic_numbers_free o l r = refl

logic_free : (o : OpKind) (l r : Val) → Free (logic_of o l r)
logic_free o (boolean l) (boolean r) = refl
logic_free o l r = logic_numbers_free o l r

beside_free : (v : Val) → Free v → Free (beside_null v)
beside_free empty e = refl
beside_free v e = e

all_free : (v : Val) → Free (all_of v)
all_free (whole k z) = refl
all_free v = refl

before_free : (o : OpKind) (v : Val) → Free v → Free (before_null o v)
before_free op.And v e = if_is_free (is_zero v) v null e refl
before_free op.Or v e = if_is_free (is_zero v) null v refl e
before_free op.Imp v e = if_is_free (is_zero v) (all_of v) null (all_free v) refl
before_free o v e = refl

behind_null_free : (o : OpKind) (v : Val) → Free v → Free (behind_null o v)
behind_null_free op.And v e = if_is_free (is_zero v) v null e refl
behind_null_free op.Or v e = if_is_free (is_zero v) null v refl e
behind_null_free op.Imp v e = if_is_free (is_zero v) null v refl e
behind_null_free o v e = refl

logic_before_free : (o : OpKind) (l : Val) → FreeOk (logic_before_null o l)
unfolding logic_before_null
logic_before_free o l = behind_free (as_whole l null) _ (as_whole_free l null) (λ v e. before_free o (beside_null v) (beside_free v e))

logic_behind_free : (o : OpKind) (r : Val) → FreeOk (logic_behind_null o r)
unfolding logic_behind_null
logic_behind_free o r = behind_free (as_whole r null) _ (as_whole_free r null) (λ v e. behind_null_free o (beside_null v) (beside_free v e))

logic_whole_free : (o : OpKind) (l r : Val) → FreeOk (logic_whole o l r)
unfolding logic_whole
logic_whole_free o l r = bind_free (as_whole l r) _ (λ v. bind_free (as_whole r l) _ (λ w. logic_free o v w))

logical_free : (o : OpKind) (l r : Val) → FreeOk (logical o l r)
logical_free o l r =
    if_free (is_no_operand l || is_no_operand r) (Err _) _ tt (if_free (is_null l || is_null r) _ _
    (if_free (is_null l) (logic_behind_null o r) (logic_before_null o l) (logic_behind_free o r) (logic_before_free o l)) (logic_whole_free o l r))

complement_free : (v : Val) → Free (complement v)
complement_free null = refl
complement_free (boolean b) = refl
complement_free (whole k z) = refl
complement_free v = refl

not_free : (v : Val) → FreeOk (logical_not v)
not_free v = if_free (is_no_operand v) (Err _) _ tt (bind_free (as_whole v null) _ (λ w. complement_free w))

binary_free : (o : OpKind) (l : Val) (ld : Declared) (r : Val) (rd : Declared) (compare : Compare) → FreeOk (binary_of o l ld r rd compare)
binary_free op.Add l ld r rd compare = arithmetic_free op.Add (is_variant ld || is_variant rd) l r
binary_free op.Sub l ld r rd compare = arithmetic_free op.Sub (is_variant ld || is_variant rd) l r
binary_free op.Mul l ld r rd compare = arithmetic_free op.Mul (is_variant ld || is_variant rd) l r
binary_free op.IntDiv l ld r rd compare = division_free op.IntDiv l r
binary_free op.Mod l ld r rd compare = division_free op.Mod l r
binary_free op.Divide l ld r rd compare = tt
binary_free op.Power l ld r rd compare = tt
binary_free op.Join l ld r rd compare = join_free l r
binary_free op.And l ld r rd compare = logical_free op.And l r
binary_free op.Or l ld r rd compare = logical_free op.Or l r
binary_free op.Xor l ld r rd compare = logical_free op.Xor l r
binary_free op.Eqv l ld r rd compare = logical_free op.Eqv l r
binary_free op.Imp l ld r rd compare = logical_free op.Imp l r
binary_free o l ld r rd compare = comparison_free o compare l ld r rd

unary_free : (o : OpKind) (v : Val) (of : Declared) → FreeOk (unary_of o v of)
unary_free op.Not v of = not_free v
unary_free o v of = negated_free (is_variant of) v

pub operated_in : (xs : List ℕ) (o : OpKind) (l : Val) (ld : Declared) (r : Val) (rd : Declared) (compare : Compare) → OkIn xs (binary_of o l ld r rd compare)
operated_in xs o l ld r rd compare = free_in xs (binary_of o l ld r rd compare) (binary_free o l ld r rd compare)

-- what is compared refers to nothing
plain_operand : (v : Val) → is_no_operand v ≡ false → Refers [] v
plain_operand missing e = absurd cc
plain_operand (object reference) e = absurd cc
plain_operand (array bounds of items) e = absurd cc
plain_operand (udt number fields) e = absurd cc
plain_operand v e = none_in []

neither : (b c : Bool) → (b || c) ≡ false → (b ≡ false) × (c ≡ false)
neither true c e = absurd cc
neither false c e = (refl, e)

pub compared_plain : (o : OpKind) (compare : Compare) (l : Val) (ld : Declared) (r : Val) (rd : Declared) (v : Val) → comparison o compare l ld r rd ≡ Ok v → Refers [] l × Refers [] r
compared_plain o compare l ld r rd v e = by_test (is_no_operand l || is_no_operand r) refl e where
  by_test : (t : Bool) → (is_no_operand l || is_no_operand r) ≡ t → (if t then Err type_mismatch else if is_null l || is_null r then Ok null else answer_of o (order_of compare l ld r rd)) ≡ Ok v → Refers [] l × Refers [] r
  by_test true k h = absurd cc
  by_test false k h = (let n = neither (is_no_operand l) (is_no_operand r) k in (plain_operand l n.0, plain_operand r n.1))

pub operated_alone_in : (xs : List ℕ) (o : OpKind) (v : Val) (of : Declared) → OkIn xs (unary_of o v of)
operated_alone_in xs o v of = free_in xs (unary_of o v of) (unary_free o v of)

pub ranged_in : (xs : List ℕ) (k : WholeKind) (z : ℤ) → OkIn xs (ranged k z)
ranged_in xs k z = free_in xs (ranged k z) (ranged_free k z)

-- ---- lists of values

pub map_free : {A : Type 0} (f : A → Val) → ((x : A) → Free (f x)) → (xs : List A) → objects_in_vals (vals_of (map f xs)) ≡ []
map_free f h [] = refl
map_free f h (x ∷ xs) = ap (λ os. os ++ objects_in_vals (vals_of (map f xs))) (h x) ∙ map_free f h xs

firsts_free : (f : ℕ → Val) → ((i : ℕ) → Free (f i)) → (n : ℕ) → objects_in_vals (vals_of (firsts f n)) ≡ []
firsts_free f h zero = refl
firsts_free f h (suc n) = append_free (firsts f n) (f n) (firsts_free f h n) (h n) where
  append_free : (vs : List Val) (v : Val) → objects_in_vals (vals_of vs) ≡ [] → Free v → objects_in_vals (vals_of (vs ++ v ∷ [])) ≡ []
  append_free [] v e k = ap (λ os. os ++ []) k
  append_free (w ∷ vs) v e k = both_nil (objects_in w) (objects_in_vals (vals_of vs)) (objects_in_vals (vals_of (vs ++ v ∷ []))) e (append_free vs v) where
    both_nil : (a b c : List ℕ) → a ++ b ≡ [] → (b ≡ [] → Free v → c ≡ []) → a ++ c ≡ []
    both_nil [] b c e more = more e k
    both_nil (x ∷ a) b c e more = absurd cc

map_in : {A : Type 0} {xs : List ℕ} (f : A → Val) → ((x : A) → Refers xs (f x)) → (ys : List A) → In (objects_in_vals (vals_of (map f ys))) xs
map_in {xs = xs} f h [] = none_in xs
map_in f h (y ∷ ys) = in_both (objects_in (f y)) (objects_in_vals (vals_of (map f ys))) (h y) (map_in f h ys)

replicate_in : {xs : List ℕ} (n : ℕ) (v : Val) → Refers xs v → In (objects_in_vals (vals_of (replicate n v))) xs
replicate_in {xs = xs} zero v h = none_in xs
replicate_in (suc n) v h = in_both (objects_in v) (objects_in_vals (vals_of (replicate n v))) h (replicate_in n v h)

pub vals_in : {xs : List ℕ} (vs : List Val) → In (objects_in_values vs) xs → In (objects_in_vals (vals_of vs)) xs
vals_in {xs = xs} [] h = none_in xs
vals_in (v ∷ vs) h =
    in_both (objects_in v) (objects_in_vals (vals_of vs)) (front_of (objects_in v) (objects_in_values vs) h) (vals_in vs (back_of (objects_in v) (objects_in_values vs) h))

-- ---- arrays and Types

pub item_in : {xs : List ℕ} (items : Vals) (k : ℕ) → In (objects_in_vals items) xs → Refers xs (item_at items k)
item_in {xs = xs} no_vals k h = none_in xs
item_in (val v vs) zero h = front_of (objects_in v) (objects_in_vals vs) h
item_in (val v vs) (suc k) h = item_in vs k (back_of (objects_in v) (objects_in_vals vs) h)

pub filled_in : {xs : List ℕ} (bounds : List Bound) (of : Declared) (v : Val) → Refers xs v → Refers xs (filled bounds of v)
filled_in bounds of v h = replicate_in (elements bounds) v h

kept_in : {xs : List ℕ} (bounds : List Bound) (items : Vals) (v : Val) (place : List ℤ) → In (objects_in_vals items) xs → Refers xs v → Refers xs (kept bounds items v place)
kept_in {xs = xs} bounds items v place h k = by_test (is_place bounds place) where
  by_test : (b : Bool) → Refers xs (if b then item_at items (layout bounds place) else v)
  by_test true = item_in items (layout bounds place) h
  by_test false = k

pub resized_in : {xs : List ℕ} (shape : List Bound) (v old : Val) → Refers xs v → Refers xs old → Refers xs (resized shape v old)
resized_in shape v (array bounds of items) k h = map_in (λ offset. kept bounds items v (place_at shape offset)) (λ offset. kept_in bounds items v (place_at shape offset) h k) (range_with_len 0 (elements shape))
resized_in shape v old k h = h

abbrev AllFree : (ℕ → Val) → Type 0
AllFree udts = (number : ℕ) → Free (udts number)

initial_by_free : (udts : ℕ → Val) → AllFree udts → (of : Declared) → Free (initial_by udts of)
initial_by_free udts h type.boolean = refl
initial_by_free udts h type.byte = refl
initial_by_free udts h type.integer = refl
initial_by_free udts h type.long = refl
initial_by_free udts h type.long_long = refl
initial_by_free udts h type.currency = refl
initial_by_free udts h type.text = refl
initial_by_free udts h (type.fixed_text size) = refl
initial_by_free udts h type.object = refl
initial_by_free udts h (type.class number) = refl
initial_by_free udts h type.collection = refl
initial_by_free udts h type.worksheet = refl
initial_by_free udts h type.range = refl
initial_by_free udts h type.variant = refl
initial_by_free udts h (type.udt number) = h number
initial_by_free udts h (type.array_of of) = refl

filled_free : (bounds : List Bound) (of : Declared) (v : Val) → Free v → Free (filled bounds of v)
filled_free bounds of v e = many (elements bounds) where
  many : (n : ℕ) → objects_in_vals (vals_of (replicate n v)) ≡ []
  many zero = refl
  many (suc n) = ap (λ os. os ++ objects_in_vals (vals_of (replicate n v))) e ∙ many n

field_by_free : (udts : ℕ → Val) → AllFree udts → (field : Field) → Free (field_by udts field)
field_by_free udts h field =
    if_is_free (has_bounds field) (filled field.bounds (stored field) (initial_by udts (stored field))) (initial_by udts field.of)
    (filled_free field.bounds (stored field) (initial_by udts (stored field)) (initial_by_free udts h (stored field))) (initial_by_free udts h field.of)

udt_free : (depth : ℕ) (types : List (List Field)) → AllFree (udt_within depth types)
udt_free zero types number = refl
udt_free (suc depth) types number = map_free (field_by (udt_within depth types)) (λ field. field_by_free (udt_within depth types) (udt_free depth types) field) (fields_at types number)

pub initial_in : (xs : List ℕ) (types : List (List Field)) (of : Declared) → Refers xs (initial types of)
initial_in xs types of = free_refers (initial types of) (initial_by_free (udt_initial types) (udt_free (length types) types) of)

pub field_initial_free : (types : List (List Field)) (field : Field) → objects_in (field_initial types field) ≡ []
field_initial_free types field = field_by_free (udt_initial types) (udt_free (length types) types) field

-- ---- areas

cell_free : (c : CellValue) → Free (value_of_cell c)
cell_free cell.Empty = refl
cell_free (cell.Boolean b) = refl
cell_free (cell.Long z) = refl
cell_free (cell.LongLong z) = refl
cell_free (cell.Currency count) = refl
cell_free (cell.Text units) = refl

pub area_value_in : (xs : List ℕ) (book : Sheets) (a : Area) → OkIn xs (area_value book a)
area_value_in xs book a =
    free_in xs (area_value book a) (if_free (a.rows == 1 && a.columns == 1) (Ok _) _ (cell_free _)
    (if_free (nat_lt element_limit (a.rows * a.columns)) (Err _) (Ok _) tt (firsts_free (element_of book a) (λ i. cell_free _) (a.rows * a.columns))))
