-- Values stay well-formed.
use Rattle.std.proofs.Common.{◌≡◌, ℕ, zero, suc, ◌<◌, ◌≤◌, ◌-◌, nat_lt, nat_eq, Bool, true, false, ◌&&◌, ◌||◌, inl, inr, List, [], ◌∷◌, ◌++◌, map, take, replicate, length, Ok, Some, if◌then◌else◌, refl, sym, ap, ◌∙◌, arith, rules, length-append}
use Rattle.std.specs.Prelude.{not, nat_le}
use Rattle.std.specs.List.{list_all}
use Rattle.std.proofs.lemmas.Bool.{eqb-true, eq-eqb}
use Rattle.std.proofs.lemmas.Bool.Decides.{nat_tests}
use Rattle.std.proofs.lemmas.List.{length-replicate, length-take}
use mathlib.Core.Bool.{true≢false}
use Rattle.vba_values.specs.declared.value.Bound.{Bound}
use Rattle.vba_values.specs.Coerce.{coerce_of, is_same_type}
use Rattle.vba_values.specs.Held.{can_hold, has_parts}
use Rattle.vba_values.specs.Types.{Declared}
use Rattle.vba_values.specs.Types as type
use Rattle.vba_values.specs.Val.{Val, Vals, empty, null, missing, boolean, whole, currency, text, object, array, udt, no_vals, val, vals_of}
use Rattle.vba_values.proofs.Coerced.{coerced_is_held, coerced_parts}
use Rattle.arrays_udt.specs.Fields.{Field, AreTypes, element_of, fields_at, has_bounds, is_array, is_field, is_known, stored}
use Rattle.arrays_udt.specs.Fresh.{field_by, filled, initial, initial_by, udt_within}
use Rattle.arrays_udt.specs.Nesting.{field_nested, nested_by, udt_nested}
use Rattle.arrays_udt.specs.Paths.{inner_value, path_value, with_inner, with_path}
use Rattle.arrays_udt.specs.Resize.{IsWhole, can_resize, count, cut_or_filled, element_type, is_resize, resized}
use Rattle.arrays_udt.specs.Shapes.{are_bounds, elements, is_shape}
use Rattle.arrays_udt.specs.WellFormed.{all_well_formed, can_store, fields_well_formed, is_held, is_well_formed, type_at, type_in, type_of_field}
use Rattle.arrays_udt.specs.declared.paths.PathStep.{PathStep}
use Rattle.arrays_udt.specs.declared.paths.PathStep.TheVariants as step
use Rattle.arrays_udt.proofs.Both.{both, both_first, both_second}
use Rattle.arrays_udt.proofs.Nested.{known_nested}
use Rattle.arrays_udt.proofs.Resized.{count-vals_of, filled_whole, resized_is}

-- let-coercion
plain_well : (types : List (List Field)) (w : Val) → has_parts w ≡ false → is_well_formed types w ≡ true
plain_well types (array b e vs) h = absurd (true≢false h)
plain_well types (udt n vs) h = absurd (true≢false h)
plain_well types _ h = refl

pub coerced_well : (types : List (List Field)) (v w : Val) (to : Declared) → is_well_formed types v ≡ true → coerce_of v to ≡ Ok w → is_held types to w ≡ true
coerced_well types v w to h e =
    both (can_hold to w) (is_well_formed types w) (coerced_is_held v w to e)
    (elim (coerced_parts v w to e) [ inl same ↦ ap (is_well_formed types) same ∙ h | inr plain ↦ plain_well types w plain ])

same_itself : (t : Declared) → is_same_type t t ≡ true
same_itself (type.fixed_text size) = eq-eqb size size refl
same_itself (type.class number) = eq-eqb number number refl
same_itself (type.udt place) = eq-eqb place place refl
same_itself (type.array_of element) = same_itself element
same_itself _ = refl

-- arrays that are filled
all_replicate : (types : List (List Field)) (e : Declared) (n : ℕ) (item : Val) → is_held types e item ≡ true → all_well_formed types e (vals_of (replicate n item)) ≡ true
all_replicate types e zero item h = refl
all_replicate types e (suc n) item h =
    both (can_hold e item) _ (both_first (can_hold e item) (is_well_formed types item) h)
    (both (is_well_formed types item) _ (both_second (can_hold e item) (is_well_formed types item) h) (all_replicate types e n item h))

stores : (types : List (List Field)) (bounds : List Bound) (e : Declared) → is_shape bounds ≡ true → is_known types e ≡ true → can_store types bounds e ≡ true
stores types [] e s k = refl
stores types (bound ∷ bounds) e s k = both (is_shape (bound ∷ bounds)) (is_known types e) s k

array_filled : (types : List (List Field)) (bounds : List Bound) (e : Declared) (item : Val) → is_shape bounds ≡ true → is_known types e ≡ true → is_held types e item ≡ true
    → is_held types (type.array_of e) (filled bounds e item) ≡ true
array_filled types bounds e item s k h =
    both (is_same_type e e) _ (same_itself e)
    (both (can_store types bounds e) _ (stores types bounds e s k)
    (both (nat_eq (count (vals_of (replicate (elements bounds) item))) (elements bounds)) _ (eq-eqb _ _ (filled_whole bounds e item))
    (all_replicate types e (elements bounds) item h)))

-- the units of a text of a length as it begins
zeros : (size : ℕ) → can_hold (type.fixed_text size) (text (replicate size 0)) ≡ true
zeros size = let units : List ℕ = replicate size 0 in eq-eqb (length units) size (length-replicate size 0)

-- initial values, by what is told of those of Types
module _ (types : List (List Field)) (f : ℕ → Val) (p : ℕ → Bool) (told : (n : ℕ) → p n ≡ true → is_held types (type.udt n) (f n) ≡ true) (known : (n : ℕ) → p n ≡ true → nat_lt n (length types) ≡ true) where
  initial_well : (of : Declared) → nested_by p of ≡ true → is_held types of (initial_by f of) ≡ true
  initial_well (type.udt number) h = told number h
  initial_well (type.fixed_text size) h = both (can_hold (type.fixed_text size) (text (replicate size 0))) true (zeros size) refl
  initial_well (type.array_of element) h = rw (same_itself element) refl
  initial_well _ h = refl

  nested_known : (of : Declared) → nested_by p of ≡ true → is_known types of ≡ true
  nested_known (type.udt number) h = known number h
  nested_known _ h = refl

  filled_well : (of : Declared) (bounds : List Bound) → is_array of && is_shape bounds ≡ true → nested_by p (element_of of) ≡ true → is_held types of (filled bounds (element_of of) (initial_by f (element_of of))) ≡ true
  filled_well (type.array_of element) bounds s h = array_filled types bounds element (initial_by f element) s (nested_known element h) (initial_well element h)
  filled_well _ bounds s h = absurd (true≢false (sym s))

  field_well : (field : Field) → field_nested p field ≡ true → is_held types field.of (field_by f field) ≡ true
  field_well field h =
      elim (has_bounds field) as (λ w. (not w || is_array field.of && is_shape field.bounds) && nested_by p (if w then element_of field.of else field.of) ≡ true
      → is_held types field.of (if w then filled field.bounds (if w then element_of field.of else field.of) (initial_by f (if w then element_of field.of else field.of)) else initial_by f field.of) ≡ true) [
        | true ↦ λ h. filled_well field.of field.bounds (both_first (is_array field.of && is_shape field.bounds) (nested_by p (element_of field.of)) h) (both_second (is_array field.of && is_shape field.bounds) (nested_by p (element_of field.of)) h)
        | false ↦ λ h. initial_well field.of h
      ] h

  fields_well : (fields : List Field) → list_all (field_nested p) fields ≡ true → fields_well_formed types fields (vals_of (map (field_by f) fields)) ≡ true
  fields_well [] h = refl
  fields_well (field ∷ fields) h =
      let here = field_well field (both_first (field_nested p field) (list_all (field_nested p) fields) h) in
      both (can_hold field.of (field_by f field)) _ (both_first (can_hold field.of (field_by f field)) (is_well_formed types (field_by f field)) here)
      (both (is_well_formed types (field_by f field)) _ (both_second (can_hold field.of (field_by f field)) (is_well_formed types (field_by f field)) here)
      (fields_well fields (both_second (field_nested p field) (list_all (field_nested p) fields) h)))

udt_known : (types : List (List Field)) (depth number : ℕ) → udt_nested depth types number ≡ true → nat_lt number (length types) ≡ true
udt_known types zero number h = absurd (true≢false (sym h))
udt_known types (suc depth) number h = both_first (nat_lt number (length types)) (list_all (field_nested (udt_nested depth types)) (fields_at types number)) h

udt_well : (types : List (List Field)) (depth number : ℕ) → udt_nested depth types number ≡ true → is_held types (type.udt number) (udt_within depth types number) ≡ true
udt_well types zero number h = absurd (true≢false (sym h))
udt_well types (suc depth) number h =
    both (nat_eq number number) _ (eq-eqb number number refl)
    (both (nat_lt number (length types)) _ (udt_known types (suc depth) number h)
    (fields_well types (udt_within depth types) (udt_nested depth types) (udt_well types depth) (udt_known types depth) (fields_at types number)
    (both_second (nat_lt number (length types)) (list_all (field_nested (udt_nested depth types)) (fields_at types number)) h)))

pub fresh_well : (types : List (List Field)) (of : Declared) → AreTypes types → is_known types of ≡ true → is_held types of (initial types of) ≡ true
fresh_well types of sound k =
    initial_well types (udt_within (length types) types) (udt_nested (length types) types) (udt_well types (length types)) (udt_known types (length types)) of
    (known_nested types of sound k)

pub array_well : (types : List (List Field)) (bounds : List Bound) (e : Declared) → AreTypes types → is_known types e ≡ true → is_shape bounds ≡ true → is_held types (type.array_of e) (filled bounds e (initial types e)) ≡ true
array_well types bounds e sound k s = array_filled types bounds e (initial types e) s k (fresh_well types e sound k)

-- arrays
pub whole_of : (types : List (List Field)) (bounds : List Bound) (e : Declared) (items : Vals) → is_well_formed types (array bounds e items) ≡ true → IsWhole (array bounds e items)
whole_of types bounds e items h =
    eqb-true (count items) (elements bounds)
    (both_first (nat_eq (count items) (elements bounds)) (all_well_formed types e items)
    (both_second (can_store types bounds e) (nat_eq (count items) (elements bounds) && all_well_formed types e items) h))

le_true : (n m : ℕ) → nat_le n m ≡ true → n ≤ m
le_true n m h = grind (arith, nat_tests)

pub few_of : (types : List (List Field)) (bounds : List Bound) (e : Declared) (items : Vals) → is_well_formed types (array bounds e items) ≡ true → elements bounds ≤ 1048576
few_of types [] e items h = omega arith
few_of types (bound ∷ bounds) e items h =
    le_true (elements (bound ∷ bounds)) 1048576
    (both_second (are_bounds (bound ∷ bounds)) (nat_le (elements (bound ∷ bounds)) 1048576)
    (both_first (is_shape (bound ∷ bounds)) (is_known types e)
    (both_first (can_store types (bound ∷ bounds) e) (nat_eq (count items) (elements (bound ∷ bounds)) && all_well_formed types e items) h)))

pub known_of : (types : List (List Field)) (bounds : List Bound) (e : Declared) (items : Vals) → is_well_formed types (array bounds e items) ≡ true → 0 < length bounds → is_known types e ≡ true
known_of types [] e items h l = absurd (omega arith)
known_of types (bound ∷ bounds) e items h l =
    both_second (is_shape (bound ∷ bounds)) (is_known types e)
    (both_first (can_store types (bound ∷ bounds) e) (nat_eq (count items) (elements (bound ∷ bounds)) && all_well_formed types e items) h)

all_of : (types : List (List Field)) (bounds : List Bound) (e : Declared) (items : Vals) → is_well_formed types (array bounds e items) ≡ true → all_well_formed types e items ≡ true
all_of types bounds e items h =
    both_second (nat_eq (count items) (elements bounds)) (all_well_formed types e items)
    (both_second (can_store types bounds e) (nat_eq (count items) (elements bounds) && all_well_formed types e items) h)

-- ReDim Preserve
abbrev list_of : Vals → List Val
list_of no_vals = []
list_of (val v vs) = v ∷ list_of vs

vals_of-list_of : (vs : Vals) → vals_of (list_of vs) ≡ vs
vals_of-list_of no_vals = refl
vals_of-list_of (val v vs) = ap (λ vs. val v vs) (vals_of-list_of vs)

-- the first of values in order is held, and the rest is well-formed
first_held : (types : List (List Field)) (e : Declared) (v : Val) (vs : Vals) → all_well_formed types e (val v vs) ≡ true → is_held types e v ≡ true
first_held types e v vs h =
    both (can_hold e v) (is_well_formed types v) (both_first (can_hold e v) (is_well_formed types v && all_well_formed types e vs) h)
    (both_first (is_well_formed types v) (all_well_formed types e vs) (both_second (can_hold e v) (is_well_formed types v && all_well_formed types e vs) h))

rest_held : (types : List (List Field)) (e : Declared) (v : Val) (vs : Vals) → all_well_formed types e (val v vs) ≡ true → all_well_formed types e vs ≡ true
rest_held types e v vs h =
    both_second (is_well_formed types v) (all_well_formed types e vs) (both_second (can_hold e v) (is_well_formed types v && all_well_formed types e vs) h)

more_held : (types : List (List Field)) (e : Declared) (v : Val) (vs : Vals) → is_held types e v ≡ true → all_well_formed types e vs ≡ true → all_well_formed types e (val v vs) ≡ true
more_held types e v vs h r =
    both (can_hold e v) _ (both_first (can_hold e v) (is_well_formed types v) h)
    (both (is_well_formed types v) _ (both_second (can_hold e v) (is_well_formed types v) h) r)

all_cut : (types : List (List Field)) (e : Declared) (n : ℕ) (vs ws : List Val) → all_well_formed types e (vals_of vs) ≡ true → all_well_formed types e (vals_of ws) ≡ true → all_well_formed types e (vals_of (take n vs ++ ws)) ≡ true
all_cut types e zero vs ws h k = k
all_cut types e (suc n) [] ws h k = k
all_cut types e (suc n) (v ∷ vs) ws h k =
    more_held types e v (vals_of (take n vs ++ ws)) (first_held types e v (vals_of vs) h) (all_cut types e n vs ws (rest_held types e v (vals_of vs) h) k)

count_cut : (n : ℕ) (vs : List Val) (item : Val) → count (vals_of (cut_or_filled n vs item)) ≡ n
count_cut n vs item =
    count-vals_of (cut_or_filled n vs item) ∙ length-append (take n vs) (replicate (n - length vs) item)
    ∙ omega (arith, length-take n vs, length-replicate (n - length vs) item)

some_bounds : (olds news : List Bound) → is_resize olds news ≡ true → 0 < length olds
some_bounds [] news h = absurd (true≢false (sym h))
some_bounds (old ∷ olds) news h = omega arith

cut_well : (types : List (List Field)) (shape bounds : List Bound) (e : Declared) (vs : List Val) → AreTypes types → is_shape shape ≡ true → is_resize bounds shape ≡ true
    → is_well_formed types (array bounds e (vals_of vs)) ≡ true → is_well_formed types (resized shape (initial types e) (array bounds e (vals_of vs))) ≡ true
cut_well types shape bounds e vs sound s r h =
    let known : is_known types e ≡ true = known_of types bounds e (vals_of vs) h (some_bounds bounds shape r) in
    ap (is_well_formed types) (resized_is shape bounds e vs (initial types e) r (whole_of types bounds e (vals_of vs) h))
    ∙ (both (can_store types shape e) _ (stores types shape e s known)
    (both (nat_eq (count (vals_of (cut_or_filled (elements shape) vs (initial types e)))) (elements shape)) _ (eq-eqb _ _ (count_cut (elements shape) vs (initial types e)))
    (all_cut types e (elements shape) vs (replicate (elements shape - length vs) (initial types e)) (all_of types bounds e (vals_of vs) h)
    (all_replicate types e (elements shape - length vs) (initial types e) (fresh_well types e sound known)))))

pub resized_well : (types : List (List Field)) (shape : List Bound) (v : Val) → AreTypes types → is_shape shape ≡ true → can_resize shape v ≡ true → is_well_formed types v ≡ true
    → is_well_formed types (resized shape (initial types (element_type v)) v) ≡ true
resized_well types shape (array bounds e items) sound s r h =
    let same = vals_of-list_of items in
    ap (λ vs. is_well_formed types (resized shape (initial types e) (array bounds e vs))) (sym same)
    ∙ cut_well types shape bounds e (list_of items) sound s r (ap (λ vs. is_well_formed types (array bounds e vs)) same ∙ h)
resized_well types shape _ sound s r h = absurd (true≢false (sym r))

-- values inside
mutual
  pub read_well : (types : List (List Field)) (v w : Val) (path : List PathStep) → is_well_formed types v ≡ true → path_value v path ≡ Some w → is_well_formed types w ≡ true
  read_well types v w [] h e = let same : v ≡ w = cc in ap (is_well_formed types) (sym same) ∙ h
  read_well types (array bounds element items) w (step.Element offset ∷ path) h e = read_item types element items w offset path (all_of types bounds element items h) e
  read_well types (array bounds element items) w (step.Field place ∷ path) h e = absurd (cc)
  read_well types (udt number fields) w (step.Field place ∷ path) h e =
      read_field types (fields_at types number) fields w place path (both_second (nat_lt number (length types)) (fields_well_formed types (fields_at types number) fields) h) e
  read_well types (udt number fields) w (step.Element offset ∷ path) h e = absurd (cc)
  read_well types v w (other ∷ path) h e = absurd (cc)

  read_item : (types : List (List Field)) (element : Declared) (vs : Vals) (w : Val) (place : ℕ) (path : List PathStep) → all_well_formed types element vs ≡ true → inner_value vs place path ≡ Some w → is_well_formed types w ≡ true
  read_item types element no_vals w place path h e = absurd (cc)
  read_item types element (val v vs) w zero path h e = read_well types v w path (both_second (can_hold element v) (is_well_formed types v) (first_held types element v vs h)) e
  read_item types element (val v vs) w (suc place) path h e = read_item types element vs w place path (rest_held types element v vs h) e

  read_field : (types : List (List Field)) (fields : List Field) (vs : Vals) (w : Val) (place : ℕ) (path : List PathStep) → fields_well_formed types fields vs ≡ true → inner_value vs place path ≡ Some w → is_well_formed types w ≡ true
  read_field types fields no_vals w place path h e = absurd (cc)
  read_field types [] (val v vs) w place path h e = absurd (true≢false (sym h))
  read_field types (field ∷ fields) (val v vs) w zero path h e =
      read_well types v w path (both_first (is_well_formed types v) (fields_well_formed types fields vs) (both_second (can_hold field.of v) (is_well_formed types v && fields_well_formed types fields vs) h)) e
  read_field types (field ∷ fields) (val v vs) w (suc place) path h e =
      read_field types fields vs w place path (both_second (is_well_formed types v) (fields_well_formed types fields vs) (both_second (can_hold field.of v) (is_well_formed types v && fields_well_formed types fields vs) h)) e

-- a write inside changes neither what can hold a value nor how many values there are
hold_items : (of : Declared) (bounds : List Bound) (e : Declared) (xs ys : Vals) → can_hold of (array bounds e xs) ≡ can_hold of (array bounds e ys)
hold_items (type.array_of wanted) bounds e xs ys = refl
hold_items type.variant bounds e xs ys = refl
hold_items _ bounds e xs ys = refl

hold_fields : (of : Declared) (number : ℕ) (xs ys : Vals) → can_hold of (udt number xs) ≡ can_hold of (udt number ys)
hold_fields (type.udt wanted) number xs ys = refl
hold_fields type.variant number xs ys = refl
hold_fields _ number xs ys = refl

count_with : (vs : Vals) (place : ℕ) (path : List PathStep) (new : Val) → count (with_inner vs place path new) ≡ count vs
count_with no_vals place path new = refl
count_with (val v vs) zero path new = refl
count_with (val v vs) (suc place) path new = ap suc (count_with vs place path new)

array_written : (types : List (List Field)) (of : Declared) (bounds : List Bound) (e : Declared) (items new : Vals) → is_held types of (array bounds e items) ≡ true → count new ≡ count items → all_well_formed types e new ≡ true
    → is_held types of (array bounds e new) ≡ true
array_written types of bounds e items new h c a =
    let inside = both_second (can_hold of (array bounds e items)) (is_well_formed types (array bounds e items)) h in
    both (can_hold of (array bounds e new)) _ (hold_items of bounds e new items ∙ both_first (can_hold of (array bounds e items)) (is_well_formed types (array bounds e items)) h)
    (both (can_store types bounds e) _ (both_first (can_store types bounds e) (nat_eq (count items) (elements bounds) && all_well_formed types e items) inside)
    (both (nat_eq (count new) (elements bounds)) _ (eq-eqb (count new) (elements bounds) (c ∙ whole_of types bounds e items inside)) a))

udt_written : (types : List (List Field)) (of : Declared) (number : ℕ) (fields new : Vals) → is_held types of (udt number fields) ≡ true → fields_well_formed types (fields_at types number) new ≡ true
    → is_held types of (udt number new) ≡ true
udt_written types of number fields new h a =
    let inside = both_second (can_hold of (udt number fields)) (is_well_formed types (udt number fields)) h in
    both (can_hold of (udt number new)) _ (hold_fields of number new fields ∙ both_first (can_hold of (udt number fields)) (is_well_formed types (udt number fields)) h)
    (both (nat_lt number (length types)) _ (both_first (nat_lt number (length types)) (fields_well_formed types (fields_at types number) fields) inside) a)

mutual
  pub write_well : (types : List (List Field)) (of at : Declared) (v new : Val) (path : List PathStep) → is_held types of v ≡ true → type_at types of v path ≡ Some at → is_held types at new ≡ true → is_held types of (with_path v path new) ≡ true
  write_well types of at v new [] h e n = let same : of ≡ at = cc in ap (λ t. is_held types t new) same ∙ n
  write_well types of at (array bounds element items) new (step.Element offset ∷ path) h e n =
      array_written types of bounds element items (with_inner items offset path new) h (count_with items offset path new)
      (write_item types element at items new offset path (all_of types bounds element items (both_second (can_hold of (array bounds element items)) (is_well_formed types (array bounds element items)) h)) e n)
  write_well types of at (array bounds element items) new (step.Field place ∷ path) h e n = absurd (cc)
  write_well types of at (udt number fields) new (step.Field place ∷ path) h e n =
      udt_written types of number fields (with_inner fields place path new) h
      (write_field types (fields_at types number) at fields new place path
      (both_second (nat_lt number (length types)) (fields_well_formed types (fields_at types number) fields) (both_second (can_hold of (udt number fields)) (is_well_formed types (udt number fields)) h)) e n)
  write_well types of at (udt number fields) new (step.Element offset ∷ path) h e n = absurd (cc)
  write_well types of at v new (other ∷ path) h e n = absurd (cc)

  write_item : (types : List (List Field)) (element at : Declared) (vs : Vals) (new : Val) (place : ℕ) (path : List PathStep) → all_well_formed types element vs ≡ true → type_in types element vs place path ≡ Some at → is_held types at new ≡ true
      → all_well_formed types element (with_inner vs place path new) ≡ true
  write_item types element at no_vals new place path h e n = absurd (cc)
  write_item types element at (val v vs) new zero path h e n =
      more_held types element (with_path v path new) vs (write_well types element at v new path (first_held types element v vs h) e n) (rest_held types element v vs h)
  write_item types element at (val v vs) new (suc place) path h e n =
      more_held types element v (with_inner vs place path new) (first_held types element v vs h) (write_item types element at vs new place path (rest_held types element v vs h) e n)

  write_field : (types : List (List Field)) (fields : List Field) (at : Declared) (vs : Vals) (new : Val) (place : ℕ) (path : List PathStep) → fields_well_formed types fields vs ≡ true → type_of_field types fields vs place path ≡ Some at → is_held types at new ≡ true
      → fields_well_formed types fields (with_inner vs place path new) ≡ true
  write_field types [] at vs new place path h e n = absurd (cc)
  write_field types (field ∷ fields) at no_vals new place path h e n = absurd (cc)
  write_field types (field ∷ fields) at (val v vs) new zero path h e n =
      let inside = both_second (can_hold field.of v) (is_well_formed types v && fields_well_formed types fields vs) h in
      let held : is_held types field.of v ≡ true = both (can_hold field.of v) (is_well_formed types v) (both_first (can_hold field.of v) (is_well_formed types v && fields_well_formed types fields vs) h) (both_first (is_well_formed types v) (fields_well_formed types fields vs) inside) in
      let written = write_well types field.of at v new path held e n in
      both (can_hold field.of (with_path v path new)) _ (both_first (can_hold field.of (with_path v path new)) (is_well_formed types (with_path v path new)) written)
      (both (is_well_formed types (with_path v path new)) _ (both_second (can_hold field.of (with_path v path new)) (is_well_formed types (with_path v path new)) written)
      (both_second (is_well_formed types v) (fields_well_formed types fields vs) inside))
  write_field types (field ∷ fields) at (val v vs) new (suc place) path h e n =
      let inside = both_second (can_hold field.of v) (is_well_formed types v && fields_well_formed types fields vs) h in
      both (can_hold field.of v) _ (both_first (can_hold field.of v) (is_well_formed types v && fields_well_formed types fields vs) h)
      (both (is_well_formed types v) _ (both_first (is_well_formed types v) (fields_well_formed types fields vs) inside)
      (write_field types fields at vs new place path (both_second (is_well_formed types v) (fields_well_formed types fields vs) inside) e n))
