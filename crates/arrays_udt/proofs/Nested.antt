-- Types of which none holds itself are inside one another at most as deep as there are Types.
use Rattle.std.proofs.Common.{◌≡◌, ℕ, zero, suc, ◌<◌, ◌≤◌, ◌+◌, ◌-◌, nat_lt, nat_eq, Bool, true, false, ◌&&◌, ◌||◌, List, [], ◌∷◌, map, length, get_or, refl, sym, ap, arith, rules}
use Rattle.std.proofs.lemmas.Bool.{eqb-true}
use Rattle.std.proofs.lemmas.Bool.Decides.{nat_tests}
use Rattle.std.proofs.lemmas.Map.Steps.{length-le_from_distinct_below}
use Rattle.std.specs.Prelude.{eqb}
use Rattle.std.specs.List.{list_all, list_any, AllByRecursion, IsDistinct}
use Rattle.vba_values.specs.Types.{Declared}
use Rattle.vba_values.specs.Types as type
use Rattle.vba_values.specs.Val.{udt, vals_of}
use Rattle.arrays_udt.proofs.Both.{both, both_first, both_second}
use Rattle.arrays_udt.specs.declared.udt.UdtType.{UdtType}
use Rattle.arrays_udt.specs.Fields.{Field, AreTypes, field_of, fields_at, is_field, is_known, is_type, holds, Leads, stored, types_of}
use Rattle.arrays_udt.specs.Fresh.{field_by, udt_within}
use Rattle.arrays_udt.specs.Nesting.{nested_by, field_nested, udt_nested}

first_of_either : (a b : Bool) → a ≡ true → a || b ≡ true
first_of_either true b h = refl
first_of_either false b h = absurd (search rules)

second_of_either : (a b : Bool) → b ≡ true → a || b ≡ true
second_of_either true b h = refl
second_of_either false b h = h

-- what each element of a list meets, the one at a place meets
pub all_at : {X : Type 0} (p : X → Bool) (xs : List X) (n : ℕ) (d : X) → n < length xs → list_all p xs ≡ true → p (get_or xs n d) ≡ true
all_at p [] n d h e = absurd (omega arith)
all_at p (x ∷ xs) zero d h e = both_first (p x) (list_all p xs) e
all_at p (x ∷ xs) (suc n) d h e = all_at p xs n d (omega arith) (both_second (p x) (list_all p xs) e)

pub all_map_at : {X Y : Type 0} (p : Y → Bool) (f : X → Y) (xs : List X) (n : ℕ) (d : X) → n < length xs → list_all p (map f xs) ≡ true → p (f (get_or xs n d)) ≡ true
all_map_at p f [] n d h e = absurd (omega arith)
all_map_at p f (x ∷ xs) zero d h e = both_first (p (f x)) (list_all p (map f xs)) e
all_map_at p f (x ∷ xs) (suc n) d h e = all_map_at p f xs n d (omega arith) (both_second (p (f x)) (list_all p (map f xs)) e)

below_true : (n m : ℕ) → nat_lt n m ≡ true → n < m
below_true n m h = grind (arith, nat_tests)

pub true_below : (n m : ℕ) → n < m → nat_lt n m ≡ true
true_below n m h = grind (arith, nat_tests)

same_true : (n : ℕ) → nat_eq n n ≡ true
same_true n = grind (arith, nat_tests)

-- a declared type is nested where the Type that it is is nested
stored_nested : (p : ℕ → Bool) (types : List (List Field)) (of : Declared) → is_known types of ≡ true
    → ((next : ℕ) → next < length types → is_type next of ≡ true → p next ≡ true) → nested_by p of ≡ true
stored_nested p types (type.udt number) k h = h number (below_true number (length types) k) (same_true number)
stored_nested p types other k h = refl

-- fields are nested where the Types that they store are nested
fields_nested : (p : ℕ → Bool) (types : List (List Field)) (fields : List Field) → list_all (λ field. is_field field && is_known types (stored field)) fields ≡ true
    → ((next : ℕ) → next < length types → list_any (λ field. is_type next (stored field)) fields ≡ true → p next ≡ true) → list_all (field_nested p) fields ≡ true
fields_nested p types [] s h = refl
fields_nested p types (field ∷ fields) s h =
    let here = both_first (is_field field && is_known types (stored field)) (list_all (λ f. is_field f && is_known types (stored f)) fields) s in
    let there = both_second (is_field field && is_known types (stored field)) (list_all (λ f. is_field f && is_known types (stored f)) fields) s in
    both (field_nested p field) (list_all (field_nested p) fields)
    (both (is_field field) (nested_by p (stored field)) (both_first (is_field field) (is_known types (stored field)) here)
    (stored_nested p types (stored field) (both_second (is_field field) (is_known types (stored field)) here)
    (λ next k e. h next k (first_of_either (is_type next (stored field)) (list_any (λ f. is_type next (stored f)) fields) e))))
    (fields_nested p types fields there
    (λ next k e. h next k (second_of_either (is_type next (stored field)) (list_any (λ f. is_type next (stored f)) fields) e)))

-- one field more leads on
leads_more : (types : List (List Field)) (count m number next : ℕ) → Leads types count m number → holds types number next ≡ true → Leads types (suc count) m next
leads_more types zero m number next e h = (next, rw e h, refl)
leads_more types (suc count) m number next l h = (l.0, l.1, leads_more types count l.0 number next l.2 h)

-- Types that a chain of fields has passed: each of them is known and leads on to a Type
abbrev Passed : List (List Field) → ℕ → List ℕ → Type 0
Passed types number [] = Unit {0}
Passed types number (m ∷ path) = (m < length types) × ((count : ℕ) × Leads types (suc count) m number) × Passed types number path

passed_on : (types : List (List Field)) (number next : ℕ) (path : List ℕ) → Passed types number path → holds types number next ≡ true → Passed types next path
passed_on types number next [] h e = tt
passed_on types number next (m ∷ path) h e = (h.0, (suc h.1.0, leads_more types (suc h.1.0) m number next h.1.1 e), passed_on types number next path h.2 e)

passed_below : (types : List (List Field)) (number : ℕ) (path : List ℕ) → Passed types number path → (q : ℕ) → list_any (eqb q) path ≡ true → q < length types
passed_below types number [] h q e = absurd (search rules)
passed_below types number (m ∷ path) h q e = elim (eqb q m) as (λ b. eqb q m ≡ b → b || list_any (eqb q) path ≡ true → q < length types) [
  | true ↦ λ same any. rw (eqb-true q m same) h.0
  | false ↦ λ same any. passed_below types number path h.2 q any
] refl e

not_again : (types : List (List Field)) (sound : AreTypes types) (number m count : ℕ) → Leads types (suc count) m number → eqb number m ≡ false
not_again types sound number m count l = elim (eqb number m) as (λ b. eqb number m ≡ b → b ≡ false) [
  | true ↦ λ same. absurd (sound.none_holds_itself number count (rw (sym (eqb-true number m same)) at l))
  | false ↦ λ same. refl
] refl

none_again : (types : List (List Field)) (sound : AreTypes types) (number : ℕ) (path : List ℕ) → Passed types number path → AllByRecursion (λ m. eqb number m ≡ false) path
none_again types sound number [] h = tt
none_again types sound number (m ∷ path) h = (not_again types sound number m h.1.0 h.1.1, none_again types sound number path h.2)

distinct_more : (number : ℕ) (path : List ℕ) → AllByRecursion (λ m. eqb number m ≡ false) path → IsDistinct eqb path → IsDistinct eqb (number ∷ path)
unfolding IsDistinct
distinct_more number path h d = (h, d)

any_more : (count number : ℕ) (path : List ℕ) → number < count → ((q : ℕ) → list_any (eqb q) path ≡ true → q < count) → (q : ℕ) → list_any (eqb q) (number ∷ path) ≡ true → q < count
any_more count number path n h q e = elim (eqb q number) as (λ b. eqb q number ≡ b → b || list_any (eqb q) path ≡ true → q < count) [
  | true ↦ λ same any. rw (eqb-true q number same) n
  | false ↦ λ same any. h q any
] refl e

nested_at : (types : List (List Field)) (sound : AreTypes types) (depth number : ℕ) (path : List ℕ) → length types ≤ depth + length path → number < length types
    → Passed types number path → IsDistinct eqb path → udt_nested depth types number ≡ true
nested_at types sound zero number path deep n h d =
    let most : length (number ∷ path) ≤ length types =
    length-le_from_distinct_below (number ∷ path) (length types) (distinct_more number path (none_again types sound number path h) d)
    (any_more (length types) number path n (passed_below types number path h)) in
    absurd (omega arith)
nested_at types sound (suc depth) number path deep n h d =
    both (nat_lt number (length types)) (list_all (field_nested (udt_nested depth types)) (fields_at types number)) (true_below number (length types) n)
    (fields_nested (udt_nested depth types) types (fields_at types number)
    (all_at (list_all (λ field. is_field field && is_known types (stored field))) types number [] n sound.fields)
    (λ next k e. nested_at types sound depth next (number ∷ path) (omega arith) k
    (n, (0, (next, e, refl)), passed_on types number next path h e)
    (distinct_more number path (none_again types sound number path h) d)))

distinct_none : IsDistinct eqb []
unfolding IsDistinct
distinct_none = tt

-- what a known declared type stores is nested at most as deep as there are Types
pub known_nested : (types : List (List Field)) (of : Declared) → AreTypes types → is_known types of ≡ true → nested_by (udt_nested (length types) types) of ≡ true
known_nested types of sound k =
    stored_nested (udt_nested (length types) types) types of k (λ next n e. nested_at types sound (length types) next [] (omega arith) n tt distinct_none)

less_one : (n : ℕ) → suc n - 1 ≡ n
less_one n = omega arith

-- what is nested is nested less deep one level in
pub nested_inside : (depth : ℕ) (types : List (List Field)) (number : ℕ) → udt_nested depth types number ≡ true → (0 < depth) × (number < length types) × (list_all (field_nested (udt_nested (depth - 1) types)) (fields_at types number) ≡ true)
nested_inside zero types number h = absurd (search rules)
nested_inside (suc depth) types number h = (
  omega arith,
  below_true number (length types) (both_first (nat_lt number (length types)) (list_all (field_nested (udt_nested depth types)) (fields_at types number)) h),
  rw (less_one depth) (both_second (nat_lt number (length types)) (list_all (field_nested (udt_nested depth types)) (fields_at types number)) h),
)

pub udt_inside : (depth : ℕ) (types : List (List Field)) (number : ℕ) → 0 < depth → udt_within depth types number ≡ udt number (vals_of (map (field_by (udt_within (depth - 1) types)) (fields_at types number)))
udt_inside zero types number h = absurd (omega arith)
udt_inside (suc depth) types number h = rw (less_one depth) refl

pub fields_at_index : (types : List UdtType) (number : ℕ) (d : UdtType) → number < length types → fields_at (types_of types) number ≡ map field_of (get_or types number d).fields.items
fields_at_index [] number d h = absurd (omega arith)
fields_at_index (t ∷ types) zero d h = refl
fields_at_index (t ∷ types) (suc number) d h = fields_at_index types number d (omega arith)

pub length_types : (types : List UdtType) → length (types_of types) ≡ length types
length_types [] = refl
length_types (t ∷ types) = ap suc (length_types types)
