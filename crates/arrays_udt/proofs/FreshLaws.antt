-- The initial value of a Type has the initial values of its fields, whatever depth is looked at.
use Rattle.std.proofs.Common.{◌≡◌, ℕ, zero, suc, ◌<◌, ◌-◌, nat_lt, Bool, true, false, ◌&&◌, List, [], ◌∷◌, map, length, if◌then◌else◌, refl, ap, ◌∙◌, rules}
use Rattle.std.specs.List.{list_all}
use Rattle.vba_values.specs.Types.{Declared}
use Rattle.vba_values.specs.Types as type
use Rattle.vba_values.specs.Val.{Val, udt, vals_of}
use Rattle.arrays_udt.proofs.Both.{both_first, both_second}
use Rattle.arrays_udt.specs.Fields.{Field, AreTypes, element_of, fields_at, has_bounds, is_field, is_known, stored}
use Rattle.arrays_udt.specs.Fresh.{field_by, field_initial, filled, initial, initial_by, udt_within}
use Rattle.arrays_udt.specs.Nesting.{field_nested, nested_by, udt_nested}
use Rattle.arrays_udt.proofs.Nested.{all_at, known_nested, nested_inside, true_below, udt_inside}

-- two ways to begin Types that agree where both are told to be nested
abbrev Agree : (ℕ → Val) → (ℕ → Val) → (ℕ → Bool) → (ℕ → Bool) → Type 0
Agree f g p q = (number : ℕ) → p number ≡ true → q number ≡ true → f number ≡ g number

initial_same : (f g : ℕ → Val) (p q : ℕ → Bool) → Agree f g p q → (of : Declared) → nested_by p of ≡ true → nested_by q of ≡ true → initial_by f of ≡ initial_by g of
initial_same f g p q agree (type.udt number) a b = agree number a b
initial_same f g p q agree other a b = refl

field_same : (f g : ℕ → Val) (p q : ℕ → Bool) → Agree f g p q → (field : Field) → nested_by p (stored field) ≡ true → nested_by q (stored field) ≡ true → field_by f field ≡ field_by g field
field_same f g p q agree field a b =
    elim (has_bounds field) as (λ w. nested_by p (if w then element_of field.of else field.of) ≡ true → nested_by q (if w then element_of field.of else field.of) ≡ true
    → (if w then filled field.bounds (if w then element_of field.of else field.of) (initial_by f (if w then element_of field.of else field.of)) else initial_by f field.of)
    ≡ (if w then filled field.bounds (if w then element_of field.of else field.of) (initial_by g (if w then element_of field.of else field.of)) else initial_by g field.of)) [
      | true ↦ λ a b. ap (filled field.bounds (element_of field.of)) (initial_same f g p q agree (element_of field.of) a b)
      | false ↦ λ a b. initial_same f g p q agree field.of a b
    ] a b

fields_same : (f g : ℕ → Val) (p q : ℕ → Bool) → Agree f g p q → (fields : List Field) → list_all (field_nested p) fields ≡ true → list_all (field_nested q) fields ≡ true → map (field_by f) fields ≡ map (field_by g) fields
fields_same f g p q agree [] a b = refl
fields_same f g p q agree (field ∷ fields) a b =
    let here : field_by f field ≡ field_by g field = field_same f g p q agree field
    (both_second (is_field field) (nested_by p (stored field)) (both_first (field_nested p field) (list_all (field_nested p) fields) a))
    (both_second (is_field field) (nested_by q (stored field)) (both_first (field_nested q field) (list_all (field_nested q) fields) b)) in
    let there : map (field_by f) fields ≡ map (field_by g) fields = fields_same f g p q agree fields
    (both_second (field_nested p field) (list_all (field_nested p) fields) a)
    (both_second (field_nested q field) (list_all (field_nested q) fields) b) in
    rw (here, there) refl

within_same : (d e : ℕ) (types : List (List Field)) → Agree (udt_within d types) (udt_within e types) (udt_nested d types) (udt_nested e types)
within_same zero e types number a b = absurd (search rules)
within_same (suc d) zero types number a b = absurd (search rules)
within_same (suc d) (suc e) types number a b =
    ap (λ values. udt number (vals_of values))
    (fields_same (udt_within d types) (udt_within e types) (udt_nested d types) (udt_nested e types) (within_same d e types) (fields_at types number)
    (both_second (nat_lt number (length types)) (list_all (field_nested (udt_nested d types)) (fields_at types number)) a)
    (both_second (nat_lt number (length types)) (list_all (field_nested (udt_nested e types)) (fields_at types number)) b))

-- each field of a Type is nested as deep as there are Types
fields_known : (types : List (List Field)) (sound : AreTypes types) (fields : List Field) → list_all (λ field. is_field field && is_known types (stored field)) fields ≡ true → list_all (field_nested (udt_nested (length types) types)) fields ≡ true
fields_known types sound [] h = refl
fields_known types sound (field ∷ fields) h =
    let here = both_first (is_field field && is_known types (stored field)) (list_all (λ f. is_field f && is_known types (stored f)) fields) h in
    let nested : nested_by (udt_nested (length types) types) (stored field) ≡ true = known_nested types (stored field) sound (both_second (is_field field) (is_known types (stored field)) here) in
    rw (both_first (is_field field) (is_known types (stored field)) here, nested)
    (fields_known types sound fields (both_second (is_field field && is_known types (stored field)) (list_all (λ f. is_field f && is_known types (stored f)) fields) h))

pub udt_begins : (types : List (List Field)) (number : ℕ) → AreTypes types → number < length types → initial types (type.udt number) ≡ udt number (vals_of (map (field_initial types) (fields_at types number)))
udt_begins types number sound n =
    let known : nested_by (udt_nested (length types) types) (type.udt number) ≡ true = known_nested types (type.udt number) sound (true_below number (length types) n) in
    let inside = nested_inside (length types) types number known in
    let some : 0 < length types = inside.0 in
    udt_inside (length types) types number some
    ∙ ap (λ values. udt number (vals_of values))
    (fields_same (udt_within (length types - 1) types) (udt_within (length types) types) (udt_nested (length types - 1) types) (udt_nested (length types) types)
    (within_same (length types - 1) (length types) types) (fields_at types number) inside.2
    (fields_known types sound (fields_at types number) (all_at (list_all (λ field. is_field field && is_known types (stored field))) types number [] n sound.fields)))
