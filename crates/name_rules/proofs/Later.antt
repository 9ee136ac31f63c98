-- What clashes with something before it, one after another.
use Rattle.std.proofs.Common.{◌≡◌, ℕ, ◌+◌, ◌<◌, Bool, true, false, ◌||◌, List, [], ◌∷◌, ◌++◌, length, take, drop, get_or, map, reverse, Option, refl, sym, ap, ◌∙◌}
use Rattle.std.specs.Prelude.{if◌then◌else◌}
use Rattle.std.specs.List.{list_any}
use Rattle.std.proofs.lemmas.List.{map-append, reverse-append, take_more, drop_more}
use Rattle.std.proofs.lemmas.List.Folds.{list_any-append}
use Rattle.vba_base.specs.declared.place.Place.{Place}
use Rattle.vba_base.specs.declared.place.Refusal.{Refusal}
use Rattle.vba_module.specs.Misplaced.{place_if}
use Rattle.constant_values.specs.declared_names.specs.binder.specs.Violations.{later}
use Rattle.use_rules.specs.Found.{noted}
use Rattle.use_rules.proofs.Noted.{noted_append}

if_is : (b : Bool) (place : Place) → (if b then place ∷ [] else []) ≡ place_if b place
if_is true place = refl
if_is false place = refl

or_false : (a : Bool) → (a || false) ≡ a
or_false true = refl
or_false false = refl

or_swapped : (a b : Bool) → (a || b) ≡ (b || a)
or_swapped true true = refl
or_swapped true false = refl
or_swapped false true = refl
or_swapped false false = refl

any_reversed : {A : Type 0} (test : A → Bool) (xs : List A) → list_any test (reverse xs) ≡ list_any test xs
any_reversed test [] = refl
any_reversed test (x ∷ xs) =
    ap (list_any test) (reverse-append (x ∷ []) xs)
    ∙ list_any-append test (reverse xs) (x ∷ [])
    ∙ ap (λ found. list_any test (reverse xs) || found) (or_false (test x))
    ∙ or_swapped (list_any test (reverse xs)) (test x)
    ∙ ap (λ found. test x || found) (any_reversed test xs)

-- one item more
later_more : {X A : Type 0} (clash : A → A → Bool) (place_of : A → Place) (view : X → A) (all : List X) (index : ℕ) (x : X)
    → index < length all → x ≡ get_or all index x
    → later clash place_of (reverse (map view (take index all))) (map view (drop index all))
    ≡ place_if (list_any (clash (view x)) (map view (take index all))) (place_of (view x))
    ++ later clash place_of (reverse (map view (take (index + 1) all))) (map view (drop (index + 1) all))
later_more clash place_of view all index x more here =
    let seen = map view (take index all) in
    let front : drop index all ≡ x ∷ drop (index + 1) all = drop_more all index x more ∙ ap (λ y. y ∷ drop (index + 1) all) (sym here) in
    let passed : take (index + 1) all ≡ take index all ++ x ∷ [] = take_more all index x more ∙ ap (λ y. take index all ++ y ∷ []) (sym here) in
    let turned : reverse (map view (take (index + 1) all)) ≡ view x ∷ reverse seen =
    ap (λ ys. reverse (map view ys)) passed ∙ ap reverse (map-append view (take index all) (x ∷ [])) ∙ reverse-append seen (view x ∷ []) in
    ap (λ ys. later clash place_of (reverse seen) (map view ys)) front
    ∙ ap (λ places. places ++ later clash place_of (view x ∷ reverse seen) (map view (drop (index + 1) all)))
    (if_is (list_any (clash (view x)) (reverse seen)) (place_of (view x)) ∙ ap (λ b. place_if b (place_of (view x))) (any_reversed (clash (view x)) seen))
    ∙ ap (λ before. place_if (list_any (clash (view x)) seen) (place_of (view x)) ++ later clash place_of before (map view (drop (index + 1) all))) (sym turned)

pub later_noted : {X A : Type 0} (rule : ℕ) (clash : A → A → Bool) (place_of : A → Place) (view : X → A) (now next found : Option Refusal) (all : List X) (index : ℕ) (x : X)
    → index < length all → x ≡ get_or all index x
    → next ≡ noted rule now (place_if (list_any (clash (view x)) (map view (take index all))) (place_of (view x)))
    → noted rule now (later clash place_of (reverse (map view (take index all))) (map view (drop index all))) ≡ found
    → noted rule next (later clash place_of (reverse (map view (take (index + 1) all))) (map view (drop (index + 1) all))) ≡ found
later_noted rule clash place_of view now next found all index x more here is before =
    let first = place_if (list_any (clash (view x)) (map view (take index all))) (place_of (view x)) in
    let others = later clash place_of (reverse (map view (take (index + 1) all))) (map view (drop (index + 1) all)) in
    ap (λ f. noted rule f others) is
    ∙ sym (noted_append rule now first others)
    ∙ ap (noted rule now) (sym (later_more clash place_of view all index x more here))
    ∙ before
