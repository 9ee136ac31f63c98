-- Arguments by names: when a use of a member begins, and what its parameters are given.
use Rattle.std.proofs.Common.{◌≡◌, ℕ, zero, suc, Bool, true, false, ◌||◌, List, [], ◌∷◌, ◌++◌, map, take, drop, Option, Some, None, is_some, refl, sym, ap, ◌∙◌, arith}
use Rattle.std.specs.Prelude.{◌==◌, if◌then◌else◌, nat_lt, unwrap_or}
use Rattle.std.specs.List.{list_any}
use Rattle.vba_values.specs.Val.{Val, empty, missing}
use Rattle.bound_project.specs.Expressions.{ByName}
use Rattle.vba_meaning.specs.ByName.{any_given, given_once, in_parameter_order, is_parameter, named_begun, names_of_member, parameter_named, parameters_given, value_given, values_given}
use Rattle.vba_meaning.specs.Effects.{Fine, Bad-at, on_fine, slot_value, slot_values}
use Rattle.vba_meaning.specs.Host.{fits_in}
use Rattle.vba_meaning.specs.Memory.{Memory}
use Rattle.vba_meaning.proofs.Named.{among_given}
use Rattle.run_memory.specs.declared.frame.Slot.{Slot}
use Rattle.run_memory.specs.View.{slot_view}
use Rattle.run_host.specs.ByName.{first_by, given_names, value_named, values_named}

-- ---- when a use begins

pub unfit : (xs : List (List ℕ)) (takes : List ℕ) (by : ByName) (k : ℕ) (m : Memory) → is_some (parameters_given xs by.before by.names) ≡ false → named_begun xs takes by k m ≡ Bad-at 450 m
unfit xs takes by k m h = at (parameters_given xs by.before by.names) refl h
  where
    at : (o : Option (List ℕ)) → parameters_given xs by.before by.names ≡ o → is_some o ≡ false → named_begun xs takes by k m ≡ Bad-at 450 m
    at None e h = rw e refl
    at (Some ps) e h = let f : true ≡ false = h in absurd cc

turned : (p : ℕ) → (p == 0) ≡ (0 == p)
turned p = grind arith

any_turned : (ps : List ℕ) → list_any (λ p. p == 0) ps ≡ list_any (λ q. 0 == q) ps
any_turned [] = refl
any_turned (p ∷ ps) = ap (λ b. b || list_any (λ q. q == 0) ps) (turned p) ∙ ap (λ b. (0 == p) || b) (any_turned ps)

begun_at : (xs : List (List ℕ)) (takes : List ℕ) (before : ℕ) (names : List (List ℕ)) (k : ℕ) (m : Memory) (o : Option (List ℕ)) → parameters_given xs before names ≡ o → is_some o ≡ true
    → named_begun xs takes (record { before = before; names = names }) k m ≡ on_fine (fits_in takes k m) (λ u m1. first_by before (any_given xs 0 names) m1)
begun_at xs takes before names k m None e h = let f : false ≡ true = h in absurd cc
begun_at xs takes zero names k m (Some ps) e h =
    rw e (ap (λ (b : Bool). on_fine (fits_in takes k m) (λ u m1. if b then Fine empty m1 else Bad-at 449 m1)) (any_turned ps ∙ among_given xs 0 0 names ps e))
begun_at xs takes (suc before) names k m (Some ps) e h = rw e refl

pub fit : (xs : List (List ℕ)) (takes : List ℕ) (by : ByName) (k : ℕ) (m : Memory) → is_some (parameters_given xs by.before by.names) ≡ true
    → named_begun xs takes by k m ≡ on_fine (fits_in takes k m) (λ u m1. first_by by.before (any_given xs 0 by.names) m1)
fit xs takes by k m h = begun_at xs takes by.before by.names k m (parameters_given xs by.before by.names) refl h

-- ---- what parameters are given

eq_turned : (a b : ℕ) → (a == b) ≡ (b == a)
eq_turned a b = grind arith

-- the first of some values, or what the others give
abbrev first_of : Bool → List Val → (List Val → Val) → Val
first_of b [] rest = missing
first_of b (v ∷ vs) rest = if b then v else rest vs

-- a parameter that a name is of is given the value of that name
one_given : (p q : ℕ) (qs ps : List ℕ) (vs : List Val) (rest : List Val → Val) (b : Bool) → (if b then None else Some (q ∷ qs)) ≡ Some ps → ((ws : List Val) → value_given p qs ws ≡ rest ws)
    → value_given p ps vs ≡ first_of (p == q) vs rest
one_given p q qs ps vs rest true h k = let e : None ≡ Some ps = h in absurd cc
one_given p q qs ps [] rest false h k = ap (λ (o : Option (List ℕ)). value_given p (unwrap_or o []) []) (sym h)
one_given p q qs ps (v ∷ vs) rest false h k =
    ap (λ (o : Option (List ℕ)). value_given p (unwrap_or o []) (v ∷ vs)) (sym h) ∙ ap (λ (b : Bool). if b then v else value_given p qs vs) (eq_turned q p) ∙ ap (λ (w : Val). if p == q then v else w) (k vs)

named_given : (before p : ℕ) (o : Option ℕ) (r : Option (List ℕ)) (ps : List ℕ) (vs : List Val) (rest : List Val → Val) → given_once before o r ≡ Some ps → ((qs : List ℕ) (ws : List Val) → r ≡ Some qs → value_given p qs ws ≡ rest ws)
    → value_given p ps vs ≡ first_of (is_parameter p o) vs rest
named_given before p None r ps vs rest h k = let e : None ≡ Some ps = h in absurd cc
named_given before p (Some q) None ps vs rest h k = let e : None ≡ Some ps = h in absurd cc
named_given before p (Some q) (Some qs) ps vs rest h k = one_given p q qs ps vs rest (nat_lt q before || list_any (λ r. q == r) qs) h (λ ws. k qs ws refl)

first_is : (xs : List (List ℕ)) (p : ℕ) (name : List ℕ) (names : List (List ℕ)) (vs : List Val) → first_of (is_parameter p (parameter_named 0 xs name)) vs (λ ws. value_named xs p names ws) ≡ value_named xs p (name ∷ names) vs
first_is xs p name names [] = refl
first_is xs p name names (v ∷ vs) = refl

given_as_named : (xs : List (List ℕ)) (before p : ℕ) (names : List (List ℕ)) (ps : List ℕ) (vs : List Val) → parameters_given xs before names ≡ Some ps → value_given p ps vs ≡ value_named xs p names vs
given_as_named xs before p [] ps vs h = ap (λ (o : Option (List ℕ)). value_given p (unwrap_or o []) vs) (sym h)
given_as_named xs before p (name ∷ names) ps vs h =
    named_given before p (parameter_named 0 xs name) (parameters_given xs before names) ps vs (λ ws. value_named xs p names ws) h (λ qs ws e. given_as_named xs before p names qs ws e) ∙ first_is xs p name names vs

each_given : (xs : List (List ℕ)) (before p : ℕ) (left names : List (List ℕ)) (ps : List ℕ) (vs : List Val) → parameters_given xs before names ≡ Some ps → values_given p left ps vs ≡ values_named xs p left names vs
each_given xs before p [] names ps vs h = refl
each_given xs before p (x ∷ left) names ps vs h =
    ap (λ v. v ∷ values_given (suc p) left ps vs) (given_as_named xs before p names ps vs h) ∙ ap (λ l. value_named xs p names vs ∷ l) (each_given xs before (suc p) left names ps vs h)

none_given : (xs : List (List ℕ)) (p : ℕ) (left : List (List ℕ)) (vs : List Val) → values_given p left [] vs ≡ values_named xs p left [] vs
none_given xs p [] vs = refl
none_given xs p (x ∷ left) vs = ap (λ l. value_named xs p [] vs ∷ l) (none_given xs (suc p) left vs)

-- the values of slots, so many of them and those behind
take_values : (n : ℕ) (slots : List Slot) → slot_values (map slot_view (take n slots)) ≡ take n (slot_values (map slot_view slots))
take_values zero slots = refl
take_values (suc n) [] = refl
take_values (suc n) (s ∷ slots) = ap (λ l. slot_value (slot_view s) ∷ l) (take_values n slots)

drop_values : (n : ℕ) (slots : List Slot) → slot_values (map slot_view (drop n slots)) ≡ drop n (slot_values (map slot_view slots))
drop_values zero slots = refl
drop_values (suc n) [] = refl
drop_values (suc n) (s ∷ slots) = drop_values n slots

given_or_none : (xs : List (List ℕ)) (by : ByName) (left : List (List ℕ)) (vs : List Val) (o : Option (List ℕ)) → parameters_given xs by.before by.names ≡ o
    → values_given by.before left (unwrap_or o []) vs ≡ values_named xs by.before left (if is_some o then by.names else []) vs
given_or_none xs by left vs None e = none_given xs by.before left vs
given_or_none xs by left vs (Some ps) e = each_given xs by.before by.before left by.names ps vs e

-- the arguments of a member, in the order of its parameters
pub ordered : (base : Val) (name : List ℕ) (by : ByName) (xs : List (List ℕ)) (slots : List Slot) → xs ≡ names_of_member base name
    → slot_values (map slot_view (take by.before slots)) ++ values_named xs by.before (drop by.before xs) (given_names xs by) (slot_values (map slot_view (drop by.before slots)))
    ≡ in_parameter_order base name by (slot_values (map slot_view slots))
ordered base name by xs slots e =
    let vs = slot_values (map slot_view slots) in
    let given : List Val → List Val = λ (ws : List Val). values_named xs by.before (drop by.before xs) (given_names xs by) ws in
    let made : List (List ℕ) → List Val = λ (ns : List (List ℕ)). take by.before vs ++ values_given by.before (drop by.before ns) (unwrap_or (parameters_given ns by.before by.names) []) (drop by.before vs) in
    ap (λ l. l ++ given (slot_values (map slot_view (drop by.before slots)))) (take_values by.before slots) ∙ ap (λ l. take by.before vs ++ given l) (drop_values by.before slots)
    ∙ ap (λ l. take by.before vs ++ l) (sym (given_or_none xs by (drop by.before xs) (drop by.before vs) (parameters_given xs by.before by.names) refl)) ∙ ap made e

-- nothing is given where there are no values
pub no_values : (xs : List (List ℕ)) (number : ℕ) (names : List (List ℕ)) → value_named xs number names [] ≡ missing
no_values xs number [] = refl
no_values xs number (name ∷ names) = refl
