-- What it is that arguments are given by names.
use Rattle.std.proofs.Common.{◌≡◌, ℕ, ◌-◌, ◌≤◌, Bool, true, false, ◌||◌, not, List, [], ◌∷◌, map, length, take, drop, get_or, Option, Some, None, is_some, refl, sym, ap, ◌∙◌, arith, rules, tests}
use Rattle.std.proofs.lemmas.List.{take_all}
use Rattle.std.specs.Prelude.{◌==◌, nat_lt, if◌then◌else◌, unwrap_or}
use Rattle.std.specs.List.{list_any}
use Rattle.vba_meaning.specs.ByName.{any_given, given_once, is_parameter, parameter_named, parameters_given}

-- what is given last is among what is given, or one of those behind it
one_more : (p q : ℕ) (qs ps : List ℕ) (others b : Bool) → (if b then None else Some (q ∷ qs)) ≡ Some ps → list_any (λ r. p == r) qs ≡ others → list_any (λ r. p == r) ps ≡ ((p == q) || others)
one_more p q qs ps others true h k = let e : None ≡ Some ps = h in absurd cc
one_more p q qs ps others false h k = ap (λ (o : Option (List ℕ)). list_any (λ r. p == r) (unwrap_or o [])) (sym h) ∙ ap (λ b. (p == q) || b) k

once : (before p : ℕ) (o : Option ℕ) (r : Option (List ℕ)) (ps : List ℕ) (others : Bool) → given_once before o r ≡ Some ps → ((qs : List ℕ) → r ≡ Some qs → list_any (λ q. p == q) qs ≡ others)
    → list_any (λ q. p == q) ps ≡ (is_parameter p o || others)
once before p None r ps others h k = let e : None ≡ Some ps = h in absurd cc
once before p (Some q) None ps others h k = let e : None ≡ Some ps = h in absurd cc
once before p (Some q) (Some qs) ps others h k = one_more p q qs ps others (nat_lt q before || list_any (λ r. q == r) qs) h (k qs refl)

-- a parameter is among those that are given where one of the names is its own
pub among_given : (xs : List (List ℕ)) (before p : ℕ) (names : List (List ℕ)) (ps : List ℕ) → parameters_given xs before names ≡ Some ps → list_any (λ q. p == q) ps ≡ any_given xs p names
among_given xs before p [] ps h = ap (λ (o : Option (List ℕ)). list_any (λ q. p == q) (unwrap_or o [])) (sym h)
among_given xs before p (name ∷ names) ps h =
    once before p (parameter_named 0 xs name) (parameters_given xs before names) ps (any_given xs p names) h (λ qs k. among_given xs before p names qs k)

-- whether one more name is that of a parameter to which nothing is given
abbrev pub fits_once : (xs : List (List ℕ)) → (before : ℕ) → Option ℕ → (others : Bool) → (names : List (List ℕ)) → Bool
fits_once xs before None others names = false
fits_once xs before (Some q) others names = if nat_lt q before || not others then false else not (any_given xs q names)

fits : (xs : List (List ℕ)) (before : ℕ) (names : List (List ℕ)) (o : Option ℕ) (r : Option (List ℕ)) → parameters_given xs before names ≡ r → is_some (given_once before o r) ≡ fits_once xs before o (is_some r) names
fits xs before names None r h = refl
fits xs before names (Some q) None h = past (nat_lt q before)
  where
    past : (b : Bool) → false ≡ (if b || true then false else not (any_given xs q names))
    past true = refl
    past false = refl
fits xs before names (Some q) (Some ps) h = at (nat_lt q before) (list_any (λ r. q == r) ps) (any_given xs q names) (among_given xs before q names ps h)
  where
    at : (b c d : Bool) → c ≡ d → is_some (if b || c then None else Some (q ∷ ps)) ≡ (if b || false then false else not d)
    at true c d e = refl
    at false true true e = refl
    at false false false e = refl
    at false true false e = absurd cc
    at false false true e = absurd cc

pub given_more : (xs : List (List ℕ)) (before : ℕ) (name : List ℕ) (names : List (List ℕ))
    → is_some (parameters_given xs before (name ∷ names)) ≡ fits_once xs before (parameter_named 0 xs name) (is_some (parameters_given xs before names)) names
given_more xs before name names = fits xs before names (parameter_named 0 xs name) (parameters_given xs before names) refl

not_less : (a b : ℕ) → b ≤ a → nat_lt a b ≡ false
not_less a b h = search (rules, tests)

-- one more name of a parameter behind the first ones: all fit where its parameter isn't given another
pub one_more_given : (xs : List (List ℕ)) (before : ℕ) (f : ℕ → List ℕ) (order : List ℕ) (name : List ℕ) (number : ℕ) (others here : Bool) → 1 ≤ length order → name ≡ f (get_or order 0 0) → before ≤ number
    → Some number ≡ parameter_named 0 xs name → others ≡ true → others ≡ is_some (parameters_given xs before (map f (take (length order - 1) (drop 1 order))))
    → here ≡ any_given xs number (map f (take (length order - 1) (drop 1 order))) → not here ≡ is_some (parameters_given xs before (map f order))
one_more_given xs before f [] name number others here some is behind own all rest any = absurd (omega (arith, some))
one_more_given xs before f (k ∷ ks) name number others here some is behind own all rest any =
    let whole : take (length (k ∷ ks) - 1) ks ≡ ks = take_all (length (k ∷ ks) - 1) ks (omega arith) in
    let named : Some number ≡ parameter_named 0 xs (f k) = own ∙ ap (λ (l : List ℕ). parameter_named 0 xs l) is in
    let given : true ≡ is_some (parameters_given xs before (map f ks)) = sym all ∙ rest ∙ ap (λ (l : List ℕ). is_some (parameters_given xs before (map f l))) whole in
    let is_here : here ≡ any_given xs number (map f ks) = any ∙ ap (λ (l : List ℕ). any_given xs number (map f l)) whole in
    let made : fits_once xs before (Some number) true (map f ks) ≡ not (any_given xs number (map f ks)) =
    ap (λ (b : Bool). if b || false then false else not (any_given xs number (map f ks))) (not_less number before behind) in
    ap not is_here ∙ sym made ∙ ap (λ (o : Option ℕ). fits_once xs before o true (map f ks)) named ∙ ap (λ (b : Bool). fits_once xs before (parameter_named 0 xs (f k)) b (map f ks)) given
    ∙ sym (given_more xs before (f k) (map f ks))
