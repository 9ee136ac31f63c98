-- What is found of refusals, one after another, is the least of them.
use Rattle.std.proofs.Common.{◌≡◌, ℕ, suc, ◌<◌, ◌≤◌, Bool, true, false, List, [], ◌∷◌, ◌++◌, Option, Some, None, refl, sym, ap, ◌∙◌, subst, inl, inr, arith}
use Rattle.std.specs.Prelude.{◌⊎◌, ◌==◌, ◌&&◌, ◌||◌, nat_lt, nat_le, Contains, if◌then◌else◌}
use Rattle.std.specs.List.{AllByRecursion}
use Rattle.std.proofs.lemmas.Bool.{and_from, and_parts, eq-eqb, eqb-true, le-leb, leb-true, lt-ltb, ltb-true, or_cases, or_left, or_right}
use Rattle.std.proofs.lemmas.Bool.Decides.{nat_tests}
use Rattle.std.proofs.lemmas.List.Elements.{All-from_recursion}
use Rattle.vba_base.specs.declared.place.Refusal.{Refusal}
use Rattle.vba_lexer.specs.Order.{not_later, IsLeastOf}
use Rattle.refusal_order.specs.Least.{lesser, least_of, least_of_both}

-- the order by lines, columns and rules, which are numbers
abbrev at_most : ℕ → ℕ → ℕ → ℕ → ℕ → ℕ → Bool
at_most line column rule other_line other_column other_rule =
    (nat_lt line other_line || ((line == other_line) && nat_lt column other_column))
    || (((line == other_line) && (column == other_column)) && nat_le rule other_rule)

-- a pair of numbers is at most another, by the first and then by the second
abbrev PairAtMost : ℕ → ℕ → ℕ → ℕ → Type 0
PairAtMost column rule other_column other_rule = (column < other_column) ⊎ ((column ≡ other_column) × (rule ≤ other_rule))

-- three numbers
abbrev AtMost : ℕ → ℕ → ℕ → ℕ → ℕ → ℕ → Type 0
AtMost line column rule other_line other_column other_rule =
    (line < other_line) ⊎ ((line ≡ other_line) × PairAtMost column rule other_column other_rule)

PairAtMost-trans : (b c e f h i : ℕ) → PairAtMost b c e f → PairAtMost e f h i → PairAtMost b c h i
PairAtMost-trans b c e f h i (inl l) (inl m) = inl (omega arith)
PairAtMost-trans b c e f h i (inl l) (inr m) = let same : e ≡ h = m.0 in inl (omega arith)
PairAtMost-trans b c e f h i (inr l) (inl m) = let same : b ≡ e = l.0 in inl (omega arith)
PairAtMost-trans b c e f h i (inr l) (inr m) = let low : c ≤ f = l.1 in let high : f ≤ i = m.1 in inr (l.0 ∙ m.0, omega arith)

AtMost-trans : (a b c d e f g h i : ℕ) → AtMost a b c d e f → AtMost d e f g h i → AtMost a b c g h i
AtMost-trans a b c d e f g h i (inl l) (inl m) = inl (omega arith)
AtMost-trans a b c d e f g h i (inl l) (inr m) = let same : d ≡ g = m.0 in inl (omega arith)
AtMost-trans a b c d e f g h i (inr l) (inl m) = let same : a ≡ d = l.0 in inl (omega arith)
AtMost-trans a b c d e f g h i (inr l) (inr m) = inr (l.0 ∙ m.0, PairAtMost-trans b c e f h i l.1 m.1)

AtMost-from : (a b c d e f : ℕ) → at_most a b c d e f ≡ true → AtMost a b c d e f
AtMost-from a b c d e f is =
    by_either (or_cases (nat_lt a d || ((a == d) && nat_lt b e)) (((a == d) && (b == e)) && nat_le c f) is)
  where
    by_first : ((nat_lt a d ≡ true) ⊎ (((a == d) && nat_lt b e) ≡ true)) → AtMost a b c d e f
    by_first (inl l) = inl (ltb-true a d l)
    by_first (inr l) = let both = and_parts (a == d) (nat_lt b e) l in inr (eqb-true a d both.0, inl (ltb-true b e both.1))

    by_either : (((nat_lt a d || ((a == d) && nat_lt b e)) ≡ true) ⊎ ((((a == d) && (b == e)) && nat_le c f) ≡ true)) → AtMost a b c d e f
    by_either (inl l) = by_first (or_cases (nat_lt a d) ((a == d) && nat_lt b e) l)
    by_either (inr l) =
        let both = and_parts ((a == d) && (b == e)) (nat_le c f) l in
        let same = and_parts (a == d) (b == e) both.0 in
        inr (eqb-true a d same.0, inr (eqb-true b e same.1, leb-true c f both.1))

at_most-from : (a b c d e f : ℕ) → AtMost a b c d e f → at_most a b c d e f ≡ true
at_most-from a b c d e f (inl l) = grind (arith, nat_tests)
at_most-from a b c d e f (inr l) = let same : a ≡ d = l.0 in by_pair l.1
  where
    by_pair : PairAtMost b c e f → at_most a b c d e f ≡ true
    by_pair (inl m) =
        or_left (nat_lt a d || ((a == d) && nat_lt b e)) (((a == d) && (b == e)) && nat_le c f)
        (or_right (nat_lt a d) ((a == d) && nat_lt b e) (and_from (a == d) (nat_lt b e) (eq-eqb a d l.0) (lt-ltb b e m)))
    by_pair (inr m) =
        or_right (nat_lt a d || ((a == d) && nat_lt b e)) (((a == d) && (b == e)) && nat_le c f)
        (and_from ((a == d) && (b == e)) (nat_le c f) (and_from (a == d) (b == e) (eq-eqb a d l.0) (eq-eqb b e m.0)) (le-leb c f m.1))

at_most-trans : (a b c d e f g h i : ℕ) → at_most a b c d e f ≡ true → at_most d e f g h i ≡ true → at_most a b c g h i ≡ true
at_most-trans a b c d e f g h i first second =
    at_most-from a b c g h i (AtMost-trans a b c d e f g h i (AtMost-from a b c d e f first) (AtMost-from d e f g h i second))

at_most-total : (a b c d e f : ℕ) → at_most a b c d e f ≡ false → at_most d e f a b c ≡ true
at_most-total a b c d e f later = grind (arith, nat_tests)

at_most-itself : (a b c : ℕ) → at_most a b c a b c ≡ true
at_most-itself a b c = grind (arith, nat_tests)

not_later-trans : (one other third : Refusal) → not_later one other ≡ true → not_later other third ≡ true → not_later one third ≡ true
not_later-trans one other third first second =
    at_most-trans one.place.line one.place.column one.rule other.place.line other.place.column other.rule third.place.line third.place.column third.rule first second

not_later-total : (one other : Refusal) → not_later one other ≡ false → not_later other one ≡ true
not_later-total one other later = at_most-total one.place.line one.place.column one.rule other.place.line other.place.column other.rule later

not_later-itself : (one : Refusal) → not_later one one ≡ true
not_later-itself one = at_most-itself one.place.line one.place.column one.rule

-- one of the refusals
abbrev Among : List Refusal → Refusal → Type 0
Among [] refusal = ⊥
Among (first ∷ refusals) refusal = (first ≡ refusal) ⊎ Among refusals refusal

among_contained : (refusals : List Refusal) (refusal : Refusal) → Among refusals refusal → Contains refusals refusal
among_contained [] refusal among = absurd among
among_contained (first ∷ refusals) refusal (inl same) = (0, omega arith, same)
among_contained (first ∷ refusals) refusal (inr among) =
    let behind = among_contained refusals refusal among in
    (suc behind.0, omega (arith, behind.1), behind.2)

-- what is found of one refusal and more
record Found (found : Refusal) (refusals : List Refusal) : Type 0 where
  least : Refusal
  is : least_of (Some found) refusals ≡ Some least
  among : Among (found ∷ refusals) least
  not_later_found : not_later least found ≡ true
  first : AllByRecursion (λ other. not_later least other ≡ true) refusals

found_more : (found refusal : Refusal) (refusals : List Refusal) (b : Bool) → not_later found refusal ≡ b
    → Found (if b then found else refusal) refusals → Found found (refusal ∷ refusals)
found_more found refusal refusals true e behind =
    record {
      least = behind.least;
      is = ap (λ (b : Bool). least_of (Some (if b then found else refusal)) refusals) e ∙ behind.is;
      among = wider behind.among;
      not_later_found = behind.not_later_found;
      first = (not_later-trans behind.least found refusal behind.not_later_found e, behind.first);
    }
  where
    wider : Among (found ∷ refusals) behind.least → Among (found ∷ refusal ∷ refusals) behind.least
    wider (inl same) = inl same
    wider (inr among) = inr (inr among)
found_more found refusal refusals false e behind =
    record {
      least = behind.least;
      is = ap (λ (b : Bool). least_of (Some (if b then found else refusal)) refusals) e ∙ behind.is;
      among = inr behind.among;
      not_later_found = not_later-trans behind.least refusal found behind.not_later_found (not_later-total found refusal e);
      first = (behind.not_later_found, behind.first);
    }

found_least : (refusals : List Refusal) (found : Refusal) → Found found refusals
found_least [] found =
    record { least = found; is = refl; among = inl refl; not_later_found = not_later-itself found; first = tt }
found_least (refusal ∷ refusals) found =
    found_more found refusal refusals (not_later found refusal) refl (found_least refusals (if not_later found refusal then found else refusal))

pub least_of_least : (refusals : List Refusal) → IsLeastOf refusals (least_of None refusals)
least_of_least [] = refl
least_of_least (refusal ∷ refusals) =
    let found = found_least refusals refusal in
    subst (IsLeastOf (refusal ∷ refusals)) (sym found.is)
    (record {
      among = among_contained (refusal ∷ refusals) found.least found.among;
      first = All-from_recursion (λ other. not_later found.least other ≡ true) (refusal ∷ refusals) (found.not_later_found, found.first);
    })

pub least_of_append : (found : Option Refusal) (first second : List Refusal) → least_of found (first ++ second) ≡ least_of (least_of found first) second
least_of_append found [] second = refl
least_of_append found (refusal ∷ first) second = least_of_append (Some (lesser found refusal)) first second

-- the lesser of three
chosen : (x y z : Refusal) (xy yz : Bool) → not_later x y ≡ xy → not_later y z ≡ yz
    → (if not_later (if xy then x else y) z then (if xy then x else y) else z) ≡ (if not_later x (if yz then y else z) then x else (if yz then y else z))
chosen x y z true true first second = rw (first, not_later-trans x y z first second) refl
chosen x y z true false first second = refl
chosen x y z false true first second = rw (first, second) refl
chosen x y z false false first second = none (not_later x z) refl
  where
    none : (b : Bool) → not_later x z ≡ b → (if not_later y z then y else z) ≡ (if not_later x z then x else z)
    none true e =
        let up = not_later-trans y x z (not_later-total x y first) e in
        let apart : false ≡ true = sym second ∙ up in absurd cc
    none false e = rw (second, e) refl

lesser_lesser : (found : Option Refusal) (y z : Refusal) → lesser (Some (lesser found y)) z ≡ lesser found (lesser (Some y) z)
lesser_lesser None y z = refl
lesser_lesser (Some x) y z = chosen x y z (not_later x y) (not_later y z) refl refl

both_both : (found : Option Refusal) (y : Refusal) (other : Option Refusal)
    → least_of_both (Some (lesser found y)) other ≡ least_of_both found (least_of_both (Some y) other)
both_both found y None = refl
both_both found y (Some z) = ap Some (lesser_lesser found y z)

-- the least of what was found and of refusals by themselves
pub least_of_alone : (found : Option Refusal) (refusals : List Refusal) → least_of found refusals ≡ least_of_both found (least_of None refusals)
least_of_alone found [] = refl
least_of_alone found (refusal ∷ refusals) =
    least_of_alone (Some (lesser found refusal)) refusals
    ∙ (both_both found refusal (least_of None refusals)
    ∙ ap (least_of_both found) (sym (least_of_alone (Some refusal) refusals)))

pub least_of_two : (found : Option Refusal) (refusals others : List Refusal)
    → least_of found (refusals ++ others) ≡ least_of_both (least_of found refusals) (least_of None others)
least_of_two found refusals others = least_of_append found refusals others ∙ least_of_alone (least_of found refusals) others
