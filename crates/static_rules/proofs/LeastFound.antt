-- What is found of refusals, one after another, is the least of them.
use Rattle.std.proofs.Common.{◌≡◌, ℕ, suc, ◌<◌, ◌≤◌, Bool, true, false, List, [], ◌∷◌, ◌++◌, Option, Some, None, refl, sym, ap, ◌∙◌, subst, inl, inr, arith}
use Rattle.std.specs.Prelude.{◌⊎◌, ◌==◌, ◌&&◌, ◌||◌, nat_lt, nat_le, Contains, if◌then◌else◌}
use Rattle.std.specs.List.{AllByRecursion}
use Rattle.std.proofs.lemmas.Bool.{and_from, and_parts, eq-eqb, eqb-true, le-leb, leb-true, lt-ltb, ltb-true, or_cases, or_left, or_right}
use Rattle.std.proofs.lemmas.Bool.Decides.{nat_tests}
use Rattle.std.proofs.lemmas.List.Elements.{All-from_recursion}
use Rattle.vba_base.specs.declared.place.Refusal.{Refusal}
use Rattle.static_rules.specs.Broken.{not_later, lesser, least_of, IsLeastOf}

-- one number is before another, or the same where the rest holds
abbrev by_number : (a b : ℕ) → (rest : Bool) → Bool
by_number a b rest = nat_lt a b || ((a == b) && rest)

abbrev ByNumber : (a b : ℕ) → (rest : Bool) → Type 0
ByNumber a b rest = (a < b) ⊎ ((a ≡ b) × (rest ≡ true))

ByNumber-from : (a b : ℕ) (rest : Bool) → by_number a b rest ≡ true → ByNumber a b rest
ByNumber-from a b rest is = by_either (or_cases (nat_lt a b) ((a == b) && rest) is)
  where
    by_either : ((nat_lt a b ≡ true) ⊎ (((a == b) && rest) ≡ true)) → ByNumber a b rest
    by_either (inl l) = inl (ltb-true a b l)
    by_either (inr l) = let both = and_parts (a == b) rest l in inr (eqb-true a b both.0, both.1)

by_number-from : (a b : ℕ) (rest : Bool) → ByNumber a b rest → by_number a b rest ≡ true
by_number-from a b rest (inl l) = or_left (nat_lt a b) ((a == b) && rest) (lt-ltb a b l)
by_number-from a b rest (inr l) = or_right (nat_lt a b) ((a == b) && rest) (and_from (a == b) rest (eq-eqb a b l.0) l.1)

by_number-trans : (a b c : ℕ) (r s t : Bool) → by_number a b r ≡ true → by_number b c s ≡ true → (r ≡ true → s ≡ true → t ≡ true) → by_number a c t ≡ true
by_number-trans a b c r s t one other rest = by_number-from a c t (both (ByNumber-from a b r one) (ByNumber-from b c s other))
  where
    both : ByNumber a b r → ByNumber b c s → ByNumber a c t
    both (inl l) (inl m) = inl (omega arith)
    both (inl l) (inr m) = let same : b ≡ c = m.0 in inl (omega arith)
    both (inr l) (inl m) = let same : a ≡ b = l.0 in inl (omega arith)
    both (inr l) (inr m) = inr (l.0 ∙ m.0, rest l.1 m.1)

by_number-total : (a b : ℕ) (r s : Bool) → by_number a b r ≡ false → (r ≡ false → s ≡ true) → by_number b a s ≡ true
by_number-total a b true s later rest = grind (arith, nat_tests)
by_number-total a b false s later rest = let same : s ≡ true = rest refl in grind (arith, nat_tests)

by_number-itself : (a : ℕ) (rest : Bool) → rest ≡ true → by_number a a rest ≡ true
by_number-itself a rest is = by_number-from a a rest (inr (refl, is))

le-total : (a b : ℕ) → nat_le a b ≡ false → nat_le b a ≡ true
le-total a b later = grind (arith, nat_tests)

le-trans : (a b c : ℕ) → nat_le a b ≡ true → nat_le b c ≡ true → nat_le a c ≡ true
le-trans a b c one other = let first = leb-true a b one in let second = leb-true b c other in le-leb a c (omega (arith, first, second))

-- of two refusals: by rule, then also by column, and by line
abbrev by_rule : Refusal → Refusal → Bool
by_rule one other = nat_le one.rule other.rule

abbrev by_column : Refusal → Refusal → Bool
by_column one other = by_number one.place.column other.place.column (by_rule one other)

abbrev by_line : Refusal → Refusal → Bool
by_line one other = by_number one.place.line other.place.line (by_column one other)

column-trans : (one other third : Refusal) → by_column one other ≡ true → by_column other third ≡ true → by_column one third ≡ true
column-trans one other third first second =
    by_number-trans one.place.column other.place.column third.place.column (by_rule one other) (by_rule other third) (by_rule one third) first second
    (λ r s. le-trans one.rule other.rule third.rule r s)

line-trans : (one other third : Refusal) → by_line one other ≡ true → by_line other third ≡ true → by_line one third ≡ true
line-trans one other third first second =
    by_number-trans one.place.line other.place.line third.place.line (by_column one other) (by_column other third) (by_column one third) first second
    (λ r s. column-trans one other third r s)

not_later-trans : (one other third : Refusal) → not_later one other ≡ true → not_later other third ≡ true → not_later one third ≡ true
not_later-trans one other third first second =
    by_number-trans one.place.«module» other.place.«module» third.place.«module» (by_line one other) (by_line other third) (by_line one third) first second
    (λ r s. line-trans one other third r s)

column-total : (one other : Refusal) → by_column one other ≡ false → by_column other one ≡ true
column-total one other later =
    by_number-total one.place.column other.place.column (by_rule one other) (by_rule other one) later (λ r. le-total one.rule other.rule r)

line-total : (one other : Refusal) → by_line one other ≡ false → by_line other one ≡ true
line-total one other later =
    by_number-total one.place.line other.place.line (by_column one other) (by_column other one) later (λ r. column-total one other r)

not_later-total : (one other : Refusal) → not_later one other ≡ false → not_later other one ≡ true
not_later-total one other later =
    by_number-total one.place.«module» other.place.«module» (by_line one other) (by_line other one) later (λ r. line-total one other r)

not_later-itself : (one : Refusal) → not_later one one ≡ true
not_later-itself one =
    by_number-itself one.place.«module» (by_line one one)
    (by_number-itself one.place.line (by_column one one) (by_number-itself one.place.column (by_rule one one) (le-leb one.rule one.rule (omega arith))))

-- one of the refusals
abbrev Among : List Refusal → Refusal → Type 0
Among [] refusal = ⊥
Among (first ∷ refusals) refusal = (first ≡ refusal) ⊎ Among refusals refusal

among_contained : (refusals : List Refusal) (refusal : Refusal) → Among refusals refusal → Contains refusals refusal
among_contained [] refusal among = absurd among
among_contained (first ∷ refusals) refusal (inl same) = (0, omega arith, same)
among_contained (first ∷ refusals) refusal (inr among) =
    let behind = among_contained refusals refusal among in
    (suc behind.0, omega (arith, behind.1), behind.2)

-- what is found of one refusal and more
record Found (found : Refusal) (refusals : List Refusal) : Type 0 where
  least : Refusal
  is : least_of (Some found) refusals ≡ Some least
  among : Among (found ∷ refusals) least
  not_later_found : not_later least found ≡ true
  first : AllByRecursion (λ other. not_later least other ≡ true) refusals

found_more : (found refusal : Refusal) (refusals : List Refusal) (b : Bool) → not_later found refusal ≡ b
    → Found (if b then found else refusal) refusals → Found found (refusal ∷ refusals)
found_more found refusal refusals true e behind =
    record {
      least = behind.least;
      is = ap (λ (b : Bool). least_of (Some (if b then found else refusal)) refusals) e ∙ behind.is;
      among = wider behind.among;
      not_later_found = behind.not_later_found;
      first = (not_later-trans behind.least found refusal behind.not_later_found e, behind.first);
    }
  where
    wider : Among (found ∷ refusals) behind.least → Among (found ∷ refusal ∷ refusals) behind.least
    wider (inl same) = inl same
    wider (inr among) = inr (inr among)
found_more found refusal refusals false e behind =
    record {
      least = behind.least;
      is = ap (λ (b : Bool). least_of (Some (if b then found else refusal)) refusals) e ∙ behind.is;
      among = inr behind.among;
      not_later_found = not_later-trans behind.least refusal found behind.not_later_found (not_later-total found refusal e);
      first = (behind.not_later_found, behind.first);
    }

found_least : (refusals : List Refusal) (found : Refusal) → Found found refusals
found_least [] found =
    record { least = found; is = refl; among = inl refl; not_later_found = not_later-itself found; first = tt }
found_least (refusal ∷ refusals) found =
    found_more found refusal refusals (not_later found refusal) refl (found_least refusals (if not_later found refusal then found else refusal))

pub least_of_least : (refusals : List Refusal) → IsLeastOf refusals (least_of None refusals)
least_of_least [] = refl
least_of_least (refusal ∷ refusals) =
    let found = found_least refusals refusal in
    subst (IsLeastOf (refusal ∷ refusals)) (sym found.is)
    (record {
      among = among_contained (refusal ∷ refusals) found.least found.among;
      first = All-from_recursion (λ other. not_later found.least other ≡ true) (refusal ∷ refusals) (found.not_later_found, found.first);
    })

pub least_of_append : (found : Option Refusal) (first second : List Refusal) → least_of found (first ++ second) ≡ least_of (least_of found first) second
least_of_append found [] second = refl
least_of_append found (refusal ∷ first) second = least_of_append (Some (lesser found refusal)) first second
