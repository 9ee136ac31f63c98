-- What raising and lowering does to each count.
use Rattle.std.proofs.Common.{◌≡◌, ℕ, zero, suc, ◌+◌, ◌-◌, Bool, true, false, List, [], ◌∷◌, ◌++◌, refl, ap, subst, arith}
use Rattle.std.specs.Prelude.{◌==◌, if◌then◌else◌}
use Rattle.std.proofs.lemmas.Bool.{eqb-true, eqb-false}
use Rattle.vba_meaning.specs.References.{times}
use Rattle.object_counts.specs.Counts.{count_of, raise, lower, raise_all, lower_all}

pub none_stored : (o : ℕ) → count_of [] o ≡ 0
none_stored zero = refl
none_stored (suc o) = refl

raise_same : (ks : List ℕ) (p : ℕ) → count_of (raise ks p) p ≡ count_of ks p + 1
raise_same [] zero = refl
raise_same [] (suc p) = omega (arith, raise_same [] p, none_stored p, none_stored (suc p))
raise_same (k ∷ ks) zero = refl
raise_same (k ∷ ks) (suc p) = raise_same ks p

raise_other : (ks : List ℕ) (p o : ℕ) → (o ≡ p → ⊥) → count_of (raise ks p) o ≡ count_of ks o
raise_other [] zero zero h = absurd (h refl)
raise_other [] zero (suc o) h = omega (arith, none_stored o, none_stored (suc o))
raise_other [] (suc p) zero h = refl
raise_other [] (suc p) (suc o) h = omega (arith, raise_other [] p o (λ e. h (ap suc e)), none_stored o, none_stored (suc o))
raise_other (k ∷ ks) zero zero h = absurd (h refl)
raise_other (k ∷ ks) zero (suc o) h = refl
raise_other (k ∷ ks) (suc p) zero h = refl
raise_other (k ∷ ks) (suc p) (suc o) h = raise_other ks p o (λ e. h (ap suc e))

lower_same : (ks : List ℕ) (p : ℕ) → count_of (lower ks p) p ≡ count_of ks p - 1
lower_same [] p = omega (arith, none_stored p)
lower_same (k ∷ ks) zero = refl
lower_same (k ∷ ks) (suc p) = lower_same ks p

lower_other : (ks : List ℕ) (p o : ℕ) → (o ≡ p → ⊥) → count_of (lower ks p) o ≡ count_of ks o
lower_other [] p o h = refl
lower_other (k ∷ ks) zero zero h = absurd (h refl)
lower_other (k ∷ ks) zero (suc o) h = refl
lower_other (k ∷ ks) (suc p) zero h = refl
lower_other (k ∷ ks) (suc p) (suc o) h = lower_other ks p o (λ e. h (ap suc e))

raise_index : (ks : List ℕ) (p o : ℕ) → count_of (raise ks p) o ≡ count_of ks o + (if o == p then 1 else 0)
raise_index ks p o = by_test (o == p) refl where
  by_test : (b : Bool) → (o == p) ≡ b → count_of (raise ks p) o ≡ count_of ks o + (if b then 1 else 0)
  by_test true e = let h : o ≡ p = eqb-true o p e in subst (λ n. count_of (raise ks n) o ≡ count_of ks o + 1) h (raise_same ks o)
  by_test false e = omega (arith, raise_other ks p o (eqb-false o p e))

lower_index : (ks : List ℕ) (p o : ℕ) → count_of (lower ks p) o ≡ count_of ks o - (if o == p then 1 else 0)
lower_index ks p o = by_test (o == p) refl where
  by_test : (b : Bool) → (o == p) ≡ b → count_of (lower ks p) o ≡ count_of ks o - (if b then 1 else 0)
  by_test true e = let h : o ≡ p = eqb-true o p e in subst (λ n. count_of (lower ks n) o ≡ count_of ks o - 1) h (lower_same ks o)
  by_test false e = omega (arith, lower_other ks p o (eqb-false o p e))

pub raise_all_index : (ks os : List ℕ) (o : ℕ) → count_of (raise_all ks os) o ≡ count_of ks o + times o os
raise_all_index ks [] o = omega arith
raise_all_index ks (p ∷ ps) o = omega (arith, raise_all_index (raise ks p) ps o, raise_index ks p o)

pub lower_all_index : (ks os : List ℕ) (o : ℕ) → count_of (lower_all ks os) o ≡ count_of ks o - times o os
lower_all_index ks [] o = omega arith
lower_all_index ks (p ∷ ps) o = omega (arith, lower_all_index (lower ks p) ps o, lower_index ks p o)

pub times-append : (o : ℕ) (xs ys : List ℕ) → times o (xs ++ ys) ≡ times o xs + times o ys
times-append o [] ys = omega arith
times-append o (x ∷ xs) ys = omega (arith, times-append o xs ys)
