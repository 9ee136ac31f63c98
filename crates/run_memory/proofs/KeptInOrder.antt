-- What blocks keep, in the order of their headers.
use Rattle.std.proofs.Common.{◌≡◌, ℕ, zero, suc, List, [], ◌∷◌, map, refl, sym, ap, ◌∙◌, arith, rules}
use Rattle.std.proofs.lemmas.Grind.{common_steps}
use Rattle.std.specs.List.{insert}
use Rattle.std.specs.Prelude.{Bool, true, false, slice_set, ◌==◌, nat_lt, if◌then◌else◌}
use Rattle.run_memory.specs.declared.frame.Kept.{Kept}
use Rattle.run_memory.specs.View.{kept_view, kept_at_view}
use Rattle.run_memory.specs.Keeps.{is_kept, place_in}
use Rattle.vba_meaning.specs.Memory as plain

put_behind : (e : ℕ × plain.Kept) (es : List (ℕ × plain.Kept)) (i : ℕ) (k : plain.Kept) → nat_lt e.0 i ≡ true → plain.put i k (e ∷ es) ≡ e ∷ plain.put i k es
put_behind e es i k h = grind (arith, common_steps)

put_before : (e : ℕ × plain.Kept) (es : List (ℕ × plain.Kept)) (i : ℕ) (k : plain.Kept) → nat_lt e.0 i ≡ false → (e.0 == i) ≡ false → plain.put i k (e ∷ es) ≡ (i, k) ∷ e ∷ es
put_before e es i k h g = grind (arith, common_steps)

put_same : (e : ℕ × plain.Kept) (es : List (ℕ × plain.Kept)) (i : ℕ) (k : plain.Kept) → (e.0 == i) ≡ true → plain.put i k (e ∷ es) ≡ (i, k) ∷ es
put_same e es i k h = ap (λ b. if b then (i, k) ∷ es else if nat_lt i e.0 then (i, k) ∷ e ∷ es else e ∷ plain.put i k es) h

set_at : (x : ℕ × Kept) (xs : List (ℕ × Kept)) (i : ℕ) (k : Kept) (b : Bool) → nat_lt x.0 i ≡ b → (if b then is_kept i xs else x.0 == i) ≡ true
    → (is_kept i xs ≡ true → map kept_at_view (slice_set xs (place_in i xs) (i, k)) ≡ plain.put i (kept_view k) (map kept_at_view xs))
    → map kept_at_view (slice_set (x ∷ xs) (if b then suc (place_in i xs) else zero) (i, k)) ≡ plain.put i (kept_view k) (map kept_at_view (x ∷ xs))
set_at x xs i k true e h more = ap (λ ys. kept_at_view x ∷ ys) (more h) ∙ sym (put_behind (kept_at_view x) (map kept_at_view xs) i (kept_view k) e)
set_at x xs i k false e h more = sym (put_same (kept_at_view x) (map kept_at_view xs) i (kept_view k) h)

pub put_set : (xs : List (ℕ × Kept)) (i : ℕ) (k : Kept) → is_kept i xs ≡ true
    → map kept_at_view (slice_set xs (place_in i xs) (i, k)) ≡ plain.put i (kept_view k) (map kept_at_view xs)
put_set [] i k h = absurd (search rules)
put_set (x ∷ xs) i k h = set_at x xs i k (nat_lt x.0 i) refl h (put_set xs i k)

inserted_at : (x : ℕ × Kept) (xs : List (ℕ × Kept)) (i : ℕ) (k : Kept) (b : Bool) → nat_lt x.0 i ≡ b → (if b then is_kept i xs else x.0 == i) ≡ false
    → (is_kept i xs ≡ false → map kept_at_view (insert xs (place_in i xs) (i, k)) ≡ plain.put i (kept_view k) (map kept_at_view xs))
    → map kept_at_view (insert (x ∷ xs) (if b then suc (place_in i xs) else zero) (i, k)) ≡ plain.put i (kept_view k) (map kept_at_view (x ∷ xs))
inserted_at x xs i k true e h more = ap (λ ys. kept_at_view x ∷ ys) (more h) ∙ sym (put_behind (kept_at_view x) (map kept_at_view xs) i (kept_view k) e)
inserted_at x xs i k false e h more = sym (put_before (kept_at_view x) (map kept_at_view xs) i (kept_view k) e h)

pub put_inserted : (xs : List (ℕ × Kept)) (i : ℕ) (k : Kept) → is_kept i xs ≡ false
    → map kept_at_view (insert xs (place_in i xs) (i, k)) ≡ plain.put i (kept_view k) (map kept_at_view xs)
put_inserted [] i k h = refl
put_inserted (x ∷ xs) i k h = inserted_at x xs i k (nat_lt x.0 i) refl h (put_inserted xs i k)
