-- Entries of set numbers that are renumbered from a place on.
use Rattle.std.proofs.Common.{◌≡◌, ℕ, zero, suc, ◌+◌, ◌<◌, ◌≤◌, List, [], ◌∷◌, length, get_or, refl, ap, ◌∙◌, arith, add-one}
use Rattle.std.specs.Prelude.{Option, slice_set}
use Rattle.vba_meaning.specs.Effects.{renumbered}
use Rattle.run_memory.specs.Connecting.{entry_renumbered, renumbered_from}

pub renumbered_all : (es : List (ℕ × Option ℕ)) (i : ℕ) (n : Option ℕ) → renumbered_from 0 i n es ≡ renumbered i n es
renumbered_all [] i n = refl
renumbered_all (e ∷ es) i n = ap (λ ys. entry_renumbered i n e ∷ ys) (renumbered_all es i n)

next : (es : List (ℕ × Option ℕ)) (k i : ℕ) (n : Option ℕ) (e d : ℕ × Option ℕ) → k < length es → e ≡ entry_renumbered i n (get_or es k d)
    → renumbered_from (suc k) i n (slice_set es k e) ≡ renumbered_from k i n es
next [] k i n e d h f = absurd (omega arith)
next (x ∷ es) zero i n e d h f = ap (λ y. y ∷ renumbered_from zero i n es) f
next (x ∷ es) (suc k) i n e d h f = ap (λ ys. x ∷ ys) (next es k i n e d (omega arith) f)

pub renumbered_next : (es : List (ℕ × Option ℕ)) (k i : ℕ) (n : Option ℕ) (e d : ℕ × Option ℕ) → k < length es → e ≡ entry_renumbered i n (get_or es k d)
    → renumbered_from (k + 1) i n (slice_set es k e) ≡ renumbered_from k i n es
renumbered_next es k i n e d h f = ap (λ j. renumbered_from j i n (slice_set es k e)) (add-one k) ∙ next es k i n e d h f

pub renumbered_past : (es : List (ℕ × Option ℕ)) (k i : ℕ) (n : Option ℕ) → length es ≤ k → renumbered_from k i n es ≡ es
renumbered_past [] k i n h = refl
renumbered_past (x ∷ es) zero i n h = absurd (omega arith)
renumbered_past (x ∷ es) (suc k) i n h = ap (λ ys. x ∷ ys) (renumbered_past es k i n (omega arith))
