-- Entries of other numbers.
use Rattle.std.proofs.Common.{◌≡◌, ℕ, ◌++◌, List, [], ◌∷◌, map, reverse, refl, sym, ap, ◌∙◌}
use Rattle.std.specs.Prelude.{Bool, true, false, not, ◌==◌, nat_eq, if◌then◌else◌, Some}
use Rattle.std.proofs.lemmas.Grind.{reverse_onto}
use Rattle.std.proofs.lemmas.List.{map-append, reverse-append}
use Rattle.run_memory.specs.declared.frame.Kept.{Kept}
use Rattle.run_memory.specs.declared.frame.Loop.{Loop}
use Rattle.run_memory.specs.View.{kept_at_view, loop_at_view}
use Rattle.run_memory.specs.Keeps.{others}
use Rattle.vba_meaning.specs.Memory as plain
use Rattle.vba_meaning.specs.Memory.{found, without}

pub keeps_without : (xs : List (ℕ × Kept)) (i : ℕ) → map kept_at_view (others i xs) ≡ without (map kept_at_view xs) i
keeps_without [] i = refl
keeps_without (x ∷ xs) i = step (nat_eq x.0 i) (keeps_without xs i) where
  step : (b : Bool) → map kept_at_view (others i xs) ≡ without (map kept_at_view xs) i
      → map kept_at_view (if not b then x ∷ others i xs else others i xs) ≡ (if b then without (map kept_at_view xs) i else kept_at_view x ∷ without (map kept_at_view xs) i)
  step true e = e
  step false e = ap (λ ys. kept_at_view x ∷ ys) e

without_append : (xs ys : List (ℕ × plain.Loop)) (i : ℕ) → without (xs ++ ys) i ≡ without xs i ++ without ys i
without_append [] ys i = refl
without_append (x ∷ xs) ys i = step (x.0 == i) (without_append xs ys i) where
  step : (b : Bool) → without (xs ++ ys) i ≡ without xs i ++ without ys i
      → (if b then without (xs ++ ys) i else x ∷ without (xs ++ ys) i) ≡ (if b then without xs i else x ∷ without xs i) ++ without ys i
  step true e = e
  step false e = ap (λ zs. x ∷ zs) e

turned : (x : ℕ × Loop) (xs : List (ℕ × Loop)) → map loop_at_view (reverse (x ∷ xs)) ≡ map loop_at_view (reverse xs) ++ loop_at_view x ∷ []
turned x xs = ap (map loop_at_view) (reverse_onto xs x []) ∙ map-append loop_at_view (reverse xs) (x ∷ [])

append_nil : (xs : List (ℕ × plain.Loop)) → xs ++ [] ≡ xs
append_nil [] = refl
append_nil (x ∷ xs) = ap (λ ys. x ∷ ys) (append_nil xs)

pub loops_without : (xs : List (ℕ × Loop)) (i : ℕ) → map loop_at_view (reverse (others i xs)) ≡ without (map loop_at_view (reverse xs)) i
loops_without [] i = refl
loops_without (x ∷ xs) i = step (nat_eq x.0 i) refl (loops_without xs i) where
  step : (b : Bool) → nat_eq x.0 i ≡ b → map loop_at_view (reverse (others i xs)) ≡ without (map loop_at_view (reverse xs)) i
      → map loop_at_view (reverse (if not b then x ∷ others i xs else others i xs)) ≡ without (map loop_at_view (reverse (x ∷ xs))) i
  step true g e =
      e ∙ sym (append_nil (without (map loop_at_view (reverse xs)) i))
      ∙ sym (ap (λ b. without (map loop_at_view (reverse xs)) i ++ (if b then [] else loop_at_view x ∷ [])) g)
      ∙ sym (without_append (map loop_at_view (reverse xs)) (loop_at_view x ∷ []) i)
      ∙ sym (ap (λ ys. without ys i) (turned x xs))
  step false g e =
      turned x (others i xs) ∙ ap (λ ys. ys ++ loop_at_view x ∷ []) e
      ∙ sym (ap (λ b. without (map loop_at_view (reverse xs)) i ++ (if b then [] else loop_at_view x ∷ [])) g)
      ∙ sym (without_append (map loop_at_view (reverse xs)) (loop_at_view x ∷ []) i)
      ∙ sym (ap (λ ys. without ys i) (turned x xs))

pub last_found : (xs : List (ℕ × Loop)) (x : ℕ × Loop) (i : ℕ) → found (map loop_at_view (reverse (xs ++ x ∷ []))) i ≡ (if x.0 == i then Some (loop_at_view x).1 else found (map loop_at_view (reverse xs)) i)
last_found xs x i = ap (λ ys. found (map loop_at_view ys) i) (reverse-append xs (x ∷ []))
