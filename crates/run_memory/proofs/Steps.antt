-- The steps of paths.
use Rattle.std.proofs.Common.{◌≡◌, ℕ, zero, suc, ◌+◌, ◌<◌, ◌++◌, List, [], ◌∷◌, length, get_or, take, map, refl, ap, ◌∙◌, add-one, arith}
use Rattle.run_memory.specs.declared.path.Step.{Step}
use Rattle.run_memory.specs.View.{step_view}
use Rattle.vba_meaning.specs.Paths.{plain_steps}

more : (xs : List Step) (n : ℕ) (d : Step) → n < length xs
    → plain_steps (map step_view (take (suc n) xs)) ≡ plain_steps (map step_view (take n xs)) ++ (get_or xs n d).step ∷ []
more [] n d h = absurd (omega arith)
more (x ∷ xs) zero d h = refl
more (x ∷ xs) (suc n) d h = ap (λ ss. x.step ∷ ss) (more xs n d (omega arith))

-- one step more
pub plain_next : (xs : List Step) (n : ℕ) (d : Step) → n < length xs
    → plain_steps (map step_view (take (n + 1) xs)) ≡ plain_steps (map step_view (take n xs)) ++ (get_or xs n d).step ∷ []
plain_next xs n d h = ap (λ m. plain_steps (map step_view (take m xs))) (add-one n) ∙ more xs n d h
