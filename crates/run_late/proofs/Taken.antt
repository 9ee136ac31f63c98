-- Parameters that arguments go to.
use Rattle.std.proofs.Common.{◌≡◌, ℕ, zero, suc, ◌+◌, ◌-◌, Bool, List, ◌∷◌, refl, ap, ◌∙◌, arith}
use Rattle.std.specs.Prelude.{◌&&◌, ◌||◌, not, if◌then◌else◌, Some, is_some}
use Rattle.bound_project.specs.Expressions.{ByName}
use Rattle.bound_project.specs.Project.{Parameter}
use Rattle.vba_meaning.specs.LateBound.{all_taken, parameter_at, parameter_of}
use Rattle.bound_project.specs.Pieces.{flags}
use Rattle.run_late.proofs.Flags.{flags_first}

-- behind the first parameter
pub place_behind : (q : Parameter) (qs : List Parameter) (i : ℕ) → (i ≡ 0 → ⊥) → parameter_at (q ∷ qs) i ≡ (if q.many then Some q else parameter_at qs (i - 1))
place_behind q qs zero h = absurd (h refl)
place_behind q qs (suc i) h = let e : suc i - 1 ≡ i = omega arith in rw e refl

-- one more argument, by whether it is given and its parameter
pub one_taken : (ps : List Parameter) (by : ByName) (i n : ℕ) (ks rest : List ℕ) (g : Bool) → (n ≡ 0 → ⊥) → ((k : ℕ) → flags (suc k) ks ≡ g ∷ flags k rest)
    → all_taken ps by i (flags n ks) ≡ ((not g || is_some (parameter_of ps by i)) && all_taken ps by (i + 1) (flags (n - 1) rest))
one_taken ps by i n ks rest g h each =
    let e : suc i ≡ i + 1 = omega arith in
    ap (λ (gs : List Bool). all_taken ps by i gs) (flags_first n ks rest g h each) ∙ ap (λ (k : ℕ). (not g || is_some (parameter_of ps by i)) && all_taken ps by k (flags (n - 1) rest)) e
