-- Which arguments are given, by what is said of them.
use Rattle.std.proofs.Common.{◌≡◌, ℕ, zero, suc, ◌-◌, ◌≤◌, ◌<◌, Bool, true, false, List, [], ◌∷◌, length, get_or, refl, arith}
use Rattle.std.specs.Prelude.{◌==◌, not, slice_index_or}
use Rattle.bound_project.specs.Pieces.{flags}

-- ---- the first one

-- so many, where there is one
pub flags_first : (n : ℕ) (ks rest : List ℕ) (g : Bool) → (n ≡ 0 → ⊥) → ((k : ℕ) → flags (suc k) ks ≡ g ∷ flags k rest) → flags n ks ≡ g ∷ flags (n - 1) rest
flags_first zero ks rest g h first = absurd (h refl)
flags_first (suc n) ks rest g h first = let e : suc n - 1 ≡ n = omega arith in rw e (first n)

-- ---- one of them

pub flag_past : (n i : ℕ) (ks : List ℕ) → n ≤ i → slice_index_or (flags n ks) i false ≡ false
flag_past zero i ks h = refl
flag_past (suc n) zero ks h = absurd (omega arith)
flag_past (suc n) (suc i) [] h = flag_past n i [] (omega arith)
flag_past (suc n) (suc i) (k ∷ ks) h = flag_past n i ks (omega arith)

pub flag_unsaid : (n i : ℕ) (ks : List ℕ) → i < n → length ks ≤ i → slice_index_or (flags n ks) i false ≡ true
flag_unsaid zero i ks h l = absurd (omega arith)
flag_unsaid (suc n) zero [] h l = refl
flag_unsaid (suc n) zero (k ∷ ks) h l = absurd (omega arith)
flag_unsaid (suc n) (suc i) [] h l = flag_unsaid n i [] (omega arith) (omega arith)
flag_unsaid (suc n) (suc i) (k ∷ ks) h l = flag_unsaid n i ks (omega arith) (omega arith)

pub flag_said : (n i : ℕ) (ks : List ℕ) → i < n → i < length ks → slice_index_or (flags n ks) i false ≡ not (get_or ks i 0 == 0)
flag_said zero i ks h l = absurd (omega arith)
flag_said (suc n) i [] h l = absurd (omega arith)
flag_said (suc n) zero (k ∷ ks) h l = refl
flag_said (suc n) (suc i) (k ∷ ks) h l = flag_said n i ks (omega arith) (omega arith)
