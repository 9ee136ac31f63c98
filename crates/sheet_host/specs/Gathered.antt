-- Serves the code: lists made place by place.
use Rattle.std.specs.Prelude.{ℕ, zero, suc, List, [], ◌∷◌, ◌++◌, Result, Ok}
use Rattle.vba_base.specs.Answer.{◌>>=◌}

-- what stands at the first places, counted from 0
abbrev pub firsts : {A : Type 0} → (ℕ → A) → ℕ → List A
firsts at zero = []
firsts at (suc n) = firsts at n ++ at n ∷ []

-- the same, where each place has something; else the first fault
abbrev pub gathered : {A E : Type 0} → (ℕ → Result A E) → ℕ → Result (List A) E
gathered at zero = Ok []
gathered at (suc n) = gathered at n >>= λ before. at n >>= λ last. Ok (before ++ last ∷ [])
