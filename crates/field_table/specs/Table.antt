-- Serves the code: rows of fields: where each row begins among them.
use Rattle.std.specs.Prelude.{ℕ, ◌≤◌, List, [], ◌∷◌, length, slice_range}

-- where the first of these pieces begins, or the end where there is none
abbrev pub next_start : List ℕ → ℕ → ℕ
next_start [] end = end
next_start (start ∷ starts) end = start

-- a list in pieces: each begins at one of these places and ends where the next one begins
abbrev pub pieces : {A : Type 0} → List A → List ℕ → List (List A)
pieces items [] = []
pieces items (start ∷ starts) = slice_range items start (next_start starts (length items)) ∷ pieces items starts

-- the places rise, and the end is behind them
abbrev pub RiseTo : ℕ → List ℕ → Type 0
RiseTo end [] = Unit {0}
RiseTo end (start ∷ starts) = (start ≤ next_start starts end) × RiseTo end starts
