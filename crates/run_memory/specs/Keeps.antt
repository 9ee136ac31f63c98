-- Serves the code: what blocks keep, by the numbers of their headers.
use Rattle.std.specs.Prelude.{ℕ, zero, suc, nat_lt, nat_eq, ◌==◌, Bool, false, not, filter, List, [], ◌∷◌, if◌then◌else◌}
use Rattle.vba_meaning.specs.Memory.{Frame, Kept, put}
use Rattle.run_memory.specs.declared.frame.Kept.{Kept as KeptImage}

-- how many entries stand before a number
abbrev pub place_in : ℕ → List (ℕ × KeptImage) → ℕ
place_in i [] = zero
place_in i (e ∷ es) = if nat_lt e.0 i then suc (place_in i es) else zero

abbrev pub frame_keeping : ℕ → Kept → Frame → Frame
frame_keeping i k f = record f { keeps = put i k f.keeps }

-- whether there is an entry of a number where its place is
abbrev pub is_kept : ℕ → List (ℕ × KeptImage) → Bool
is_kept i [] = false
is_kept i (e ∷ es) = if nat_lt e.0 i then is_kept i es else e.0 == i

-- the entries of other numbers
abbrev pub others : {A : Type 0} → ℕ → List (ℕ × A) → List (ℕ × A)
others i es = filter (λ e. not (nat_eq e.0 i)) es
