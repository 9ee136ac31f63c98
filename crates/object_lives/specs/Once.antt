-- How often a run tells that an object was made, and that it ends.
use Rattle.std.specs.Prelude.{ℕ, ◌+◌, ◌==◌, ◌≤◌, ◌&&◌, List, [], ◌∷◌, Bool, true, if◌then◌else◌}
use Rattle.vba_meaning.specs.Effects.{Event, Init, Term}

-- how many of these events tell that the object of this number was made, as one of a class that is asked for
abbrev pub times_made : (asked : ℕ → Bool) → (number : ℕ) → List Event → ℕ
times_made asked o [] = 0
times_made asked o (Init c n ∷ es) = (if n == o && asked c then 1 else 0) + times_made asked o es
times_made asked o (e ∷ es) = times_made asked o es

-- and how many that it ends
abbrev pub times_ended : (asked : ℕ → Bool) → (number : ℕ) → List Event → ℕ
times_ended asked o [] = 0
times_ended asked o (Term c n ∷ es) = (if n == o && asked c then 1 else 0) + times_ended asked o es
times_ended asked o (e ∷ es) = times_ended asked o es

abbrev pub any_class : ℕ → Bool
any_class c = true

-- an object of this number is told to be made at most once, and to end at most once; and no object of a class is told to
-- end that was not made as one of that class
pub record ToldOnce (number : ℕ) (es : List Event) : Type 0 where
  pub made_once : times_made any_class number es ≤ 1
  pub ended_once : times_ended any_class number es ≤ 1
  pub ended_as_made : (class : ℕ) → times_ended (λ c. c == class) number es ≤ times_made (λ c. c == class) number es
