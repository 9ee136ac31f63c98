-- What it is that stored counts are right.
use Rattle.std.specs.Prelude.{◌≡◌, ℕ, ◌<◌, nat_lt, true, false, List, [], ◌∷◌}
use Rattle.sheet_host.specs.Books.{Sheets}
use Rattle.vba_meaning.specs.Memory.{Frame, Kept, Memory}
use Rattle.vba_meaning.specs.References.{looks}
use Rattle.pcode.specs.Instructions.{Code}
use Rattle.pcode.specs.Machine.{Config, Fin, Done, Unfinished, Stuck, Move, Goes, Ends, Sticks, Tells, Turns, step_by, step, run_code}
use Rattle.object_counts.specs.Counts.{count_of}
use Rattle.object_counts.specs.Counting.{Outcome, Running, Finished, Jammed, by_counts, lowered, counted_after, run_counted}

-- the headers of all these blocks stand behind one
abbrev pub AllAbove : ℕ → List (ℕ × Kept) → Type 0
AllAbove i [] = Unit {0}
AllAbove i (e ∷ es) = (i < e.0) × AllAbove i es

-- what blocks keep stands in the order of their headers
abbrev pub InOrder : List (ℕ × Kept) → Type 0
InOrder [] = Unit {0}
InOrder (e ∷ es) = AllAbove e.0 es × InOrder es

-- it does so in each frame
abbrev pub FramesInOrder : List Frame → Type 0
FramesInOrder [] = Unit {0}
FramesInOrder (f ∷ fs) = InOrder f.keeps × FramesInOrder fs

-- each stored count is what looking over the whole memory finds
pub record Balanced (counts : List ℕ) (m : Memory) : Type 0 where
  pub in_order : FramesInOrder m.frames
  pub right : (o : ℕ) → count_of counts o ≡ looks m o

-- ---- a step

-- in each memory to which a move leads, with a bound on turns
abbrev pub Leads : (bound : ℕ) → (Memory → Type 0) → Move → Type 0
Leads bound P (Goes c) = P c.state.memory
Leads bound P (Ends e s) = P s.memory
Leads bound P Sticks = Unit {0}
Leads bound P (Tells es v) = Leads bound P v
Leads bound P (Turns s v) = (nat_lt s.begun bound ≡ false → P s.memory) × (nat_lt s.begun bound ≡ true → Leads bound P v)

-- the step that asks the stored counts is the step that looks, and the counts are right again behind it
pub record StepCounts (code : Code) (bound : ℕ) (counts : List ℕ) (c : Config) : Type 0 where
  pub same : step_by (by_counts (lowered counts c)) code c ≡ step code c
  pub balanced : Leads bound (Balanced (counted_after code bound counts c)) (step code c)

-- ---- a run

-- at each step and at every ending
abbrev pub BalancedAt : Outcome → Type 0
BalancedAt (Running counts c) = Balanced counts c.state.memory
BalancedAt (Finished counts e s es) = Balanced counts s.memory
BalancedAt Jammed = Unit {0}

-- the outcome without its counts
abbrev pub fin_of : Outcome → Fin
fin_of (Running counts c) = Unfinished
fin_of (Finished counts e s es) = Done e s es
fin_of Jammed = Stuck

-- the run that counts is the run that looks, and its counts are right wherever it is
pub record RunCounts (code : Code) (book : Sheets) (bound steps : ℕ) : Type 0 where
  pub same : fin_of (run_counted code book bound steps) ≡ run_code code book bound steps
  pub balanced : BalancedAt (run_counted code book bound steps)
