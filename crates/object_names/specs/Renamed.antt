-- What it is that two memories, two places of the machine and two moves are the same but for the names of the objects.
use Rattle.std.specs.Prelude.{◌≡◌, ℕ, ◌+◌, ◌<◌, ◌==◌, ◌&&◌, Bool, false, List, [], ◌∷◌, length, Option, Some, None, if◌then◌else◌, option_map, slice_index_or}
use Rattle.vba_meaning.specs.Memory.{Object, object_or, Memory}
use Rattle.vba_meaning.specs.Meaning.{State}
use Rattle.pcode.specs.Machine.{Config, Move, Goes, Ends, Sticks, Tells, Turns}
use Rattle.object_names.specs.Names.{slots_named, object_named, mode_named, backs_named, events_named, under}

-- each name is of one object, and there no other objects than those that have one; the objects that are made next get the
-- next numbers on both sides. The number 0 is of no object
pub record Matches (r : ℕ → ℕ) (objects others : List (Option Object)) : Type 0 where
  pub once : (o n : ℕ) → r o ≡ r n → o ≡ n
  pub first : r 0 ≡ 0
  pub same : (o : ℕ) → slice_index_or others (r o) None ≡ option_map (λ b. object_named r b) (slice_index_or objects o None)
  pub onto : (n : ℕ) (b : Object) → slice_index_or others n None ≡ Some b → (o : ℕ) × (r o ≡ n)
  pub inside : (o : ℕ) → o < length objects → r o < length others
  pub next : (j : ℕ) → r (length objects + j) ≡ length others + j

-- ---- the numbers of Sets

abbrev pub at_number : List (Option Object) → ℕ → Option Object
at_number bs o = slice_index_or bs o None

abbrev pub is_number : ℕ → Option ℕ → Bool
is_number n None = false
is_number n (Some k) = k == n

-- how often a field stands with this number
abbrev pub times_set : List (ℕ × Option ℕ) → (field number : ℕ) → ℕ
times_set [] i n = 0
times_set (e ∷ es) i n = (if e.0 == i && is_number n e.1 then 1 else 0) + times_set es i n

abbrev pub numbers_of : List (Option Object) → ℕ → List (ℕ × Option ℕ)
numbers_of bs o = (object_or (at_number bs o)).set_numbers

abbrev pub HasNumber : List (Option Object) → (object field number : ℕ) → Type 0
HasNumber bs o i n = 0 < times_set (numbers_of bs o) i n

-- each number is of one variable, and below the next one
pub record Keyed (bs : List (Option Object)) (next : ℕ) : Type 0 where
  pub below : (o i n : ℕ) → HasNumber bs o i n → n < next
  pub once : (o p i j n : ℕ) → HasNumber bs o i n → HasNumber bs p j n → (o ≡ p) × (i ≡ j)

-- ---- two memories

-- the objects of a memory under other names, and its numbers of Sets
pub record Suits (r : ℕ → ℕ) (bs : List (Option Object)) (next : ℕ) (cs : List (Option Object)) : Type 0 where
  pub matches : Matches r bs cs
  pub keyed : Keyed bs next

abbrev pub Fit : (ℕ → ℕ) → Memory → List (Option Object) → Type 0
Fit r m cs = Suits r m.objects m.next_set cs

pub record Same (r : ℕ → ℕ) (m m' : Memory) : Type 0 where
  pub objects : List (Option Object)
  pub is : m' ≡ under r m objects
  pub fit : Fit r m objects

-- ---- two places of the machine, and two moves

pub record SameState (r : ℕ → ℕ) (s t : State) : Type 0 where
  pub memory : Same r s.memory t.memory
  pub begun : t.begun ≡ s.begun

pub record SameConfig (r : ℕ → ℕ) (c e : Config) : Type 0 where
  pub mode : e.mode ≡ mode_named r c.mode
  pub stack : e.stack ≡ slots_named r c.stack
  pub backs : e.backs ≡ backs_named r c.backs
  pub state : SameState r c.state e.state

-- both go to what is the same but for the names, end alike, or stick; and what they tell is the same but for the names
abbrev pub SameMove : (ℕ → ℕ) → Move → Move → Type 0
SameMove r (Goes c) (Goes e) = SameConfig r c e
SameMove r (Ends x s) (Ends y t) = (y ≡ x) × SameState r s t
SameMove r Sticks Sticks = Unit {0}
SameMove r (Tells es a) (Tells hs b) = (hs ≡ events_named r es) × SameMove r a b
SameMove r (Turns s a) (Turns t b) = SameState r s t × SameMove r a b
SameMove r a b = ⊥
