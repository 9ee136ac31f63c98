-- Counts of faults, and bytes that were taken.
use Rattle.std.specs.Prelude.{◌≡◌, ℕ, ◌+◌, ◌-◌, ◌^◌, ◌≤◌, min, List, ◌++◌, take, length, Bool, Option, Some, None, MatchBool}

-- one more, up to the greatest count that 64 bits hold
abbrev pub up : ℕ → ℕ
up n = min (n + 1) (2 ^ 64 - 1)

-- the count rose; a count that stands at the greatest number always counts as risen
abbrev pub Rose : ℕ → ℕ → Type 0
Rose before now = up before ≤ now

-- the count rose where the call failed so, and else it stands as before
abbrev pub RoseOnly : Bool → ℕ → ℕ → Type 0
RoseOnly failed before now = MatchBool failed (Rose before now) (now ≡ before)

-- the first bytes of a list
abbrev pub IsPrefix : List ℕ → List ℕ → Type 0
IsPrefix bytes whole = bytes ≡ take (length bytes) whole

-- where what was taken is told, these bytes were added to it
abbrev pub Adds : Option (List ℕ) → Option (List ℕ) → List ℕ → Type 0
Adds None new bytes = new ≡ None
Adds (Some old) new bytes = new ≡ Some (old ++ bytes)

-- where what was taken is told, a prefix of these bytes was added to it
pub record AddsPrefix (old new : Option (List ℕ)) (bytes : List ℕ) : Type 0 where
  pub count : ℕ
  pub added : Adds old new (take count bytes)
