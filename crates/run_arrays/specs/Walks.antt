-- Serves the code: what a For Each walks, by what its block keeps.
use Rattle.std.specs.Prelude.{ℕ, ◌+◌, ◌*◌, ◌/◌, ◌%◌, nat_lt, if◌then◌else◌, List, Bool, true, Option, Some, None}
use Rattle.vba_values.specs.Val.{Val}
use Rattle.bound_project.specs.Expressions.{Variable}
use Rattle.vba_meaning.specs.Memory.{Kept, walk, Memory, top, with_top, found, put}
use Rattle.vba_meaning.specs.Effects.{Effect, Fine, on_fine, area_in, range_value}
use Rattle.vba_meaning.specs.Arrays.{item_of, item_stored}

-- whether the loop counts as begun, and the number of its next item
abbrev pub walk_of : Option Kept → Option (Bool × ℕ)
walk_of (Some (walk begun v k)) = Some (begun, k)
walk_of _ = None

-- a cell of an area, counted by rows from 0, where there is one
abbrev pub cell_at : (sheet top left rows columns k : ℕ) → Option Val
cell_at s t l r c k = if nat_lt k (r * c) then Some (range_value (area_in s (t + k / c) (l + k % c) 1 1)) else None

-- its next item
abbrev pub item_walked : Option Kept → Memory → Option Val
item_walked (Some (walk begun v k)) m = item_of v k m
item_walked _ m = None

-- the same walk with another next item
abbrev pub rewalked : (begun : Bool) → (next : ℕ) → Kept → Kept
rewalked begun k (walk b v j) = walk begun v k
rewalked begun k kept = kept

-- what blocks keep, with another next item of the walk of a header
abbrev pub walks_set : ℕ → (begun : Bool) → (next : ℕ) → Option Kept → List (ℕ × Kept) → List (ℕ × Kept)
walks_set i begun k (Some (walk b v j)) es = put i (walk begun v k) es
walks_set i begun k _ es = es

-- the same of the frame that runs
abbrev pub walk_set : ℕ → (begun : Bool) → (next : ℕ) → Option Kept → Memory → Memory
walk_set i begun k kept m = with_top m (record (top m) { keeps = walks_set i begun k kept (top m).keeps })

-- an item is walked, with the number of the next one, and then a control variable takes it
abbrev pub item_taken : Variable → ℕ → (next : ℕ) → Val → Memory → Effect Bool
item_taken x i k w m = on_fine (item_stored x w (walk_set i true k (found (top m).keeps i) m)) (λ u m1. Fine true m1)
