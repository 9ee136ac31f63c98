-- Serves the code: WithEvents variables that are set, by whether they get Nothing.
use Rattle.std.specs.Prelude.{ℕ, zero, suc, ◌==◌, ◌+◌, ◌-◌, ◌^◌, nat_lt, List, [], ◌∷◌, Bool, true, false, if◌then◌else◌, Option, Some, None}
use Rattle.vba_values.specs.declared.object.ObjRef.TheVariants.{Nothing}
use Rattle.vba_values.specs.declared.fault.OutKind.TheVariants as limit
use Rattle.vba_values.specs.Val.{Val, object}
use Rattle.vba_meaning.specs.Paths.{Root, in_fields}
use Rattle.vba_meaning.specs.Memory.{Memory, Object, object_or, object_at, outside}
use Rattle.vba_meaning.specs.Effects.{Effect, Out, done, is_with_events, renumbered, with_set_number}

abbrev pub is_nothing : Val → Bool
is_nothing (object Nothing) = true
is_nothing v = false

-- a Set draws the next number, one to Nothing leaves the variable without one
abbrev pub number_drawn : (number field : ℕ) → (nothing : Bool) → Memory → Effect (Unit {0})
number_drawn o i true m = done (with_set_number o i None m)
number_drawn o i false m =
    if nat_lt m.next_set (2 ^ 64 - 1) then done (record (with_set_number o i (Some m.next_set) m) { next_set = m.next_set + 1 })
    else Out (outside limit.Links) m

-- what stands at a root was set
abbrev pub connects : Root → (nothing : Bool) → Memory → Effect (Unit {0})
connects (in_fields o i) nothing m = if is_with_events i (object_at m o).set_numbers then number_drawn o i nothing m else done m
connects root nothing m = done m

-- an entry has another number, where it is that of the variable
abbrev pub entry_renumbered : (field : ℕ) → Option ℕ → ℕ × Option ℕ → ℕ × Option ℕ
entry_renumbered i n e = (e.0, if e.0 == i then n else e.1)

-- the entries from a place on
abbrev pub renumbered_from : (from field : ℕ) → Option ℕ → List (ℕ × Option ℕ) → List (ℕ × Option ℕ)
renumbered_from k i n [] = []
renumbered_from zero i n (e ∷ es) = entry_renumbered i n e ∷ renumbered_from zero i n es
renumbered_from (suc k) i n (e ∷ es) = e ∷ renumbered_from k i n es

-- an object, one of whose variables has another number
abbrev pub object_renumbered : (field : ℕ) → Option ℕ → Option Object → Object
object_renumbered i n b = record (object_or b) { set_numbers = renumbered i n (object_or b).set_numbers }
