-- Serves the code: instructions of late-bound members, with their operands taken off.
use Rattle.std.specs.Prelude.{ℕ, Bool, false, true, if◌then◌else◌, List, ◌∷◌}
use Rattle.vba_values.specs.Val.{Val}
use Rattle.bound_project.specs.Expressions.{ByName}
use Rattle.vba_meaning.specs.Paths.{Path}
use Rattle.vba_meaning.specs.Memory.{Slot, path}
use Rattle.vba_meaning.specs.Meaning.{State}
use Rattle.vba_meaning.specs.Effects.{lent}
use Rattle.vba_meaning.specs.Defaults.{is_instance}
use Rattle.vba_meaning.specs.LateBound.{Use, host_arguments, late_called, lends_place, place_copied}
use Rattle.pcode.specs.Instructions.{Code}
use Rattle.pcode.specs.Machine.{Back, Move, done_then, then_at, uses, uses_member}

-- the place of an argument, with the object that has the member
abbrev pub binds_path : Code → Use → (name : List ℕ) → ByName → List Bool → (argument : ℕ) → (base : Val) → Path → ℕ → List Slot → List Back → State → Move
binds_path code aim name by gs i base q pc st bs s =
    if lends_place code.declared aim name by gs i base q s.memory then done_then (lent q s.memory) bs s (then_at pc (path q ∷ st) bs)
    else uses code true (place_copied code.declared aim name by gs i base q s.memory) pc st bs s

-- a call with the arguments as parameters have them
abbrev pub calls_received : Code → (name : List ℕ) → ByName → List Bool → (base begun : Val) → List Slot → ℕ → List Slot → List Back → State → Move
calls_received code name by gs v w xs pc st bs s =
    if is_instance v s.memory then uses code false (late_called code.declared name by gs v w xs s.memory) pc st bs s
    else uses_member code name v w (host_arguments v name by xs) pc st bs s
