-- Serves the code: what is taken off the operands.
use Rattle.std.specs.Prelude.{◌≡◌, ℕ, List, [], Option, Some, None, Vec, map}
use Rattle.std.specs.declared.alloc.Global.{Global}
use Rattle.vba_values.specs.declared.value.Value.{Value}
use Rattle.vba_values.specs.View.{view}
use Rattle.vba_values.specs.Val.{Val}
use Rattle.vba_meaning.specs.Paths as paths
use Rattle.vba_meaning.specs.Memory as plain
use Rattle.run_memory.specs.declared.path.Path.{Path}
use Rattle.run_memory.specs.declared.frame.Slot.{Slot}
use Rattle.run_memory.specs.View.{path_view, slot_view}
use Rattle.pcode.specs.Machine.{Move, Sticks, pops, pops_path, take_args}

-- the value on top, and the operands below it; or there is none
abbrev pub PopsValue : List plain.Slot → Option Value → List plain.Slot → Type 0
PopsValue old None new = (go : Val → List plain.Slot → Move) → pops old go ≡ Sticks
PopsValue old (Some v) new = (go : Val → List plain.Slot → Move) → pops old go ≡ go (view v) new

-- the path on top
abbrev pub PopsPath : List plain.Slot → Option Path → List plain.Slot → Type 0
PopsPath old None new = (go : paths.Path → List plain.Slot → Move) → pops_path old go ≡ Sticks
PopsPath old (Some p) new = (go : paths.Path → List plain.Slot → Move) → pops_path old go ≡ go (path_view p) new

-- so many operands, the last one on top last
abbrev pub Takes : ℕ → List plain.Slot → Option (Vec Slot Global) → List plain.Slot → Type 0
Takes k old None new = (go : List plain.Slot → List plain.Slot → Move) → take_args k old [] go ≡ Sticks
Takes k old (Some v) new = (go : List plain.Slot → List plain.Slot → Move) → take_args k old [] go ≡ go (map slot_view v.items) new
