-- Serves the code: a handler that is called.
use Rattle.std.specs.Prelude.{ℕ, List, ◌∷◌, true}
use Rattle.vba_values.specs.declared.object.ObjId.{ObjId}
use Rattle.vba_values.specs.declared.object.ObjRef.TheVariants.{Heap}
use Rattle.vba_values.specs.Val.{object}
use Rattle.vba_events.specs.declared.linked.Linked.{Linked}
use Rattle.vba_meaning.specs.Memory.{Slot, error_here}
use Rattle.vba_meaning.specs.Meaning.{State, with_memory}
use Rattle.vba_meaning.specs.Events.{lent_again}
use Rattle.pcode.specs.Instructions.{Code}
use Rattle.pcode.specs.Machine.{Back, Delivering, Move, enter_by, raised}

abbrev pub handles : Code → (event : ℕ) → List Slot → (sink : ObjId) → List Linked → (procedure : ℕ) → ℕ → List Slot → List Back → State → Move
handles code e xs o ls p pc st bs s =
    let s1 : State = with_memory s (lent_again xs s.memory) in
    enter_by code true p (object (Heap o)) xs (Delivering e xs ls pc st ∷ bs) s1 (raised (error_here 28 s1.memory) bs s1)
