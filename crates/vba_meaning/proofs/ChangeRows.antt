-- Worked rows of a sheet's event Change.
use Rattle.std.proofs.Common.{◌≡◌, false, pos, List, [], ◌∷◌, Some, None, refl}
use Rattle.std.specs.Prelude.{codes}
use Rattle.std.specs.Fmt.{digits}
use Rattle.caseless.proofs.Computing.{caseless}
use Rattle.vba_base.specs.Fold.{folded}
use Rattle.vba_values.specs.Types as type
use Rattle.vba_values.specs.Val.{empty, missing}
use Rattle.sheet_host.specs.declared.area.Area.{Area}
use Rattle.bound_project.specs.Expressions.{Variable, Expr, new_object, Lvalue, variable, object_field, no_args, by_copy, by_default}
use Rattle.bound_project.specs.Statements.{Action, set, raise, end_run}
use Rattle.bound_project.specs.Project.{Project, Procedure, Class, no_name}
use Rattle.vba_meaning.specs.Memory.{Ended, Memory}
use Rattle.vba_meaning.specs.Effects.{Raised, area_in}
use Rattle.vba_meaning.specs.Events.{noted}
use Rattle.vba_meaning.specs.Defaults.{gives, most_calls}
use Rattle.vba_meaning.specs.Meaning.{State, with_memory, callees, changes, goes_on, doing, Run, run_of, meaning}
use Rattle.vba_meaning.proofs.Programs.{e, n, v, show, declare, sub, flat, program, told, line, fault, of_type}
use Rattle.vba_meaning.proofs.HostRows.{book, sheet_called, address_of}
use Rattle.vba_meaning.proofs.ObjectRows.{nothing}

-- class H has a WithEvents variable ws As Worksheet, and handles Change(ByVal Target As Range) in procedure 1
abbrev handler_class : Class
handler_class = record {
  name = no_name;
  fields = declare type.worksheet ∷ [];
  initialize = None;
  terminate = None;
  members = [];
  default = None;
  enumerator = None;
  events = [];
  with_events = 0 ∷ [];
  handlers = record { field = 0; event = 0; procedure = 1 } ∷ [];
}

abbrev handles : Procedure
handles = record (sub []) { parameters = record { name = no_name; of = type.range; by_reference = false; default = None; many = false } ∷ [] }

abbrev heard : (main handle : List Action) → Project
heard main handle =
    let pr : Project = program [] ((sub (type.class 1 ∷ []), flat 0 main) ∷ (handles, flat 0 handle) ∷ []) in
    record pr { declared = record pr.declared { classes = handler_class ∷ [] } }

abbrev x : Variable
x = of_type 1 (type.class 1)

abbrev sheet_in_x : Lvalue
sheet_in_x = object_field (v x) 0 type.worksheet false

abbrev target : Expr
target = v (of_type 1 type.range)

-- Dim x As H ¶ Set x = New H ¶ Set x.ws = Worksheets("S")
abbrev listening : List Action → List Action
listening actions = set (variable x) (e (type.class 1) (new_object 1)) ∷ set sheet_in_x (sheet_called (codes "S")) ∷ actions

abbrev connected_by : (handle : List Action) → Project
connected_by handle = heard (listening (end_run ∷ [])) handle

-- the state at its End
abbrev state_of : Project → State
state_of pr = (meaning pr book 50).state

abbrev memory_of : Project → Memory
memory_of pr = (state_of pr).memory

-- ---- which areas are noted: A1:B1 of sheet 1, unless events are off or no variable has the sheet

abbrev area : Area
area = area_in 1 1 1 1 2

noted_is : (noted area (memory_of (connected_by []))).changed ≡ Some area
unfolding folded caseless
noted_is = refl

off_is : (noted area (record (memory_of (connected_by [])) { events_on = false })).changed ≡ None
unfolding folded caseless
off_is = refl

other_is : (noted (area_in 2 1 1 1 2) (memory_of (connected_by []))).changed ≡ None
unfolding folded caseless
other_is = refl

-- Set x.ws = Nothing
let_go_is : (noted area (memory_of (heard (listening (set sheet_in_x nothing ∷ end_run ∷ [])) []))).changed ≡ None
unfolding folded caseless
let_go_is = refl

-- ---- what is told of a noted area

abbrev told_of : Project → Run
told_of pr = let s : State = state_of pr in run_of 50 (changes (callees pr (doing pr 20)) pr (with_memory s (record s.memory { changed = Some area })))

abbrev tells_address : Project
tells_address = connected_by (show (address_of target) ∷ [])

once_is : told (told_of tells_address) ≡ (Ended, line (codes "$A$1:$B$1") ∷ [])
unfolding digits folded caseless
once_is = refl

done_is : (told_of tells_address).state.memory.changed ≡ None
unfolding digits folded caseless
done_is = refl

-- a use that wrote it tells it too, before it gives what it came to
told_by_use : told (let s : State = state_of tells_address in run_of 50 (goes_on most_calls (callees tells_address (doing tells_address 20)) tells_address (gives empty) (with_memory s (record s.memory { changed = Some area }))))
    ≡ (Ended, line (codes "$A$1:$B$1") ∷ [])
unfolding digits folded caseless
told_by_use = refl

-- an error that leaves the handler is that of the statement that wrote
failed_is : told (told_of (connected_by (raise (by_copy (n 7) type.long (by_default missing (by_default missing no_args))) ∷ []))) ≡ (fault 7 1 0, Raised (pos 7) ∷ [])
unfolding folded caseless
failed_is = refl
