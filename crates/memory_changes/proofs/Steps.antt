-- Each step leads on by a row of changes, and so does a run.
use Rattle.std.proofs.Common.{◌≡◌, ℕ, zero, suc, ◌+◌, Bool, true, false, List, [], ◌∷◌, ◌++◌, Option, Some, None, refl, subst}
use Rattle.std.specs.Prelude.{nat_lt, slice_get, if◌then◌else◌}
use Rattle.vba_values.specs.Val.{Val, empty, object}
use Rattle.vba_values.specs.declared.object.ObjRef.TheVariants.{Heap}
use Rattle.error_frames.specs.declared.frame.Taken.{Taken}
use Rattle.error_frames.specs.declared.frame.Taken.TheVariants as taken
use Rattle.error_frames.specs.Decision.{after_take}
use Rattle.sheet_host.specs.Books.{Sheets}
use Rattle.bound_project.specs.Project.{Declarations, Project, class_at, first_values}
use Rattle.vba_meaning.specs.Memory.{Error, Ending, Ended, Faulted, Going, Slot, value, Memory, Object, top, frame_left, result, error_here, object_at, opening}
use Rattle.vba_meaning.specs.Memory as memory
use Rattle.vba_meaning.specs.References.{objects_in_values, hold, next_waiting, taken_off}
use Rattle.vba_meaning.specs.Effects.{Event, Raised, Term, unlent, at_number, taken_by, with_taken}
use Rattle.vba_meaning.specs.Meaning.{State, meaning, with_memory, turned, left}
use Rattle.pcode.specs.Instructions.{Code, entry_of}
use Rattle.pcode.specs.Machine.{After, Goes-on, Decide, Return, Back-to, Pass, Close, Mode, At, Failing, Letting, Back, Caller, EndOf, Within, Delivering, Config, Fin, Done, Unfinished, Stuck, Move, Goes, Ends, Sticks, Tells, Turns, Choices, looking, letting, failing, finished_by, terminates_by, ends_by, lets_one_by, closing, returned_by, passed_on, next_by, takes, comes_by, go_on_by, step, tells, follow, machine, first_move}
use Rattle.pcode.specs.Layout.{code_of}
use Rattle.simulation.proofs.Whole.{ends}
use Rattle.memory_changes.specs.Changes.{Row, has_told, goes as goes_away, leaves, lends_none}
use Rattle.memory_changes.specs.Reached.{RowsTo, StepRows, RunRow, MeantRow}
use Rattle.memory_changes.proofs.Rows.{row_then, one, away}
use Rattle.memory_changes.proofs.Stores.{beside, hold_row}
use Rattle.memory_changes.proofs.Values.{errors_row}
use Rattle.memory_changes.proofs.Arrays.{waits_row}
use Rattle.memory_changes.proofs.Uses.{tasks_rows}
use Rattle.memory_changes.proofs.Moves.{To, from, goes_in, ends_in, turning, told, either, lets_to, lets_all_to, on, enters_to, enter_by_to, delivers_to, use_to, act_to}

module _ (code : Code) (by : Choices) where
  abbrev d : Declarations
  d = code.declared

  -- ---- letting go

  finished_to : (o k : ℕ) (after : After) (bs : List Back) (s : State) → To d s.memory (finished_by by o k after bs s)
  finished_to o k after bs s =
      either d (by.is_last s.memory o)
      (from d (row_then d (one d (goes_away o)) (waits_row d (objects_in_values (object_at s.memory o).fields) _)) (goes_in d (letting _ after bs _)))
      (goes_in d (letting k after bs s))

  terminates_to : (t : Option ℕ) (o k : ℕ) (after : After) (bs : List Back) (s : State) → To d s.memory (terminates_by by code t o k after bs s)
  terminates_to None o k after bs s = finished_to o k after bs s
  terminates_to (Some q) o k after bs s =
      let e : Error = error_here 28 s.memory in
      enter_by_to code false q (object (Heap (record { 0 = o }))) [] (EndOf o k after ∷ bs) s (turning d s (told d (Raised e.number ∷ []) (ends_in d (Faulted e) (turned s))))

  end_to : (b : Object) (o k : ℕ) (after : After) (bs : List Back) (s : State) → To d s.memory (ends_by by code b o k after bs s)
  end_to b o k after bs s = either d b.told (finished_to o k after bs s) (told d (Term b.class o ∷ []) (terminates_to (class_at d b.class).terminate o k after bs s))

  one_to : (o k : ℕ) (after : After) (bs : List Back) (s : State) → To d s.memory (lets_one_by by code o k after bs s)
  one_to o k after bs s =
      either d (by.is_last s.memory o) (turning d s (from d (one d (has_told o)) (end_to (object_at s.memory o) o k after bs _))) (goes_in d (letting k after bs s))

  -- ---- frames that are left

  closing_to : (vs : List Val) (g : ℕ) (s : State) → To d s.memory (closing vs g s)
  closing_to [] g s = ends_in d Ended s
  closing_to (v ∷ vs) g s = from d (away d (beside refl refl refl)) (goes_in d (letting _ (Close vs (g + 1)) [] _))

  returned_to : (bs : List Back) (v : Val) (s : State) → To d s.memory (returned_by by code bs v s)
  returned_to [] v s = closing_to (first_values d d.shared) 0 s
  returned_to (Caller ret st ∷ bs) v s = from d (hold_row d v s.memory) (on d ret (value v ∷ st) bs (with_memory s (hold v s.memory)))
  returned_to (EndOf o k after ∷ bs) v s = finished_to o k after bs s
  returned_to (Within t k ts pc st ∷ bs) v s =
      let s1 : State = with_memory s (hold v s.memory) in from d (hold_row d v s.memory) (use_to code t k pc st bs s1 (tasks_rows d ts v s1.memory))
  returned_to (Delivering e xs ls ret st ∷ bs) v s = from d (hold_row d v s.memory) (delivers_to code e xs ls ret st bs (with_memory s (hold v s.memory)))

  -- an error has left the frame
  passed_to : (bs : List Back) (e : Error) (s : State) → To d s.memory (passed_on bs e s)
  passed_to [] e s = ends_in d (Faulted e) s
  passed_to (Caller ret st ∷ bs) e s = goes_in d (failing e bs s)
  passed_to (EndOf o k after ∷ bs) e s = ends_in d (Faulted e) s
  passed_to (Within b k ts pc st ∷ bs) e s = goes_in d (failing e bs s)
  passed_to (Delivering event xs ls ret st ∷ bs) e s = goes_in d (failing e bs s)

  -- the frame takes the error, or is left
  taken_row : (e : Error) (t : Taken) (m : Memory) → Row d m (with_taken e t m)
  taken_row e t m = errors_row d e (after_take (top m).errors (at_number (memory.number_or (top m).statement)) t) m

  takes_to : (e : Error) (t : Taken) (bs : List Back) (s : State) → To d s.memory (takes code e t bs s)
  takes_to e (taken.Next to) bs s =
      from d (taken_row e (taken.Next to) s.memory) (on d (entry_of code (top s.memory).procedure to.0) [] bs (with_memory s (with_taken e (taken.Next to) s.memory)))
  takes_to e (taken.Handler to) bs s =
      from d (taken_row e (taken.Handler to) s.memory) (on d (entry_of code (top s.memory).procedure to.0) [] bs (with_memory s (with_taken e (taken.Handler to) s.memory)))
  takes_to e taken.PassOn bs s = lets_all_to d (Pass e) bs s

  left_row : (m : Memory) → Row d m (left m)
  left_row m = row_then d (one d leaves) (hold_row d (result m) (frame_left m))

  comes_to : (after : After) (bs : List Back) (s : State) → To d s.memory (comes_by by code after bs s)
  comes_to (Goes-on pc) bs s = on d pc [] bs s
  comes_to (Decide e) bs s = takes_to e (taken_by (next_by code s.memory) s.memory) bs s
  comes_to (Back-to pc st) bs s = on d pc st bs s
  comes_to Return bs s = from d (one d leaves) (returned_to bs (result s.memory) (with_memory s (frame_left s.memory)))
  comes_to (Pass e) bs s = from d (left_row s.memory) (passed_to bs e (with_memory s (left s.memory)))
  comes_to (Close vs g) bs s = closing_to vs g s

  mode_to : (mode : Mode) (st : List Slot) (bs : List Back) (s : State) → To d s.memory (go_on_by by code mode st bs s)
  mode_to (At pc) st bs s = act_to code by (slice_get code.instrs pc) pc st bs s
  mode_to (Failing e) st bs s = from d (one d lends_none) (lets_to d (Decide e) bs (with_memory s (unlent s.memory)))
  mode_to (Letting zero after) st bs s = comes_to after bs s
  mode_to (Letting (suc k) after) st bs s = from d (away d (beside refl refl refl)) (one_to (next_waiting s.memory.waiting) k after bs (with_memory s (taken_off s.memory)))

  pub step_rows : (c : Config) → StepRows code by c
  step_rows c = (mode_to c.mode c.stack c.backs c.state).law

-- ---- runs

module _ (code : Code) (bound : ℕ) where
  -- where a run that began with a memory has ended
  abbrev EndRow : Memory → Fin → Type 0
  EndRow m fin = (e : Ending) (s : State) (es : List Event) → fin ≡ Done e s es → Row code.declared m s.memory

  end_in : {m : Memory} (e : Ending) (s : State) → Row code.declared m s.memory → (es : List Event) → EndRow m (Done e s es)
  end_in {m = m} e s r es e1 s1 es1 is = subst (λ fin. AtEnd fin) is r where
    AtEnd : Fin → Type 0
    AtEnd (Done e2 s2 hs) = Row code.declared m s2.memory
    AtEnd Unfinished = Unit {0}
    AtEnd Stuck = Unit {0}

  tells_row : {m : Memory} (es : List Event) (fin : Fin) → EndRow m fin → EndRow m (tells es fin)
  tells_row es (Done e s hs) h = end_in e s (h e s hs refl) (es ++ hs)
  tells_row es Unfinished h = λ e1 s1 es1 is. absurd cc
  tells_row es Stuck h = λ e1 s1 es1 is. absurd cc

  if_turn : {m : Memory} {x y : Fin} (b : Bool) → EndRow m x → EndRow m y → EndRow m (if b then x else y)
  if_turn true h k = h
  if_turn false h k = k

  behind_row : {m m1 : Memory} (fin : Fin) → Row code.declared m m1 → EndRow m1 fin → EndRow m fin
  behind_row fin r h e s es is = row_then code.declared r (h e s es is)

  follow_row : (k : ℕ) → ((c : Config) → EndRow c.state.memory (machine code bound k c)) → (m : Memory) (v : Move) → RowsTo code.declared m v → EndRow m (follow bound v (machine code bound k))
  follow_row k more m (Goes c) h = behind_row (machine code bound k c) h (more c)
  follow_row k more m (Ends e s) h = end_in e s h []
  follow_row k more m Sticks h = λ e1 s1 es1 is. absurd cc
  follow_row k more m (Tells es v) h = tells_row es (follow bound v (machine code bound k)) (follow_row k more m v h)
  follow_row k more m (Turns s v) h = if_turn (nat_lt s.begun bound) (follow_row k more m v h.1) (end_in Going s h.0 [])

  machine_row : (k : ℕ) (c : Config) → EndRow c.state.memory (machine code bound k c)
  machine_row zero c = λ e1 s1 es1 is. absurd cc
  machine_row (suc k) c = follow_row k (machine_row k) c.state.memory (step code c) (step_rows code looking c)

  pub run_row : (book : Sheets) (k : ℕ) → RunRow code book bound k
  run_row book k =
      let s : State = record { memory = opening code.declared book; begun = 0 } in
      follow_row k (machine_row k) (opening code.declared book) (first_move code book) (enters_to code false code.startup empty _ [] s).law

pub meant_row : (pr : Project) (book : Sheets) (turns : ℕ) → MeantRow pr book turns
meant_row pr book turns =
    let e = ends pr book turns in
    let run = meaning pr book turns in run_row (code_of pr) turns book e.0 run.ending run.state run.events e.1
