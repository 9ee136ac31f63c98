-- The machine follows the project: expressions and statements.
use Rattle.std.proofs.Common.{◌≡◌, ℕ, zero, suc, ◌+◌, Bool, true, false, List, [], ◌∷◌, ◌++◌, length, map, Option, Some, None, refl, sym, ap, ◌∙◌, subst, arith}
use Rattle.std.specs.Prelude.{pos, slice_get, if◌then◌else◌}
use Rattle.vba_values.specs.declared.object.ObjRef.TheVariants.{Heap, Host}
use Rattle.vba_values.specs.declared.types.Compare.{Compare}
use Rattle.vba_values.specs.declared.types.Compare.TheVariants.{Binary}
use Rattle.vba_lib.specs.declared.function.LibraryFunction.TheVariants as function
use Rattle.vba_values.specs.Types.{Declared}
use Rattle.vba_values.specs.Val.{Val, boolean, empty, missing, object}
use Rattle.error_frames.specs.declared.frame.ResumeKind.TheVariants as kind
use Rattle.bound_project.specs.Expressions.{Expr, expr, Node, not_given, constant, load, load_made, element_value, field_value, unary, binary, call, err_value, default_of, default_if_any, enumerated, same, is_type, library, bound_of, host_object, active_sheet, ByName, host_member, named_member, this, new_object, method, late_member, late_item, Lvalue, variable, item, element, field, kept_place, object_field, as_new, element_along, late_field, value_place, Args, no_args, by_place, by_copy, by_default, by_list, in_order, Given, none_given, place_given, expr_given, Exprs, no_exprs, also, given_count, Prints, no_prints, shown, zone, operand_type, marked}
use Rattle.bound_project.specs.Statements.{Resizes, no_resizes, resize, Arrays, no_arrays, an_array, Tests, no_tests, test_is, test_range, Action, assign, assign_item, set, assign_default, assign_member, set_member, assign_through, assign_element, set_element, assign_late, set_late, evaluate, let_property, set_property, let_method, set_method, raise_event, print, raise, test, go_to, for_to, next, for_each, next_each, exit_each, select, case_of, redim, erase, with_place, with_value, end_with, go_sub, return_sub, exit_to, on_error, end_handler, clear_err, resume_again, resume_next, resume_at, stop, end_run}
use Rattle.vba_events.specs.declared.linked.Linked.{Linked}
use Rattle.sheet_host.specs.declared.area.Area.{Area}
use Rattle.bound_project.specs.Project.{Declarations, Project, class_at, next_of}
use Rattle.vba_meaning.specs.Paths.{Path, field_path}
use Rattle.vba_meaning.specs.Memory.{Error, Ended, Slot, value, path, Memory, top, path_of, received, error_here}
use Rattle.vba_meaning.specs.Effects.{Effect, operated, operated_alone, fitted, plain, condition, read_path, lent, slot_values, packed, reordered, show_value, printed, loop_off, loop_on, next_round, keep, selected, fits, fits_between, gone_sub, returned_sub, policy_of, err_off, policy_on, handler_off, failed_statement, resumed, raised_by, err_of, set_object, stop_here}
use Rattle.vba_meaning.specs.Events.{source_of, sinks, due, lent_again, raise_over, change, sheet_of, target_of, no_change}
use Rattle.vba_meaning.specs.Arrays.{part_of, redimmed, erased, keep_path, block_over, dot_at, each_off, each_begun, each_next}
use Rattle.vba_meaning.specs.Objects.{compared, typed_as, set_at, made, own_object, object_there, field_in, made_for, initialize_of, stored_made, made_at}
use Rattle.vba_meaning.specs.Host.{first_sheet, item_by, place_at, assigned_at, member_there, member_called, is_counted, object_member, is_raise, error_given, item_assigned, member_not_set, written_default, member_assigned, path_to}
use Rattle.vba_meaning.specs.ByName.{named_there, in_parameter_order}
use Rattle.vba_meaning.specs.Library.{library_called, bound_at, plain_if_any}
use Rattle.vba_meaning.specs.Defaults.{Task, Next, gives, then_call, is_instance, counted_operand, counted_if_any, enumerator_of, index_along, has_array, element_by, item_along, write_along, tasks_next, most_passed, most_calls}
use Rattle.vba_meaning.specs.LateBound.{Use, reading, assigning, setting, which_given, public_variable, late_there, value_bound, lends_place, place_copied, late_called, host_arguments, let_element, element_set, late_let, late_set}
use Rattle.vba_meaning.specs.Meaning.{State, Res, Got, ◌>>=◌, with_memory, raise_error, perform, Callee, initialized, eval, eval_node, eval_place, evals, eval_list, eval_prints, tested, cases, resizes, erases, exec, handled, delivered, change_told, changes, member_used, goes_on, used, operand_value, operand_if_any, late_used, place_bound, place_along, eval_given}
use Rattle.pcode.specs.Instructions.{Instr, Push, LoadErr, PathOf, ReadThrough, ElementOf, ElementIn, FieldOf, Dot, Index, PartOf, Operate, OperateAlone, Plain, PlainIfAny, Enumerate, PushHost, FirstSheet, MemberThere, MemberOf, NamedThere, NamedOf, PushThis, New, ObjectThere, FieldIn, AsNew, MakeThere, StoreMade, FindLate, BindValue, BindPlace, CallLate, LetLate, SetLate, ItemAlong, WriteThrough, LetElement, SetElement, ElementAlong, LateField, PlaceOf, Same, IsType, Library, BoundAt, Fit, FitObject, Drop, Lend, Pack, Reorder, Lift, Call, CallOf, Store, SetAt, StoreDefault, StoreMember, StoreItem, SetMember, RaiseEvent, ShowText, Show, Throw, LoopOff, LoopOn, NextRound, EachOff, EachOn, NextItem, Keep, Selected, IfFits, IfBetween, Redim, EraseAt, KeepPath, DropKept, PutReturn, TakeReturn, SetPolicy, HandlerOff, ErrOff, Again, Behind, Resumes, Finish, Branch, Halt, StopHere, Code}
use Rattle.pcode.specs.Machine.{After, Back-to, Back, Delivering, Within, Move, Goes, at, letting, finishes, raised, done_then, then_at, then_let_go, then_test, then_jump, then_branch, pushed, enter_by, calls, initializes, then_statement, looking, act, comes_by, calls_handler, delivers, tells_change, then_changes, then_changes_push, uses_member, left_as, follows, resumes, uses, gives_way, gives_way_if_any, base_below, binds_place, places_along, calls_late}
use Rattle.pcode.specs.Code.{count, prints_count, expr_code, node_code, place_code, args_code, list_code, prints_code, resizes_code, erases_code, given_code, Entry, tests_code, action_code}
use Rattle.pcode.specs.Layout.{Laid}
use Rattle.pcode.proofs.Stands.{UpTo, up_split}
use Rattle.simulation.proofs.Moves.{Enough, Each, Runs, bind, bind_each, here, over, before, instr, either, failed, raises, performs, further}
use Rattle.simulation.proofs.Taken.{all_taken, counted_taken, one_more_taken, evals_count, list_counts, prints_counts, given_counts}

-- ---- calls and letting go, as what is known of a smaller depth

-- so many waiting references are let go
abbrev pub Lets : Code → (bound n : ℕ) → (ℕ → State → Res (Unit {0})) → Type 0
Lets code bound n go = (k j : ℕ) (after : After) (bs : List Back) (s : State) (bad : Error → State → Move) → Enough bound n s
    → Runs code bound n (Goes (letting (k + j) after bs s)) (λ u s1. Goes (letting j after bs s1)) bad (go k s)

-- all are let go, and what comes then
pub all_go : (code : Code) (bound n : ℕ) (go : ℕ → State → Res (Unit {0})) → Lets code bound n go → (k : ℕ) (after : After) (bs : List Back) (s : State) (bad : Error → State → Move) → Enough bound n s
    → Runs code bound n (Goes (letting k after bs s)) (λ u s1. comes_by looking code after bs s1) bad (go k s)
all_go code bound n go l k after bs s bad good =
    let e : k + 0 ≡ k = omega arith in
    further (go k s)
    (subst (λ i. Runs code bound n (Goes (letting i after bs s)) (λ u s1. Goes (letting 0 after bs s1)) bad (go k s)) e (l k 0 after bs s bad good))
    (λ u s1 g1. before (letting 0 after bs s1) (here {got = λ u s1. comes_by looking code after bs s1} u s1 g1))

-- a call does what the callee does, and letting go what it says
pub record Calls (code : Code) (bound n : ℕ) (callee : Callee) : Type 0 where
  pub call : (p : ℕ) (self : Val) (xs st : List Slot) (pc : ℕ) (bs : List Back) (s : State) → Enough bound n s
      → Runs code bound n (calls code p self xs pc st bs s) (λ v s1. Goes (at pc (value v ∷ st) bs s1)) (failed bs) (callee.call p self xs s)
  pub within : (p : ℕ) (self : Val) (xs : List Slot) (b : Bool) (k : ℕ) (ts : List Task) (st : List Slot) (pc : ℕ) (bs : List Back) (s : State) → Enough bound n s
      → Runs code bound n (enter_by code true p self xs (Within b k ts pc st ∷ bs) s (raised (error_here 28 s.memory) bs s)) (λ v s1. resumes code b k ts pc st bs v s1) (failed bs) (callee.call p self xs s)
  -- a handler is such a call, behind which the raise goes on
  pub handle : (e p : ℕ) (self : Val) (xs : List Slot) (ls : List Linked) (pc : ℕ) (st : List Slot) (bs : List Back) (s : State) → Enough bound n s
      → Runs code bound n (enter_by code true p self xs (Delivering e xs ls pc st ∷ bs) s (raised (error_here 28 s.memory) bs s)) (λ v s1. delivers code e xs ls pc st bs s1) (failed bs) (callee.call p self xs s)
  pub go : Lets code bound n callee.go

-- what the machine does after an expression, a place and arguments, by the address behind their code
abbrev pub on_value : List Slot → List Back → ℕ → Val → State → Move
on_value st bs pc v s = Goes (at pc (value v ∷ st) bs s)

abbrev pub on_path : List Slot → List Back → ℕ → Path → State → Move
on_path st bs pc q s = Goes (at pc (path q ∷ st) bs s)

abbrev pub on_left : Bool → List Slot → List Back → ℕ → Val → State → Move
on_left b st bs pc v s = Goes (at pc (left_as b v ∷ st) bs s)

abbrev pub on_args : List Slot → List Back → ℕ → List Slot → State → Move
on_args st bs pc xs s = Goes (at pc (pushed xs st) bs s)

-- ---- expressions

module _ (pr : Project) (code : Code) (bound n : ℕ) (callee : Callee) (known : Calls code bound n callee) (tables : code.declared ≡ pr.declared) where
  -- the code of a part, and then the rest
  first : {A B : Type 0} {got : B → State → Move} {bad : Error → State → Move} {f : A → State → Res B} (on : ℕ → A → State → Move) (r : Res A) (part rest : List Instr) (pc to : ℕ) (m : Move)
      → UpTo code.instrs pc (part ++ rest) to
      → ((mid : ℕ) → UpTo code.instrs pc part mid → Runs code bound n m (on mid) bad r)
      → ((v : A) (s : State) → Enough bound n s → (mid : ℕ) → UpTo code.instrs mid rest to → Runs code bound n (on mid v s) got bad (f v s))
      → Runs code bound n m got bad (r >>= f)
  first on r part rest pc to m has go k =
      let p = up_split code.instrs pc part rest to has in
      bind r (go p.0 p.1) (λ v s g. k v s g p.0 p.2)

  first_each : {A B : Type 0} {P : A → Type 0} {got : B → State → Move} {bad : Error → State → Move} {f : A → State → Res B} (on : ℕ → A → State → Move) (r : Res A) (part rest : List Instr) (pc to : ℕ) (m : Move)
      → UpTo code.instrs pc (part ++ rest) to → Each P r
      → ((mid : ℕ) → UpTo code.instrs pc part mid → Runs code bound n m (on mid) bad r)
      → ((v : A) (s : State) → P v → Enough bound n s → (mid : ℕ) → UpTo code.instrs mid rest to → Runs code bound n (on mid v s) got bad (f v s))
      → Runs code bound n m got bad (r >>= f)
  first_each on r part rest pc to m has each go k =
      let p = up_split code.instrs pc part rest to has in
      bind_each r each (go p.0 p.1) (λ v s h g. k v s h g p.0 p.2)

  -- the last instruction ends where the code ends
  ends_at : {A : Type 0} {m : Move} {bad : Error → State → Move} {r : Res A} (on : ℕ → A → State → Move) {pc to : ℕ} → pc ≡ to → Runs code bound n m (on pc) bad r → Runs code bound n m (on to) bad r
  ends_at {m = m} {bad = bad} {r = r} on h a = subst (λ i. Runs code bound n m (on i) bad r) h a

  -- the handlers of a raise are called
  handled_runs : (o : Option ℕ) (e : ℕ) (xs : List Slot) (l : Linked) (ls : List Linked) (pc : ℕ) (st : List Slot) (bs : List Back) (s : State) → Enough bound n s
      → Runs code bound n (calls_handler code e xs l ls o pc st bs s (delivers code e xs ls pc st bs s)) (λ u s1. delivers code e xs ls pc st bs s1) (failed bs) (handled callee xs l.sink o s)
  handled_runs None e xs l ls pc st bs s good = here {got = λ u s1. delivers code e xs ls pc st bs s1} tt s good
  handled_runs (Some p) e xs l ls pc st bs s good =
      let s1 : State = with_memory s (lent_again xs s.memory) in
      let self : Val = object (Heap l.sink) in
      bind (callee.call p self xs s1) (known.handle e p self xs ls pc st bs s1 good) (λ v s2 g2. here {got = λ u s3. delivers code e xs ls pc st bs s3} tt s2 g2)

  pub delivered_runs : (e : ℕ) (xs : List Slot) (ls : List Linked) (pc : ℕ) (st : List Slot) (bs : List Back) (s : State) → Enough bound n s
      → Runs code bound n (delivers code e xs ls pc st bs s) (then_at pc st bs) (failed bs) (delivered ls callee pr e xs s)
  delivered_runs e xs [] pc st bs s good = here {got = then_at pc st bs} tt (with_memory s (raise_over xs s.memory)) good
  delivered_runs e xs (l ∷ ls) pc st bs s good =
      subst (λ d. Runs code bound n (calls_handler code e xs l ls (due d e l s.memory) pc st bs s (delivers code e xs ls pc st bs s)) (then_at pc st bs) (failed bs) (delivered (l ∷ ls) callee pr e xs s)) (sym tables)
      (bind (handled callee xs l.sink (due pr.declared e l s.memory) s) (handled_runs (due pr.declared e l s.memory) e xs l ls pc st bs s good) (λ u s1 g1. delivered_runs e xs ls pc st bs s1 g1))

  -- where an area was written
  pub change_runs : (o : Option Area) (pc : ℕ) (st : List Slot) (bs : List Back) (s : State) → Enough bound n s
      → Runs code bound n (tells_change code o pc st bs s) (then_at pc st bs) (failed bs) (change_told o callee pr s)
  change_runs None pc st bs s good = here {got = then_at pc st bs} tt s good
  change_runs (Some a) pc st bs s good = delivered_runs change (target_of a) (sinks (sheet_of a) s.memory) pc st bs (with_memory s (no_change s.memory)) good

  -- a use of an object goes on
  goes_runs : (b : Bool) (k : ℕ) (x : Next) (pc : ℕ) (st : List Slot) (bs : List Back) (s : State) → Enough bound n s
      → Runs code bound n (follows code b k pc st bs x s) (on_left b st bs pc) (failed bs) (goes_on k callee pr x s)
  goes_runs b k (gives v) pc st bs s good =
      bind (changes callee pr s) (change_runs s.memory.changed pc (left_as b v ∷ st) bs s good) (λ u s1 g1. here {got = on_left b st bs pc} v s1 g1)
  goes_runs b zero (then_call p self xs ts) pc st bs s good = raises (error_here 450 s.memory) bs s good
  goes_runs b (suc k) (then_call p self xs ts) pc st bs s good =
      bind (callee.call p self xs s) (known.within p self xs b k ts st pc bs s good) (λ v s1 g1.
      subst (λ d. Runs code bound n (done_then (tasks_next d ts v s1.memory) bs s1 (follows code b k pc st bs)) (on_left b st bs pc) (failed bs)
      (perform (tasks_next pr.declared ts v) s1 >>= λ x s2. goes_on k callee pr x s2)) (sym tables)
      (bind (perform (tasks_next pr.declared ts v) s1) (performs {got = follows code b k pc st bs} (tasks_next pr.declared ts v) bs s1 g1) (λ x s2 g2. goes_runs b k x pc st bs s2 g2)))

  used_runs : (b : Bool) (f : Memory → Effect Next) (pc : ℕ) (st : List Slot) (bs : List Back) (s : State) → Enough bound n s
      → Runs code bound n (uses code b (f s.memory) pc st bs s) (on_left b st bs pc) (failed bs) (used callee pr f s)
  used_runs b f pc st bs s good =
      bind (perform f s) (performs {got = follows code b most_calls pc st bs} f bs s good) (λ x s1 g1. goes_runs b most_calls x pc st bs s1 g1)

  -- by what the project declares
  pub uses_run : (b : Bool) (f : Declarations → Memory → Effect Next) (pc : ℕ) (st : List Slot) (bs : List Back) (s : State) → Enough bound n s
      → Runs code bound n (uses code b (f code.declared s.memory) pc st bs s) (on_left b st bs pc) (failed bs) (used callee pr (f pr.declared) s)
  uses_run b f pc st bs s good =
      subst (λ d. Runs code bound n (uses code b (f d s.memory) pc st bs s) (on_left b st bs pc) (failed bs) (used callee pr (f pr.declared) s)) (sym tables) (used_runs b (f pr.declared) pc st bs s good)

  -- an operand
  pub operand_runs : (v : Val) (pc : ℕ) (st : List Slot) (bs : List Back) (s : State) → Enough bound n s
      → Runs code bound n (gives_way code v pc st bs s) (on_value st bs pc) (failed bs) (operand_value callee pr v s)
  operand_runs v pc st bs s good =
      either (is_counted v) (uses_run false (λ d m. counted_operand d v m) pc st bs s good) (performs {got = on_value st bs pc} (plain v) bs s good)

  if_any_runs : (v : Val) (pc : ℕ) (st : List Slot) (bs : List Back) (s : State) → Enough bound n s
      → Runs code bound n (gives_way_if_any code v pc st bs s) (on_value st bs pc) (failed bs) (operand_if_any callee pr v s)
  if_any_runs v pc st bs s good =
      either (is_counted v) (uses_run false (λ d m. counted_if_any d v m) pc st bs s good) (performs {got = on_value st bs pc} (plain_if_any v) bs s good)

  -- a place is lent, or what is there is copied
  bound_runs : (aim : Use) (name : List ℕ) (by : ByName) (gs : List Bool) (i : ℕ) (q : Path) (pc : ℕ) (st : List Slot) (bs : List Back) (s : State) → Enough bound n s
      → Runs code bound n (binds_place code aim name by gs i q pc st bs s) (on_path st bs pc) (failed bs) (place_bound callee pr aim name by gs i (base_below i st) q s)
  bound_runs aim name by gs i q pc st bs s good =
      subst (λ d. Runs code bound n
      (if lends_place d aim name by gs i (base_below i st) q s.memory then done_then (lent q s.memory) bs s (then_at pc (path q ∷ st) bs) else uses code true (place_copied d aim name by gs i (base_below i st) q s.memory) pc st bs s)
      (on_path st bs pc) (failed bs) (place_bound callee pr aim name by gs i (base_below i st) q s)) (sym tables)
      (either (lends_place pr.declared aim name by gs i (base_below i st) q s.memory)
      (bind (perform (lent q) s) (performs {got = then_at pc (path q ∷ st) bs} (lent q) bs s good) (λ u s1 g1. here {got = on_path st bs pc} q s1 g1))
      (bind (used callee pr (place_copied pr.declared aim name by gs i (base_below i st) q) s) (used_runs true (place_copied pr.declared aim name by gs i (base_below i st) q) pc st bs s good) (λ v s1 g1.
      here {got = on_path st bs pc} (path_to v) s1 g1)))

  -- what arguments lead to from a place
  along_runs : (q : Path) (vs : List Val) (pc : ℕ) (st : List Slot) (bs : List Back) (s : State) → Enough bound n s
      → Runs code bound n (places_along code q vs pc st bs s) (on_path st bs pc) (failed bs) (place_along callee pr q vs s)
  along_runs q vs pc st bs s good =
      either (has_array q s.memory) (performs {got = on_path st bs pc} (element_by q vs) bs s good)
      (bind (used callee pr (item_along pr.declared q vs) s) (uses_run true (λ d m. item_along d q vs m) pc st bs s good) (λ v s1 g1. here {got = on_path st bs pc} (path_to v) s1 g1))

  -- a member is used, Err raises an error, or an item leaves a Collection
  member_runs : (name : List ℕ) (v w : Val) (vs : List Val) (pc : ℕ) (st : List Slot) (bs : List Back) (s : State) → Enough bound n s
      → Runs code bound n (uses_member code name v w vs pc st bs s) (on_value st bs pc) (failed bs) (member_used callee pr name v w vs s)
  member_runs name v w vs pc st bs s good =
      either (is_raise name v)
      (bind (perform (error_given vs) s) (performs {got = λ e s1. raised e bs s1} (error_given vs) bs s good) (λ e s1 g1. raises e bs s1 g1))
      (either (is_counted v)
      (bind (perform (object_member name vs v) s) (performs {got = λ r s1. then_let_go pc (value r.0 ∷ st) bs r.1 s1} (object_member name vs v) bs s good) (λ r s1 g1.
      bind (callee.go r.1 s1) (all_go code bound n callee.go known.go r.1 (Back-to pc (value r.0 ∷ st)) bs s1 (failed bs) g1) (λ u s2 g2. here {got = on_value st bs pc} r.0 s2 g2)))
      (subst (λ d. Runs code bound n (done_then (member_called d name vs v w s.memory) bs s (then_changes_push code pc st bs)) (on_value st bs pc) (failed bs)
      (perform (member_called pr.declared name vs v w) s >>= λ x s1. changes callee pr s1 >>= λ u s2. Got x s2)) (sym tables)
      (bind (perform (member_called pr.declared name vs v w) s) (performs {got = then_changes_push code pc st bs} (member_called pr.declared name vs v w) bs s good) (λ x s1 g1.
      bind (changes callee pr s1) (change_runs s1.memory.changed pc (value x ∷ st) bs s1 g1) (λ u s2 g2. here {got = on_value st bs pc} x s2 g2)))))

  late_runs : (name : List ℕ) (by : ByName) (gs : List Bool) (v w : Val) (xs : List Slot) (pc : ℕ) (st : List Slot) (bs : List Back) (s : State) → Enough bound n s
      → Runs code bound n (calls_late code name by gs v w xs pc st bs s) (on_value st bs pc) (failed bs) (late_used callee pr name by gs v w xs s)
  late_runs name by gs v w xs pc st bs s good =
      either (is_instance v s.memory) (uses_run false (λ d m. late_called d name by gs v w (map received xs) m) pc st bs s good)
      (member_runs name v w (host_arguments v name by (map received xs)) pc st bs s good)

  -- a new object's Class_Initialize runs, and what it gives is dropped
  initial_runs : (o : Option ℕ) (v : Val) (pc to : ℕ) (st : List Slot) (bs : List Back) (s : State) → UpTo code.instrs pc (Drop ∷ []) to → Enough bound n s
      → Runs code bound n (initializes code o v pc st bs s) (on_value st bs to) (failed bs) (initialized callee o v s)
  initial_runs None v pc to st bs s has good = instr Drop pc (value empty ∷ value v ∷ st) bs s has.0 (ends_at (on_value st bs) has.1 (here v s good))
  initial_runs (Some p) v pc to st bs s has good =
      bind (callee.call p v [] s) (known.call p v [] (value v ∷ st) pc bs s good) (λ r s1 g1.
      instr Drop pc (value r ∷ value v ∷ st) bs s1 has.0 (ends_at (on_value st bs) has.1 (here v s1 g1)))

  mutual
    pub expr_runs : (e : Expr) (pc to : ℕ) (st : List Slot) (bs : List Back) (s : State) → UpTo code.instrs pc (expr_code e) to → Enough bound n s
        → Runs code bound n (Goes (at pc st bs s)) (on_value st bs to) (failed bs) (eval e callee pr s)
    expr_runs (expr node place of operand) pc to st bs s has good = node_runs node pc to st bs s has good

    pub node_runs : (e : Node) (pc to : ℕ) (st : List Slot) (bs : List Back) (s : State) → UpTo code.instrs pc (node_code e) to → Enough bound n s
        → Runs code bound n (Goes (at pc st bs s)) (on_value st bs to) (failed bs) (eval_node e callee pr s)
    node_runs not_given pc to st bs s has good = instr (Push missing) pc st bs s has.0 (ends_at (on_value st bs) has.1 (here missing s good))
    node_runs (constant v) pc to st bs s has good = instr (Push v) pc st bs s has.0 (ends_at (on_value st bs) has.1 (here v s good))
    node_runs (load x) pc to st bs s has good =
        first (on_path st bs) (eval_place x callee pr s) (place_code x) _ pc to _ has (λ mid h. place_runs x pc mid st bs s h good) (λ q s1 g1 mid h.
        instr ReadThrough mid (path q ∷ st) bs s1 h.0 (ends_at (on_value st bs) h.1 (performs (read_path q) bs s1 g1)))
    node_runs (load_made x) pc to st bs s has good =
        first (on_path st bs) (eval_place x callee pr s) (place_code x) _ pc to _ has (λ mid h. place_runs x pc mid st bs s h good) (λ q s1 g1 i h.
        instr MakeThere i (path q ∷ st) bs s1 h.0
        (subst (λ d. Runs code bound n (done_then (made_for d q s1.memory) bs s1 (λ v s2. initializes code (initialize_of d q v) v (i + 1) (path q ∷ st) bs s2)) (on_value st bs to) (failed bs)
        (perform (made_for pr.declared q) s1 >>= λ v s2. initialized callee (initialize_of pr.declared q v) v s2 >>= λ w s3. perform (stored_made q w) s3 >>= λ u s4. perform (read_path q) s4)) (sym tables)
        (bind (perform (made_for pr.declared q) s1) (performs {got = λ v s2. initializes code (initialize_of pr.declared q v) v (i + 1) (path q ∷ st) bs s2} (made_for pr.declared q) bs s1 g1) (λ v s2 g2.
        bind (initialized callee (initialize_of pr.declared q v) v s2) (initial_runs (initialize_of pr.declared q v) v (i + 1) (i + 1 + 1) (path q ∷ st) bs s2 (h.1.0, refl) g2) (λ w s3 g3.
        instr StoreMade (i + 1 + 1) (value w ∷ path q ∷ st) bs s3 h.1.1.0
        (bind (perform (stored_made q w) s3) (performs {got = then_at (i + 1 + 1 + 1) (path q ∷ st) bs} (stored_made q w) bs s3 g3) (λ u s4 g4.
        instr ReadThrough (i + 1 + 1 + 1) (path q ∷ st) bs s4 h.1.1.1.0 (ends_at (on_value st bs) h.1.1.1.1 (performs (read_path q) bs s4 g4)))))))))
    node_runs (element_value e es) pc to st bs s has good =
        first (on_value st bs) (eval e callee pr s) (expr_code e) _ pc to _ has (λ mid h. expr_runs e pc mid st bs s h good) (λ v s1 g1 i h1.
        first_each (on_args (value v ∷ st) bs) (eval_list es callee pr s1) (list_code es) _ i to _ h1 (list_counts es callee pr s1) (λ mid h. list_runs es i mid (value v ∷ st) bs s1 h g1) (λ xs s2 len g2 j h2.
        instr (Index (length xs)) j (pushed xs (value v ∷ st)) bs s2 (h2.0 ∙ ap (λ m. Some (Index m)) (sym len))
        (subst (λ m. Runs code bound n m (on_value st bs to) (failed bs) (perform (item_by v (slot_values xs)) s2)) (sym (all_taken xs (value v ∷ st) _))
        (ends_at (on_value st bs) h2.1 (performs (item_by v (slot_values xs)) bs s2 g2)))))
    node_runs (field_value e i) pc to st bs s has good =
        first (on_value st bs) (eval e callee pr s) (expr_code e) _ pc to _ has (λ mid h. expr_runs e pc mid st bs s h good) (λ v s1 g1 j h.
        instr (PartOf i) j (value v ∷ st) bs s1 h.0 (ends_at (on_value st bs) h.1 (performs (part_of i v) bs s1 g1)))
    node_runs (unary o a) pc to st bs s has good =
        first (on_value st bs) (eval a callee pr s) (expr_code a) _ pc to _ has (λ mid h. expr_runs a pc mid st bs s h good) (λ v s1 g1 i h.
        instr (OperateAlone o (operand_type a)) i (value v ∷ st) bs s1 h.0 (ends_at (on_value st bs) h.1 (performs (operated_alone o (operand_type a) v) bs s1 g1)))
    node_runs (binary o compare a b) pc to st bs s has good =
        first (on_value st bs) (eval a callee pr s) (expr_code a) _ pc to _ has (λ mid h. expr_runs a pc mid st bs s h good) (λ v s1 g1 i h1.
        first (on_value (value v ∷ st) bs) (eval b callee pr s1) (expr_code b) _ i to _ h1 (λ mid h. expr_runs b i mid (value v ∷ st) bs s1 h g1) (λ w s2 g2 j h2.
        instr (Operate o compare (operand_type a) (operand_type b)) j (value w ∷ value v ∷ st) bs s2 h2.0
        (ends_at (on_value st bs) h2.1 (performs (operated o compare (operand_type a) (operand_type b) v w) bs s2 g2))))
    node_runs (call p args) pc to st bs s has good =
        first_each (on_args st bs) (evals args callee pr s) (args_code args) _ pc to _ has (evals_count args callee pr s) (λ mid h. args_runs args pc mid st bs s h good) (λ xs s1 len g1 i h.
        instr (Call p (length xs)) i (pushed xs st) bs s1 (h.0 ∙ ap (λ m. Some (Call p m)) (sym len))
        (subst (λ m. Runs code bound n m (on_value st bs to) (failed bs) (callee.call p empty xs s1)) (sym (all_taken xs st _))
        (ends_at (on_value st bs) h.1 (known.call p empty xs st (i + 1) bs s1 g1))))
    node_runs (err_value member) pc to st bs s has good =
        instr (LoadErr member) pc st bs s has.0
        (subst (λ d. Runs code bound n (Goes (at (pc + 1) (value (err_of d member s.memory.err) ∷ st) bs s)) (on_value st bs to) (failed bs) (Got (err_of pr.declared member s.memory.err) s)) (sym tables)
        (ends_at (on_value st bs) has.1 (here (err_of pr.declared member s.memory.err) s good)))
    node_runs (default_of e) pc to st bs s has good =
        first (on_value st bs) (eval e callee pr s) (expr_code e) _ pc to _ has (λ mid h. expr_runs e pc mid st bs s h good) (λ v s1 g1 i h.
        instr Plain i (value v ∷ st) bs s1 h.0 (ends_at (on_value st bs) h.1 (operand_runs v (i + 1) st bs s1 g1)))
    node_runs (default_if_any e) pc to st bs s has good =
        first (on_value st bs) (eval e callee pr s) (expr_code e) _ pc to _ has (λ mid h. expr_runs e pc mid st bs s h good) (λ v s1 g1 i h.
        instr PlainIfAny i (value v ∷ st) bs s1 h.0 (ends_at (on_value st bs) h.1 (if_any_runs v (i + 1) st bs s1 g1)))
    node_runs (enumerated e) pc to st bs s has good =
        first (on_value st bs) (eval e callee pr s) (expr_code e) _ pc to _ has (λ mid h. expr_runs e pc mid st bs s h good) (λ v s1 g1 i h.
        instr Enumerate i (value v ∷ st) bs s1 h.0 (ends_at (on_value st bs) h.1 (uses_run false (λ d m. enumerator_of d v m) (i + 1) st bs s1 g1)))
    node_runs (marked broken es) pc to st bs s has good =
        first_each (on_args st bs) (eval_list es callee pr s) (list_code es) _ pc to _ has (list_counts es callee pr s) (λ mid h. list_runs es pc mid st bs s h good) (λ xs s1 len g1 j h.
        instr (Library function.Array false Binary (pos 0) (length xs)) j (pushed xs st) bs s1 (h.0 ∙ ap (λ m. Some (Library function.Array false Binary (pos 0) m)) (sym len))
        (subst (λ m. Runs code bound n m (on_value st bs to) (failed bs) (perform (library_called pr.declared function.Array false Binary (pos 0) (slot_values xs)) s1)) (sym (all_taken xs st _))
        (subst (λ d. Runs code bound n (done_then (library_called d function.Array false Binary (pos 0) (slot_values xs) s1.memory) bs s1 (on_value st bs (j + 1))) (on_value st bs to) (failed bs)
        (perform (library_called pr.declared function.Array false Binary (pos 0) (slot_values xs)) s1)) (sym tables)
        (ends_at (on_value st bs) h.1 (performs (library_called pr.declared function.Array false Binary (pos 0) (slot_values xs)) bs s1 g1)))))
    node_runs (library f text_form es compare base) pc to st bs s has good =
        first_each (on_args st bs) (eval_list es callee pr s) (list_code es) _ pc to _ has (list_counts es callee pr s) (λ mid h. list_runs es pc mid st bs s h good) (λ xs s1 len g1 j h.
        instr (Library f text_form compare base (length xs)) j (pushed xs st) bs s1 (h.0 ∙ ap (λ m. Some (Library f text_form compare base m)) (sym len))
        (subst (λ m. Runs code bound n m (on_value st bs to) (failed bs) (perform (library_called pr.declared f text_form compare base (slot_values xs)) s1)) (sym (all_taken xs st _))
        (subst (λ d. Runs code bound n (done_then (library_called d f text_form compare base (slot_values xs) s1.memory) bs s1 (on_value st bs (j + 1))) (on_value st bs to) (failed bs)
        (perform (library_called pr.declared f text_form compare base (slot_values xs)) s1)) (sym tables)
        (ends_at (on_value st bs) h.1 (performs (library_called pr.declared f text_form compare base (slot_values xs)) bs s1 g1)))))
    node_runs (bound_of upper x z) pc to st bs s has good =
        first (on_path st bs) (eval_place x callee pr s) (place_code x) _ pc to _ has (λ mid h. place_runs x pc mid st bs s h good) (λ q s1 g1 mid h.
        instr (BoundAt upper z) mid (path q ∷ st) bs s1 h.0 (ends_at (on_value st bs) h.1 (performs (bound_at upper z q) bs s1 g1)))
    node_runs (host_object reference) pc to st bs s has good =
        instr (PushHost reference) pc st bs s has.0 (ends_at (on_value st bs) has.1 (here (object (Host reference)) s good))
    node_runs active_sheet pc to st bs s has good = instr FirstSheet pc st bs s has.0 (ends_at (on_value st bs) has.1 (performs first_sheet bs s good))
    node_runs (host_member e name es) pc to st bs s has good =
        first (on_value st bs) (eval e callee pr s) (expr_code e) _ pc to _ has (λ mid h. expr_runs e pc mid st bs s h good) (λ v s1 g1 i h1.
        instr (MemberThere name (given_count es)) i (value v ∷ st) bs s1 h1.0
        (subst (λ d. Runs code bound n (done_then (member_there d name (given_count es) v s1.memory) bs s1 (on_value (value v ∷ st) bs (i + 1))) (on_value st bs to) (failed bs)
        (perform (member_there pr.declared name (given_count es) v) s1 >>= λ w s2. eval_list es callee pr s2 >>= λ xs s3. member_used callee pr name v w (slot_values xs) s3)) (sym tables)
        (bind (perform (member_there pr.declared name (given_count es) v) s1) (performs {got = on_value (value v ∷ st) bs (i + 1)} (member_there pr.declared name (given_count es) v) bs s1 g1) (λ w s2 g2.
        first_each (on_args (value w ∷ value v ∷ st) bs) (eval_list es callee pr s2) (list_code es) _ (i + 1) to _ h1.1 (list_counts es callee pr s2)
        (λ mid h. list_runs es (i + 1) mid (value w ∷ value v ∷ st) bs s2 h g2) (λ xs s3 len g3 j h2.
        instr (MemberOf name (length xs)) j (pushed xs (value w ∷ value v ∷ st)) bs s3 (h2.0 ∙ ap (λ m. Some (MemberOf name m)) (sym len))
        (subst (λ m. Runs code bound n m (on_value st bs to) (failed bs) (member_used callee pr name v w (slot_values xs) s3)) (sym (all_taken xs (value w ∷ value v ∷ st) _))
        (ends_at (on_value st bs) h2.1 (member_runs name v w (slot_values xs) (j + 1) st bs s3 g3))))))))
    node_runs (named_member e name by es) pc to st bs s has good =
        first (on_value st bs) (eval e callee pr s) (expr_code e) _ pc to _ has (λ mid h. expr_runs e pc mid st bs s h good) (λ v s1 g1 i h1.
        instr (NamedThere name by (given_count es)) i (value v ∷ st) bs s1 h1.0
        (bind (perform (named_there name by (given_count es) v) s1) (performs {got = on_value (value v ∷ st) bs (i + 1)} (named_there name by (given_count es) v) bs s1 g1) (λ w s2 g2.
        first_each (on_args (value w ∷ value v ∷ st) bs) (eval_list es callee pr s2) (list_code es) _ (i + 1) to _ h1.1 (list_counts es callee pr s2)
        (λ mid h. list_runs es (i + 1) mid (value w ∷ value v ∷ st) bs s2 h g2) (λ xs s3 len g3 j h2.
        instr (NamedOf name by (length xs)) j (pushed xs (value w ∷ value v ∷ st)) bs s3 (h2.0 ∙ ap (λ m. Some (NamedOf name by m)) (sym len))
        (subst (λ m. Runs code bound n m (on_value st bs to) (failed bs) (member_used callee pr name v w (in_parameter_order v name by (slot_values xs)) s3)) (sym (all_taken xs (value w ∷ value v ∷ st) _))
        (ends_at (on_value st bs) h2.1 (member_runs name v w (in_parameter_order v name by (slot_values xs)) (j + 1) st bs s3 g3)))))))
    node_runs this pc to st bs s has good = instr PushThis pc st bs s has.0 (ends_at (on_value st bs) has.1 (performs own_object bs s good))
    node_runs (new_object c) pc to st bs s has good =
        instr (New c) pc st bs s has.0
        (subst (λ d. Runs code bound n (done_then (made d c s.memory) bs s (λ v s1. initializes code (class_at d c).initialize v (pc + 1) st bs s1)) (on_value st bs to) (failed bs)
        (perform (made pr.declared c) s >>= λ v s1. initialized callee (class_at pr.declared c).initialize v s1)) (sym tables)
        (bind (perform (made pr.declared c) s) (performs {got = λ v s1. initializes code (class_at pr.declared c).initialize v (pc + 1) st bs s1} (made pr.declared c) bs s good) (λ v s1 g1.
        initial_runs (class_at pr.declared c).initialize v (pc + 1) to st bs s1 has.1 g1)))
    node_runs (method e p args) pc to st bs s has good =
        first (on_value st bs) (eval e callee pr s) (expr_code e) _ pc to _ has (λ mid h. expr_runs e pc mid st bs s h good) (λ v s1 g1 i h1.
        instr ObjectThere i (value v ∷ st) bs s1 h1.0
        (bind (perform (object_there v) s1) (performs {got = on_value st bs (i + 1)} (object_there v) bs s1 g1) (λ w s2 g2.
        first_each (on_args (value w ∷ st) bs) (evals args callee pr s2) (args_code args) _ (i + 1) to _ h1.1 (evals_count args callee pr s2) (λ mid h. args_runs args (i + 1) mid (value w ∷ st) bs s2 h g2) (λ xs s3 len g3 j h2.
        instr (CallOf p (length xs)) j (pushed xs (value w ∷ st)) bs s3 (h2.0 ∙ ap (λ m. Some (CallOf p m)) (sym len))
        (subst (λ m. Runs code bound n m (on_value st bs to) (failed bs) (callee.call p w xs s3)) (sym (all_taken xs (value w ∷ st) _))
        (ends_at (on_value st bs) h2.1 (known.call p w xs st (j + 1) bs s3 g3)))))))
    node_runs (late_member e name by given) pc to st bs s has good =
        let gs = which_given given in
        first (on_value st bs) (eval e callee pr s) (expr_code e) _ pc to _ has (λ mid h. expr_runs e pc mid st bs s h good) (λ v s1 g1 i h1.
        instr (FindLate reading name by gs) i (value v ∷ st) bs s1 h1.0
        (bind (used callee pr (late_there pr.declared reading name by gs v) s1) (uses_run false (λ d m. late_there d reading name by gs v m) (i + 1) (value v ∷ st) bs s1 g1) (λ w s2 g2.
        first_each (on_args (value w ∷ value v ∷ st) bs) (eval_given given reading name by gs 0 v callee pr s2) (given_code given reading name by gs 0) _ (i + 1) to _ h1.1 (given_counts given reading name by gs 0 v callee pr s2)
        (λ mid h. given_runs given reading name by gs 0 (i + 1) mid (value w ∷ value v ∷ st) bs s2 h g2) (λ xs s3 len g3 j h2.
        instr (CallLate name by gs) j (pushed xs (value w ∷ value v ∷ st)) bs s3 h2.0
        (subst (λ m. Runs code bound n m (on_value st bs to) (failed bs) (late_used callee pr name by gs v w xs s3)) (sym (counted_taken xs (value w ∷ value v ∷ st) (length gs) _ len))
        (ends_at (on_value st bs) h2.1 (late_runs name by gs v w xs (j + 1) st bs s3 g3)))))))
    node_runs (late_item e es) pc to st bs s has good =
        first (on_value st bs) (eval e callee pr s) (expr_code e) _ pc to _ has (λ mid h. expr_runs e pc mid st bs s h good) (λ v s1 g1 i h1.
        first_each (on_args (value v ∷ st) bs) (eval_list es callee pr s1) (list_code es) _ i to _ h1 (list_counts es callee pr s1) (λ mid h. list_runs es i mid (value v ∷ st) bs s1 h g1) (λ xs s2 len g2 j h2.
        instr (ItemAlong (length xs)) j (pushed xs (value v ∷ st)) bs s2 (h2.0 ∙ ap (λ m. Some (ItemAlong m)) (sym len))
        (subst (λ m. Runs code bound n m (on_value st bs to) (failed bs) (used callee pr (index_along pr.declared most_passed (slot_values xs) v) s2)) (sym (all_taken xs (value v ∷ st) _))
        (ends_at (on_value st bs) h2.1 (uses_run false (λ d m. index_along d most_passed (slot_values xs) v m) (j + 1) st bs s2 g2)))))
    node_runs (same a b) pc to st bs s has good =
        first (on_value st bs) (eval a callee pr s) (expr_code a) _ pc to _ has (λ mid h. expr_runs a pc mid st bs s h good) (λ v s1 g1 i h1.
        first (on_value (value v ∷ st) bs) (eval b callee pr s1) (expr_code b) _ i to _ h1 (λ mid h. expr_runs b i mid (value v ∷ st) bs s1 h g1) (λ w s2 g2 j h2.
        instr Same j (value w ∷ value v ∷ st) bs s2 h2.0 (ends_at (on_value st bs) h2.1 (performs (compared v w) bs s2 g2))))
    node_runs (is_type e of) pc to st bs s has good =
        first (on_value st bs) (eval e callee pr s) (expr_code e) _ pc to _ has (λ mid h. expr_runs e pc mid st bs s h good) (λ v s1 g1 i h.
        instr (IsType of) i (value v ∷ st) bs s1 h.0 (ends_at (on_value st bs) h.1 (performs (typed_as of v) bs s1 g1)))

    pub place_runs : (x : Lvalue) (pc to : ℕ) (st : List Slot) (bs : List Back) (s : State) → UpTo code.instrs pc (place_code x) to → Enough bound n s
        → Runs code bound n (Goes (at pc st bs s)) (on_path st bs to) (failed bs) (eval_place x callee pr s)
    place_runs (variable x) pc to st bs s has good = instr (PathOf x) pc st bs s has.0 (ends_at (on_path st bs) has.1 (here (path_of s.memory x) s good))
    place_runs (item x es) pc to st bs s has good =
        first_each (on_args st bs) (eval_list es callee pr s) (list_code es) _ pc to _ has (list_counts es callee pr s) (λ mid h. list_runs es pc mid st bs s h good) (λ xs s1 len g1 j h.
        instr (PathOf x) j (pushed xs st) bs s1 h.0
        (instr (ElementOf (length xs)) (j + 1) (path (path_of s1.memory x) ∷ pushed xs st) bs s1 (h.1.0 ∙ ap (λ m. Some (ElementOf m)) (sym len))
        (subst (λ m. Runs code bound n m (on_path st bs to) (failed bs) (perform (place_at (path_of s1.memory x) (slot_values xs)) s1)) (sym (all_taken xs st _))
        (ends_at (on_path st bs) h.1.1 (performs (place_at (path_of s1.memory x) (slot_values xs)) bs s1 g1)))))
    place_runs (element x es) pc to st bs s has good =
        first (on_path st bs) (eval_place x callee pr s) (place_code x) _ pc to _ has (λ mid h. place_runs x pc mid st bs s h good) (λ q s1 g1 i h1.
        first_each (on_args (path q ∷ st) bs) (eval_list es callee pr s1) (list_code es) _ i to _ h1 (list_counts es callee pr s1) (λ mid h. list_runs es i mid (path q ∷ st) bs s1 h g1) (λ xs s2 len g2 j h2.
        instr (ElementIn (length xs)) j (pushed xs (path q ∷ st)) bs s2 (h2.0 ∙ ap (λ m. Some (ElementIn m)) (sym len))
        (subst (λ m. Runs code bound n m (on_path st bs to) (failed bs) (perform (place_at q (slot_values xs)) s2)) (sym (all_taken xs (path q ∷ st) _))
        (ends_at (on_path st bs) h2.1 (performs (place_at q (slot_values xs)) bs s2 g2)))))
    place_runs (field x i of bounded) pc to st bs s has good =
        first (on_path st bs) (eval_place x callee pr s) (place_code x) _ pc to _ has (λ mid h. place_runs x pc mid st bs s h good) (λ q s1 g1 j h.
        instr (FieldOf i of bounded) j (path q ∷ st) bs s1 h.0 (ends_at (on_path st bs) h.1 (here (field_path q i of bounded) s1 g1)))
    place_runs (kept_place i) pc to st bs s has good = instr (Dot i) pc st bs s has.0 (ends_at (on_path st bs) has.1 (performs (dot_at i) bs s good))
    place_runs (object_field e i of bounded) pc to st bs s has good =
        first (on_value st bs) (eval e callee pr s) (expr_code e) _ pc to _ has (λ mid h. expr_runs e pc mid st bs s h good) (λ v s1 g1 j h.
        instr (FieldIn i of bounded) j (value v ∷ st) bs s1 h.0 (ends_at (on_path st bs) h.1 (performs (field_in i of bounded v) bs s1 g1)))
    place_runs (as_new c x) pc to st bs s has good =
        first (on_path st bs) (eval_place x callee pr s) (place_code x) _ pc to _ has (λ mid h. place_runs x pc mid st bs s h good) (λ q s1 g1 j h.
        instr (AsNew c) j (path q ∷ st) bs s1 h.0 (ends_at (on_path st bs) h.1 (here (made_at c q) s1 g1)))
    place_runs (late_field e name) pc to st bs s has good =
        first (on_value st bs) (eval e callee pr s) (expr_code e) _ pc to _ has (λ mid h. expr_runs e pc mid st bs s h good) (λ v s1 g1 j h.
        instr (LateField name) j (value v ∷ st) bs s1 h.0
        (subst (λ d. Runs code bound n (done_then (public_variable d name v s1.memory) bs s1 (on_path st bs (j + 1))) (on_path st bs to) (failed bs) (perform (public_variable pr.declared name v) s1)) (sym tables)
        (ends_at (on_path st bs) h.1 (performs (public_variable pr.declared name v) bs s1 g1))))
    place_runs (value_place e) pc to st bs s has good =
        first (on_value st bs) (eval e callee pr s) (expr_code e) _ pc to _ has (λ mid h. expr_runs e pc mid st bs s h good) (λ v s1 g1 j h.
        instr PlaceOf j (value v ∷ st) bs s1 h.0 (ends_at (on_path st bs) h.1 (here (path_to v) s1 g1)))
    place_runs (element_along x es) pc to st bs s has good =
        first (on_path st bs) (eval_place x callee pr s) (place_code x) _ pc to _ has (λ mid h. place_runs x pc mid st bs s h good) (λ q s1 g1 i h1.
        first_each (on_args (path q ∷ st) bs) (eval_list es callee pr s1) (list_code es) _ i to _ h1 (list_counts es callee pr s1) (λ mid h. list_runs es i mid (path q ∷ st) bs s1 h g1) (λ xs s2 len g2 j h2.
        instr (ElementAlong (length xs)) j (pushed xs (path q ∷ st)) bs s2 (h2.0 ∙ ap (λ m. Some (ElementAlong m)) (sym len))
        (subst (λ m. Runs code bound n m (on_path st bs to) (failed bs) (place_along callee pr q (slot_values xs) s2)) (sym (all_taken xs (path q ∷ st) _))
        (ends_at (on_path st bs) h2.1 (along_runs q (slot_values xs) (j + 1) st bs s2 g2)))))

    pub args_runs : (args : Args) (pc to : ℕ) (st : List Slot) (bs : List Back) (s : State) → UpTo code.instrs pc (args_code args) to → Enough bound n s
        → Runs code bound n (Goes (at pc st bs s)) (on_args st bs to) (failed bs) (evals args callee pr s)
    args_runs no_args pc to st bs s has good = ends_at (on_args st bs) has (here [] s good)
    args_runs (by_place x args) pc to st bs s has good =
        first (on_path st bs) (eval_place x callee pr s) (place_code x) _ pc to _ has (λ mid h. place_runs x pc mid st bs s h good) (λ q s1 g1 i h.
        instr Lend i (path q ∷ st) bs s1 h.0
        (bind (perform (lent q) s1) (performs {got = then_at (i + 1) (path q ∷ st) bs} (lent q) bs s1 g1) (λ u s2 g2.
        bind (evals args callee pr s2) (args_runs args (i + 1) to (path q ∷ st) bs s2 h.1 g2) (λ xs s3 g3. here {got = on_args st bs to} (path q ∷ xs) s3 g3))))
    args_runs (by_copy e of args) pc to st bs s has good =
        first (on_value st bs) (eval e callee pr s) (expr_code e) _ pc to _ has (λ mid h. expr_runs e pc mid st bs s h good) (λ v s1 g1 i h.
        instr (Fit of) i (value v ∷ st) bs s1 h.0
        (bind (perform (fitted of v) s1) (performs {got = on_value st bs (i + 1)} (fitted of v) bs s1 g1) (λ w s2 g2.
        bind (evals args callee pr s2) (args_runs args (i + 1) to (value w ∷ st) bs s2 h.1 g2) (λ xs s3 g3. here {got = on_args st bs to} (value w ∷ xs) s3 g3))))
    args_runs (by_default v args) pc to st bs s has good =
        instr (Push v) pc st bs s has.0
        (bind (evals args callee pr s) (args_runs args (pc + 1) to (value v ∷ st) bs s has.1 good) (λ xs s1 g1. here {got = on_args st bs to} (value v ∷ xs) s1 g1))
    args_runs (by_list es args) pc to st bs s has good =
        first_each (on_args st bs) (eval_list es callee pr s) (list_code es) _ pc to _ has (list_counts es callee pr s) (λ mid h. list_runs es pc mid st bs s h good) (λ ys s1 len g1 i h.
        instr (Pack (length ys)) i (pushed ys st) bs s1 (h.0 ∙ ap (λ m. Some (Pack m)) (sym len))
        (subst (λ m. Runs code bound n m (on_args st bs to) (failed bs) (evals args callee pr s1 >>= λ xs s2. Got (value (packed ys) ∷ xs) s2)) (sym (all_taken ys st _))
        (bind (evals args callee pr s1) (args_runs args (i + 1) to (value (packed ys) ∷ st) bs s1 h.1 g1) (λ xs s2 g2. here {got = on_args st bs to} (value (packed ys) ∷ xs) s2 g2))))
    args_runs (in_order order args) pc to st bs s has good =
        first_each (on_args st bs) (evals args callee pr s) (args_code args) _ pc to _ has (evals_count args callee pr s) (λ mid h. args_runs args pc mid st bs s h good) (λ xs s1 len g1 i h.
        instr (Reorder order (length xs)) i (pushed xs st) bs s1 (h.0 ∙ ap (λ m. Some (Reorder order m)) (sym len))
        (subst (λ m. Runs code bound n m (on_args st bs to) (failed bs) (Got (reordered order xs) s1)) (sym (all_taken xs st _))
        (ends_at (on_args st bs) h.1 (here (reordered order xs) s1 g1))))

    pub given_runs : (given : Given) (aim : Use) (name : List ℕ) (by : ByName) (gs : List Bool) (i pc to : ℕ) (st : List Slot) (bs : List Back) (s : State) → UpTo code.instrs pc (given_code given aim name by gs i) to → Enough bound n s
        → Runs code bound n (Goes (at pc st bs s)) (on_args st bs to) (failed bs) (eval_given given aim name by gs i (base_below i st) callee pr s)
    given_runs none_given aim name by gs i pc to st bs s has good = ends_at (on_args st bs) has (here [] s good)
    given_runs (place_given x given) aim name by gs i pc to st bs s has good =
        first (on_path st bs) (eval_place x callee pr s) (place_code x) _ pc to _ has (λ mid h. place_runs x pc mid st bs s h good) (λ q s1 g1 j h.
        instr (BindPlace aim name by gs i) j (path q ∷ st) bs s1 h.0
        (bind (place_bound callee pr aim name by gs i (base_below i st) q s1) (bound_runs aim name by gs i q (j + 1) st bs s1 g1) (λ p s2 g2.
        bind (eval_given given aim name by gs (suc i) (base_below i st) callee pr s2) (given_runs given aim name by gs (suc i) (j + 1) to (path p ∷ st) bs s2 h.1 g2) (λ xs s3 g3.
        here {got = on_args st bs to} (path p ∷ xs) s3 g3))))
    given_runs (expr_given e given) aim name by gs i pc to st bs s has good =
        first (on_value st bs) (eval e callee pr s) (expr_code e) _ pc to _ has (λ mid h. expr_runs e pc mid st bs s h good) (λ v s1 g1 j h.
        instr (BindValue aim name by gs i) j (value v ∷ st) bs s1 h.0
        (bind (used callee pr (value_bound pr.declared aim name by gs i (base_below i st) v) s1) (uses_run false (λ d m. value_bound d aim name by gs i (base_below i st) v m) (j + 1) st bs s1 g1) (λ w s2 g2.
        bind (eval_given given aim name by gs (suc i) (base_below i st) callee pr s2) (given_runs given aim name by gs (suc i) (j + 1) to (value w ∷ st) bs s2 h.1 g2) (λ xs s3 g3.
        here {got = on_args st bs to} (value w ∷ xs) s3 g3))))

    pub list_runs : (es : Exprs) (pc to : ℕ) (st : List Slot) (bs : List Back) (s : State) → UpTo code.instrs pc (list_code es) to → Enough bound n s
        → Runs code bound n (Goes (at pc st bs s)) (on_args st bs to) (failed bs) (eval_list es callee pr s)
    list_runs no_exprs pc to st bs s has good = ends_at (on_args st bs) has (here [] s good)
    list_runs (also e es) pc to st bs s has good =
        first (on_value st bs) (eval e callee pr s) (expr_code e) _ pc to _ has (λ mid h. expr_runs e pc mid st bs s h good) (λ v s1 g1 i h.
        bind (eval_list es callee pr s1) (list_runs es i to (value v ∷ st) bs s1 h g1) (λ xs s2 g2. here {got = on_args st bs to} (value v ∷ xs) s2 g2))

  pub prints_run : (ps : Prints) (pc to : ℕ) (st : List Slot) (bs : List Back) (s : State) → UpTo code.instrs pc (prints_code ps) to → Enough bound n s
      → Runs code bound n (Goes (at pc st bs s)) (on_args st bs to) (failed bs) (eval_prints ps callee pr s)
  prints_run no_prints pc to st bs s has good = ends_at (on_args st bs) has (here [] s good)
  prints_run (shown e ps) pc to st bs s has good =
      first (on_value st bs) (eval e callee pr s) (expr_code e) _ pc to _ has (λ mid h. expr_runs e pc mid st bs s h good) (λ v s1 g1 i h.
      instr ShowText i (value v ∷ st) bs s1 h.0
      (bind (perform (show_value v) s1) (performs {got = on_value st bs (i + 1)} (show_value v) bs s1 g1) (λ w s2 g2.
      bind (eval_prints ps callee pr s2) (prints_run ps (i + 1) to (value w ∷ st) bs s2 h.1 g2) (λ xs s3 g3. here {got = on_args st bs to} (value w ∷ xs) s3 g3))))
  prints_run (zone ps) pc to st bs s has good =
      instr (Push empty) pc st bs s has.0
      (bind (eval_prints ps callee pr s) (prints_run ps (pc + 1) to (value empty ∷ st) bs s has.1 good) (λ xs s1 g1. here {got = on_args st bs to} (value empty ∷ xs) s1 g1))

  -- the same at the head of a statement, with what follows
  pub then_value : {A : Type 0} {got : A → State → Move} {f : Val → State → Res A} (e : Expr) (rest : List Instr) (pc to : ℕ) (st : List Slot) (bs : List Back) (s : State)
      → UpTo code.instrs pc (expr_code e ++ rest) to → Enough bound n s
      → ((v : Val) (s1 : State) → Enough bound n s1 → (mid : ℕ) → UpTo code.instrs mid rest to → Runs code bound n (on_value st bs mid v s1) got (failed bs) (f v s1))
      → Runs code bound n (Goes (at pc st bs s)) got (failed bs) (eval e callee pr s >>= f)
  then_value e rest pc to st bs s has good k = first (on_value st bs) (eval e callee pr s) (expr_code e) rest pc to _ has (λ mid h. expr_runs e pc mid st bs s h good) k

  pub then_place : {A : Type 0} {got : A → State → Move} {f : Path → State → Res A} (x : Lvalue) (rest : List Instr) (pc to : ℕ) (st : List Slot) (bs : List Back) (s : State)
      → UpTo code.instrs pc (place_code x ++ rest) to → Enough bound n s
      → ((q : Path) (s1 : State) → Enough bound n s1 → (mid : ℕ) → UpTo code.instrs mid rest to → Runs code bound n (on_path st bs mid q s1) got (failed bs) (f q s1))
      → Runs code bound n (Goes (at pc st bs s)) got (failed bs) (eval_place x callee pr s >>= f)
  then_place x rest pc to st bs s has good k = first (on_path st bs) (eval_place x callee pr s) (place_code x) rest pc to _ has (λ mid h. place_runs x pc mid st bs s h good) k

  -- arguments, and the instruction that takes them
  pub then_args : {A : Type 0} {got : A → State → Move} {f : List Slot → State → Res A} (args : Args) (rest : List Instr) (take : ℕ → Instr) (pc to : ℕ) (st : List Slot) (bs : List Back) (s : State)
      → UpTo code.instrs pc (args_code args ++ take (count args) ∷ rest) to → Enough bound n s
      → ((xs : List Slot) (s1 : State) → length xs ≡ count args → Enough bound n s1 → (mid : ℕ) → UpTo code.instrs (mid + 1) rest to
      → Runs code bound n (act looking code (Some (take (length xs))) mid (pushed xs st) bs s1) got (failed bs) (f xs s1))
      → Runs code bound n (Goes (at pc st bs s)) got (failed bs) (evals args callee pr s >>= f)
  then_args args rest take pc to st bs s has good k =
      first_each (on_args st bs) (evals args callee pr s) (args_code args) _ pc to _ has (evals_count args callee pr s) (λ mid h. args_runs args pc mid st bs s h good) (λ xs s1 len g1 mid h.
      instr (take (length xs)) mid (pushed xs st) bs s1 (h.0 ∙ ap (λ m. Some (take m)) (sym len)) (k xs s1 len g1 mid h.1))

  pub then_prints : {A : Type 0} {got : A → State → Move} {f : List Slot → State → Res A} (ps : Prints) (rest : List Instr) (take : ℕ → Instr) (pc to : ℕ) (st : List Slot) (bs : List Back) (s : State)
      → UpTo code.instrs pc (prints_code ps ++ take (prints_count ps) ∷ rest) to → Enough bound n s
      → ((xs : List Slot) (s1 : State) → Enough bound n s1 → (mid : ℕ) → UpTo code.instrs (mid + 1) rest to
      → Runs code bound n (act looking code (Some (take (length xs))) mid (pushed xs st) bs s1) got (failed bs) (f xs s1))
      → Runs code bound n (Goes (at pc st bs s)) got (failed bs) (eval_prints ps callee pr s >>= f)
  then_prints ps rest take pc to st bs s has good k =
      first_each (on_args st bs) (eval_prints ps callee pr s) (prints_code ps) _ pc to _ has (prints_counts ps callee pr s) (λ mid h. prints_run ps pc mid st bs s h good) (λ xs s1 len g1 mid h.
      instr (take (length xs)) mid (pushed xs st) bs s1 (h.0 ∙ ap (λ m. Some (take m)) (sym len)) (k xs s1 g1 mid h.1))

-- ---- statements

abbrev pub with_end : Entry → List Back → ℕ → State → Move
with_end entry bs to s = finishes (entry to) bs s

module _ (pr : Project) (code : Code) (entry : ℕ → Entry) (laid : Laid pr entry code) (bound n : ℕ) (callee : Callee) (known : Calls code bound n callee) (p : ℕ) where
  -- a statement that runs from an address on
  abbrev Ends-well : ℕ → List Slot → List Back → State → Res ℕ → Type 0
  Ends-well pc st bs s r = Runs code bound n (Goes (at pc st bs s)) (with_end (entry p) bs) (failed bs) r

  ends_here : (to pc : ℕ) (bs : List Back) (s : State) → slice_get code.instrs pc ≡ Some (Finish (entry p to)) → Enough bound n s → Ends-well pc [] bs s (Got to s)
  ends_here to pc bs s h good = instr (Finish (entry p to)) pc [] bs s h (here {got = with_end (entry p) bs} to s good)

  -- it is done in one go, and the statement ends
  ends_after : {A : Type 0} (f : Memory → Effect A) (to pc : ℕ) (bs : List Back) (s : State) → slice_get code.instrs pc ≡ Some (Finish (entry p to)) → Enough bound n s
      → Runs code bound n (done_then (f s.memory) bs s (then_at pc [] bs)) (with_end (entry p) bs) (failed bs) (perform f s >>= λ u s1. Got to s1)
  ends_after f to pc bs s h good = bind (perform f s) (performs {got = then_at pc [] bs} f bs s good) (λ u s1 g1. ends_here to pc bs s1 h g1)

  -- the same where cells may be written: the handlers of Change are called before the statement ends
  written : {A : Type 0} (f : Memory → Effect A) (to pc : ℕ) (bs : List Back) (s : State) → slice_get code.instrs pc ≡ Some (Finish (entry p to)) → Enough bound n s
      → Runs code bound n (done_then (f s.memory) bs s (then_changes code pc [] bs)) (with_end (entry p) bs) (failed bs) (perform f s >>= λ u s1. changes callee pr s1 >>= λ w s2. Got to s2)
  written f to pc bs s h good =
      bind (perform f s) (performs {got = then_changes code pc [] bs} f bs s good) (λ u s1 g1.
      bind (changes callee pr s1) (change_runs pr code bound n callee known laid.declared s1.memory.changed pc [] bs s1 g1) (λ w s2 g2. ends_here to pc bs s2 h g2))

  taken_way : (b : Bool) (x y : ℕ) (bs : List Back) (s : State) → Enough bound n s
      → Runs code bound n (then_branch (entry p x) (entry p y) bs b s) (with_end (entry p) bs) (failed bs) (Got (if b then x else y) s)
  taken_way true x y bs s good = here {got = with_end (entry p) bs} x s good
  taken_way false x y bs s good = here {got = with_end (entry p) bs} y s good

  -- an answer that decides where the statement ends
  answered_way : (f : Memory → Effect Bool) (x y : ℕ) (bs : List Back) (s : State) → Enough bound n s
      → Runs code bound n (done_then (f s.memory) bs s (then_branch (entry p x) (entry p y) bs)) (with_end (entry p) bs) (failed bs) (perform f s >>= λ b s1. Got (if b then x else y) s1)
  answered_way f x y bs s good = bind (perform f s) (performs {got = then_branch (entry p x) (entry p y) bs} f bs s good) (λ b s1 g1. taken_way b x y bs s1 g1)

  flag : (b : Bool) (x y pc : ℕ) (bs : List Back) (s : State) → slice_get code.instrs pc ≡ Some (Branch true (entry p x) (entry p y)) → Enough bound n s
      → Runs code bound n (then_test pc [] bs b s) (with_end (entry p) bs) (failed bs) (Got (if b then x else y) s)
  flag true x y pc bs s h good = instr (Branch true (entry p x) (entry p y)) pc (value (boolean true) ∷ []) bs s h (here {got = with_end (entry p) bs} x s good)
  flag false x y pc bs s h good = instr (Branch true (entry p x) (entry p y)) pc (value (boolean false) ∷ []) bs s h (here {got = with_end (entry p) bs} y s good)

  decided : (f : Memory → Effect Bool) (x y pc : ℕ) (bs : List Back) (s : State) → slice_get code.instrs pc ≡ Some (Branch true (entry p x) (entry p y)) → Enough bound n s
      → Runs code bound n (done_then (f s.memory) bs s (then_test pc [] bs)) (with_end (entry p) bs) (failed bs) (perform f s >>= λ on s1. Got (if on then x else y) s1)
  decided f x y pc bs s h good = bind (perform f s) (performs {got = then_test pc [] bs} f bs s good) (λ b s1 g1. flag b x y pc bs s1 h g1)

  -- it gives the statement at which the run goes on, whose address the machine finds in its table
  found_statement : (f : Memory → Effect ℕ) (bs : List Back) (s : State) → Enough bound n s
      → Runs code bound n (done_then (f s.memory) bs s (then_statement code p bs)) (with_end (entry p) bs) (failed bs) (perform f s)
  found_statement f bs s good =
      further (perform f s) (performs {got = then_statement code p bs} f bs s good)
      (λ i s1 g1. rw (laid.address p i) (here {got = with_end (entry p) bs} i s1 g1))

  -- a test of a Case, which jumps where it fits
  jumps : (f : Memory → Effect Bool) (to pc : ℕ) (bs : List Back) (s : State) (more : State → Res ℕ) → Enough bound n s
      → ((s1 : State) → Enough bound n s1 → Ends-well pc [] bs s1 (more s1))
      → Runs code bound n (done_then (f s.memory) bs s (then_jump (entry p to) pc [] bs)) (with_end (entry p) bs) (failed bs) (perform f s >>= λ b s1. if b then Got to s1 else more s1)
  jumps f to pc bs s more good k =
      bind (perform f s) (performs {got = then_jump (entry p to) pc [] bs} f bs s good)
      (λ b s1 g1. either b (here {got = with_end (entry p) bs} to s1 g1) (k s1 g1))

  -- the value that a Case tests
  then_tested : {f : Val → State → Res ℕ} (header pc : ℕ) (bs : List Back) (s : State) → slice_get code.instrs pc ≡ Some (Selected header) → slice_get code.instrs (pc + 1) ≡ Some Plain → Enough bound n s
      → ((v : Val) (s1 : State) → Enough bound n s1 → Ends-well (pc + 1 + 1) (value v ∷ []) bs s1 (f v s1))
      → Ends-well pc [] bs s (tested callee pr header s >>= f)
  then_tested header pc bs s h h1 good k =
      bind (tested callee pr header s)
      (instr (Selected header) pc [] bs s h
      (bind (perform (selected header) s) (performs {got = on_value [] bs (pc + 1)} (selected header) bs s good) (λ v s1 g1.
      instr Plain (pc + 1) (value v ∷ []) bs s1 h1 (operand_runs pr code bound n callee known laid.declared v (pc + 1 + 1) [] bs s1 g1))))
      k

  cases_runs : (ts : Tests) (header : ℕ) (of : Declared) (compare : Compare) (most none pc to : ℕ) (bs : List Back) (s : State) → UpTo code.instrs pc (tests_code (entry p) ts header of compare most none) to → Enough bound n s
      → Ends-well pc [] bs s (cases ts callee pr header of compare most none s)
  cases_runs no_tests header of compare most none pc to bs s has good = ends_here none pc bs s has.0 good
  cases_runs (test_is o at e ts) header of compare most none pc to bs s has good =
      then_tested header pc bs s has.0 has.1.0 good (λ v s1 g1.
      then_value pr code bound n callee known laid.declared e _ (pc + 1 + 1) to (value v ∷ []) bs s1 has.1.1 g1 (λ w s2 g2 mid h.
      instr (IfFits o compare of (operand_type e) (entry p most)) mid (value w ∷ value v ∷ []) bs s2 h.0
      (jumps (fits o compare of (operand_type e) v w) most (mid + 1) bs s2 (λ s3. cases ts callee pr header of compare most none s3) g2 (λ s3 g3. cases_runs ts header of compare most none (mid + 1) to bs s3 h.1 g3))))
  cases_runs (test_range a b a_at b_at ts) header of compare most none pc to bs s has good =
      then_tested header pc bs s has.0 has.1.0 good (λ v s1 g1.
      then_value pr code bound n callee known laid.declared a _ (pc + 1 + 1) to (value v ∷ []) bs s1 has.1.1 g1 (λ x s2 g2 i h1.
      then_value pr code bound n callee known laid.declared b _ i to (value x ∷ value v ∷ []) bs s2 h1 g2 (λ y s3 g3 mid h.
      instr (IfBetween compare of (operand_type a) (operand_type b) (entry p most)) mid (value y ∷ value x ∷ value v ∷ []) bs s3 h.0
      (jumps (fits_between compare of (operand_type a) (operand_type b) v x y) most (mid + 1) bs s3 (λ s4. cases ts callee pr header of compare most none s4) g3 (λ s4 g4. cases_runs ts header of compare most none (mid + 1) to bs s4 h.1 g4)))))

  -- so many waiting references are let go in the middle of a statement
  let_go_runs : (k pc : ℕ) (st : List Slot) (bs : List Back) (s : State) → Enough bound n s
      → Runs code bound n (Goes (letting k (Back-to pc st) bs s)) (then_at pc st bs) (failed bs) (callee.go k s)
  let_go_runs k pc st bs s good = all_go code bound n callee.go known.go k (Back-to pc st) bs s (failed bs) good

  resizes_run : (preserve : Bool) (rs : Resizes) (pc to : ℕ) (bs : List Back) (s : State) → UpTo code.instrs pc (resizes_code preserve rs) to → Enough bound n s
      → Runs code bound n (Goes (at pc [] bs s)) (then_at to [] bs) (failed bs) (resizes preserve rs callee pr s)
  resizes_run preserve no_resizes pc to bs s has good = subst (λ i. Runs code bound n (Goes (at pc [] bs s)) (then_at i [] bs) (failed bs) (Got tt s)) has (here {got = then_at pc [] bs} tt s good)
  resizes_run preserve (resize x bounds of rs) pc to bs s has good =
      then_place pr code bound n callee known laid.declared x _ pc to [] bs s has good (λ q s1 g1 i h1.
      first_each pr code bound n callee known laid.declared (on_args (path q ∷ []) bs) (eval_list bounds callee pr s1) (list_code bounds) _ i to _ h1 (list_counts bounds callee pr s1)
      (λ mid h. list_runs pr code bound n callee known laid.declared bounds i mid (path q ∷ []) bs s1 h g1) (λ xs s2 len g2 j h2.
      instr (Redim preserve of (length xs)) j (pushed xs (path q ∷ [])) bs s2 (h2.0 ∙ ap (λ m. Some (Redim preserve of m)) (sym len))
      (subst (λ m. Runs code bound n m (then_at to [] bs) (failed bs) (perform (redimmed pr.declared preserve of q (slot_values xs)) s2 >>= λ k s3. callee.go k s3 >>= λ u s4. resizes preserve rs callee pr s4)) (sym (all_taken xs (path q ∷ []) _))
      (subst (λ d. Runs code bound n (done_then (redimmed d preserve of q (slot_values xs) s2.memory) bs s2 (then_let_go (j + 1) [] bs)) (then_at to [] bs) (failed bs)
      (perform (redimmed pr.declared preserve of q (slot_values xs)) s2 >>= λ k s3. callee.go k s3 >>= λ u s4. resizes preserve rs callee pr s4)) (sym laid.declared)
      (bind (perform (redimmed pr.declared preserve of q (slot_values xs)) s2) (performs {got = then_let_go (j + 1) [] bs} (redimmed pr.declared preserve of q (slot_values xs)) bs s2 g2) (λ k s3 g3.
      bind (callee.go k s3) (let_go_runs k (j + 1) [] bs s3 g3) (λ u s4 g4. resizes_run preserve rs (j + 1) to bs s4 h2.1 g4)))))))

  erases_run : (xs : Arrays) (pc to : ℕ) (bs : List Back) (s : State) → UpTo code.instrs pc (erases_code xs) to → Enough bound n s
      → Runs code bound n (Goes (at pc [] bs s)) (then_at to [] bs) (failed bs) (erases xs callee pr s)
  erases_run no_arrays pc to bs s has good = subst (λ i. Runs code bound n (Goes (at pc [] bs s)) (then_at i [] bs) (failed bs) (Got tt s)) has (here {got = then_at pc [] bs} tt s good)
  erases_run (an_array x xs) pc to bs s has good =
      then_place pr code bound n callee known laid.declared x _ pc to [] bs s has good (λ q s1 g1 j h.
      instr EraseAt j (path q ∷ []) bs s1 h.0
      (subst (λ d. Runs code bound n (done_then (erased d q s1.memory) bs s1 (then_let_go (j + 1) [] bs)) (then_at to [] bs) (failed bs)
      (perform (erased pr.declared q) s1 >>= λ k s2. callee.go k s2 >>= λ u s3. erases xs callee pr s3)) (sym laid.declared)
      (bind (perform (erased pr.declared q) s1) (performs {got = then_let_go (j + 1) [] bs} (erased pr.declared q) bs s1 g1) (λ k s2 g2.
      bind (callee.go k s2) (let_go_runs k (j + 1) [] bs s2 g2) (λ u s3 g3. erases_run xs (j + 1) to bs s3 h.1 g3)))))

  -- an object is used, what that gives is dropped, and the statement ends
  then_dropped : (f : Declarations → Memory → Effect Next) (to pc : ℕ) (bs : List Back) (s : State) → slice_get code.instrs pc ≡ Some Drop → slice_get code.instrs (pc + 1) ≡ Some (Finish (entry p to)) → Enough bound n s
      → Runs code bound n (uses code false (f code.declared s.memory) pc [] bs s) (with_end (entry p) bs) (failed bs) (used callee pr (f pr.declared) s >>= λ u s1. Got to s1)
  then_dropped f to pc bs s h h1 good =
      bind (used callee pr (f pr.declared) s) (uses_run pr code bound n callee known laid.declared false f pc [] bs s good) (λ u s1 g1.
      instr Drop pc (value u ∷ []) bs s1 h (ends_here to (pc + 1) bs s1 h1 g1))

  pub action_runs : (a : Action) (i k pc to : ℕ) (bs : List Back) (s : State) → UpTo code.instrs pc (action_code (entry p) p i k a) to → Enough bound n s
      → Ends-well pc [] bs s (exec a callee pr p i k s)
  action_runs (assign x e) i k pc to bs s has good =
      then_value pr code bound n callee known laid.declared e _ pc to [] bs s has good (λ v s1 g1 mid h.
      then_place pr code bound n callee known laid.declared x _ mid to (value v ∷ []) bs s1 h g1 (λ q s2 g2 j h2.
      instr Store j (path q ∷ value v ∷ []) bs s2 h2.0 (written (assigned_at q v) k (j + 1) bs s2 h2.1.0 g2)))
  action_runs (assign_item base es e) i k pc to bs s has good =
      then_value pr code bound n callee known laid.declared e _ pc to [] bs s has good (λ v s1 g1 i1 h1.
      then_value pr code bound n callee known laid.declared base _ i1 to (value v ∷ []) bs s1 h1 g1 (λ w s2 g2 i2 h2.
      first_each pr code bound n callee known laid.declared (on_args (value w ∷ value v ∷ []) bs) (eval_list es callee pr s2) (list_code es) _ i2 to _ h2 (list_counts es callee pr s2)
      (λ mid h. list_runs pr code bound n callee known laid.declared es i2 mid (value w ∷ value v ∷ []) bs s2 h g2) (λ xs s3 len g3 j h.
      instr (StoreItem (length xs)) j (pushed xs (value w ∷ value v ∷ [])) bs s3 (h.0 ∙ ap (λ m. Some (StoreItem m)) (sym len))
      (subst (λ m. Runs code bound n m (with_end (entry p) bs) (failed bs) (perform (item_assigned w (slot_values xs) v) s3 >>= λ u s4. changes callee pr s4 >>= λ x s5. Got k s5)) (sym (all_taken xs (value w ∷ value v ∷ []) _))
      (written (item_assigned w (slot_values xs) v) k (j + 1) bs s3 h.1.0 g3)))))
  action_runs (set x e) i k pc to bs s has good =
      then_value pr code bound n callee known laid.declared e _ pc to [] bs s has good (λ v s1 g1 mid h.
      then_place pr code bound n callee known laid.declared x _ mid to (value v ∷ []) bs s1 h g1 (λ q s2 g2 j h2.
      instr SetAt j (path q ∷ value v ∷ []) bs s2 h2.0 (ends_after (set_at q v) k (j + 1) bs s2 h2.1.0 g2)))
  action_runs (assign_default x e) i k pc to bs s has good =
      then_value pr code bound n callee known laid.declared e _ pc to [] bs s has good (λ v s1 g1 i1 h1.
      then_value pr code bound n callee known laid.declared x _ i1 to (value v ∷ []) bs s1 h1 g1 (λ w s2 g2 j h.
      instr StoreDefault j (value w ∷ value v ∷ []) bs s2 h.0 (written (written_default w v) k (j + 1) bs s2 h.1.0 g2)))
  action_runs (assign_member base name es e) i k pc to bs s has good =
      then_value pr code bound n callee known laid.declared e _ pc to [] bs s has good (λ v s1 g1 i1 h1.
      then_value pr code bound n callee known laid.declared base _ i1 to (value v ∷ []) bs s1 h1 g1 (λ w s2 g2 i2 h2.
      instr (MemberThere name (given_count es)) i2 (value w ∷ value v ∷ []) bs s2 h2.0
      (subst (λ d. Runs code bound n (done_then (member_there d name (given_count es) w s2.memory) bs s2 (on_value (value w ∷ value v ∷ []) bs (i2 + 1))) (with_end (entry p) bs) (failed bs)
      (perform (member_there pr.declared name (given_count es) w) s2 >>= λ x s3. eval_list es callee pr s3 >>= λ xs s4. perform (member_assigned pr.declared name (slot_values xs) w x v) s4 >>= λ u s5. changes callee pr s5 >>= λ y s6. Got k s6)) (sym laid.declared)
      (bind (perform (member_there pr.declared name (given_count es) w) s2) (performs {got = on_value (value w ∷ value v ∷ []) bs (i2 + 1)} (member_there pr.declared name (given_count es) w) bs s2 g2) (λ x s3 g3.
      first_each pr code bound n callee known laid.declared (on_args (value x ∷ value w ∷ value v ∷ []) bs) (eval_list es callee pr s3) (list_code es) _ (i2 + 1) to _ h2.1 (list_counts es callee pr s3)
      (λ mid h. list_runs pr code bound n callee known laid.declared es (i2 + 1) mid (value x ∷ value w ∷ value v ∷ []) bs s3 h g3) (λ xs s4 len g4 j h.
      instr (StoreMember name (length xs)) j (pushed xs (value x ∷ value w ∷ value v ∷ [])) bs s4 (h.0 ∙ ap (λ m. Some (StoreMember name m)) (sym len))
      (subst (λ m. Runs code bound n m (with_end (entry p) bs) (failed bs) (perform (member_assigned pr.declared name (slot_values xs) w x v) s4 >>= λ u s5. changes callee pr s5 >>= λ y s6. Got k s6)) (sym (all_taken xs (value x ∷ value w ∷ value v ∷ []) _))
      (subst (λ d. Runs code bound n (done_then (member_assigned d name (slot_values xs) w x v s4.memory) bs s4 (then_changes code (j + 1) [] bs)) (with_end (entry p) bs) (failed bs)
      (perform (member_assigned pr.declared name (slot_values xs) w x v) s4 >>= λ u s5. changes callee pr s5 >>= λ y s6. Got k s6)) (sym laid.declared)
      (written (member_assigned pr.declared name (slot_values xs) w x v) k (j + 1) bs s4 h.1.0 g4)))))))))
  action_runs (set_member base e) i k pc to bs s has good =
      then_value pr code bound n callee known laid.declared e _ pc to [] bs s has good (λ v s1 g1 i1 h1.
      then_value pr code bound n callee known laid.declared base _ i1 to (value v ∷ []) bs s1 h1 g1 (λ w s2 g2 j h.
      instr SetMember j (value w ∷ value v ∷ []) bs s2 h.0 (ends_after (member_not_set w) k (j + 1) bs s2 h.1.0 g2)))
  action_runs (assign_through x e) i k pc to bs s has good =
      then_value pr code bound n callee known laid.declared e _ pc to [] bs s has good (λ v s1 g1 i1 h1.
      then_value pr code bound n callee known laid.declared x _ i1 to (value v ∷ []) bs s1 h1 g1 (λ w s2 g2 j h.
      instr WriteThrough j (value w ∷ value v ∷ []) bs s2 h.0 (then_dropped (λ d m. write_along d most_passed v w m) k (j + 1) bs s2 h.1.0 h.1.1.0 g2)))
  action_runs (assign_element x es e) i k pc to bs s has good =
      then_value pr code bound n callee known laid.declared e _ pc to [] bs s has good (λ v s1 g1 i1 h1.
      then_place pr code bound n callee known laid.declared x _ i1 to (value v ∷ []) bs s1 h1 g1 (λ q s2 g2 i2 h2.
      first_each pr code bound n callee known laid.declared (on_args (path q ∷ value v ∷ []) bs) (eval_list es callee pr s2) (list_code es) _ i2 to _ h2 (list_counts es callee pr s2)
      (λ mid h. list_runs pr code bound n callee known laid.declared es i2 mid (path q ∷ value v ∷ []) bs s2 h g2) (λ xs s3 len g3 j h.
      instr (LetElement (length xs)) j (pushed xs (path q ∷ value v ∷ [])) bs s3 (h.0 ∙ ap (λ m. Some (LetElement m)) (sym len))
      (subst (λ m. Runs code bound n m (with_end (entry p) bs) (failed bs) (used callee pr (let_element pr.declared q (slot_values xs) v) s3 >>= λ u s4. Got k s4)) (sym (all_taken xs (path q ∷ value v ∷ []) _))
      (then_dropped (λ d m. let_element d q (slot_values xs) v m) k (j + 1) bs s3 h.1.0 h.1.1.0 g3)))))
  action_runs (set_element x es e) i k pc to bs s has good =
      then_value pr code bound n callee known laid.declared e _ pc to [] bs s has good (λ v s1 g1 i1 h1.
      then_place pr code bound n callee known laid.declared x _ i1 to (value v ∷ []) bs s1 h1 g1 (λ q s2 g2 i2 h2.
      first_each pr code bound n callee known laid.declared (on_args (path q ∷ value v ∷ []) bs) (eval_list es callee pr s2) (list_code es) _ i2 to _ h2 (list_counts es callee pr s2)
      (λ mid h. list_runs pr code bound n callee known laid.declared es i2 mid (path q ∷ value v ∷ []) bs s2 h g2) (λ xs s3 len g3 j h.
      instr (SetElement (length xs)) j (pushed xs (path q ∷ value v ∷ [])) bs s3 (h.0 ∙ ap (λ m. Some (SetElement m)) (sym len))
      (subst (λ m. Runs code bound n m (with_end (entry p) bs) (failed bs) (used callee pr (element_set pr.declared q (slot_values xs) v) s3 >>= λ u s4. Got k s4)) (sym (all_taken xs (path q ∷ value v ∷ []) _))
      (then_dropped (λ d m. element_set d q (slot_values xs) v m) k (j + 1) bs s3 h.1.0 h.1.1.0 g3)))))
  action_runs (assign_late base name by given e) i k pc to bs s has good =
      let gs = which_given given in
      then_value pr code bound n callee known laid.declared e _ pc to [] bs s has good (λ v s1 g1 i1 h1.
      then_value pr code bound n callee known laid.declared base _ i1 to (value v ∷ []) bs s1 h1 g1 (λ w s2 g2 i2 h2.
      instr (FindLate assigning name by gs) i2 (value w ∷ value v ∷ []) bs s2 h2.0
      (bind (used callee pr (late_there pr.declared assigning name by gs w) s2) (uses_run pr code bound n callee known laid.declared false (λ d m. late_there d assigning name by gs w m) (i2 + 1) (value w ∷ value v ∷ []) bs s2 g2) (λ x s3 g3.
      first_each pr code bound n callee known laid.declared (on_args (value x ∷ value w ∷ value v ∷ []) bs) (eval_given given assigning name by gs 0 w callee pr s3) (given_code given assigning name by gs 0) _ (i2 + 1) to _ h2.1 (given_counts given assigning name by gs 0 w callee pr s3)
      (λ mid h. given_runs pr code bound n callee known laid.declared given assigning name by gs 0 (i2 + 1) mid (value x ∷ value w ∷ value v ∷ []) bs s3 h g3) (λ xs s4 len g4 j h.
      instr (LetLate name by gs) j (pushed xs (value x ∷ value w ∷ value v ∷ [])) bs s4 h.0
      (subst (λ m. Runs code bound n m (with_end (entry p) bs) (failed bs) (used callee pr (late_let pr.declared name by gs w x (map received xs) v) s4 >>= λ u s5. Got k s5)) (sym (counted_taken xs (value x ∷ value w ∷ value v ∷ []) (length gs) _ len))
      (then_dropped (λ d m. late_let d name by gs w x (map received xs) v m) k (j + 1) bs s4 h.1.0 h.1.1.0 g4)))))))
  action_runs (set_late base name by given e) i k pc to bs s has good =
      let gs = which_given given in
      then_value pr code bound n callee known laid.declared e _ pc to [] bs s has good (λ v s1 g1 i1 h1.
      then_value pr code bound n callee known laid.declared base _ i1 to (value v ∷ []) bs s1 h1 g1 (λ w s2 g2 i2 h2.
      instr (FindLate setting name by gs) i2 (value w ∷ value v ∷ []) bs s2 h2.0
      (bind (used callee pr (late_there pr.declared setting name by gs w) s2) (uses_run pr code bound n callee known laid.declared false (λ d m. late_there d setting name by gs w m) (i2 + 1) (value w ∷ value v ∷ []) bs s2 g2) (λ x s3 g3.
      first_each pr code bound n callee known laid.declared (on_args (value x ∷ value w ∷ value v ∷ []) bs) (eval_given given setting name by gs 0 w callee pr s3) (given_code given setting name by gs 0) _ (i2 + 1) to _ h2.1 (given_counts given setting name by gs 0 w callee pr s3)
      (λ mid h. given_runs pr code bound n callee known laid.declared given setting name by gs 0 (i2 + 1) mid (value x ∷ value w ∷ value v ∷ []) bs s3 h g3) (λ xs s4 len g4 j h.
      instr (SetLate name by gs) j (pushed xs (value x ∷ value w ∷ value v ∷ [])) bs s4 h.0
      (subst (λ m. Runs code bound n m (with_end (entry p) bs) (failed bs) (used callee pr (late_set pr.declared name by gs w x (map received xs) v) s4 >>= λ u s5. Got k s5)) (sym (counted_taken xs (value x ∷ value w ∷ value v ∷ []) (length gs) _ len))
      (then_dropped (λ d m. late_set d name by gs w x (map received xs) v m) k (j + 1) bs s4 h.1.0 h.1.1.0 g4)))))))
  action_runs (evaluate e) i k pc to bs s has good =
      then_value pr code bound n callee known laid.declared e _ pc to [] bs s has good (λ v s1 g1 mid h.
      instr Drop mid (value v ∷ []) bs s1 h.0 (ends_here k (mid + 1) bs s1 h.1.0 g1))
  action_runs (let_property q args e of) i k pc to bs s has good =
      then_value pr code bound n callee known laid.declared e _ pc to [] bs s has good (λ v s1 g1 mid h.
      then_args pr code bound n callee known laid.declared args _ Lift mid to (value v ∷ []) bs s1 h g1 (λ xs s2 len g2 j h2.
      subst (λ m. Runs code bound n m (with_end (entry p) bs) (failed bs) (operand_value callee pr v s2 >>= λ w s3. perform (fitted of w) s3 >>= λ x s4. callee.call q empty (xs ++ value x ∷ []) s4 >>= λ r s5. Got k s5)) (sym (all_taken xs (value v ∷ []) _))
      (instr Plain (j + 1) (value v ∷ pushed xs []) bs s2 h2.0
      (bind (operand_value callee pr v s2) (operand_runs pr code bound n callee known laid.declared v (j + 1 + 1) (pushed xs []) bs s2 g2) (λ w s3 g3.
      instr (Fit of) (j + 1 + 1) (value w ∷ pushed xs []) bs s3 h2.1.0
      (bind (perform (fitted of w) s3) (performs {got = on_value (pushed xs []) bs (j + 1 + 1 + 1)} (fitted of w) bs s3 g3) (λ x s4 g4.
      instr (Call q (suc (length xs))) (j + 1 + 1 + 1) (value x ∷ pushed xs []) bs s4 (h2.1.1.0 ∙ ap (λ m. Some (Call q (suc m))) (sym len))
      (subst (λ m. Runs code bound n m (with_end (entry p) bs) (failed bs) (callee.call q empty (xs ++ value x ∷ []) s4 >>= λ r s5. Got k s5)) (sym (one_more_taken xs [] (value x) _))
      (bind (callee.call q empty (xs ++ value x ∷ []) s4) (known.call q empty (xs ++ value x ∷ []) [] (j + 1 + 1 + 1 + 1) bs s4 g4) (λ r s5 g5.
      instr Drop (j + 1 + 1 + 1 + 1) (value r ∷ []) bs s5 h2.1.1.1.0 (ends_here k (j + 1 + 1 + 1 + 1 + 1) bs s5 h2.1.1.1.1.0 g5)))))))))))
  action_runs (set_property q args e of) i k pc to bs s has good =
      then_value pr code bound n callee known laid.declared e _ pc to [] bs s has good (λ v s1 g1 mid h.
      then_args pr code bound n callee known laid.declared args _ Lift mid to (value v ∷ []) bs s1 h g1 (λ xs s2 len g2 j h2.
      subst (λ m. Runs code bound n m (with_end (entry p) bs) (failed bs) (perform (set_object of v) s2 >>= λ x s3. callee.call q empty (xs ++ value x ∷ []) s3 >>= λ r s4. Got k s4)) (sym (all_taken xs (value v ∷ []) _))
      (instr (FitObject of) (j + 1) (value v ∷ pushed xs []) bs s2 h2.0
      (bind (perform (set_object of v) s2) (performs {got = on_value (pushed xs []) bs (j + 1 + 1)} (set_object of v) bs s2 g2) (λ x s3 g3.
      instr (Call q (suc (length xs))) (j + 1 + 1) (value x ∷ pushed xs []) bs s3 (h2.1.0 ∙ ap (λ m. Some (Call q (suc m))) (sym len))
      (subst (λ m. Runs code bound n m (with_end (entry p) bs) (failed bs) (callee.call q empty (xs ++ value x ∷ []) s3 >>= λ r s4. Got k s4)) (sym (one_more_taken xs [] (value x) _))
      (bind (callee.call q empty (xs ++ value x ∷ []) s3) (known.call q empty (xs ++ value x ∷ []) [] (j + 1 + 1 + 1) bs s3 g3) (λ r s4 g4.
      instr Drop (j + 1 + 1 + 1) (value r ∷ []) bs s4 h2.1.1.0 (ends_here k (j + 1 + 1 + 1 + 1) bs s4 h2.1.1.1.0 g4)))))))))
  action_runs (let_method base q args e of) i k pc to bs s has good =
      then_value pr code bound n callee known laid.declared e _ pc to [] bs s has good (λ v s1 g1 i1 h1.
      then_value pr code bound n callee known laid.declared base _ i1 to (value v ∷ []) bs s1 h1 g1 (λ b s2 g2 i2 h2.
      instr ObjectThere i2 (value b ∷ value v ∷ []) bs s2 h2.0
      (bind (perform (object_there b) s2) (performs {got = on_value (value v ∷ []) bs (i2 + 1)} (object_there b) bs s2 g2) (λ w s3 g3.
      then_args pr code bound n callee known laid.declared args _ (λ m. Lift (suc m)) (i2 + 1) to (value w ∷ value v ∷ []) bs s3 h2.1 g3 (λ xs s4 len g4 j h.
      subst (λ m. Runs code bound n m (with_end (entry p) bs) (failed bs) (operand_value callee pr v s4 >>= λ x s5. perform (fitted of x) s5 >>= λ y s6. callee.call q w (xs ++ value y ∷ []) s6 >>= λ r s7. Got k s7)) (sym (all_taken (value w ∷ xs) (value v ∷ []) _))
      (instr Plain (j + 1) (value v ∷ pushed xs (value w ∷ [])) bs s4 h.0
      (bind (operand_value callee pr v s4) (operand_runs pr code bound n callee known laid.declared v (j + 1 + 1) (pushed xs (value w ∷ [])) bs s4 g4) (λ x s5 g5.
      instr (Fit of) (j + 1 + 1) (value x ∷ pushed xs (value w ∷ [])) bs s5 h.1.0
      (bind (perform (fitted of x) s5) (performs {got = on_value (pushed xs (value w ∷ [])) bs (j + 1 + 1 + 1)} (fitted of x) bs s5 g5) (λ y s6 g6.
      instr (CallOf q (suc (length xs))) (j + 1 + 1 + 1) (value y ∷ pushed xs (value w ∷ [])) bs s6 (h.1.1.0 ∙ ap (λ m. Some (CallOf q (suc m))) (sym len))
      (subst (λ m. Runs code bound n m (with_end (entry p) bs) (failed bs) (callee.call q w (xs ++ value y ∷ []) s6 >>= λ r s7. Got k s7)) (sym (one_more_taken xs (value w ∷ []) (value y) _))
      (bind (callee.call q w (xs ++ value y ∷ []) s6) (known.call q w (xs ++ value y ∷ []) [] (j + 1 + 1 + 1 + 1) bs s6 g6) (λ r s7 g7.
      instr Drop (j + 1 + 1 + 1 + 1) (value r ∷ []) bs s7 h.1.1.1.0 (ends_here k (j + 1 + 1 + 1 + 1 + 1) bs s7 h.1.1.1.1.0 g7))))))))))))))
  action_runs (set_method base q args e of) i k pc to bs s has good =
      then_value pr code bound n callee known laid.declared e _ pc to [] bs s has good (λ v s1 g1 i1 h1.
      then_value pr code bound n callee known laid.declared base _ i1 to (value v ∷ []) bs s1 h1 g1 (λ b s2 g2 i2 h2.
      instr ObjectThere i2 (value b ∷ value v ∷ []) bs s2 h2.0
      (bind (perform (object_there b) s2) (performs {got = on_value (value v ∷ []) bs (i2 + 1)} (object_there b) bs s2 g2) (λ w s3 g3.
      then_args pr code bound n callee known laid.declared args _ (λ m. Lift (suc m)) (i2 + 1) to (value w ∷ value v ∷ []) bs s3 h2.1 g3 (λ xs s4 len g4 j h.
      subst (λ m. Runs code bound n m (with_end (entry p) bs) (failed bs) (perform (set_object of v) s4 >>= λ y s5. callee.call q w (xs ++ value y ∷ []) s5 >>= λ r s6. Got k s6)) (sym (all_taken (value w ∷ xs) (value v ∷ []) _))
      (instr (FitObject of) (j + 1) (value v ∷ pushed xs (value w ∷ [])) bs s4 h.0
      (bind (perform (set_object of v) s4) (performs {got = on_value (pushed xs (value w ∷ [])) bs (j + 1 + 1)} (set_object of v) bs s4 g4) (λ y s5 g5.
      instr (CallOf q (suc (length xs))) (j + 1 + 1) (value y ∷ pushed xs (value w ∷ [])) bs s5 (h.1.0 ∙ ap (λ m. Some (CallOf q (suc m))) (sym len))
      (subst (λ m. Runs code bound n m (with_end (entry p) bs) (failed bs) (callee.call q w (xs ++ value y ∷ []) s5 >>= λ r s6. Got k s6)) (sym (one_more_taken xs (value w ∷ []) (value y) _))
      (bind (callee.call q w (xs ++ value y ∷ []) s5) (known.call q w (xs ++ value y ∷ []) [] (j + 1 + 1 + 1) bs s5 g5) (λ r s6 g6.
      instr Drop (j + 1 + 1 + 1) (value r ∷ []) bs s6 h.1.1.0 (ends_here k (j + 1 + 1 + 1 + 1) bs s6 h.1.1.1.0 g6))))))))))))
  action_runs (raise_event e args) i k pc to bs s has good =
      then_args pr code bound n callee known laid.declared args _ (RaiseEvent e) pc to [] bs s has good (λ xs s1 len g1 mid h.
      let ls : List Linked = sinks (source_of (top s1.memory).me) s1.memory in
      subst (λ m. Runs code bound n m (with_end (entry p) bs) (failed bs) (delivered ls callee pr e xs s1 >>= λ u s2. Got k s2)) (sym (all_taken xs [] _))
      (bind (delivered ls callee pr e xs s1) (delivered_runs pr code bound n callee known laid.declared e xs ls (mid + 1) [] bs s1 g1) (λ u s2 g2. ends_here k (mid + 1) bs s2 h.0 g2)))
  action_runs (print ps ends) i k pc to bs s has good =
      then_prints pr code bound n callee known laid.declared ps _ (Show ends) pc to [] bs s has good (λ xs s1 g1 mid h.
      subst (λ m. Runs code bound n m (with_end (entry p) bs) (failed bs) (perform (printed ends xs) s1 >>= λ u s2. Got k s2)) (sym (all_taken xs [] _))
      (ends_after (printed ends xs) k (mid + 1) bs s1 h.0 g1))
  action_runs (raise args) i k pc to bs s has good =
      then_args pr code bound n callee known laid.declared args _ Throw pc to [] bs s has good (λ xs s1 len g1 mid h.
      subst (λ m. Runs code bound n m (with_end (entry p) bs) (failed bs) (raise_error (raised_by xs s1.memory) s1)) (sym (all_taken xs [] _))
      (raises (raised_by xs s1.memory) bs s1 g1))
  action_runs (test sense e x y) i k pc to bs s has good =
      then_value pr code bound n callee known laid.declared e _ pc to [] bs s has good (λ v s1 g1 mid h.
      instr (Branch sense (entry p x) (entry p y)) mid (value v ∷ []) bs s1 h.0 (answered_way (condition sense v) x y bs s1 g1))
  action_runs (go_to x) i k pc to bs s has good = ends_here x pc bs s has.0 good
  action_runs (for_to x compare a b c last_at step_at most none) i k pc to bs s has good =
      instr (LoopOff i) pc [] bs s has.0
      (bind (perform (loop_off i) s) (performs {got = then_at (pc + 1) [] bs} (loop_off i) bs s good) (λ u s1 g1.
      then_value pr code bound n callee known laid.declared a _ (pc + 1) to [] bs s1 has.1 g1 (λ start s2 g2 mid2 h2.
      then_value pr code bound n callee known laid.declared b _ mid2 to (value start ∷ []) bs s2 h2 g2 (λ end s3 g3 mid3 h3.
      then_value pr code bound n callee known laid.declared c _ mid3 to (value end ∷ value start ∷ []) bs s3 h3 g3 (λ step s4 g4 mid4 h4.
      instr (LoopOn x i compare (operand_type b) (operand_type c)) mid4 (value step ∷ value end ∷ value start ∷ []) bs s4 h4.0
      (decided (loop_on x i compare (operand_type b) (operand_type c) start end step) most none (mid4 + 1) bs s4 h4.1.0 g4))))))
  action_runs (next x header most) i k pc to bs s has good = instr (NextRound x header) pc [] bs s has.0 (decided (next_round x header) most k (pc + 1) bs s has.1.0 good)
  action_runs (for_each x e most none) i k pc to bs s has good =
      instr (EachOff i) pc [] bs s has.0
      (bind (perform (each_off i) s) (performs {got = then_at (pc + 1) [] bs} (each_off i) bs s good) (λ u s1 g1.
      then_value pr code bound n callee known laid.declared e _ (pc + 1) to [] bs s1 has.1 g1 (λ v s2 g2 j h.
      instr (EachOn i) j (value v ∷ []) bs s2 h.0
      (bind (perform (each_begun i v) s2) (performs {got = then_let_go (j + 1) [] bs} (each_begun i v) bs s2 g2) (λ l s3 g3.
      bind (callee.go l s3) (let_go_runs l (j + 1) [] bs s3 g3) (λ w s4 g4.
      instr (NextItem x i) (j + 1) [] bs s4 h.1.0 (decided (each_next x i) most none (j + 1 + 1) bs s4 h.1.1.0 g4)))))))
  action_runs (next_each x header most) i k pc to bs s has good = instr (NextItem x header) pc [] bs s has.0 (decided (each_next x header) most k (pc + 1) bs s has.1.0 good)
  action_runs (exit_each header x) i k pc to bs s has good = instr (DropKept header) pc [] bs s has.0 (ends_after (block_over header) x (pc + 1) bs s has.1.0 good)
  action_runs (select e x) i k pc to bs s has good =
      then_value pr code bound n callee known laid.declared e _ pc to [] bs s has good (λ v s1 g1 mid h.
      instr (Keep i) mid (value v ∷ []) bs s1 h.0 (ends_after (keep i v) x (mid + 1) bs s1 h.1.0 g1))
  action_runs (case_of ts header of compare most none) i k pc to bs s has good = cases_runs ts header of compare most none pc to bs s has good
  action_runs (redim preserve rs) i k pc to bs s has good =
      first pr code bound n callee known laid.declared (λ mid. then_at mid [] bs) (resizes preserve rs callee pr s) (resizes_code preserve rs) _ pc to _ has
      (λ mid h. resizes_run preserve rs pc mid bs s h good) (λ u s1 g1 mid h. ends_here k mid bs s1 h.0 g1)
  action_runs (erase xs) i k pc to bs s has good =
      first pr code bound n callee known laid.declared (λ mid. then_at mid [] bs) (erases xs callee pr s) (erases_code xs) _ pc to _ has
      (λ mid h. erases_run xs pc mid bs s h good) (λ u s1 g1 mid h. ends_here k mid bs s1 h.0 g1)
  action_runs (with_place x) i k pc to bs s has good =
      then_place pr code bound n callee known laid.declared x _ pc to [] bs s has good (λ q s1 g1 mid h.
      instr (KeepPath i) mid (path q ∷ []) bs s1 h.0 (ends_after (keep_path i q) k (mid + 1) bs s1 h.1.0 g1))
  action_runs (with_value e) i k pc to bs s has good =
      then_value pr code bound n callee known laid.declared e _ pc to [] bs s has good (λ v s1 g1 mid h.
      instr (Keep i) mid (value v ∷ []) bs s1 h.0 (ends_after (keep i v) k (mid + 1) bs s1 h.1.0 g1))
  action_runs (end_with header) i k pc to bs s has good = instr (DropKept header) pc [] bs s has.0 (ends_after (block_over header) k (pc + 1) bs s has.1.0 good)
  action_runs (go_sub x) i k pc to bs s has good = instr (PutReturn k) pc [] bs s has.0 (ends_after (gone_sub k) x (pc + 1) bs s has.1.0 good)
  action_runs return_sub i k pc to bs s has good = instr (TakeReturn p) pc [] bs s has.0 (found_statement returned_sub bs s good)
  action_runs (exit_to x) i k pc to bs s has good = instr ErrOff pc [] bs s has.0 (ends_after err_off x (pc + 1) bs s has.1.0 good)
  action_runs (on_error h) i k pc to bs s has good = instr (SetPolicy (policy_of h)) pc [] bs s has.0 (ends_after (policy_on (policy_of h)) k (pc + 1) bs s has.1.0 good)
  action_runs end_handler i k pc to bs s has good = instr HandlerOff pc [] bs s has.0 (ends_after handler_off k (pc + 1) bs s has.1.0 good)
  action_runs clear_err i k pc to bs s has good = instr ErrOff pc [] bs s has.0 (ends_after err_off k (pc + 1) bs s has.1.0 good)
  action_runs resume_again i k pc to bs s has good = instr (Again p) pc [] bs s has.0 (found_statement (resumed kind.Again 0) bs s good)
  action_runs resume_next i k pc to bs s has good =
      instr (Behind p) pc [] bs s has.0
      (rw (laid.next p (failed_statement s.memory)) (found_statement (resumed kind.Next (next_of pr p (failed_statement s.memory))) bs s good))
  action_runs (resume_at x) i k pc to bs s has good = instr (Resumes p x) pc [] bs s has.0 (found_statement (resumed (kind.Label (record { 0 = x })) 0) bs s good)
  action_runs stop i k pc to bs s has good = instr StopHere pc [] bs s has.0 (ends_after stop_here k (pc + 1) bs s has.1.0 good)
  action_runs end_run i k pc to bs s has good = instr Halt pc [] bs s has.0 (over Ended s)
