-- What a project does. A result is a value with the state that is left, an error on its way, or the end of the run;
-- before it may stand events, which are told first, and turns, which the bound on turns may refuse.
use Rattle.std.specs.Prelude.{ℕ, zero, suc, pos, ◌+◌, nat_lt, List, [], ◌∷◌, ◌++◌, length, map, Bool, true, false, Option, Some, None, if◌then◌else◌, slice_index_or}
use Rattle.vba_values.specs.declared.object.ObjId.{ObjId}
use Rattle.vba_values.specs.declared.object.ObjRef.TheVariants.{Heap, Host}
use Rattle.vba_values.specs.declared.types.Compare.{Compare}
use Rattle.vba_values.specs.declared.types.Compare.TheVariants.{Binary}
use Rattle.vba_lib.specs.declared.function.LibraryFunction.TheVariants as function
use Rattle.vba_values.specs.Types.{Declared}
use Rattle.vba_values.specs.Val.{Val, empty, missing, object}
use Rattle.error_frames.specs.declared.frame.ResumeKind.TheVariants as kind
use Rattle.error_frames.specs.declared.frame.Taken.{Taken}
use Rattle.error_frames.specs.declared.frame.Taken.TheVariants as taken
use Rattle.bound_project.specs.Expressions.{Expr, expr, Node, not_given, constant, load, load_made, element_value, field_value, unary, binary, call, err_value, default_of, default_if_any, enumerated, same, is_type, library, bound_of, host_object, active_sheet, ByName, host_member, named_member, this, new_object, method, late_member, late_item, Lvalue, variable, item, element, field, kept_place, object_field, as_new, element_along, late_field, value_place, Args, no_args, by_place, by_copy, by_default, by_list, in_order, Given, none_given, place_given, expr_given, Exprs, no_exprs, also, given_count, Prints, no_prints, shown, zone, operand_type, marked}
use Rattle.bound_project.specs.Statements.{Resizes, no_resizes, resize, Arrays, no_arrays, an_array, Tests, no_tests, test_is, test_range, Action, assign, assign_item, set, assign_default, assign_member, set_member, assign_through, assign_element, set_element, assign_late, set_late, evaluate, let_property, set_property, let_method, set_method, raise_event, print, raise, test, go_to, for_to, next, for_each, next_each, exit_each, select, case_of, redim, erase, with_place, with_value, end_with, go_sub, return_sub, exit_to, on_error, end_handler, clear_err, resume_again, resume_next, resume_at, stop, end_run, Statement}
use Rattle.sheet_host.specs.Books.{Sheets}
use Rattle.vba_events.specs.declared.linked.Linked.{Linked}
use Rattle.sheet_host.specs.declared.area.Area.{Area}
use Rattle.bound_project.specs.Project.{Project, class_at, statement_at, next_of, first_values}
use Rattle.vba_meaning.specs.Paths.{Path, field_path}
use Rattle.vba_meaning.specs.Memory.{Error, Ending, Ended, Faulted, Stopped, Going, Slot, value, path, Memory, Object, top, at_statement, frame_left, path_of, result, received, entered, error_here, number_or, opening, object_at}
use Rattle.vba_meaning.specs.References.{objects_in, objects_in_values, is_last, hold, next_waiting, taken_off, let_held, held_by, let_frame, as_told, gone, closed}
use Rattle.vba_meaning.specs.Effects.{Event, Raised, Term, Effect, Fine, Bad-at, Out, Tell, operated, operated_alone, fitted, plain, condition, read_path, lent, unlent, slot_values, packed, reordered, startup_slots, show_value, printed, loop_off, loop_on, next_round, keep, selected, fits, fits_between, gone_sub, returned_sub, policy_of, err_off, policy_on, handler_off, failed_statement, resumed, taken_by, with_taken, raised_by, err_of, set_object, stop_here}
use Rattle.vba_meaning.specs.Events.{source_of, sinks, due, lent_again, raise_over, change, sheet_of, target_of, no_change}
use Rattle.vba_meaning.specs.Arrays.{part_of, redimmed, erased, keep_path, block_over, dot_at, each_off, each_begun, each_next}
use Rattle.vba_meaning.specs.Objects.{compared, typed_as, set_at, made, own_object, object_there, field_in, made_for, initialize_of, stored_made, made_at}
use Rattle.vba_meaning.specs.Host.{first_sheet, item_by, member_there, member_called, is_counted, object_member, is_raise, error_given, written_default, place_at, assigned_at, item_assigned, member_assigned, member_not_set, path_to}
use Rattle.vba_meaning.specs.ByName.{named_there, in_parameter_order}
use Rattle.vba_meaning.specs.Library.{library_called, bound_at, plain_if_any}
use Rattle.vba_meaning.specs.Defaults.{Next, gives, then_call, is_instance, counted_operand, counted_if_any, enumerator_of, index_along, has_array, element_by, item_along, write_along, tasks_next, most_passed, most_calls}
use Rattle.vba_meaning.specs.LateBound.{Use, reading, assigning, setting, which_given, public_variable, late_there, value_bound, lends_place, place_copied, late_called, host_arguments, let_element, element_set, late_let, late_set}

-- the memory, and how many turns were begun
pub record State : Type 0 where
  pub memory : Memory
  pub begun : ℕ

pub data Res (A : Type 0) : Type 0 where
  Got : A → State → Res A
  Failed : Error → State → Res A
  Over : Ending → State → Res A
  -- these events are told, and then
  Told : List Event → Res A → Res A
  -- a turn is due in this state, and then
  Turn : State → Res A → Res A

abbrev pub with_memory : State → Memory → State
with_memory s m = record s { memory = m }

abbrev pub turned : State → State
turned s = record s { begun = s.begun + 1 }

-- what follows a value, and what follows an error
abbrev pub catch : {A B : Type 0} → Res A → (A → State → Res B) → (Error → State → Res B) → Res B
catch (Got x s) f g = f x s
catch (Failed e s) f g = g e s
catch (Over x s) f g = Over x s
catch (Told es r) f g = Told es (catch r f g)
catch (Turn s r) f g = Turn s (catch r f g)

infixl 10 ◌>>=◌
abbrev pub ◌>>=◌ : {A B : Type 0} → Res A → (A → State → Res B) → Res B
r >>= f = catch r f (λ e s. Failed e s)

-- a statement begins, a procedure is entered, an object's end begins or an error is raised
abbrev pub turn : {A : Type 0} → State → (State → Res A) → Res A
turn s go = Turn s (go (turned s))

-- an error is raised: a turn, and then its event ([MS-VBAL] 5.4.4)
abbrev pub raise_error : {A : Type 0} → Error → State → Res A
raise_error e s = turn s (λ s1. Told (Raised e.number ∷ []) (Failed e s1))

abbrev pub done_by : {A : Type 0} → Effect A → State → Res A
done_by (Fine v m) s = Got v (with_memory s m)
done_by (Bad-at n m) s = raise_error (error_here n m) (with_memory s m)
done_by (Out w m) s = Over (Stopped w (top m).procedure (top m).statement) (with_memory s m)
done_by (Tell es e) s = Told es (done_by e s)

-- what is done in one go
abbrev pub perform : {A : Type 0} → (Memory → Effect A) → State → Res A
perform f s = done_by (f s.memory) s

-- ---- expressions ([MS-VBAL] 5.6)

-- a call of a procedure with its Me, and the letting go of so many waiting references
pub record Callee : Type 0 where
  pub call : (procedure : ℕ) → Val → List Slot → State → Res Val
  pub go : ℕ → State → Res (Unit {0})

-- a value that the running statement holds from now on
abbrev pub given : Val → State → Res Val
given v s = Got v (with_memory s (hold v s.memory))

-- ---- events ([MS-VBAL] 5.4.2.20)

-- a handler is called with the object that has the variable as Me, where one is due
abbrev pub handled : Callee → List Slot → (sink : ObjId) → Option ℕ → State → Res (Unit {0})
handled callee xs sink None s = Got tt s
handled callee xs sink (Some p) s = callee.call p (object (Heap sink)) xs (with_memory s (lent_again xs s.memory)) >>= λ v s1. Got tt s1

-- an event is raised: each of the links that were taken is asked for its handler once those before it have returned, and
-- all have the same arguments
abbrev pub delivered : List Linked → Callee → Project → (event : ℕ) → List Slot → State → Res (Unit {0})
delivered [] callee pr e xs s = Got tt (with_memory s (raise_over xs s.memory))
delivered (l ∷ ls) callee pr e xs s = handled callee xs l.sink (due pr.declared e l s.memory) s >>= λ u s1. delivered ls callee pr e xs s1

-- an area was written, and the handlers of its sheet's Change are called
abbrev pub change_told : Option Area → Callee → Project → State → Res (Unit {0})
change_told None callee pr s = Got tt s
change_told (Some a) callee pr s = delivered (sinks (sheet_of a) s.memory) callee pr change (target_of a) (with_memory s (no_change s.memory))

abbrev pub changes : Callee → Project → State → Res (Unit {0})
changes callee pr s = change_told s.memory.changed callee pr s

-- what a member gives, with what was read when its use began; Err.Raise gives nothing but raises an error, and what
-- leaves a Collection is let go at once
abbrev pub member_used : Callee → Project → (name : List ℕ) → (base begun : Val) → List Val → State → Res Val
member_used callee pr name base begun vs s =
    if is_raise name base then (perform (error_given vs) s >>= λ e s1. raise_error e s1)
    else if is_counted base then (perform (object_member name vs base) s >>= λ r s1. callee.go r.1 s1 >>= λ u s2. Got r.0 s2)
    else (perform (member_called pr.declared name vs base begun) s >>= λ v s1. changes callee pr s1 >>= λ u s2. Got v s2)

-- a use of an object goes on: what it comes to is given, once Change is told of an area that was written, or a procedure
-- is called and the rest is done with its result
abbrev pub goes_on : (most : ℕ) → Callee → Project → Next → State → Res Val
goes_on k callee pr (gives v) s = changes callee pr s >>= λ u s1. Got v s1
goes_on zero callee pr (then_call p self xs ts) s = raise_error (error_here 450 s.memory) s
goes_on (suc k) callee pr (then_call p self xs ts) s =
    callee.call p self xs s >>= λ v s1. perform (tasks_next pr.declared ts v) s1 >>= λ n s2. goes_on k callee pr n s2

abbrev pub used : Callee → Project → (Memory → Effect Next) → State → Res Val
used callee pr f s = perform f s >>= λ n s1. goes_on most_calls callee pr n s1

-- an operand: an object gives way to the value of its default member, which may be a procedure of its class
abbrev pub operand_value : Callee → Project → Val → State → Res Val
operand_value callee pr v s = if is_counted v then used callee pr (counted_operand pr.declared v) s else perform (plain v) s

abbrev pub operand_if_any : Callee → Project → Val → State → Res Val
operand_if_any callee pr v s = if is_counted v then used callee pr (counted_if_any pr.declared v) s else perform (plain_if_any v) s

-- a member that was found in the run is read or called, with what its arguments index where they do
abbrev pub late_used : Callee → Project → (name : List ℕ) → ByName → List Bool → (base begun : Val) → List Slot → State → Res Val
late_used callee pr name by gs v w xs s =
    if is_instance v s.memory then used callee pr (late_called pr.declared name by gs v w (map received xs)) s
    else member_used callee pr name v w (host_arguments v name by (map received xs)) s

-- a place is lent, or what is there is copied
abbrev pub place_bound : Callee → Project → Use → (name : List ℕ) → ByName → List Bool → (argument : ℕ) → (base : Val) → Path → State → Res Path
place_bound callee pr aim name by gs i base q s =
    if lends_place pr.declared aim name by gs i base q s.memory then (perform (lent q) s >>= λ u s1. Got q s1)
    else (used callee pr (place_copied pr.declared aim name by gs i base q) s >>= λ v s1. Got (path_to v) s1)

-- what arguments lead to from a place: an element of an array, or what default members give, which no variable has
abbrev pub place_along : Callee → Project → Path → List Val → State → Res Path
place_along callee pr q vs s =
    if has_array q s.memory then perform (element_by q vs) s else (used callee pr (item_along pr.declared q vs) s >>= λ v s1. Got (path_to v) s1)

-- a new object is wholly made before it is there: its Class_Initialize has run
abbrev pub initialized : Callee → Option ℕ → Val → State → Res Val
initialized callee None v s = Got v s
initialized callee (Some p) v s = callee.call p v [] s >>= λ r s1. Got v s1

abbrev mutual
  -- operands from left to right, and always both
  pub eval : Expr → Callee → Project → State → Res Val
  eval (expr node place of operand) callee pr s = eval_node node callee pr s

  pub eval_node : Node → Callee → Project → State → Res Val
  eval_node not_given callee pr s = Got missing s
  eval_node (constant v) callee pr s = Got v s
  eval_node (load x) callee pr s = eval_place x callee pr s >>= λ p s1. perform (read_path p) s1
  -- an object that is made is there once its Class_Initialize has run
  eval_node (load_made x) callee pr s =
      eval_place x callee pr s >>= λ q s1. perform (made_for pr.declared q) s1 >>= λ v s2. initialized callee (initialize_of pr.declared q v) v s2 >>= λ w s3.
      perform (stored_made q w) s3 >>= λ u s4. perform (read_path q) s4
  eval_node (element_value e es) callee pr s = eval e callee pr s >>= λ v s1. eval_list es callee pr s1 >>= λ xs s2. perform (item_by v (slot_values xs)) s2
  eval_node (field_value e i) callee pr s = eval e callee pr s >>= λ v s1. perform (part_of i v) s1
  eval_node (unary o a) callee pr s = eval a callee pr s >>= λ v s1. perform (operated_alone o (operand_type a) v) s1
  eval_node (binary o compare a b) callee pr s =
      eval a callee pr s >>= λ v s1. eval b callee pr s1 >>= λ w s2. perform (operated o compare (operand_type a) (operand_type b) v w) s2
  eval_node (call p args) callee pr s = evals args callee pr s >>= λ xs s1. callee.call p empty xs s1
  eval_node (err_value member) callee pr s = Got (err_of pr.declared member s.memory.err) s
  eval_node (default_of e) callee pr s = eval e callee pr s >>= λ v s1. operand_value callee pr v s1
  eval_node (default_if_any e) callee pr s = eval e callee pr s >>= λ v s1. operand_if_any callee pr v s1
  eval_node (enumerated e) callee pr s = eval e callee pr s >>= λ v s1. used callee pr (enumerator_of pr.declared v) s1
  eval_node (host_object reference) callee pr s = Got (object (Host reference)) s
  eval_node active_sheet callee pr s = perform first_sheet s
  -- whether there is such a member is asked before its arguments are evaluated, and what they index is read
  eval_node (host_member e name es) callee pr s =
      eval e callee pr s >>= λ v s1. perform (member_there pr.declared name (given_count es) v) s1 >>= λ w s2. eval_list es callee pr s2 >>= λ xs s3.
      member_used callee pr name v w (slot_values xs) s3
  eval_node (named_member e name by es) callee pr s =
      eval e callee pr s >>= λ v s1. perform (named_there name by (given_count es) v) s1 >>= λ w s2. eval_list es callee pr s2 >>= λ xs s3.
      member_used callee pr name v w (in_parameter_order v name by (slot_values xs)) s3
  eval_node this callee pr s = perform own_object s
  eval_node (new_object c) callee pr s = perform (made pr.declared c) s >>= λ v s1. initialized callee (class_at pr.declared c).initialize v s1
  -- that there is an object is asked before the arguments are evaluated
  eval_node (method e p args) callee pr s =
      eval e callee pr s >>= λ v s1. perform (object_there v) s1 >>= λ w s2. evals args callee pr s2 >>= λ xs s3. callee.call p w xs s3
  -- whether the object has such a member is asked before its arguments are evaluated, and what they index is read
  eval_node (late_member e name by given) callee pr s =
      eval e callee pr s >>= λ v s1. used callee pr (late_there pr.declared reading name by (which_given given) v) s1 >>= λ w s2.
      eval_given given reading name by (which_given given) 0 v callee pr s2 >>= λ xs s3. late_used callee pr name by (which_given given) v w xs s3
  eval_node (late_item e es) callee pr s =
      eval e callee pr s >>= λ v s1. eval_list es callee pr s1 >>= λ xs s2. used callee pr (index_along pr.declared most_passed (slot_values xs) v) s2
  eval_node (same a b) callee pr s = eval a callee pr s >>= λ v s1. eval b callee pr s1 >>= λ w s2. perform (compared v w) s2
  eval_node (is_type e of) callee pr s = eval e callee pr s >>= λ v s1. perform (typed_as of v) s1
  eval_node (marked broken es) callee pr s = eval_list es callee pr s >>= λ xs s1. perform (library_called pr.declared function.Array false Binary (pos 0) (slot_values xs)) s1
  eval_node (library f text_form es compare base) callee pr s = eval_list es callee pr s >>= λ xs s1. perform (library_called pr.declared f text_form compare base (slot_values xs)) s1
  eval_node (bound_of upper x z) callee pr s = eval_place x callee pr s >>= λ q s1. perform (bound_at upper z q) s1

  -- where a place leads
  pub eval_place : Lvalue → Callee → Project → State → Res Path
  eval_place (variable x) callee pr s = Got (path_of s.memory x) s
  -- a variable is found once the numbers are evaluated; any other place before, and its path waits
  eval_place (item x es) callee pr s = eval_list es callee pr s >>= λ xs s1. perform (place_at (path_of s1.memory x) (slot_values xs)) s1
  eval_place (element x es) callee pr s = eval_place x callee pr s >>= λ q s1. eval_list es callee pr s1 >>= λ xs s2. perform (place_at q (slot_values xs)) s2
  eval_place (field x i of bounded) callee pr s = eval_place x callee pr s >>= λ q s1. Got (field_path q i of bounded) s1
  eval_place (kept_place i) callee pr s = perform (dot_at i) s
  eval_place (object_field e i of bounded) callee pr s = eval e callee pr s >>= λ v s1. perform (field_in i of bounded v) s1
  eval_place (as_new c x) callee pr s = eval_place x callee pr s >>= λ q s1. Got (made_at c q) s1
  eval_place (late_field e name) callee pr s = eval e callee pr s >>= λ v s1. perform (public_variable pr.declared name v) s1
  eval_place (value_place e) callee pr s = eval e callee pr s >>= λ v s1. Got (path_to v) s1
  eval_place (element_along x es) callee pr s = eval_place x callee pr s >>= λ q s1. eval_list es callee pr s1 >>= λ xs s2. place_along callee pr q (slot_values xs) s2

  -- arguments in the order of the text, each made what its parameter takes before the next ([MS-VBAL] 5.3.1.11)
  pub evals : Args → Callee → Project → State → Res (List Slot)
  evals no_args callee pr s = Got [] s
  evals (by_place x args) callee pr s =
      eval_place x callee pr s >>= λ p s1. perform (lent p) s1 >>= λ u s2. evals args callee pr s2 >>= λ xs s3. Got (path p ∷ xs) s3
  evals (by_copy e of args) callee pr s =
      eval e callee pr s >>= λ v s1. perform (fitted of v) s1 >>= λ w s2. evals args callee pr s2 >>= λ xs s3. Got (value w ∷ xs) s3
  evals (by_default v args) callee pr s = evals args callee pr s >>= λ xs s1. Got (value v ∷ xs) s1
  evals (by_list es args) callee pr s = eval_list es callee pr s >>= λ ys s1. evals args callee pr s1 >>= λ xs s2. Got (value (packed ys) ∷ xs) s2
  evals (in_order order args) callee pr s = evals args callee pr s >>= λ xs s1. Got (reordered order xs) s1

  -- arguments of a member that was found in the run, from one on, each made what its parameter takes before the next
  pub eval_given : Given → Use → (name : List ℕ) → ByName → List Bool → (argument : ℕ) → (base : Val) → Callee → Project → State → Res (List Slot)
  eval_given none_given aim name by gs i base callee pr s = Got [] s
  eval_given (place_given x given) aim name by gs i base callee pr s =
      eval_place x callee pr s >>= λ q s1. place_bound callee pr aim name by gs i base q s1 >>= λ p s2.
      eval_given given aim name by gs (suc i) base callee pr s2 >>= λ xs s3. Got (path p ∷ xs) s3
  eval_given (expr_given e given) aim name by gs i base callee pr s =
      eval e callee pr s >>= λ v s1. used callee pr (value_bound pr.declared aim name by gs i base v) s1 >>= λ w s2.
      eval_given given aim name by gs (suc i) base callee pr s2 >>= λ xs s3. Got (value w ∷ xs) s3

  pub eval_list : Exprs → Callee → Project → State → Res (List Slot)
  eval_list no_exprs callee pr s = Got [] s
  eval_list (also e es) callee pr s = eval e callee pr s >>= λ v s1. eval_list es callee pr s1 >>= λ xs s2. Got (value v ∷ xs) s2

-- the texts that are printed, one after the other; Empty stands for a comma
abbrev pub eval_prints : Prints → Callee → Project → State → Res (List Slot)
eval_prints no_prints callee pr s = Got [] s
eval_prints (shown e ps) callee pr s =
    eval e callee pr s >>= λ v s1. perform (show_value v) s1 >>= λ w s2. eval_prints ps callee pr s2 >>= λ xs s3. Got (value w ∷ xs) s3
eval_prints (zone ps) callee pr s = eval_prints ps callee pr s >>= λ xs s1. Got (value empty ∷ xs) s1

-- ---- statements ([MS-VBAL] 5.4)

-- the value that a Case tests: an object gives way each time
abbrev pub tested : Callee → Project → ℕ → State → Res Val
tested callee pr header s = perform (selected header) s >>= λ v s1. operand_value callee pr v s1

-- the tests of a Case in order, until one fits
abbrev pub cases : Tests → Callee → Project → (header : ℕ) → Declared → Compare → (first other : ℕ) → State → Res ℕ
cases no_tests callee pr header of compare first other s = Got other s
cases (test_is o at e ts) callee pr header of compare first other s =
    tested callee pr header s >>= λ v s1. eval e callee pr s1 >>= λ w s2. perform (fits o compare of (operand_type e) v w) s2 >>= λ b s3. if b then Got first s3 else cases ts callee pr header of compare first other s3
cases (test_range a b a_at b_at ts) callee pr header of compare first other s =
    tested callee pr header s >>= λ v s1. eval a callee pr s1 >>= λ x s2. eval b callee pr s2 >>= λ y s3.
    perform (fits_between compare of (operand_type a) (operand_type b) v x y) s3 >>= λ b s4. if b then Got first s4 else cases ts callee pr header of compare first other s4

-- the arrays of a ReDim and of an Erase, one by one: what each replaces is let go before the next
abbrev pub resizes : Bool → Resizes → Callee → Project → State → Res (Unit {0})
resizes preserve no_resizes callee pr s = Got tt s
resizes preserve (resize x bounds of rs) callee pr s =
    eval_place x callee pr s >>= λ q s1. eval_list bounds callee pr s1 >>= λ xs s2. perform (redimmed pr.declared preserve of q (slot_values xs)) s2 >>= λ k s3. callee.go k s3 >>= λ u s4. resizes preserve rs callee pr s4

abbrev pub erases : Arrays → Callee → Project → State → Res (Unit {0})
erases no_arrays callee pr s = Got tt s
erases (an_array x xs) callee pr s =
    eval_place x callee pr s >>= λ q s1. perform (erased pr.declared q) s1 >>= λ k s2. callee.go k s2 >>= λ u s3. erases xs callee pr s3

-- a statement's effect and the number of the statement to go on at, for the statement of this number in this procedure
abbrev pub exec : Action → Callee → Project → (procedure statement following : ℕ) → State → Res ℕ
exec (assign x e) callee pr p i k s = eval e callee pr s >>= λ v s1. eval_place x callee pr s1 >>= λ q s2. perform (assigned_at q v) s2 >>= λ u s3. changes callee pr s3 >>= λ w s4. Got k s4
exec (assign_item base es e) callee pr p i k s =
    eval e callee pr s >>= λ v s1. eval base callee pr s1 >>= λ w s2. eval_list es callee pr s2 >>= λ xs s3. perform (item_assigned w (slot_values xs) v) s3 >>= λ u s4. changes callee pr s4 >>= λ x s5. Got k s5
exec (set x e) callee pr p i k s = eval e callee pr s >>= λ v s1. eval_place x callee pr s1 >>= λ q s2. perform (set_at q v) s2 >>= λ u s3. Got k s3
exec (assign_default x e) callee pr p i k s = eval e callee pr s >>= λ v s1. eval x callee pr s1 >>= λ w s2. perform (written_default w v) s2 >>= λ u s3. changes callee pr s3 >>= λ x s4. Got k s4
exec (assign_member base name es e) callee pr p i k s =
    eval e callee pr s >>= λ v s1. eval base callee pr s1 >>= λ w s2. perform (member_there pr.declared name (given_count es) w) s2 >>= λ x s3. eval_list es callee pr s3 >>= λ xs s4.
    perform (member_assigned pr.declared name (slot_values xs) w x v) s4 >>= λ u s5. changes callee pr s5 >>= λ y s6. Got k s6
exec (set_member base e) callee pr p i k s = eval e callee pr s >>= λ v s1. eval base callee pr s1 >>= λ w s2. perform (member_not_set w) s2 >>= λ u s3. Got k s3
exec (assign_through x e) callee pr p i k s =
    eval e callee pr s >>= λ v s1. eval x callee pr s1 >>= λ w s2. used callee pr (write_along pr.declared most_passed v w) s2 >>= λ u s3. Got k s3
exec (assign_element x es e) callee pr p i k s =
    eval e callee pr s >>= λ v s1. eval_place x callee pr s1 >>= λ q s2. eval_list es callee pr s2 >>= λ xs s3. used callee pr (let_element pr.declared q (slot_values xs) v) s3 >>= λ u s4. Got k s4
exec (set_element x es e) callee pr p i k s =
    eval e callee pr s >>= λ v s1. eval_place x callee pr s1 >>= λ q s2. eval_list es callee pr s2 >>= λ xs s3. used callee pr (element_set pr.declared q (slot_values xs) v) s3 >>= λ u s4. Got k s4
exec (assign_late base name by given e) callee pr p i k s =
    eval e callee pr s >>= λ v s1. eval base callee pr s1 >>= λ w s2. used callee pr (late_there pr.declared assigning name by (which_given given) w) s2 >>= λ x s3.
    eval_given given assigning name by (which_given given) 0 w callee pr s3 >>= λ xs s4. used callee pr (late_let pr.declared name by (which_given given) w x (map received xs) v) s4 >>= λ u s5. Got k s5
exec (set_late base name by given e) callee pr p i k s =
    eval e callee pr s >>= λ v s1. eval base callee pr s1 >>= λ w s2. used callee pr (late_there pr.declared setting name by (which_given given) w) s2 >>= λ x s3.
    eval_given given setting name by (which_given given) 0 w callee pr s3 >>= λ xs s4. used callee pr (late_set pr.declared name by (which_given given) w x (map received xs) v) s4 >>= λ u s5. Got k s5
exec (evaluate e) callee pr p i k s = eval e callee pr s >>= λ v s1. Got k s1
exec (let_property q args e of) callee pr p i k s =
    eval e callee pr s >>= λ v s1. evals args callee pr s1 >>= λ xs s2. operand_value callee pr v s2 >>= λ w s3. perform (fitted of w) s3 >>= λ x s4. callee.call q empty (xs ++ value x ∷ []) s4 >>= λ r s5. Got k s5
exec (set_property q args e of) callee pr p i k s =
    eval e callee pr s >>= λ v s1. evals args callee pr s1 >>= λ xs s2. perform (set_object of v) s2 >>= λ x s3. callee.call q empty (xs ++ value x ∷ []) s3 >>= λ r s4. Got k s4
exec (let_method base q args e of) callee pr p i k s =
    eval e callee pr s >>= λ v s1. eval base callee pr s1 >>= λ b s2. perform (object_there b) s2 >>= λ w s3. evals args callee pr s3 >>= λ xs s4.
    operand_value callee pr v s4 >>= λ x s5. perform (fitted of x) s5 >>= λ y s6. callee.call q w (xs ++ value y ∷ []) s6 >>= λ r s7. Got k s7
exec (set_method base q args e of) callee pr p i k s =
    eval e callee pr s >>= λ v s1. eval base callee pr s1 >>= λ b s2. perform (object_there b) s2 >>= λ w s3. evals args callee pr s3 >>= λ xs s4.
    perform (set_object of v) s4 >>= λ y s5. callee.call q w (xs ++ value y ∷ []) s5 >>= λ r s6. Got k s6
exec (raise_event e args) callee pr p i k s =
    evals args callee pr s >>= λ xs s1. delivered (sinks (source_of (top s1.memory).me) s1.memory) callee pr e xs s1 >>= λ u s2. Got k s2
exec (print ps ends) callee pr p i k s = eval_prints ps callee pr s >>= λ xs s1. perform (printed ends xs) s1 >>= λ u s2. Got k s2
exec (raise args) callee pr p i k s = evals args callee pr s >>= λ xs s1. raise_error (raised_by xs s1.memory) s1
exec (test sense e to other) callee pr p i k s = eval e callee pr s >>= λ v s1. perform (condition sense v) s1 >>= λ b s2. Got (if b then to else other) s2
exec (go_to to) callee pr p i k s = Got to s
exec (for_to x compare a b c last_at step_at first behind) callee pr p i k s =
    perform (loop_off i) s >>= λ u s1. eval a callee pr s1 >>= λ start s2. eval b callee pr s2 >>= λ end s3. eval c callee pr s3 >>= λ by s4. perform (loop_on x i compare (operand_type b) (operand_type c) start end by) s4 >>= λ on s5. Got (if on then first else behind) s5
exec (next x header first) callee pr p i k s = perform (next_round x header) s >>= λ on s1. Got (if on then first else k) s1
exec (for_each x e first behind) callee pr p i k s =
    perform (each_off i) s >>= λ u s1. eval e callee pr s1 >>= λ v s2. perform (each_begun i v) s2 >>= λ n s3. callee.go n s3 >>= λ w s4. perform (each_next x i) s4 >>= λ on s5. Got (if on then first else behind) s5
exec (next_each x header first) callee pr p i k s = perform (each_next x header) s >>= λ on s1. Got (if on then first else k) s1
exec (exit_each header to) callee pr p i k s = perform (block_over header) s >>= λ u s1. Got to s1
exec (select e first) callee pr p i k s = eval e callee pr s >>= λ v s1. perform (keep i v) s1 >>= λ u s2. Got first s2
exec (case_of ts header of compare first other) callee pr p i k s = cases ts callee pr header of compare first other s
exec (redim preserve rs) callee pr p i k s = resizes preserve rs callee pr s >>= λ u s1. Got k s1
exec (erase xs) callee pr p i k s = erases xs callee pr s >>= λ u s1. Got k s1
exec (with_place x) callee pr p i k s = eval_place x callee pr s >>= λ q s1. perform (keep_path i q) s1 >>= λ u s2. Got k s2
exec (with_value e) callee pr p i k s = eval e callee pr s >>= λ v s1. perform (keep i v) s1 >>= λ u s2. Got k s2
exec (end_with header) callee pr p i k s = perform (block_over header) s >>= λ u s1. Got k s1
exec (go_sub to) callee pr p i k s = perform (gone_sub k) s >>= λ u s1. Got to s1
exec return_sub callee pr p i k s = perform returned_sub s
exec (exit_to end) callee pr p i k s = perform err_off s >>= λ u s1. Got end s1
exec (on_error h) callee pr p i k s = perform (policy_on (policy_of h)) s >>= λ u s1. Got k s1
exec end_handler callee pr p i k s = perform handler_off s >>= λ u s1. Got k s1
exec clear_err callee pr p i k s = perform err_off s >>= λ u s1. Got k s1
exec resume_again callee pr p i k s = perform (resumed kind.Again 0) s
exec resume_next callee pr p i k s = perform (resumed kind.Next (next_of pr p (failed_statement s.memory))) s
exec (resume_at to) callee pr p i k s = perform (resumed (kind.Label (record { 0 = to })) 0) s
exec stop callee pr p i k s = perform stop_here s >>= λ u s1. Got k s1
exec end_run callee pr p i k s = Over Ended s

-- ---- what is known of a smaller depth

-- a procedure goes on at a statement; so many waiting references are let go
pub record Doing : Type 0 where
  pub run : (procedure statement : ℕ) → State → Res Val
  pub go : ℕ → State → Res (Unit {0})

abbrev pub nowhere : Doing
nowhere = record { run = λ p i s. Over Going s; go = λ k s. Over Going s }

-- a procedure is entered; where 2000 calls stand it raises 28 instead
abbrev pub enter : Project → Doing → Bool → ℕ → Val → List Slot → State → Res Val
enter pr d called p me xs s =
    if nat_lt (length s.memory.frames) 2000
    then turn (with_memory s (entered pr.declared called p me xs s.memory)) (λ s1. d.run p 0 s1)
    else raise_error (error_here 28 s.memory) s

-- a statement holds the result of what it calls
abbrev pub called_by : Project → Doing → ℕ → Val → List Slot → State → Res Val
called_by pr d p me xs s = enter pr d true p me xs s >>= λ v s1. given v s1

abbrev pub callees : Project → Doing → Callee
callees pr d = record { call = called_by pr d; go = d.go }

-- ---- letting go ([MS-VBAL] 2.1, 5.3.1.10)

-- an error that leaves a Class_Terminate ends the run
abbrev pub alone : Res Val → Res (Unit {0})
alone r = catch r (λ v s. Got tt s) (λ e s. Over (Faulted e) s)

abbrev pub terminate_by : Project → Doing → Option ℕ → ℕ → State → Res (Unit {0})
terminate_by pr d None o s = Got tt s
terminate_by pr d (Some p) o s = alone (enter pr d false p (object (Heap (record { 0 = o }))) [] s)

-- an instance of a class tells its end once, and its Class_Terminate runs
abbrev pub tell : Project → Doing → Object → ℕ → State → Res (Unit {0})
tell pr d b o s = if b.told then Got tt s else Told (Term b.class o ∷ []) (terminate_by pr d (class_at pr.declared b.class).terminate o s)

-- then it lives on where it is referred to again, or its fields are let go
abbrev pub finish : Doing → ℕ → State → Res (Unit {0})
finish d o s = if is_last s.memory o then d.go (length (objects_in_values (object_at s.memory o).fields)) (with_memory s (gone o s.memory)) else Got tt s

-- the end of an object, whose turn is begun
abbrev pub end_of : Project → Doing → ℕ → State → Res (Unit {0})
end_of pr d o s = tell pr d (object_at s.memory o) o (with_memory s (as_told o s.memory)) >>= λ u s1. finish d o s1

-- a reference is live no longer: the object ends where it was the last one
abbrev pub one : Project → Doing → ℕ → State → Res (Unit {0})
one pr d o s = if is_last s.memory o then turn s (λ s1. end_of pr d o s1) else Got tt s

-- so many of the waiting references, each wholly before the next
abbrev pub let_go : Project → Doing → ℕ → State → Res (Unit {0})
let_go pr d zero s = Got tt s
let_go pr d (suc k) s = one pr d (next_waiting s.memory.waiting) (with_memory s (taken_off s.memory)) >>= λ u s1. let_go pr d k s1

-- ---- procedures ([MS-VBAL] 5.3.1)

-- what the statement holds is let go
abbrev pub lets_held : (ℕ → State → Res (Unit {0})) → State → Res (Unit {0})
lets_held go s = go (length (top s.memory).held) (with_memory s (let_held s.memory))

-- all that the frame holds is let go
abbrev pub lets_frame : (ℕ → State → Res (Unit {0})) → State → Res (Unit {0})
lets_frame go s = go (length (held_by (top s.memory))) (with_memory s (let_frame s.memory))

-- the frame is left, and hands its result on
abbrev pub leave : (ℕ → State → Res (Unit {0})) → State → Res Val
leave go s = lets_frame go s >>= λ u s1. Got (result s1.memory) (with_memory s1 (frame_left s1.memory))

-- an error leaves the frame for the caller's statement, which holds the result
abbrev pub left : Memory → Memory
left m = hold (result m) (frame_left m)

abbrev pub pass_on : Doing → Error → State → Res Val
pass_on d e s = lets_frame d.go s >>= λ u s1. Failed e (with_memory s1 (left s1.memory))

abbrev pub next_here : Project → Memory → ℕ
next_here pr m = next_of pr (top m).procedure (number_or (top m).statement)

abbrev pub decide_by : Doing → Error → Taken → State → Res Val
decide_by d e (taken.Next to) s = d.run (top s.memory).procedure to.0 (with_memory s (with_taken e (taken.Next to) s.memory))
decide_by d e (taken.Handler to) s = d.run (top s.memory).procedure to.0 (with_memory s (with_taken e (taken.Handler to) s.memory))
decide_by d e taken.PassOn s = pass_on d e s

-- the frame takes the error, or is left
abbrev pub decide : Project → Doing → Error → State → Res Val
decide pr d e s = decide_by d e (taken_by (next_here pr s.memory) s.memory) s

-- a statement's end, and an error at it
abbrev pub settle : Project → Doing → ℕ → Res ℕ → Res Val
settle pr d p r =
    catch r
    (λ to s. lets_held d.go (with_memory s (unlent s.memory)) >>= λ u s1. d.run p to s1)
    (λ e s. lets_held d.go (with_memory s (unlent s.memory)) >>= λ u s1. decide pr d e s1)

abbrev pub at_statement_or : {A : Type 0} → Option Statement → A → (Statement → A) → A
at_statement_or None left go = left
at_statement_or (Some l) left go = go l

-- a statement of a procedure is begun; past the last one the procedure is left
abbrev pub run_from : Project → Doing → (procedure statement : ℕ) → State → Res Val
run_from pr d p i s =
    at_statement_or (statement_at pr p i) (leave (let_go pr d) s) (λ l.
    turn s (λ s1. settle pr d p (exec l.action (callees pr d) pr p i l.next (with_memory s1 (at_statement s1.memory i)))))

abbrev pub level : Project → Doing → Doing
level pr d = record { run = run_from pr d; go = let_go pr d }

-- so many turns deep
abbrev pub doing : Project → ℕ → Doing
doing pr zero = level pr nowhere
doing pr (suc n) = level pr (doing pr n)

-- ---- runs

-- module variables and statics are let go one by one; each takes its first value before
abbrev pub close : Doing → List Val → ℕ → State → Res (Unit {0})
close d [] g s = Got tt s
close d (v ∷ vs) g s = d.go (length (objects_in (slice_index_or s.memory.shared g empty))) (with_memory s (closed g v s.memory)) >>= λ u s1. close d vs (g + 1) s1

-- how a run ended, its last state, and what it told
pub record Run : Type 0 where
  pub ending : Ending
  pub state : State
  pub events : List Event

abbrev pub told_before : List Event → Run → Run
told_before es r = record r { events = es ++ r.events }

-- a run of so many turns: where one more is due it is going
abbrev pub run_of : {A : Type 0} → ℕ → Res A → Run
run_of n (Got v s) = record { ending = Ended; state = s; events = [] }
run_of n (Failed e s) = record { ending = Faulted e; state = s; events = [] }
run_of n (Over x s) = record { ending = x; state = s; events = [] }
run_of n (Told es r) = told_before es (run_of n r)
run_of n (Turn s r) = if nat_lt s.begun n then run_of n r else record { ending = Going; state = s; events = [] }

abbrev pub first_state : Project → Sheets → State
first_state pr book = record { memory = opening pr.declared book; begun = 0 }

-- the run of a project over a book with a bound on its turns
abbrev pub meaning : Project → Sheets → ℕ → Run
meaning pr book n =
    run_of n (enter pr (doing pr n) false pr.startup empty (startup_slots pr.declared pr.startup) (first_state pr book) >>= λ v s. close (doing pr n) (first_values pr.declared pr.declared.shared) 0 s)
