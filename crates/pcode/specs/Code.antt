-- Serves the code: the code of expressions and statements.
use Rattle.std.specs.Prelude.{ℕ, suc, pos, Bool, true, false, List, [], ◌∷◌, ◌++◌, length}
use Rattle.vba_values.specs.declared.types.Compare.{Compare}
use Rattle.vba_values.specs.declared.types.Compare.TheVariants.{Binary}
use Rattle.vba_lib.specs.declared.function.LibraryFunction.TheVariants as function
use Rattle.vba_values.specs.Types.{Declared}
use Rattle.vba_values.specs.Val.{missing, empty}
use Rattle.bound_project.specs.Expressions.{Expr, expr, Node, not_given, constant, load, load_made, element_value, field_value, unary, binary, call, err_value, default_of, default_if_any, enumerated, same, is_type, library, bound_of, host_object, active_sheet, ByName, host_member, named_member, this, new_object, method, late_member, late_item, Lvalue, variable, item, element, field, kept_place, object_field, as_new, element_along, late_field, value_place, Args, no_args, by_place, by_copy, by_default, by_list, in_order, Given, none_given, place_given, expr_given, Exprs, no_exprs, also, given_count, Prints, no_prints, shown, zone, operand_type, marked}
use Rattle.bound_project.specs.Statements.{Resizes, no_resizes, resize, Arrays, no_arrays, an_array, Tests, no_tests, test_is, test_range, Action, assign, assign_item, set, assign_default, assign_member, set_member, assign_through, assign_element, set_element, assign_late, set_late, evaluate, let_property, set_property, let_method, set_method, raise_event, print, raise, test, go_to, for_to, next, for_each, next_each, exit_each, select, case_of, redim, erase, with_place, with_value, end_with, go_sub, return_sub, exit_to, on_error, end_handler, clear_err, resume_again, resume_next, resume_at, stop, end_run, Statement}
use Rattle.vba_meaning.specs.Effects.{policy_of}
use Rattle.vba_meaning.specs.LateBound.{Use, reading, assigning, setting, which_given}
use Rattle.pcode.specs.Instructions.{Instr, Begin, Push, LoadErr, PathOf, ReadThrough, ElementOf, ElementIn, FieldOf, Dot, Index, PartOf, Operate, OperateAlone, Plain, PlainIfAny, Enumerate, PushHost, FirstSheet, MemberThere, MemberOf, NamedThere, NamedOf, PushThis, New, ObjectThere, FieldIn, AsNew, MakeThere, StoreMade, FindLate, BindValue, BindPlace, CallLate, LetLate, SetLate, ItemAlong, WriteThrough, LetElement, SetElement, ElementAlong, LateField, PlaceOf, Same, IsType, Library, BoundAt, Fit, FitObject, Drop, Lend, Pack, Reorder, Lift, Call, CallOf, Store, SetAt, StoreDefault, StoreMember, StoreItem, SetMember, RaiseEvent, ShowText, Show, Throw, LoopOff, LoopOn, NextRound, EachOff, EachOn, NextItem, Keep, Selected, IfFits, IfBetween, Redim, EraseAt, KeepPath, DropKept, PutReturn, TakeReturn, SetPolicy, HandlerOff, ErrOff, Again, Behind, Resumes, Finish, Branch, Halt, StopHere}

-- how many slots arguments are
abbrev pub count : Args → ℕ
count no_args = 0
count (by_place x args) = suc (count args)
count (by_copy e of args) = suc (count args)
count (by_default v args) = suc (count args)
count (by_list es args) = suc (count args)
count (in_order order args) = length order

abbrev pub list_count : Exprs → ℕ
list_count no_exprs = 0
list_count (also e es) = suc (list_count es)

abbrev pub prints_count : Prints → ℕ
prints_count no_prints = 0
prints_count (shown e ps) = suc (prints_count ps)
prints_count (zone ps) = suc (prints_count ps)

abbrev mutual
  pub expr_code : Expr → List Instr
  expr_code (expr node place of operand) = node_code node

  pub node_code : Node → List Instr
  node_code not_given = Push missing ∷ []
  node_code (constant v) = Push v ∷ []
  node_code (load x) = place_code x ++ ReadThrough ∷ []
  node_code (load_made x) = place_code x ++ MakeThere ∷ Drop ∷ StoreMade ∷ ReadThrough ∷ []
  node_code (element_value e es) = expr_code e ++ (list_code es ++ Index (list_count es) ∷ [])
  node_code (field_value e i) = expr_code e ++ PartOf i ∷ []
  node_code (unary o a) = expr_code a ++ OperateAlone o (operand_type a) ∷ []
  node_code (binary o compare a b) = expr_code a ++ (expr_code b ++ Operate o compare (operand_type a) (operand_type b) ∷ [])
  node_code (call p args) = args_code args ++ Call p (count args) ∷ []
  node_code (err_value member) = LoadErr member ∷ []
  node_code (default_of e) = expr_code e ++ Plain ∷ []
  node_code (default_if_any e) = expr_code e ++ PlainIfAny ∷ []
  node_code (enumerated e) = expr_code e ++ Enumerate ∷ []
  node_code (host_object reference) = PushHost reference ∷ []
  node_code active_sheet = FirstSheet ∷ []
  node_code (named_member e name by es) = expr_code e ++ NamedThere name by (given_count es) ∷ (list_code es ++ NamedOf name by (list_count es) ∷ [])
  node_code (host_member e name es) = expr_code e ++ MemberThere name (given_count es) ∷ (list_code es ++ MemberOf name (list_count es) ∷ [])
  node_code this = PushThis ∷ []
  node_code (new_object c) = New c ∷ Drop ∷ []
  node_code (method e p args) = expr_code e ++ ObjectThere ∷ (args_code args ++ CallOf p (count args) ∷ [])
  node_code (late_member e name by given) =
      expr_code e ++ FindLate reading name by (which_given given) ∷ (given_code given reading name by (which_given given) 0 ++ CallLate name by (which_given given) ∷ [])
  node_code (late_item e es) = expr_code e ++ (list_code es ++ ItemAlong (list_count es) ∷ [])
  node_code (same a b) = expr_code a ++ (expr_code b ++ Same ∷ [])
  node_code (is_type e of) = expr_code e ++ IsType of ∷ []
  node_code (marked broken es) = list_code es ++ Library function.Array false Binary (pos 0) (list_count es) ∷ []
  node_code (library f text_form es compare base) = list_code es ++ Library f text_form compare base (list_count es) ∷ []
  node_code (bound_of upper x z) = place_code x ++ BoundAt upper z ∷ []

  pub place_code : Lvalue → List Instr
  place_code (variable x) = PathOf x ∷ []
  place_code (item x es) = list_code es ++ PathOf x ∷ ElementOf (list_count es) ∷ []
  place_code (element x es) = place_code x ++ (list_code es ++ ElementIn (list_count es) ∷ [])
  place_code (field x i of bounded) = place_code x ++ FieldOf i of bounded ∷ []
  place_code (kept_place i) = Dot i ∷ []
  place_code (object_field e i of bounded) = expr_code e ++ FieldIn i of bounded ∷ []
  place_code (as_new c x) = place_code x ++ AsNew c ∷ []
  place_code (late_field e name) = expr_code e ++ LateField name ∷ []
  place_code (value_place e) = expr_code e ++ PlaceOf ∷ []
  place_code (element_along x es) = place_code x ++ (list_code es ++ ElementAlong (list_count es) ∷ [])

  pub args_code : Args → List Instr
  args_code no_args = []
  args_code (by_place x args) = place_code x ++ Lend ∷ args_code args
  args_code (by_copy e of args) = expr_code e ++ Fit of ∷ args_code args
  args_code (by_default v args) = Push v ∷ args_code args
  args_code (by_list es args) = list_code es ++ Pack (list_count es) ∷ args_code args
  args_code (in_order order args) = args_code args ++ Reorder order (count args) ∷ []

  pub given_code : Given → Use → (name : List ℕ) → ByName → List Bool → (argument : ℕ) → List Instr
  given_code none_given aim name by gs i = []
  given_code (place_given x given) aim name by gs i = place_code x ++ BindPlace aim name by gs i ∷ given_code given aim name by gs (suc i)
  given_code (expr_given e given) aim name by gs i = expr_code e ++ BindValue aim name by gs i ∷ given_code given aim name by gs (suc i)

  pub list_code : Exprs → List Instr
  list_code no_exprs = []
  list_code (also e es) = expr_code e ++ list_code es

abbrev pub prints_code : Prints → List Instr
prints_code no_prints = []
prints_code (shown e ps) = expr_code e ++ ShowText ∷ prints_code ps
prints_code (zone ps) = Push empty ∷ prints_code ps

-- the address of each statement of a procedure
abbrev pub Entry : Type 0
Entry = ℕ → ℕ

abbrev pub tests_code : Entry → Tests → (header : ℕ) → Declared → Compare → (first other : ℕ) → List Instr
tests_code entry no_tests header of compare first other = Finish (entry other) ∷ []
tests_code entry (test_is o at e ts) header of compare first other =
    Selected header ∷ Plain ∷ (expr_code e ++ IfFits o compare of (operand_type e) (entry first) ∷ tests_code entry ts header of compare first other)
tests_code entry (test_range a b a_at b_at ts) header of compare first other =
    Selected header ∷ Plain ∷ (expr_code a ++ (expr_code b ++ IfBetween compare of (operand_type a) (operand_type b) (entry first) ∷ tests_code entry ts header of compare first other))

abbrev pub resizes_code : Bool → Resizes → List Instr
resizes_code preserve no_resizes = []
resizes_code preserve (resize x bounds of rs) = place_code x ++ (list_code bounds ++ Redim preserve of (list_count bounds) ∷ resizes_code preserve rs)

abbrev pub erases_code : Arrays → List Instr
erases_code no_arrays = []
erases_code (an_array x xs) = place_code x ++ EraseAt ∷ erases_code xs

-- the code of a statement: the operands, what is done with them, and where it goes on
abbrev pub action_code : Entry → (procedure statement following : ℕ) → Action → List Instr
action_code entry p i k (assign x e) = expr_code e ++ (place_code x ++ (Store ∷ Finish (entry k) ∷ []))
action_code entry p i k (assign_item base es e) = expr_code e ++ (expr_code base ++ (list_code es ++ (StoreItem (list_count es) ∷ Finish (entry k) ∷ [])))
action_code entry p i k (set x e) = expr_code e ++ (place_code x ++ (SetAt ∷ Finish (entry k) ∷ []))
action_code entry p i k (assign_default x e) = expr_code e ++ (expr_code x ++ (StoreDefault ∷ Finish (entry k) ∷ []))
action_code entry p i k (assign_member base name es e) =
    expr_code e ++ (expr_code base ++ MemberThere name (given_count es) ∷ (list_code es ++ (StoreMember name (list_count es) ∷ Finish (entry k) ∷ [])))
action_code entry p i k (set_member base e) = expr_code e ++ (expr_code base ++ (SetMember ∷ Finish (entry k) ∷ []))
action_code entry p i k (assign_through x e) = expr_code e ++ (expr_code x ++ (WriteThrough ∷ Drop ∷ Finish (entry k) ∷ []))
action_code entry p i k (assign_element x es e) = expr_code e ++ (place_code x ++ (list_code es ++ (LetElement (list_count es) ∷ Drop ∷ Finish (entry k) ∷ [])))
action_code entry p i k (set_element x es e) = expr_code e ++ (place_code x ++ (list_code es ++ (SetElement (list_count es) ∷ Drop ∷ Finish (entry k) ∷ [])))
action_code entry p i k (assign_late base name by given e) =
    expr_code e ++ (expr_code base ++ FindLate assigning name by (which_given given) ∷
    (given_code given assigning name by (which_given given) 0 ++ (LetLate name by (which_given given) ∷ Drop ∷ Finish (entry k) ∷ [])))
action_code entry p i k (set_late base name by given e) =
    expr_code e ++ (expr_code base ++ FindLate setting name by (which_given given) ∷
    (given_code given setting name by (which_given given) 0 ++ (SetLate name by (which_given given) ∷ Drop ∷ Finish (entry k) ∷ [])))
action_code entry p i k (evaluate e) = expr_code e ++ (Drop ∷ Finish (entry k) ∷ [])
action_code entry p i k (let_property q args e of) = expr_code e ++ (args_code args ++ (Lift (count args) ∷ Plain ∷ Fit of ∷ Call q (suc (count args)) ∷ Drop ∷ Finish (entry k) ∷ []))
action_code entry p i k (set_property q args e of) = expr_code e ++ (args_code args ++ (Lift (count args) ∷ FitObject of ∷ Call q (suc (count args)) ∷ Drop ∷ Finish (entry k) ∷ []))
action_code entry p i k (let_method base q args e of) =
    expr_code e ++ (expr_code base ++ ObjectThere ∷ (args_code args ++ (Lift (suc (count args)) ∷ Plain ∷ Fit of ∷ CallOf q (suc (count args)) ∷ Drop ∷ Finish (entry k) ∷ [])))
action_code entry p i k (set_method base q args e of) =
    expr_code e ++ (expr_code base ++ ObjectThere ∷ (args_code args ++ (Lift (suc (count args)) ∷ FitObject of ∷ CallOf q (suc (count args)) ∷ Drop ∷ Finish (entry k) ∷ [])))
action_code entry p i k (raise_event e args) = args_code args ++ (RaiseEvent e (count args) ∷ Finish (entry k) ∷ [])
action_code entry p i k (print ps ends) = prints_code ps ++ (Show ends (prints_count ps) ∷ Finish (entry k) ∷ [])
action_code entry p i k (raise args) = args_code args ++ Throw (count args) ∷ []
action_code entry p i k (test sense e to other) = expr_code e ++ Branch sense (entry to) (entry other) ∷ []
action_code entry p i k (go_to to) = Finish (entry to) ∷ []
action_code entry p i k (for_to x compare a b c last_at step_at first behind) =
    LoopOff i ∷ (expr_code a ++ (expr_code b ++ (expr_code c ++ (LoopOn x i compare (operand_type b) (operand_type c) ∷ Branch true (entry first) (entry behind) ∷ []))))
action_code entry p i k (next x header first) = NextRound x header ∷ Branch true (entry first) (entry k) ∷ []
action_code entry p i k (for_each x e first behind) = EachOff i ∷ (expr_code e ++ (EachOn i ∷ NextItem x i ∷ Branch true (entry first) (entry behind) ∷ []))
action_code entry p i k (next_each x header first) = NextItem x header ∷ Branch true (entry first) (entry k) ∷ []
action_code entry p i k (exit_each header to) = DropKept header ∷ Finish (entry to) ∷ []
action_code entry p i k (select e first) = expr_code e ++ (Keep i ∷ Finish (entry first) ∷ [])
action_code entry p i k (case_of ts header of compare first other) = tests_code entry ts header of compare first other
action_code entry p i k (redim preserve rs) = resizes_code preserve rs ++ Finish (entry k) ∷ []
action_code entry p i k (erase xs) = erases_code xs ++ Finish (entry k) ∷ []
action_code entry p i k (with_place x) = place_code x ++ (KeepPath i ∷ Finish (entry k) ∷ [])
action_code entry p i k (with_value e) = expr_code e ++ (Keep i ∷ Finish (entry k) ∷ [])
action_code entry p i k (end_with header) = DropKept header ∷ Finish (entry k) ∷ []
action_code entry p i k (go_sub to) = PutReturn k ∷ Finish (entry to) ∷ []
action_code entry p i k return_sub = TakeReturn p ∷ []
action_code entry p i k (exit_to end) = ErrOff ∷ Finish (entry end) ∷ []
action_code entry p i k (on_error h) = SetPolicy (policy_of h) ∷ Finish (entry k) ∷ []
action_code entry p i k end_handler = HandlerOff ∷ Finish (entry k) ∷ []
action_code entry p i k clear_err = ErrOff ∷ Finish (entry k) ∷ []
action_code entry p i k resume_again = Again p ∷ []
action_code entry p i k resume_next = Behind p ∷ []
action_code entry p i k (resume_at to) = Resumes p to ∷ []
action_code entry p i k stop = StopHere ∷ Finish (entry k) ∷ []
action_code entry p i k end_run = Halt ∷ []

abbrev pub statement_code : Entry → (procedure statement : ℕ) → Statement → List Instr
statement_code entry p i l = Begin i ∷ action_code entry p i l.next l.action
