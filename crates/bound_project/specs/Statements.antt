-- Statements, in one flat list of a procedure in the order of the text. Each is named by its number there, from 0;
-- what stands past the last one is the procedure's end. Labels, declarations, Else, Case Else, End If and End Select
-- are no statements.
use Rattle.std.specs.Prelude.{ℕ, List, Bool, Option}
use Rattle.vba_base.specs.declared.place.Place.{Place}
use Rattle.vba_values.specs.declared.types.OpKind.{OpKind}
use Rattle.vba_values.specs.declared.types.Compare.{Compare}
use Rattle.vba_values.specs.Types.{Declared}
use Rattle.bound_project.specs.Expressions.{Variable, ByName, Expr, Exprs, Lvalue, Args, Given, Prints}

-- the tests of a Case: `Is o e`, of which `e` alone is `Is = e`, and `e To e`. Each comparison is told at a place: at its
-- operator where that is written, else at the first token of the expression
pub data Tests : Type 0 where
  no_tests : Tests
  test_is : OpKind → Place → Expr → Tests → Tests
  test_range : (low high : Expr) → (low_at high_at : Place) → Tests → Tests

-- On Error GoTo 0, On Error Resume Next, On Error GoTo label
pub data Handling : Type 0 where
  passed_on : Handling
  skipped : Handling
  handled_at : ℕ → Handling

-- the arrays of a ReDim: a place, the low and high bound of each dimension, and the type of the elements where that is
-- written
pub data Resizes : Type 0 where
  no_resizes : Resizes
  resize : Lvalue → (bounds : Exprs) → Option Declared → Resizes → Resizes

-- the arrays of an Erase
pub data Arrays : Type 0 where
  no_arrays : Arrays
  an_array : Lvalue → Arrays → Arrays

-- what a statement does. Where a statement can go on in two ways it has the numbers of both
pub data Action : Type 0 where
  -- [Let] target = value
  assign : Lvalue → Expr → Action
  -- the same where the target is an item of a value that no variable has, as of what a function gives: of an object the
  -- item's default member is written, and in an array nothing is stored
  assign_item : (base : Expr) → Exprs → (value : Expr) → Action
  -- Set target = value
  set : Lvalue → Expr → Action
  -- [Let] target = value where the target gives an object, as a variable of an object type does: the default member of
  -- that object is written
  assign_default : (target value : Expr) → Action
  -- [Let] base.name(arguments) = value, for a member of an object of the host
  assign_member : (base : Expr) → (name : List ℕ) → Exprs → Expr → Action
  -- Set base.name = value, for a member of an object that is found in the run
  set_member : (base value : Expr) → Action
  -- [Let] target = value where the target gives an object of a class, or what the run says: its default member is written
  assign_through : (target value : Expr) → Action
  -- [Let] place(arguments) = value where the run says what is at the place: an element of an array takes the value, and else
  -- what the arguments lead to has its default member written
  assign_element : Lvalue → Exprs → (value : Expr) → Action
  -- Set place(arguments) = value where the run says what is at the place: an element of an array takes the object, and else
  -- the default member to which the arguments lead is set
  set_element : Lvalue → Exprs → (value : Expr) → Action
  -- [Let] base.name(arguments) = value, and Set of it, for a member that is found in the run
  assign_late : (base : Expr) → (name : List ℕ) → ByName → Given → (value : Expr) → Action
  set_late : (base : Expr) → (name : List ℕ) → ByName → Given → (value : Expr) → Action
  -- a call whose value isn't used
  evaluate : Expr → Action
  -- an assignment to a property of a standard module: its Property Let, that one's other arguments, the value and its
  -- parameter's type
  let_property : (procedure : ℕ) → Args → Expr → Declared → Action
  -- the same where the property is given the object itself: a Property Set, or a Property Let whose value parameter has
  -- an object type
  set_property : (procedure : ℕ) → Args → Expr → Declared → Action
  -- the same of an object: the property of its class
  let_method : (base : Expr) → (procedure : ℕ) → Args → Expr → Declared → Action
  set_method : (base : Expr) → (procedure : ℕ) → Args → Expr → Declared → Action
  -- RaiseEvent, by the event's number in the class whose object raises it
  raise_event : (event : ℕ) → Args → Action
  -- Debug.Print, and whether the line is finished
  print : Prints → (ends : Bool) → Action
  -- Err.Raise and Error: a number, a source and a description
  raise : Args → Action
  -- If, ElseIf, Do, Loop, While: to the first number where the condition is as told, else to the other
  test : Bool → Expr → (to other : ℕ) → Action
  -- GoTo, Do and Loop without a condition, Wend, Exit Do, Exit For
  go_to : ℕ → Action
  -- For, with the first token of its end, and of its step where one is written: into its block, or behind it
  for_to : Variable → Compare → (start last step : Expr) → (last_at : Place) → (step_at : Option Place) → (first behind : ℕ) → Action
  -- Next of the For with this number: into its block again, or on
  next : Variable → (header first : ℕ) → Action
  -- For Each: into its block, or behind it
  for_each : Variable → Expr → (first behind : ℕ) → Action
  -- Next of the For Each with this number: into its block again, or on
  next_each : Variable → (header first : ℕ) → Action
  -- Exit For of the For Each with this number
  exit_each : (header to : ℕ) → Action
  -- Select Case: to its first Case
  select : Expr → (first : ℕ) → Action
  -- Case of the Select Case with this number, whose value has this type as an operand: into its block, or to the next
  -- arm
  case_of : Tests → (header : ℕ) → Declared → Compare → (first other : ℕ) → Action
  -- ReDim and ReDim Preserve
  redim : (preserve : Bool) → Resizes → Action
  erase : Arrays → Action
  -- With over a place, and over a value
  with_place : Lvalue → Action
  with_value : Expr → Action
  -- End With of the With with this number
  end_with : (header : ℕ) → Action
  go_sub : ℕ → Action
  return_sub : Action
  -- Exit Sub, Exit Function, Exit Property
  exit_to : (end : ℕ) → Action
  on_error : Handling → Action
  -- On Error GoTo -1
  end_handler : Action
  -- Err.Clear
  clear_err : Action
  -- Resume and Resume 0, Resume Next, Resume label
  resume_again : Action
  resume_next : Action
  resume_at : ℕ → Action
  stop : Action
  end_run : Action

-- a statement: what it does, its place, and the number of the statement that is next after it in text order, at which
-- Resume Next goes on. For a header that is the first statement of its block (for Select Case the one after End
-- Select), for the last statement of an arm the one after the block
pub record Statement : Type 0 where
  pub action : Action
  pub place : Place
  pub next : ℕ

-- a block by the numbers of its statements: its header, its further arms, its last line where that is a statement,
-- and what stands behind
pub record Block : Type 0 where
  pub opening : ℕ
  pub arms : List ℕ
  pub closing : Option ℕ
  pub behind : ℕ
