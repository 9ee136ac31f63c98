-- Expressions whose names are replaced by what they stand for. A place in the source is Place; what can be written or
-- lent is an Lvalue.
use Rattle.std.specs.Prelude.{ℕ, suc, ℤ, List, Bool}
use Rattle.vba_base.specs.declared.place.Place.{Place}
use Rattle.vba_base.specs.declared.place.Refusal.{Refusal}
use Rattle.vba_values.specs.declared.types.OpKind.{OpKind}
use Rattle.vba_values.specs.declared.types.Compare.{Compare}
use Rattle.vba_values.specs.declared.object.HostRef.{HostRef}
use Rattle.vba_values.specs.Types.{Declared}
use Rattle.vba_values.specs.Val.{Val}
use Rattle.vba_lib.specs.declared.function.LibraryFunction.{LibraryFunction}

-- where a variable is kept: in its procedure's frame (the result first, then its own variables, then its parameters);
-- among the module variables and statics of the project, which stand in one list, module by module, each module's
-- statics behind its variables; or in the object whose procedure runs
pub data Storage : Type 0 where
  local : ℕ → Storage
  shared : ℕ → Storage
  own : ℕ → Storage

-- a variable, its declared type, and whether it is an array that is declared with bounds
pub record Variable : Type 0 where
  pub storage : Storage
  pub of : Declared
  pub bounded : Bool

-- what Err tells
pub data ErrMember : Type 0 where
  err_number : ErrMember
  err_source : ErrMember
  err_description : ErrMember

-- how arguments are given: so many by their places, and those behind them by their folded names
pub record ByName : Type 0 where
  pub before : ℕ
  pub names : List (List ℕ)

mutual
  -- an expression: what it is, the place where it is told, its declared type, and the one that it has as an operand,
  -- once an object has given way to the value of its default member. It is told at its operator where it is one's, in
  -- parentheses too, and else at its first token
  pub data Expr : Type 0 where
    expr : Node → Place → (of operand : Declared) → Expr

  pub data Node : Type 0 where
    -- no expression stands there, as where an argument isn't given
    not_given : Node
    constant : Val → Node
    -- the value at a place
    load : Lvalue → Node
    -- the same where the place may be that of a variable declared As New, which gets a new object when it is read
    load_made : Lvalue → Node
    -- an element and a field of a value that no variable has
    element_value : Expr → Exprs → Node
    field_value : Expr → (field : ℕ) → Node
    unary : OpKind → Expr → Node
    binary : OpKind → Compare → (left right : Expr) → Node
    -- a procedure or a Property Get of a standard module
    call : (procedure : ℕ) → Args → Node
    err_value : ErrMember → Node
    -- the value itself, but of an object the value of its default member
    default_of : Expr → Node
    -- the value itself, but of an object whose default member needs no argument the value of that; Nothing stays
    default_if_any : Expr → Node
    -- the value itself, but of an object of a class the Collection that its enumerator gives: what a For Each walks
    enumerated : Expr → Node
    -- an object of the host that is always there, as Err
    host_object : HostRef → Node
    -- the first sheet
    active_sheet : Node
    -- a member of an object of the host, by its folded name, and its arguments
    host_member : Expr → (name : List ℕ) → Exprs → Node
    -- the same with arguments of which the last ones are named
    named_member : Expr → (name : List ℕ) → ByName → Exprs → Node
    -- the object whose procedure runs, and a new object of a class, by its number
    this : Node
    new_object : (class : ℕ) → Node
    -- a procedure or a Property Get of a class, called of an object
    method : Expr → (procedure : ℕ) → Args → Node
    -- a member of an object that is found in the run, by its folded name, and its arguments
    late_member : Expr → (name : List ℕ) → ByName → Given → Node
    -- what arguments lead to in a value that is looked at in the run: an element, or an item along default members
    late_item : Expr → Exprs → Node
    -- Is: whether both are the same object
    same : (left right : Expr) → Node
    -- TypeOf e Is type
    is_type : Expr → Declared → Node
    -- what breaks a static rule, with the values that it is written with. No project that runs has one; it means what
    -- Array means of them
    marked : (broken : Refusal) → Exprs → Node
    -- a function of the library: whether $ stands behind its name, its arguments, how its module compares texts, and
    -- from where an Array counts: 0 where VBA. is written. An argument that takes no object is a default_of
    library : LibraryFunction → (text_form : Bool) → Exprs → Compare → (base : ℤ) → Node
    -- UBound, or LBound, of what is at a place, for the dimension of this number: no array is copied
    bound_of : (upper : Bool) → Lvalue → (dimension : ℤ) → Node

  -- what can be written and lent: a variable, a part of one, or what a With block keeps
  pub data Lvalue : Type 0 where
    variable : Variable → Lvalue
    -- an element of a plain variable, and of another place, by its numbers
    item : Variable → Exprs → Lvalue
    element : Lvalue → Exprs → Lvalue
    -- a field, its declared type, and whether it is an array that is declared with bounds
    field : Lvalue → (field : ℕ) → Declared → (bounded : Bool) → Lvalue
    -- what stands before a dot that begins a place: the place or value of the With block with this number
    kept_place : (header : ℕ) → Lvalue
    -- a public variable of an object, its declared type, and whether it is an array that is declared with bounds
    object_field : Expr → (field : ℕ) → Declared → (bounded : Bool) → Lvalue
    -- a place that is declared As New, with the class of its objects
    as_new : (class : ℕ) → Lvalue → Lvalue
    -- what arguments lead to from a place where the run says what is there: an element of an array, or what default
    -- members give, which no variable has
    element_along : Lvalue → Exprs → Lvalue
    -- a public variable of an object that is found in the run, by its folded name
    late_field : Expr → (name : List ℕ) → Lvalue
    -- what an expression gives, which no variable has: arguments behind it lead on from there
    value_place : Expr → Lvalue

  -- arguments, each by the way in which its parameter takes it
  pub data Args : Type 0 where
    no_args : Args
    -- the place itself: a ByRef parameter
    by_place : Lvalue → Args → Args
    -- the value, made one of the parameter's type
    by_copy : Expr → Declared → Args → Args
    -- none is given: what the parameter then has
    by_default : Val → Args → Args
    -- the arguments of a ParamArray
    by_list : Exprs → Args → Args
    -- arguments that were named: each parameter's, by its number among those that are evaluated
    in_order : List ℕ → Args → Args

  -- arguments of a member that is found in the run: places, which parameters may take themselves, and values
  pub data Given : Type 0 where
    none_given : Given
    place_given : Lvalue → Given → Given
    expr_given : Expr → Given → Given

  pub data Exprs : Type 0 where
    no_exprs : Exprs
    also : Expr → Exprs → Exprs

-- what Debug.Print shows: values, and commas, which go on to the next zone of 14 units
pub data Prints : Type 0 where
  no_prints : Prints
  shown : Expr → Prints → Prints
  zone : Prints → Prints

-- the type that an expression has as an operand
abbrev pub operand_type : Expr → Declared
operand_type (expr node place of operand) = operand

-- how many arguments are given
abbrev pub given_count : Exprs → ℕ
given_count no_exprs = 0
given_count (also (expr not_given place of operand) es) = given_count es
given_count (also e es) = suc (given_count es)
