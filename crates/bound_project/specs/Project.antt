-- A project whose names are replaced by what they stand for, and whose constants by their values. No name is looked
-- up in it, no declaration, block or label is searched for, and no constant expression is left.
use Rattle.std.specs.Prelude.{ℕ, zero, suc, List, [], map, Bool, Option, Some, None, slice_get, slice_index_or}
use Rattle.vba_base.specs.declared.place.Place.{Place}
use Rattle.vba_values.specs.declared.types.Compare.{Compare}
use Rattle.vba_values.specs.declared.value.Bound.{Bound}
use Rattle.vba_values.specs.Types.{Declared}
use Rattle.vba_values.specs.Types as type
use Rattle.vba_values.specs.Val.{Val}
use Rattle.arrays_udt.specs.Fields.{Field}
use Rattle.arrays_udt.specs.Fresh.{field_initial}
use Rattle.bound_project.specs.Statements.{Statement, Block}

-- a name as it is declared, and its fold, by which it is found
pub record Spelled : Type 0 where
  pub spelling : List ℕ
  pub fold : List ℕ

-- a variable, a field or a result: its declared type, with the bounds of an array that is declared with bounds
pub record Declaration : Type 0 where
  pub name : Spelled
  pub place : Place
  pub of : Declared
  pub bounds : List Bound

-- a parameter: whether it is ByRef, what it has where it is optional and not given, and whether it is a ParamArray
pub record Parameter : Type 0 where
  pub name : Spelled
  pub of : Declared
  pub by_reference : Bool
  pub default : Option Val
  pub many : Bool

pub data ProcedureKind : Type 0 where
  is_sub : ProcedureKind
  is_function : ProcedureKind
  is_get : ProcedureKind
  is_let : ProcedureKind
  is_set : ProcedureKind

-- a procedure without its statements: its module's number, the place of its header, its result and its own variables
pub record Procedure : Type 0 where
  pub name : Spelled
  pub kind : ProcedureKind
  pub in_module : ℕ
  pub place : Place
  pub result : Declaration
  pub locals : List Declaration
  pub parameters : List Parameter

pub record Module : Type 0 where
  pub name : Spelled
  pub compare : Compare
  pub base : ℕ

-- a Type, by the names of its fields and what they are
pub record UserType : Type 0 where
  pub name : Spelled
  pub fields : List Declaration

-- a member of a class: a variable of its objects, with the class of which an object is made where it is declared As New;
-- a Sub or Function; a property, by its Get, its Let and its Set where they are written
pub data Member : Type 0 where
  is_variable : (field : ℕ) → (makes : Option ℕ) → Member
  is_procedure : (procedure : ℕ) → Member
  is_property : (reads lets sets : Option ℕ) → Member

-- a public member, by its folded name
pub record Named : Type 0 where
  pub fold : List ℕ
  pub member : Member

-- an event that a class declares
pub record DeclaredEvent : Type 0 where
  pub name : Spelled
  pub parameters : List Parameter

-- a procedure that handles an event of what a WithEvents variable has: the number of the variable among those of its
-- class, that of the event among those of what raises it, and that of the procedure. A Worksheet raises Change, 0
pub record Handler : Type 0 where
  pub field : ℕ
  pub event : ℕ
  pub procedure : ℕ

-- a class module: its variables, its Class_Initialize and Class_Terminate where they are written, its public members, and
-- its default member and its enumerator where it has one; the events that it declares, the numbers of its WithEvents
-- variables, and its handlers
pub record Class : Type 0 where
  pub name : Spelled
  pub fields : List Declaration
  pub initialize : Option ℕ
  pub terminate : Option ℕ
  pub members : List Named
  pub default : Option Member
  pub enumerator : Option Member
  pub events : List DeclaredEvent
  pub with_events : List ℕ
  pub handlers : List Handler

-- all that a project declares. Classes count from 1, all else from 0
pub record Declarations : Type 0 where
  pub modules : List Module
  pub types : List UserType
  pub classes : List Class
  pub shared : List Declaration
  pub procedures : List Procedure

pub record Body : Type 0 where
  pub statements : List Statement
  pub blocks : List Block

-- a project: its declarations, the body of each procedure, and the procedure that the run begins with
pub record Project : Type 0 where
  pub declared : Declarations
  pub bodies : List Body
  pub startup : ℕ

-- ---- what stands at a number

abbrev pub no_name : Spelled
no_name = record { spelling = []; fold = [] }

abbrev pub nowhere : Place
nowhere = record { «module» = 0; line = 0; column = 0 }

abbrev pub no_declaration : Declaration
no_declaration = record { name = no_name; place = nowhere; of = type.variant; bounds = [] }

abbrev pub no_event : DeclaredEvent
no_event = record { name = no_name; parameters = [] }

abbrev pub no_procedure : Procedure
no_procedure = record { name = no_name; kind = is_sub; in_module = 0; place = nowhere; result = no_declaration; locals = []; parameters = [] }

abbrev pub procedure_at : Declarations → ℕ → Procedure
procedure_at d p = slice_index_or d.procedures p no_procedure

abbrev pub no_class : Class
no_class = record { name = no_name; fields = []; initialize = None; terminate = None; members = []; default = None; enumerator = None; events = []; with_events = []; handlers = [] }

-- a class by its number; the number 0 is that of Collection, which ends without a word
abbrev pub class_at : Declarations → ℕ → Class
class_at d zero = no_class
class_at d (suc c) = slice_index_or d.classes c no_class

-- the same where there is one
abbrev pub class_numbered : Declarations → ℕ → Option Class
class_numbered d zero = None
class_numbered d (suc c) = slice_get d.classes c

abbrev pub statements_or : Option Body → List Statement
statements_or None = []
statements_or (Some b) = b.statements

abbrev pub statements_at : Project → ℕ → List Statement
statements_at pr p = statements_or (slice_get pr.bodies p)

abbrev pub statement_at : Project → (procedure statement : ℕ) → Option Statement
statement_at pr p i = slice_get (statements_at pr p) i

-- the number of the next statement in text order; past the end it is the same
abbrev pub next_or : Option Statement → ℕ → ℕ
next_or None i = i
next_or (Some s) i = s.next

abbrev pub next_of : Project → (procedure statement : ℕ) → ℕ
next_of pr p i = next_or (statement_at pr p i) i

-- the place of a statement; of the header where none was begun
abbrev pub place_or : Option Statement → Place → Place
place_or None place = place
place_or (Some s) place = s.place

abbrev pub place_of : Project → (procedure : ℕ) → Option ℕ → Place
place_of pr p None = (procedure_at pr.declared p).place
place_of pr p (Some i) = place_or (statement_at pr p i) (procedure_at pr.declared p).place

-- ---- the values with which variables begin

abbrev pub field_of : Declaration → Field
field_of d = record { of = d.of; bounds = d.bounds }

abbrev pub types_of : Declarations → List (List Field)
types_of d = map (λ t. map field_of t.fields) d.types

abbrev pub first_value : Declarations → Declaration → Val
first_value d x = field_initial (types_of d) (field_of x)

abbrev pub first_values : Declarations → List Declaration → List Val
first_values d xs = map (first_value d) xs
