-- Small programs for worked rows.
use Rattle.std.specs.Prelude.{ℕ, suc, pos, List, [], ◌∷◌, codes, true, false, Some, None}
use Rattle.vba_values.specs.declared.types.OpKind.{OpKind}
use Rattle.vba_values.specs.declared.types.OpKind.TheVariants as op
use Rattle.vba_values.specs.declared.types.Compare.TheVariants.{Binary}
use Rattle.vba_values.specs.declared.types.WholeKind.TheVariants as kind
use Rattle.vba_values.specs.declared.value.Bound.{Bound}
use Rattle.vba_values.specs.Types.{Declared}
use Rattle.vba_values.specs.Types as type
use Rattle.vba_values.specs.Val.{whole, text}
use Rattle.bound_project.specs.Expressions.{local, shared, Variable, Expr, expr, Node, constant, load, binary, call, err_value, err_number, Args, Exprs, no_exprs, also, Lvalue, variable, item, no_prints, shown}
use Rattle.bound_project.specs.Statements.{Action, assign, evaluate, redim, no_resizes, resize, print, Statement}
use Rattle.bound_project.specs.Project.{Project, Declaration, Procedure, UserType, Body, is_sub, no_name, nowhere, no_declaration}
use Rattle.vba_meaning.specs.Memory.{Ending, Faulted}
use Rattle.vba_meaning.specs.Effects.{Event, Printed}
use Rattle.vba_meaning.specs.Meaning as over_a_book
use Rattle.vba_meaning.specs.Meaning.{Run}

abbrev pub e : Declared → Node → Expr
e of node = expr node nowhere of of

-- an Integer literal
abbrev pub n : ℕ → Expr
n k = e type.integer (constant (whole kind.Integer (pos k)))

abbrev pub words : List ℕ → Expr
words units = e type.text (constant (text units))

abbrev pub two : OpKind → Declared → Expr → Expr → Expr
two o of a b = e of (binary o Binary a b)

abbrev pub plus : Expr → Expr → Expr
plus a b = two op.Add type.integer a b

abbrev pub half : Expr
half = two op.IntDiv type.integer (n 1) (n 0)

abbrev pub long : ℕ → Variable
long i = record { storage = local i; of = type.long; bounded = false }

abbrev pub byte : ℕ → Variable
byte i = record { storage = local i; of = type.byte; bounded = false }

abbrev pub any : ℕ → Variable
any i = record { storage = local i; of = type.variant; bounded = false }

abbrev pub global : ℕ → Variable
global i = record { storage = shared i; of = type.long; bounded = false }

abbrev pub v : Variable → Expr
v x = e x.of (load (variable x))

abbrev pub err : Expr
err = e type.long (err_value err_number)

abbrev pub show : Expr → Action
show a = print (shown a no_prints) true

abbrev pub becomes : Variable → Expr → Action
becomes x a = assign (variable x) a

abbrev pub declare : Declared → Declaration
declare of = record no_declaration { of = of }

abbrev pub sub : List Declared → Procedure
sub locals = record { name = no_name; kind = is_sub; in_module = 0; place = nowhere; result = no_declaration; locals = declarations locals; parameters = [] } where
  declarations : List Declared → List Declaration
  declarations [] = []
  declarations (of ∷ ofs) = declare of ∷ declarations ofs

-- statements whose next ones are those behind them, from a number on
abbrev pub flat : ℕ → List Action → List Statement
flat i [] = []
flat i (a ∷ more) = record { action = a; place = nowhere; next = suc i } ∷ flat (suc i) more

abbrev pub jumping : ℕ → Action → Statement
jumping k a = record { action = a; place = nowhere; next = k }

abbrev pub program : List Declared → List (Procedure × List Statement) → Project
program globals procedures = record {
  declared = record { modules = record { name = record { spelling = codes "M"; fold = codes "m" }; compare = Binary; base = 0 } ∷ []; types = []; classes = []; shared = declarations globals; procedures = heads procedures };
  bodies = bodies_of procedures;
  startup = 0;
} where
  declarations : List Declared → List Declaration
  declarations [] = []
  declarations (of ∷ ofs) = declare of ∷ declarations ofs

  heads : List (Procedure × List Statement) → List Procedure
  heads [] = []
  heads (p ∷ ps) = p.0 ∷ heads ps

  bodies_of : List (Procedure × List Statement) → List Body
  bodies_of [] = []
  bodies_of (p ∷ ps) = record { statements = p.1; blocks = [] } ∷ bodies_of ps

abbrev pub main : List Declared → List Statement → Project
main locals statements = program [] ((sub locals, statements) ∷ [])

-- a run without sheets
abbrev pub meaning : Project → ℕ → Run
meaning pr n = over_a_book.meaning pr [] n

abbrev pub told : Run → Ending × List Event
told r = (r.ending, r.events)

abbrev pub line : List ℕ → Event
line units = Printed units true

abbrev pub fault : ℕ → (procedure statement : ℕ) → Ending
fault k p i = Faulted (record { number = pos k; source = None; description = None; procedure = p; statement = Some i })

-- arrays: of Long in a frame and in the project, of Variant in a frame
abbrev pub longs : ℕ → Variable
longs i = record { storage = local i; of = type.array_of type.long; bounded = false }

abbrev pub shared_longs : ℕ → Variable
shared_longs i = record { storage = shared i; of = type.array_of type.long; bounded = false }

abbrev pub of_type : ℕ → Declared → Variable
of_type i of = record { storage = local i; of = of; bounded = false }

-- an array that is declared with bounds
abbrev pub fixed : ℕ → Declared → Variable
fixed i element = record { storage = local i; of = type.array_of element; bounded = true }

abbrev pub up_to : ℕ → Bound
up_to k = record { low = pos 0; high = pos k }

abbrev pub declared_array : Declared → List Bound → Declaration
declared_array element bounds = record no_declaration { of = type.array_of element; bounds = bounds }

-- the numbers of a place of one dimension, and a dimension from 0
abbrev pub one : ℕ → Exprs
one k = also (n k) no_exprs

abbrev pub from_0 : ℕ → Exprs
from_0 k = also (n 0) (also (n k) no_exprs)

abbrev pub at_place : Declared → Lvalue → Expr
at_place of x = e of (load x)

-- the value of an element of an array of Longs
abbrev pub el : Variable → ℕ → Expr
el x k = at_place type.long (item x (one k))

abbrev pub el_becomes : Variable → ℕ → Expr → Action
el_becomes x k a = assign (item x (one k)) a

abbrev pub redim_to : Variable → ℕ → Action
redim_to x k = redim false (resize (variable x) (from_0 k) None no_resizes)

abbrev pub do_call : ℕ → Args → Action
do_call p args = evaluate (e type.variant (call p args))

-- a project with Types, each by its fields
abbrev pub with_types : List (List Declaration) → Project → Project
with_types ts pr = record pr { declared = record pr.declared { types = named ts } } where
  named : List (List Declaration) → List UserType
  named [] = []
  named (fs ∷ more) = record { name = no_name; fields = fs } ∷ named more
