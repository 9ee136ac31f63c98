-- A procedure that calls itself, each time with a number one greater, until that is the last one.
use Rattle.std.specs.Prelude.{ℕ, pos, List, [], ◌∷◌, codes, true, false, None}
use Rattle.vba_values.specs.declared.types.OpKind.TheVariants as op
use Rattle.vba_values.specs.declared.types.Compare.TheVariants.{Binary}
use Rattle.vba_values.specs.declared.types.WholeKind.TheVariants as kind
use Rattle.vba_values.specs.Types.{Declared}
use Rattle.vba_values.specs.Types as type
use Rattle.vba_values.specs.Val.{whole}
use Rattle.bound_project.specs.Expressions.{local, Expr, expr, Node, constant, load, binary, call, variable, no_args, by_copy, no_prints, shown}
use Rattle.bound_project.specs.Statements.{Action, evaluate, print, test, Statement}
use Rattle.bound_project.specs.Project.{Project, Procedure, Body, is_sub, no_name, nowhere, no_declaration}
use Rattle.vba_meaning.specs.Memory.{Ending}
use Rattle.vba_meaning.specs.Effects.{Event}
use Rattle.vba_meaning.specs.Meaning.{Run, meaning}

abbrev of_type : Declared → Node → Expr
of_type of node = expr node nowhere of of

-- an Integer literal, the parameter n, and n + 1
abbrev pub literal : ℕ → Expr
literal k = of_type type.integer (constant (whole kind.Integer (pos k)))

abbrev pub n : Expr
n = of_type type.long (load (variable (record { storage = local 1; of = type.long; bounded = false })))

abbrev pub n_plus_one : Expr
n_plus_one = of_type type.long (binary op.Add Binary n (literal 1))

-- a call of R
abbrev pub call_with : Expr → Action
call_with e = evaluate (of_type type.variant (call 1 (by_copy e type.long no_args)))

-- what R does: it asks whether n is the last number, shows n, calls itself
abbrev pub asks : ℕ → Action
asks last = test true (of_type type.boolean (binary op.Eq Binary n (literal last))) 1 2

abbrev pub shows : Action
shows = print (shown n no_prints) true

abbrev pub calls_next : Action
calls_next = call_with n_plus_one

-- a statement, behind which the one with this number is next
abbrev pub before : ℕ → Action → Statement
before next action = record { action = action; place = nowhere; next = next }

-- a Sub without variables; R has the parameter ByVal n As Long
abbrev pub main : Procedure
main = record { name = no_name; kind = is_sub; in_module = 0; place = nowhere; result = no_declaration; locals = []; parameters = [] }

abbrev pub r : Procedure
r = record main { parameters = record { name = no_name; of = type.long; by_reference = false; default = None; many = false } ∷ [] }

abbrev pub body : List Statement → Body
body statements = record { statements = statements; blocks = [] }

-- Sub Main() ¶ R 1 ¶ End Sub ¶ Sub R(ByVal n As Long) ¶ If n = last Then Debug.Print n Else R n + 1 ¶ End Sub
abbrev pub deep : ℕ → Project
deep last = record {
  declared = record {
    modules = record { name = record { spelling = codes "M"; fold = codes "m" }; compare = Binary; base = 0 } ∷ [];
    types = [];
    classes = [];
    shared = [];
    procedures = main ∷ r ∷ [];
  };
  bodies =
      body (before 1 (call_with (literal 1)) ∷ [])
      ∷ body (before 1 (asks last) ∷ before 3 shows ∷ before 3 calls_next ∷ [])
      ∷ [];
  startup = 0;
}

-- how a run ended, and what it told
abbrev pub ends : Run → Ending × List Event
ends run = (run.ending, run.events)

-- the same of a run without sheets, with this bound on turns
abbrev pub told : Project → (turns : ℕ) → Ending × List Event
told pr turns = ends (meaning pr [] turns)
