-- Worked rows: the statements that procedures are bound to, without their places; and where binding stops.
use Rattle.std.specs.Prelude.{◌≡◌, ℕ, pos, true, false, List, [], ◌∷◌, None, refl, codes}
use Rattle.std.specs.Fmt.{digits}
use Rattle.caseless.proofs.Computing.{caseless}
use Rattle.vba_base.specs.Fold.{folded}
use Rattle.vba_values.specs.declared.types.OpKind.TheVariants as op
use Rattle.vba_values.specs.declared.types.Compare.TheVariants.{Binary}
use Rattle.vba_values.specs.declared.types.WholeKind.TheVariants as kind
use Rattle.vba_values.specs.Types.{Declared}
use Rattle.vba_values.specs.Types as type
use Rattle.vba_values.specs.Val.{whole}
use Rattle.vba_meaning.specs.Effects.{Printed}
use Rattle.bound_project.specs.Expressions.{local, shared, Variable, Expr, expr, Node, constant, load, binary, call, variable, no_args, by_place, by_copy, no_prints, shown}
use Rattle.bound_project.specs.Statements.{Action, assign, print, for_to, next, select, case_of, no_tests, test_is, test_range, handled_at, on_error, exit_to, resume_again, Statement}
use Rattle.bound_project.specs.Project.{Body, nowhere}
use Rattle.bound_forms.specs.Bind.{Answer, bound_as}
use Rattle.binder.proofs.Reading.{of_one}
use Rattle.bound_forms.proofs.Reading.{bound_of, ran_all, left_at, ends}
use Rattle.bound_forms.proofs.Bare.{bare_statements}

-- the statements of each procedure
abbrev statements_in : List Body → List (List Statement)
statements_in [] = []
statements_in (b ∷ bs) = bare_statements b.statements ∷ statements_in bs

abbrev pub statements_of : Answer → List (List Statement)
statements_of (bound_as pr) = statements_in pr.bodies
statements_of answer = []

unfoldable pub bound_to : List ℕ → List (List Statement)
unfolding bound_of
bound_to source = statements_of (bound_of (of_one source))

abbrev pub e : Declared → Node → Expr
e of node = expr node nowhere of of

abbrev pub n : ℕ → Expr
n k = e type.integer (constant (whole kind.Integer (pos k)))

abbrev pub at : Declared → ℕ → Variable
at of i = record { storage = local i; of = of; bounded = false }

abbrev pub v : Variable → Expr
v x = e x.of (load (variable x))

abbrev pub show : Expr → Action
show a = print (shown a no_prints) true

abbrev pub jumping : ℕ → Action → Statement
jumping k a = record { action = a; place = nowhere; next = k }

-- a loop
bytes : bound_to (codes "Sub Main()\nDim b As Byte\nFor b = 254 To 255\nDebug.Print b\nNext b\nEnd Sub")
    ≡ (jumping 1 (for_to (at type.byte 1) Binary (n 254) (n 255) (n 1) nowhere None 1 3) ∷ jumping 2 (show (v (at type.byte 1))) ∷ jumping 3 (next (at type.byte 1) 0 1) ∷ []) ∷ []
unfolding bound_to folded caseless digits
bytes = refl

-- a handler, and a label
again : bound_to (codes "Sub Main()\nDim d As Long\nOn Error GoTo H\nDebug.Print 10 \\ d\nExit Sub\nH: d = 5: Resume\nEnd Sub")
    ≡ (jumping 1 (on_error (handled_at 3)) ∷ jumping 2 (show (e type.long (binary op.IntDiv Binary (n 10) (v (at type.long 1))))) ∷ jumping 3 (exit_to 5)
    ∷ jumping 4 (assign (variable (at type.long 1)) (n 5)) ∷ jumping 5 resume_again ∷ []) ∷ []
unfolding bound_to folded caseless digits
again = refl

-- Select Case
chosen : bound_to (codes "Sub Main()\nSelect Case 7\nCase 1 To 3, Is > 8\nDebug.Print 1\nCase 5, 7\nDebug.Print 2\nCase Else\nDebug.Print 3\nEnd Select\nEnd Sub")
    ≡ (jumping 6 (select (n 7) 1)
    ∷ jumping 2 (case_of (test_range (n 1) (n 3) nowhere nowhere (test_is op.Gt nowhere (n 8) no_tests)) 0 type.integer Binary 2 3) ∷ jumping 6 (show (n 1))
    ∷ jumping 4 (case_of (test_is op.Eq nowhere (n 5) (test_is op.Eq nowhere (n 7) no_tests)) 0 type.integer Binary 4 5) ∷ jumping 6 (show (n 2))
    ∷ jumping 6 (show (n 3)) ∷ []) ∷ []
unfolding bound_to folded caseless digits
chosen = refl

-- a place that is lent and a copy; a result, parameters, and a variable of the module
abbrev g : Variable
g = record { storage = shared 0; of = type.long; bounded = false }

by_reference : bound_to (codes "Dim g As Long\nSub Main()\nDebug.Print F(g, (g))\nEnd Sub\nFunction F(a As Long, b As Long) As Long\nF = a * b\nEnd Function")
    ≡ (jumping 1 (show (e type.long (call 1 (by_place (variable g) (by_copy (v g) type.long no_args))))) ∷ [])
    ∷ (jumping 1 (assign (variable (at type.long 0)) (e type.long (binary op.Mul Binary (v (at type.long 1)) (v (at type.long 2))))) ∷ []) ∷ []
unfolding bound_to folded caseless digits
by_reference = refl

-- where binding stops: a public array of a class that is declared As New
left_variable : ran_all ((false, codes "Sub Main()\nEnd Sub") ∷ (true, codes "\nPublic o(1) As New Collection") ∷ []) ≡ left_at 2 2 1
unfolding ran_all folded caseless digits
left_variable = refl

-- a class is bound
class_bound : ran_all ((false, codes "Sub Main()\nEnd Sub") ∷ (true, codes "\nDim x") ∷ []) ≡ ends []
unfolding ran_all folded caseless digits
class_bound = refl

-- a Collection with keys, and its items by number and key; one that a parameter makes, walked by position
collection_run : ran_all (of_one (codes "Sub Main()\nDim c As New Collection\nc.Add 7, \"K\"\nc.Add 8, , 1\nDebug.Print c(1); c(\"k\"); c.Count\nEnd Sub")) ≡ ends (Printed (codes " 8  7  2 ") true ∷ [])
unfolding ran_all folded caseless digits
collection_run = refl

collection_walked : ran_all (of_one (codes "Sub Main()\nDim c As New Collection\nPut c\nFor Each x In c\nDebug.Print x;\nNext\nEnd Sub\nSub Put(o)\no.Add Key:=\"a\", Item:=5\no.Add o(\"A\") + 1\nEnd Sub"))
    ≡ ends (Printed (codes " 5 ") false ∷ Printed (codes " 6 ") false ∷ [])
unfolding ran_all folded caseless digits
collection_walked = refl

-- functions of the library; behind VBA an Array counts from 0
library_called : ran_all (of_one (codes "Sub Main()\nDebug.Print Left$(\"abc\", 2); Left(\"xyz\", 1)\nEnd Sub")) ≡ ends (Printed (codes "abx") true ∷ [])
unfolding ran_all folded caseless digits
library_called = refl

array_counts : ran_all (of_one (codes "Option Base 1\nSub Main()\nDebug.Print UBound(Array(5, 6)); UBound(VBA.Array(5, 6))\nEnd Sub")) ≡ ends (Printed (codes " 2  1 ") true ∷ [])
unfolding ran_all folded caseless digits
array_counts = refl

-- two modules: a public variable by its name and behind its module, and a private procedure of the same name in each
two_modules : ran_all ((false, codes "Sub Main()\nx = 2\nWork\nDebug.Print M.x\nEnd Sub\nPrivate Sub Work()\nx = x + 1\nEnd Sub")
    ∷ (false, codes "Attribute VB_Name = \"M\"\nPublic x As Long\nPrivate Sub Work()\nEnd Sub") ∷ []) ≡ ends (Printed (codes " 3 ") true ∷ [])
unfolding ran_all folded caseless digits
two_modules = refl
