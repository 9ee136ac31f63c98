-- Worked rows: class modules and what uses their objects, by what they are bound to and what they then tell.
use Rattle.std.specs.Prelude.{◌≡◌, ℕ, Bool, true, false, List, [], ◌∷◌, refl, codes}
use Rattle.std.specs.Fmt.{digits}
use Rattle.caseless.proofs.Computing.{caseless}
use Rattle.vba_base.specs.Fold.{folded}
use Rattle.vba_values.specs.declared.types.OpKind.TheVariants as op
use Rattle.vba_values.specs.declared.types.Compare.TheVariants.{Binary}
use Rattle.vba_values.specs.Types as type
use Rattle.bound_project.specs.Expressions.{own, Variable, Expr, load, binary, method, this, new_object, variable, object_field, no_args, by_copy}
use Rattle.bound_project.specs.Statements.{assign, set, evaluate, Statement}
use Rattle.bound_forms.proofs.Reading.{bound_of}
use Rattle.bound_forms.proofs.BoundRows.{statements_of, e, n, at, v, show, jumping}

-- a class module C behind a standard module
unfoldable pub with_class : List ℕ → List ℕ → List (Bool × List ℕ)
with_class main class = (false, main) ∷ (true, class) ∷ []

bound_to : List ℕ → List ℕ → List (List Statement)
unfolding bound_of with_class
bound_to main class = statements_of (bound_of (with_class main class))

-- the object of the variable o, the own object, and the variable X of that
o : Variable
o = at (type.class 1) 1

me : Expr
me = e (type.class 1) this

x : Variable
x = record { storage = own 0; of = type.long; bounded = false }

-- a variable, a procedure and a property of an object, from outside, by their names and behind Me
members : bound_to
    (codes "Sub Main()\nDim o As C\nSet o = New C\no.X = 2\no.Twice\nDebug.Print o.P(1)\nEnd Sub")
    (codes "Attribute VB_Name = \"C\"\nPublic X As Long\nSub Twice()\nX = X * 2\nEnd Sub\nProperty Get P(ByVal k As Long) As Long\nP = Me.X\nTwice\nEnd Property")
    ≡ (jumping 1 (set (variable o) (e (type.class 1) (new_object 1)))
    ∷ jumping 2 (assign (object_field (v o) 0 type.long false) (n 2))
    ∷ jumping 3 (evaluate (e type.variant (method (v o) 1 no_args)))
    ∷ jumping 4 (show (e type.long (method (v o) 2 (by_copy (n 1) type.long no_args)))) ∷ [])
    ∷ (jumping 1 (assign (variable x) (e type.long (binary op.Mul Binary (v x) (n 2)))) ∷ [])
    ∷ (jumping 1 (assign (variable (at type.long 0)) (e type.long (load (object_field me 0 type.long false))))
    ∷ jumping 2 (evaluate (e type.variant (method me 1 no_args))) ∷ []) ∷ []
unfolding bound_to with_class folded caseless digits o x me
members = refl
