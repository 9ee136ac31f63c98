-- Worked rows: members that the run finds, what arguments index in the run, and members of the host in a project with a
-- class, by what they are bound to and what they then tell.
use Rattle.std.specs.Prelude.{◌≡◌, ℕ, false, List, [], ◌∷◌, None, refl, codes}
use Rattle.std.specs.Fmt.{digits}
use Rattle.caseless.proofs.Computing.{caseless}
use Rattle.vba_base.specs.Fold.{folded}
use Rattle.vba_values.specs.Types as type
use Rattle.bound_project.specs.Expressions.{Variable, ByName, load, default_of, enumerated, variable, element_along, late_field, late_member, none_given, place_given, expr_given, no_exprs, also}
use Rattle.bound_project.specs.Statements.{Statement, evaluate, assign_late, set_late, assign_element, set_element, assign_through, for_each, next_each, redim, resize, no_resizes}
use Rattle.bound_forms.proofs.Reading.{bound_of}
use Rattle.bound_forms.proofs.BoundRows.{statements_of, e, n, at, v, show, jumping}
use Rattle.bound_forms.proofs.ClassRows.{with_class}

-- Main's statements, behind a class C
abbrev first_of : List (List Statement) → List Statement
first_of [] = []
first_of (ss ∷ more) = ss

unfoldable pub main_to : List ℕ → List Statement
unfolding bound_of with_class
main_to main = first_of (statements_of (bound_of (with_class main (codes "Attribute VB_Name = \"C\"\nPublic X As Long\nSub Twice()\nX = X * 2\nEnd Sub"))))

-- an Object, a Variant, and how unnamed arguments are given
o : Variable
o = at type.object 1

w : Variable
w = at type.variant 1

abbrev unnamed : ℕ → ByName
unnamed k = record { before = k; names = [] }

late_members : main_to (codes "Sub Main()\nDim o As Object\no.X = 2\no.Twice\nDebug.Print o.P(1, o)\nSet o.Y = o\nEnd Sub")
    ≡ jumping 1 (assign_late (v o) (codes "x") (unnamed 0) none_given (n 2))
    ∷ jumping 2 (evaluate (e type.variant (late_member (v o) (codes "twice") (unnamed 0) none_given)))
    ∷ jumping 3 (show (e type.variant (default_of (e type.variant (late_member (v o) (codes "p") (unnamed 2) (expr_given (n 1) (place_given (variable o) none_given)))))))
    ∷ jumping 4 (set_late (v o) (codes "y") (unnamed 0) none_given (v o)) ∷ []
unfolding main_to with_class folded caseless digits o
late_members = refl

late_elements : main_to (codes "Sub Main()\nDim w\nw(0) = 1\nSet w(0) = w\nDebug.Print w(0).X\nw.Y(2) = 3\nDebug.Print w.Z(k:=1)\nEnd Sub")
    ≡ jumping 1 (assign_element (variable w) (also (n 0) no_exprs) (n 1))
    ∷ jumping 2 (set_element (variable w) (also (n 0) no_exprs) (v w))
    ∷ jumping 3 (show (e type.variant (default_of (e type.variant (late_member (e type.variant (load (element_along (variable w) (also (n 0) no_exprs)))) (codes "x") (unnamed 0) none_given)))))
    ∷ jumping 4 (assign_late (v w) (codes "y") (unnamed 1) (expr_given (n 2) none_given) (n 3))
    ∷ jumping 5 (show (e type.variant (default_of (e type.variant (late_member (v w) (codes "z") (record { before = 0; names = codes "k" ∷ [] }) (expr_given (n 1) none_given)))))) ∷ []
unfolding main_to with_class folded caseless digits w
late_elements = refl

-- an object's default member is written, a public array gets other bounds, and an object of a class is walked
late_statements : main_to (codes "Sub Main()\nDim o As Object, x\no = 5\nReDim o.A(3)\nFor Each x In o\nNext\nEnd Sub")
    ≡ jumping 1 (assign_through (v o) (n 5))
    ∷ jumping 2 (redim false (resize (late_field (v o) (codes "a")) (also (n 0) (also (n 3) no_exprs)) None no_resizes))
    ∷ jumping 3 (for_each (at type.variant 2) (e type.variant (enumerated (v o))) 3 4)
    ∷ jumping 4 (next_each (at type.variant 2) 2 3) ∷ []
unfolding main_to with_class folded caseless digits o
late_statements = refl
