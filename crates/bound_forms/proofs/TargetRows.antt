-- Worked rows of S27 and S30: what can't be assigned to, and values that a target doesn't take; and those that it takes.
use Rattle.std.specs.Prelude.{◌≡◌, ℕ, pos, true, false, List, [], ◌∷◌, None, Some, refl, codes}
use Rattle.std.specs.Fmt.{digits}
use Rattle.caseless.proofs.Computing.{caseless}
use Rattle.vba_base.specs.Fold.{folded}
use Rattle.vba_values.specs.declared.types.Compare.TheVariants.{Binary}
use Rattle.vba_values.specs.declared.object.HostRef.TheVariants as host
use Rattle.vba_values.specs.Types as type
use Rattle.vba_values.specs.Val.{text}
use Rattle.vba_lib.specs.declared.function.LibraryFunction.TheVariants as function
use Rattle.bound_project.specs.Expressions.{Variable, Expr, constant, call, library, err_value, err_number, host_object, variable, item, no_args, by_copy, also, default_of}
use Rattle.bound_project.specs.Statements.{Action, Statement, assign, assign_default, evaluate, redim, resize, no_resizes}
use Rattle.bound_forms.proofs.BoundRows.{bound_to, e, n, at, v, show, jumping}
use Rattle.bound_forms.proofs.BrokenRows.{mark, alone, none}

abbrev first : Action → List Statement
first a = jumping 1 a ∷ []

abbrev says : List ℕ → Expr
says x = e type.text (constant (text x))

-- ---- S27, of targets

error_number : bound_to (codes "Sub Main()\nErr.Number = 5\nEnd Sub") ≡ first (evaluate (mark 27 2 1 (also (n 5) (alone (e type.long (err_value err_number)))))) ∷ []
unfolding bound_to folded caseless digits
error_number = refl

error_object : bound_to (codes "Sub Main()\nErr = 5\nEnd Sub") ≡ first (evaluate (mark 27 2 1 (alone (n 5)))) ∷ []
unfolding bound_to folded caseless digits
error_object = refl

a_constant : bound_to (codes "Sub Main()\nConst K = 1\nK = 2\nEnd Sub") ≡ first (evaluate (mark 27 3 1 (also (n 2) (alone (n 1))))) ∷ []
unfolding bound_to folded caseless digits
a_constant = refl

a_sub : bound_to (codes "Sub Main()\nMain = 5\nEnd Sub") ≡ first (evaluate (mark 27 2 1 (alone (n 5)))) ∷ []
unfolding bound_to folded caseless digits
a_sub = refl

a_library_function : bound_to (codes "Sub Main()\nLeft(\"a\", 1) = 5\nEnd Sub")
    ≡ first (evaluate (mark 27 2 1 (also (n 5) (alone (e type.variant (library function.Left false (also (says (codes "a")) (alone (n 1))) Binary (pos 0))))))) ∷ []
unfolding bound_to folded caseless digits
a_library_function = refl

a_long_function : bound_to (codes "Sub Main()\nF = 5\nEnd Sub\nFunction F() As Long\nEnd Function") ≡ first (evaluate (mark 27 2 1 (also (n 5) (alone (e type.long (call 1 no_args)))))) ∷ [] ∷ []
unfolding bound_to folded caseless digits
a_long_function = refl

a_count : bound_to (codes "Sub Main()\nWorksheets.Count = 1\nEnd Sub") ≡ first (evaluate (mark 27 2 1 (also (n 1) (alone (e type.object (host_object host.Sheets)))))) ∷ []
unfolding bound_to folded caseless digits
a_count = refl

all_sheets : bound_to (codes "Sub Main()\nWorksheets = 1\nEnd Sub") ≡ first (evaluate (mark 27 2 1 (also (n 1) (alone (e type.object (host_object host.Sheets)))))) ∷ []
unfolding bound_to folded caseless digits
all_sheets = refl

a_param_array : bound_to (codes "Sub Main()\nEnd Sub\nSub Work(ParamArray a())\na = 1\na(0) = 1\nEnd Sub")
    ≡ [] ∷ (jumping 1 (evaluate (mark 27 4 1 (alone (n 1)))) ∷ jumping 2 (assign (item (at (type.array_of type.variant) 1) (alone (n 0))) (n 1)) ∷ []) ∷ []
unfolding bound_to folded caseless digits
a_param_array = refl

set_function : bound_to (codes "Sub Main()\nSet F = Nothing\nEnd Sub\nFunction F() As Object\nEnd Function") ≡ first (evaluate (mark 27 2 5 (also none (alone (e type.object (call 1 no_args)))))) ∷ [] ∷ []
unfolding bound_to folded caseless digits
set_function = refl

-- what a Function gives as a Variant may be an object, whose default member is written; and its own result is a variable
variant_function : bound_to (codes "Sub Main()\nF = 5\nEnd Sub\nFunction F()\nF = 6\nEnd Function")
    ≡ first (assign_default (e type.variant (call 1 no_args)) (n 5)) ∷ first (assign (variable (at type.variant 0)) (n 6)) ∷ []
unfolding bound_to folded caseless digits
variant_function = refl

-- ---- S27, of values of a Type

abbrev u : Expr
u = v (at (type.udt 0) 1)

to_variant : bound_to (codes "Type T\na As Long\nEnd Type\nSub Main()\nDim u As T, x\nx = u\nEnd Sub") ≡ first (assign (variable (at type.variant 2)) (mark 27 6 5 (alone u))) ∷ []
unfolding bound_to folded caseless digits
to_variant = refl

to_parameter : bound_to (codes "Type T\na As Long\nEnd Type\nSub Main()\nDim u As T\nWork u\nEnd Sub\nSub Work(x)\nEnd Sub")
    ≡ first (evaluate (e type.variant (call 1 (by_copy (mark 27 6 6 (alone u)) type.variant no_args)))) ∷ [] ∷ []
unfolding bound_to folded caseless digits
to_parameter = refl

to_function : bound_to (codes "Type T\na As Long\nEnd Type\nSub Main()\nDim u As T\nDebug.Print IsEmpty(u)\nEnd Sub")
    ≡ first (show (e type.boolean (library function.IsEmpty false (alone (mark 27 6 21 (alone u))) Binary (pos 0)))) ∷ []
unfolding bound_to folded caseless digits
to_function = refl

own_type : bound_to (codes "Type T\na As Long\nEnd Type\nSub Main()\nDim u As T, w As T\nw = u\nEnd Sub") ≡ first (assign (variable (at (type.udt 0) 2)) u) ∷ []
unfolding bound_to folded caseless digits
own_type = refl

-- ---- S27, of ReDim

resized_number : bound_to (codes "Sub Main()\nDim n As Long\nReDim n(5)\nEnd Sub") ≡ first (redim false (resize (variable (at type.long 1)) (also (n 0) (alone (mark 27 3 7 (alone (n 5))))) None no_resizes)) ∷ []
unfolding bound_to folded caseless digits
resized_number = refl

other_elements : bound_to (codes "Sub Main()\nDim a() As Long\nReDim a(5) As Byte\nEnd Sub")
    ≡ first (redim false (resize (variable (at (type.array_of type.long) 1)) (also (n 0) (alone (mark 27 3 7 (alone (n 5))))) (Some type.byte) no_resizes)) ∷ []
unfolding bound_to folded caseless digits
other_elements = refl

resized_variant : bound_to (codes "Sub Main()\nDim x\nReDim x(5) As Byte\nEnd Sub") ≡ first (redim false (resize (variable (at type.variant 1)) (also (n 0) (alone (n 5))) (Some type.byte) no_resizes)) ∷ []
unfolding bound_to folded caseless digits
resized_variant = refl

-- ---- S30

other_array : bound_to (codes "Sub Main()\nDim a() As Long, b() As Byte\na = b\nEnd Sub")
    ≡ first (assign (variable (at (type.array_of type.long) 1)) (mark 30 3 5 (alone (v (at (type.array_of type.byte) 2))))) ∷ []
unfolding bound_to folded caseless digits
other_array = refl

abbrev bounded : ℕ → Variable
bounded i = record (at (type.array_of type.long) i) { bounded = true }

to_bounds : bound_to (codes "Sub Main()\nDim a(3) As Long, b(3) As Long\na = b\nEnd Sub") ≡ first (assign (variable (bounded 1)) (mark 30 3 5 (alone (v (bounded 2))))) ∷ []
unfolding bound_to folded caseless digits
to_bounds = refl

from_split : bound_to (codes "Sub Main()\nDim a() As Long\na = Split(\"a\")\nEnd Sub")
    ≡ first (assign (variable (at (type.array_of type.long) 1)) (mark 30 3 5 (alone (e (type.array_of type.text) (library function.Split false (alone (says (codes "a"))) Binary (pos 0)))))) ∷ []
unfolding bound_to folded caseless digits
from_split = refl

-- an array without bounds takes one of the same elements, also one with bounds; a Variant takes each; and of a Variant the
-- run decides what it has
same_array : bound_to (codes "Sub Main()\nDim a() As Long, b(3) As Long, x\na = b\nx = b\na = x\nEnd Sub")
    ≡ (jumping 1 (assign (variable (at (type.array_of type.long) 1)) (v (bounded 2))) ∷ jumping 2 (assign (variable (at type.variant 3)) (v (bounded 2)))
    ∷ jumping 3 (assign (variable (at (type.array_of type.long) 1)) (e type.variant (default_of (v (at type.variant 3))))) ∷ []) ∷ []
unfolding bound_to folded caseless digits
same_array = refl
