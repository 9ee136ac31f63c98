-- Worked rows of S25: arguments that aren't taken, of procedures, of what is indexed and of members of the host's objects;
-- and arguments that are.
use Rattle.std.specs.Prelude.{◌≡◌, pos, List, [], ◌∷◌, refl, codes}
use Rattle.std.specs.Fmt.{digits}
use Rattle.caseless.proofs.Computing.{caseless}
use Rattle.vba_base.specs.Fold.{folded}
use Rattle.vba_values.specs.declared.types.OpKind.TheVariants as op
use Rattle.vba_values.specs.declared.types.WholeKind.TheVariants as kind
use Rattle.vba_values.specs.declared.types.Compare.TheVariants.{Binary}
use Rattle.vba_values.specs.declared.object.HostRef.TheVariants as host
use Rattle.vba_values.specs.Types as type
use Rattle.vba_values.specs.Val.{whole}
use Rattle.bound_project.specs.Expressions.{Variable, Expr, binary, call, not_given, variable, item, err_value, err_number, host_object, active_sheet, no_args, by_copy, by_default, by_list, Exprs, no_exprs, also, shared, in_order}
use Rattle.bound_project.specs.Statements.{Action, Statement, evaluate, assign}
use Rattle.bound_forms.proofs.BoundRows.{bound_to, e, n, at, v, show, jumping}
use Rattle.bound_forms.proofs.BrokenRows.{mark, mark_as, way, alone}

abbrev two : Exprs
two = also (n 1) (alone (n 2))

abbrev first : Action → List Statement
first a = jumping 1 a ∷ []

-- ---- procedures

none_for_one : bound_to (codes "Sub Main()\nWork\nEnd Sub\nSub Work(a As Long)\nEnd Sub") ≡ first (evaluate (mark 25 2 1 no_exprs)) ∷ [] ∷ []
unfolding bound_to folded caseless digits
none_for_one = refl

two_for_one : bound_to (codes "Sub Main()\nCall Work(1, 2)\nEnd Sub\nSub Work(a)\nEnd Sub") ≡ first (evaluate (mark 25 2 6 two)) ∷ [] ∷ []
unfolding bound_to folded caseless digits
two_for_one = refl

other_name : bound_to (codes "Sub Main()\nDebug.Print 1 + F(b:=2)\nEnd Sub\nFunction F(a As Long) As Long\nEnd Function")
    ≡ first (show (e type.long (binary op.Add Binary (n 1) (mark_as type.long 25 2 17 (alone (n 2)))))) ∷ [] ∷ []
unfolding bound_to folded caseless digits
other_name = refl

given_twice : bound_to (codes "Sub Main()\nDebug.Print F(1, a:=2)\nEnd Sub\nFunction F(a, Optional b) As Long\nEnd Function") ≡ first (show (mark_as type.long 25 2 13 two)) ∷ [] ∷ []
unfolding bound_to folded caseless digits
given_twice = refl

named_twice : bound_to (codes "Sub Main()\nDebug.Print F(a:=1, a:=2)\nEnd Sub\nFunction F(a, Optional b) As Long\nEnd Function") ≡ first (show (mark_as type.long 25 2 13 two)) ∷ [] ∷ []
unfolding bound_to folded caseless digits
named_twice = refl

name_of_many : bound_to (codes "Sub Main()\nDebug.Print F(a:=1)\nEnd Sub\nFunction F(ParamArray a()) As Long\nEnd Function") ≡ first (show (mark_as type.long 25 2 13 (alone (n 1)))) ∷ [] ∷ []
unfolding bound_to folded caseless digits
name_of_many = refl

-- one that isn't written is nothing for a parameter that needs it
not_written : bound_to (codes "Sub Main()\nWork , 2\nEnd Sub\nSub Work(a, b)\nEnd Sub")
    ≡ first (evaluate (mark 25 2 1 (also (e type.variant not_given) (alone (n 2))))) ∷ [] ∷ []
unfolding bound_to folded caseless digits
not_written = refl

-- a name alone, as a value; and a property that is assigned to
alone_in_value : bound_to (codes "Dim x\nSub Main()\nx = F\nEnd Sub\nFunction F(a) As Long\nEnd Function")
    ≡ first (assign (variable (record (at type.variant 0) { storage = shared 0 })) (mark_as type.long 25 3 5 no_exprs)) ∷ [] ∷ []
unfolding bound_to folded caseless digits
alone_in_value = refl

let_too_many : bound_to (codes "Sub Main()\nP(1) = 2\nEnd Sub\nProperty Let P(v)\nEnd Property") ≡ first (evaluate (mark 25 2 1 (also (n 2) (alone (n 1))))) ∷ [] ∷ []
unfolding bound_to folded caseless digits
let_too_many = refl

raised_with_four : bound_to (codes "Sub Main()\nErr.Raise 5, 6, 7, 8\nEnd Sub") ≡ first (evaluate (mark 25 2 1 (also (n 5) (also (n 6) (also (n 7) (alone (n 8))))))) ∷ []
unfolding bound_to folded caseless digits
raised_with_four = refl

-- an Optional parameter is left out, and a ParamArray takes any number
left_out : bound_to (codes "Sub Main()\nWork b:=1\nEnd Sub\nSub Work(Optional ByVal a As Long = 2, Optional ByVal b)\nEnd Sub")
    ≡ first (evaluate (e type.variant (call 1 (in_order (1 ∷ 0 ∷ []) (by_copy (n 1) type.variant (by_default (whole kind.Long (pos 2)) no_args)))))) ∷ [] ∷ []
unfolding bound_to folded caseless digits
left_out = refl

any_number : bound_to (codes "Sub Main()\nWork 1, 2\nWork\nEnd Sub\nSub Work(ParamArray a())\nEnd Sub")
    ≡ (jumping 1 (evaluate (e type.variant (call 1 (by_list two no_args)))) ∷ jumping 2 (evaluate (e type.variant (call 1 (by_list no_exprs no_args)))) ∷ []) ∷ [] ∷ []
unfolding bound_to folded caseless digits
any_number = refl

-- ---- what is indexed

long_indexed : bound_to (codes "Sub Main()\nDim n As Long\nDebug.Print n(1)\nEnd Sub") ≡ first (show (way (mark 25 3 13 (also (v (at type.long 1)) (alone (n 1)))))) ∷ []
unfolding bound_to folded caseless digits
long_indexed = refl

error_number_indexed : bound_to (codes "Sub Main()\nDebug.Print Err.Number(1)\nEnd Sub") ≡ first (show (way (mark 25 2 13 (also (e type.long (err_value err_number)) (alone (n 1)))))) ∷ []
unfolding bound_to folded caseless digits
error_number_indexed = refl

error_indexed : bound_to (codes "Sub Main()\nDebug.Print Err(1)\nEnd Sub") ≡ first (show (way (mark 25 2 13 (alone (n 1))))) ∷ []
unfolding bound_to folded caseless digits
error_indexed = refl

abbrev longs : Variable
longs = at (type.array_of type.long) 1

no_place : bound_to (codes "Sub Main()\nDim a() As Long\nDebug.Print a()\nEnd Sub") ≡ first (show (way (mark 25 3 13 (alone (v longs))))) ∷ []
unfolding bound_to folded caseless digits
no_place = refl

named_place : bound_to (codes "Sub Main()\nDim a() As Long\nDebug.Print a(i:=1)\nEnd Sub") ≡ first (show (way (mark 25 3 13 (also (v longs) (alone (n 1)))))) ∷ []
unfolding bound_to folded caseless digits
named_place = refl

-- of an array without bounds the run decides how many places there are, and of a Variant what it has
places : bound_to (codes "Sub Main()\nDim a() As Long, b\na(1, 2) = 3\nb(1, 2) = 3\nEnd Sub")
    ≡ (jumping 1 (assign (item longs two) (n 3)) ∷ jumping 2 (assign (item (at type.variant 2) two) (n 3)) ∷ []) ∷ []
unfolding bound_to folded caseless digits
places = refl

-- ---- members of the host's objects

abbrev sheets : Expr
sheets = e type.object (host_object host.Sheets)

abbrev sheet : Expr
sheet = e type.worksheet active_sheet

item_of_nothing : bound_to (codes "Sub Main()\nDebug.Print Worksheets.Item\nEnd Sub") ≡ first (show (way (mark 25 2 13 (alone sheets)))) ∷ []
unfolding bound_to folded caseless digits
item_of_nothing = refl

item_of_two : bound_to (codes "Sub Main()\nDebug.Print Worksheets(1, 2)\nEnd Sub") ≡ first (show (way (mark 25 2 13 (also sheets two)))) ∷ []
unfolding bound_to folded caseless digits
item_of_two = refl

one_number : bound_to (codes "Sub Main()\nCells(1) = 2\nEnd Sub") ≡ first (evaluate (mark 25 2 1 (also (n 2) (also sheet (alone (n 1)))))) ∷ []
unfolding bound_to folded caseless digits
one_number = refl

no_parameter_so : bound_to (codes "Sub Main()\nDebug.Print Cells(r:=1, row:=2)\nEnd Sub") ≡ first (show (way (mark 25 2 13 (also sheet two)))) ∷ []
unfolding bound_to folded caseless digits
no_parameter_so = refl
