-- Worked rows of S34: members and default members that there aren't; and those that the run finds.
use Rattle.std.specs.Prelude.{◌≡◌, List, [], ◌∷◌, refl, codes, false}
use Rattle.std.specs.Fmt.{digits}
use Rattle.caseless.proofs.Computing.{caseless}
use Rattle.vba_base.specs.Fold.{folded}
use Rattle.vba_values.specs.declared.object.HostRef.TheVariants as host
use Rattle.vba_values.specs.Types as type
use Rattle.bound_project.specs.Expressions.{Expr, load, default_of, variable, field, kept_place, host_object, active_sheet, no_exprs, also, element_value}
use Rattle.bound_project.specs.Statements.{Action, Statement, assign, assign_member, evaluate, with_place, end_with, assign_default}
use Rattle.bound_forms.proofs.BoundRows.{bound_to, e, n, at, v, show, jumping}
use Rattle.bound_forms.proofs.BrokenRows.{mark, way, alone}

abbrev first : Action → List Statement
first a = jumping 1 a ∷ []

abbrev book : Expr
book = e type.object (host_object host.Workbook)

abbrev sheets : Expr
sheets = e type.object (host_object host.Sheets)

abbrev sheet : Expr
sheet = e type.worksheet active_sheet

-- ---- behind a dot

no_field : bound_to (codes "Type T\na As Long\nEnd Type\nSub Main()\nDim u As T\nDebug.Print u.b\nEnd Sub") ≡ first (show (way (mark 34 6 14 (alone (v (at (type.udt 0) 1)))))) ∷ []
unfolding bound_to folded caseless digits
no_field = refl

no_field_in_block : bound_to (codes "Type T\na As Long\nEnd Type\nSub Main()\nDim u As T\nWith u\nDebug.Print .b\nEnd With\nEnd Sub")
    ≡ (jumping 1 (with_place (variable (at (type.udt 0) 1))) ∷ jumping 2 (show (way (mark 34 7 13 (alone (e (type.udt 0) (load (kept_place 0))))))) ∷ jumping 3 (end_with 0) ∷ []) ∷ []
unfolding bound_to folded caseless digits
no_field_in_block = refl

nothing_that_err_tells : bound_to (codes "Sub Main()\nDim x\nx = Err.Foo\nEnd Sub") ≡ first (assign (variable (at type.variant 1)) (way (mark 34 3 8 no_exprs))) ∷ []
unfolding bound_to folded caseless digits
nothing_that_err_tells = refl

no_member_of_sheets : bound_to (codes "Sub Main()\nDebug.Print Worksheets.Add\nEnd Sub") ≡ first (show (way (mark 34 2 23 (alone sheets)))) ∷ []
unfolding bound_to folded caseless digits
no_member_of_sheets = refl

no_member_of_book : bound_to (codes "Sub Main()\nThisWorkbook.Save\nEnd Sub") ≡ first (evaluate (mark 34 2 13 (alone book))) ∷ []
unfolding bound_to folded caseless digits
no_member_of_book = refl

no_member_of_number : bound_to (codes "Sub Main()\nDim n As Long\nn.Foo = 1\nEnd Sub") ≡ first (assign_default (mark 34 3 2 (alone (v (at type.long 1)))) (n 1)) ∷ []
unfolding bound_to folded caseless digits
no_member_of_number = refl

-- a field that there is; and of an Object the run finds the member
found_field : bound_to (codes "Type T\na As Long\nEnd Type\nSub Main()\nDim u As T\nDebug.Print u.A\nEnd Sub") ≡ first (show (e type.long (load (field (variable (at (type.udt 0) 1)) 0 type.long false)))) ∷ []
unfolding bound_to folded caseless digits
found_field = refl

found_in_run : bound_to (codes "Sub Main()\nDim o As Object\no.Foo = 1\nEnd Sub") ≡ first (assign_member (v (at type.object 1)) (codes "foo") no_exprs (n 1)) ∷ []
unfolding bound_to folded caseless digits
found_in_run = refl

-- ---- default members

book_as_value : bound_to (codes "Sub Main()\nDebug.Print ThisWorkbook\nEnd Sub") ≡ first (show (mark 34 2 13 (alone book))) ∷ []
unfolding bound_to folded caseless digits
book_as_value = refl

sheet_as_value : bound_to (codes "Sub Main()\nDim n As Long\nn = ActiveSheet\nEnd Sub") ≡ first (assign (variable (at type.long 1)) (mark 34 3 5 (alone sheet))) ∷ []
unfolding bound_to folded caseless digits
sheet_as_value = refl

sheet_indexed : bound_to (codes "Sub Main()\nDebug.Print ActiveSheet(1)\nEnd Sub")
    ≡ first (show (e type.variant (default_of (e type.variant (element_value (mark 34 2 13 (alone sheet)) (alone (n 1))))))) ∷ []
unfolding bound_to folded caseless digits
sheet_indexed = refl

sheet_written : bound_to (codes "Sub Main()\nActiveSheet = 1\nEnd Sub") ≡ first (evaluate (mark 34 2 1 (also (n 1) (alone sheet)))) ∷ []
unfolding bound_to folded caseless digits
sheet_written = refl

-- that of Worksheets needs an argument, S25, and can't be written, S27
sheets_as_value : bound_to (codes "Sub Main()\nDebug.Print Worksheets\nEnd Sub") ≡ first (show (mark 25 2 13 (alone sheets))) ∷ []
unfolding bound_to folded caseless digits
sheets_as_value = refl

sheets_written : bound_to (codes "Sub Main()\nWorksheets = 1\nEnd Sub") ≡ first (evaluate (mark 27 2 1 (also (n 1) (alone sheets)))) ∷ []
unfolding bound_to folded caseless digits
sheets_written = refl

-- of an Object the run decides whether there is one
object_as_value : bound_to (codes "Sub Main()\nDim o As Object\nDebug.Print o\nEnd Sub") ≡ first (show (e type.variant (default_of (v (at type.object 1))))) ∷ []
unfolding bound_to folded caseless digits
object_as_value = refl
