-- Worked rows of host members and cells.
use Rattle.std.specs.Prelude.{◌≡◌, ℕ, pos, List, [], ◌∷◌, codes, true, refl, Some}
use Rattle.std.specs.Fmt.{digits}
use Rattle.std.specs.FinMap as cells
use Rattle.caseless.proofs.Computing.{caseless}
use Rattle.currency.specs.HalfEven.{nearest}
use Rattle.currency.specs.NumberText.{read, read_digits}
use Rattle.vba_base.specs.Fold.{folded}
use Rattle.vba_values.specs.Arithmetic.{division}
use Rattle.vba_values.specs.declared.fault.OutKind.TheVariants.{Cells}
use Rattle.vba_values.specs.declared.object.HostRef.TheVariants as host
use Rattle.vba_values.specs.declared.object.ObjRef.TheVariants.{Nothing}
use Rattle.vba_values.specs.declared.types.OpKind.TheVariants as op
use Rattle.vba_values.specs.Types as type
use Rattle.vba_values.specs.Val.{null, object}
use Rattle.sheet_host.specs.Books.{Sheets}
use Rattle.bound_project.specs.Expressions.{Variable, Expr, constant, err_source, err_description, err_value, host_object, active_sheet, host_member, named_member, variable, Exprs, no_exprs, also, no_prints, shown}
use Rattle.bound_project.specs.Statements.{Action, skipped, set, set_member, assign_default, assign_member, evaluate, print, for_each, next_each, on_error}
use Rattle.bound_project.specs.Project.{Project}
use Rattle.vba_meaning.specs.Memory.{Ended, Stopped, outside}
use Rattle.vba_meaning.specs.Effects.{Raised}
use Rattle.vba_meaning.specs.Meaning.{meaning}
use Rattle.vba_meaning.proofs.Programs.{e, n, words, two, half, any, v, show, flat, jumping, main, told, line, of_type}

-- the sheets S and T: id,price and 007,1.50
abbrev pub rows : List (List (List ℕ))
rows = (codes "id" ∷ codes "price" ∷ []) ∷ (codes "007" ∷ codes "1.50" ∷ []) ∷ []

abbrev pub book : Sheets
book = record { name = codes "S"; content = record { rows = rows; cells = cells.empty } } ∷ record { name = codes "T"; content = record { rows = rows; cells = cells.empty } } ∷ []

-- members: of the first sheet, of the book's sheets, and of another object
abbrev pub pair : Expr → Expr → Exprs
pair a b = also a (also b no_exprs)

abbrev pub member : type.Declared → Expr → List ℕ → Exprs → Expr
member of a name es = e of (host_member a name es)

abbrev pub property_of : type.Declared → Expr → List ℕ → Expr
property_of of a name = member of a name no_exprs

abbrev pub here : Expr
here = e type.worksheet active_sheet

abbrev pub cell_at : ℕ → ℕ → Expr
cell_at r c = member type.range here (codes "cells") (pair (n r) (n c))

abbrev pub range_at : List ℕ → Expr
range_at address = member type.range here (codes "range") (also (words address) no_exprs)

abbrev pub sheets : Expr
sheets = e type.object (host_object host.Sheets)

abbrev pub sheet_called : List ℕ → Expr
sheet_called name = member type.worksheet sheets (codes "item") (also (words name) no_exprs)

abbrev pub address_of : Expr → Expr
address_of a = property_of type.text a (codes "address")

abbrev pub value_of : Expr → Expr
value_of a = property_of type.variant a (codes "value")

abbrev pub becomes_value : Expr → Expr → Action
becomes_value a b = assign_member a (codes "value") no_exprs b

-- a.Value(1 \ 0, 1)
abbrev pub half_at : Expr → Expr
half_at a = member type.variant a (codes "value") (pair half (n 1))

abbrev nothing : Expr
nothing = e type.object (constant (object Nothing))

-- On Error Resume Next ¶ Debug.Print Cells(2, 2).Address ¶ Debug.Print Cells(0, 1).Row ¶ Debug.Print Worksheets("X").Name
-- ¶ Debug.Print Cells(2, 2).Nope ¶ Debug.Print Worksheets.Count
abbrev members : Project
members = main [] (flat 0 (
    on_error skipped ∷ show (address_of (cell_at 2 2)) ∷ show (property_of type.long (cell_at 0 1) (codes "row")) ∷ show (property_of type.text (sheet_called (codes "X")) (codes "name")) ∷
    show (property_of type.variant (cell_at 2 2) (codes "nope")) ∷ show (property_of type.long sheets (codes "count")) ∷ []))

members_are : told (meaning members book 50) ≡ (Ended, line (codes "$B$2") ∷ Raised (pos 1004) ∷ Raised (pos 9) ∷ Raised (pos 438) ∷ line (codes " 2 ") ∷ [])
unfolding digits folded caseless
members_are = refl

-- a book without sheets has no active one: Debug.Print Cells(2, 2).Row
no_sheet : told (meaning (main [] (flat 0 (on_error skipped ∷ show (property_of type.long (cell_at 2 2) (codes "row")) ∷ []))) [] 50) ≡ (Ended, Raised (pos 91) ∷ [])
no_sheet = refl

-- Dim w As Worksheet ¶ For Each w In Worksheets ¶ Debug.Print w.Name ¶ Next w
abbrev sheet : Variable
sheet = of_type 1 type.worksheet

abbrev named : Project
named = main (type.worksheet ∷ []) (
    jumping 1 (for_each sheet sheets 1 3) ∷ jumping 2 (show (property_of type.text (v sheet) (codes "name"))) ∷ jumping 3 (next_each sheet 0 1) ∷ [])

named_is : told (meaning named book 50) ≡ (Ended, line (codes "S") ∷ line (codes "T") ∷ [])
unfolding folded caseless
named_is = refl

-- On Error Resume Next: what is lacking, what is lacking to a member and what is too much for it come before arguments
abbrev refused : Project
refused = main [] (flat 0 (
    on_error skipped ∷ show (member type.variant (cell_at 1 1) (codes "nope") (one_of half)) ∷ show (member type.variant (cell_at 1 1) (codes "offset") (one_of half)) ∷
    show (member type.variant here (codes "cells") (one_of half)) ∷ show (member type.variant (cell_at 1 1) (codes "row") (one_of half)) ∷
    show (member type.variant (cell_at 1 1) (codes "clearcontents") (one_of half)) ∷ show (member type.variant nothing (codes "row") (one_of half)) ∷
    show (member type.variant (n 1) (codes "row") (one_of half)) ∷ show (member type.variant (cell_at 1 1) (codes "offset") (pair half (n 1))) ∷ [])) where
      one_of : Expr → Exprs
      one_of a = also a no_exprs

refused_are : told (meaning refused book 50) ≡
    (Ended, Raised (pos 438) ∷ Raised (pos 449) ∷ Raised (pos 449) ∷ Raised (pos 450) ∷ Raised (pos 450) ∷ Raised (pos 91) ∷ Raised (pos 424) ∷ Raised (pos 11) ∷ [])
unfolding division folded caseless
refused_are = refl

-- On Error Resume Next: arguments that are named come to their parameters; then a name that there isn't, a parameter that
-- is given twice, one that is lacking, and a name behind a member that takes none, each before its argument is evaluated
abbrev by_name : Project
by_name = main [] (flat 0 (
    on_error skipped ∷ show (address_of (cells 0 (codes "c" ∷ codes "r" ∷ []) (pair (n 2) (n 3)))) ∷ show (address_of (cells 1 (codes "c" ∷ []) (pair (n 2) (n 3)))) ∷
    show (cells 0 (codes "r" ∷ codes "q" ∷ []) (pair half half)) ∷ show (cells 1 (codes "r" ∷ []) (pair half half)) ∷ show (cells 0 (codes "c" ∷ codes "c" ∷ []) (pair half half)) ∷
    show (cells 0 (codes "c" ∷ []) (also half no_exprs)) ∷
    show (e type.variant (named_member (cell_at 1 1) (codes "row") (record { before = 0; names = codes "r" ∷ [] }) (also half no_exprs))) ∷ [])) where
      cells : ℕ → List (List ℕ) → Exprs → Expr
      cells before names es = e type.range (named_member here (codes "cells") (record { before = before; names = names }) es)

by_name_is : told (meaning by_name book 50) ≡
    (Ended, line (codes "$B$3") ∷ line (codes "$C$2") ∷ Raised (pos 450) ∷ Raised (pos 450) ∷ Raised (pos 450) ∷ Raised (pos 449) ∷ Raised (pos 450) ∷ [])
unfolding division digits folded caseless
by_name_is = refl

-- For Each v In Range("A1:B2") ¶ Debug.Print v.Address ¶ Next v
abbrev walked : Project
walked = main (type.variant ∷ []) (
    jumping 1 (for_each (any 1) (range_at (codes "A1:B2")) 1 3) ∷ jumping 2 (show (address_of (v (any 1)))) ∷ jumping 3 (next_each (any 1) 0 1) ∷ [])

walked_is : told (meaning walked book 50) ≡ (Ended, line (codes "$A$1") ∷ line (codes "$B$1") ∷ line (codes "$A$2") ∷ line (codes "$B$2") ∷ [])
unfolding digits folded caseless
walked_is = refl

-- Cells = Nothing: the run stops before the value is looked at
too_many : told (meaning (main [] (flat 0 (on_error skipped ∷ assign_default (property_of type.range here (codes "cells")) nothing ∷ []))) book 50) ≡ (Stopped (outside Cells) 0 (Some 1), [])
unfolding folded caseless
too_many = refl

-- where members lead: Range of ranges, Item, Offset, Resize, Rows, Columns, Parent and Count
abbrev leading : Project
leading = main [] (flat 0 (
    on_error skipped ∷ show (address_of (between (cell_at 3 2) (range_at (codes "A1:A2")))) ∷ show (address_of (between (cell_at 1 1) other)) ∷
    show (address_of (between (words (codes "A1")) nothing)) ∷ show (address_of (between nothing (n 1))) ∷
    show (address_of (member type.range (range_at (codes "b2:c3")) (codes "item") (pair (n 3) (n 0)))) ∷ show (address_of (member type.range (cell_at 1 1) (codes "offset") (pair (n 0) (minus 1)))) ∷
    show (address_of (member type.range (cell_at 2 1) (codes "resize") (pair (n 2) (words (codes "2"))))) ∷ show (address_of (member type.range (cell_at 2 1) (codes "resize") (pair (n 0) (n 1)))) ∷
    print (shown (counted (property_of type.range (range_at (codes "A1:B3")) (codes "rows"))) (shown (counted (property_of type.range (range_at (codes "A1:B3")) (codes "columns"))) (
    shown (counted (range_at (codes "A1:B3"))) no_prints))) true ∷
    show (property_of type.long (property_of type.worksheet other (codes "parent")) (codes "index")) ∷
    show (counted (property_of type.range here (codes "cells"))) ∷ [])) where
      between : Expr → Expr → Expr
      between a b = member type.range here (codes "range") (pair a b)

      other : Expr
      other = member type.range (sheet_called (codes "t")) (codes "cells") (pair (n 1) (n 1))

      counted : Expr → Expr
      counted a = property_of type.long a (codes "count")

      minus : ℕ → Expr
      minus k = two op.Sub type.integer (n 0) (n k)

leading_is : told (meaning leading book 50) ≡ (
  Ended,
  line (codes "$A$1:$B$3") ∷ Raised (pos 1004) ∷ Raised (pos 13) ∷ Raised (pos 91) ∷ line (codes "$A$4") ∷ Raised (pos 1004) ∷
      line (codes "$A$2:$B$3") ∷ Raised (pos 1004) ∷ line (codes " 3  2  6 ") ∷ line (codes " 2 ") ∷ Raised (pos 6) ∷ [],
)
unfolding digits nearest read read_digits folded caseless
leading_is = refl

-- Application.EnableEvents = 0 ¶ Debug.Print Application.EnableEvents; Application.DisplayAlerts; and what can't be
-- assigned to: a cell's Row and ClearContents 438, Worksheets 449
abbrev marked : Project
marked = main [] (flat 0 (
    on_error skipped ∷ assign_member application (codes "enableevents") no_exprs (n 0) ∷
    print (shown (mark (codes "enableevents")) (shown (mark (codes "displayalerts")) no_prints)) true ∷ assign_member (cell_at 1 1) (codes "row") no_exprs (n 5) ∷
    assign_member (cell_at 1 1) (codes "clearcontents") no_exprs (n 5) ∷ assign_member (e type.object (host_object host.Workbook)) (codes "worksheets") no_exprs (n 5) ∷
    assign_member application (codes "screenupdating") no_exprs (words (codes "x")) ∷ [])) where
      application : Expr
      application = e type.object (host_object host.Application)

      mark : List ℕ → Expr
      mark name = property_of type.boolean application name

marked_is : told (meaning marked book 50) ≡
    (Ended, line (codes "FalseTrue") ∷ Raised (pos 438) ∷ Raised (pos 438) ∷ Raised (pos 449) ∷ Raised (pos 13) ∷ [])
unfolding digits read read_digits folded caseless
marked_is = refl

-- On Error Resume Next ¶ Set o = Err ¶ o.Raise 7, "A", "B" ¶ Debug.Print Err.Source; Err.Description ¶ o.Raise 1 \ 0
-- ¶ o.Raise ¶ o.Raise 1, 2, 3, 4 ¶ o.Raise Null ¶ Set o.Source = o ¶ the same of Nothing and of a number
abbrev late : Project
late = main (type.object ∷ []) (flat 0 (
    on_error skipped ∷ set (variable held) (e type.object (host_object host.ErrObject)) ∷ raises (also (n 7) (pair (words (codes "A")) (words (codes "B")))) ∷
    print (shown (e type.text (err_value err_source)) (shown (e type.text (err_value err_description)) no_prints)) true ∷
    raises (also half no_exprs) ∷ raises no_exprs ∷ raises (also (n 1) (also (n 2) (pair (n 3) (n 4)))) ∷ raises (also (e type.variant (constant null)) no_exprs) ∷
    set_member (v held) (v held) ∷ set_member nothing (v held) ∷ set_member (n 1) (v held) ∷ [])) where
      held : Variable
      held = of_type 1 type.object

      raises : Exprs → Action
      raises es = evaluate (member type.variant (v held) (codes "raise") es)

late_is : told (meaning late book 50) ≡ (
  Ended,
  Raised (pos 7) ∷ line (codes "AB") ∷ Raised (pos 11) ∷ Raised (pos 449) ∷ Raised (pos 450) ∷ Raised (pos 94) ∷ Raised (pos 438) ∷ Raised (pos 91) ∷ Raised (pos 424) ∷ [],
)
unfolding division digits folded caseless
late_is = refl
