-- Worked rows of what cells hold: values that are read, written and cleared.
use Rattle.std.proofs.Common.{◌≡◌, ℕ, zero, suc, ◌+◌, ◌≤◌, Bool, true, false, cond, pos, List, [], ◌∷◌, length, Some, None, refl, ◌∙◌, arith}
use Rattle.std.specs.Prelude.{codes, nat_lt, is_none}
use Rattle.std.specs.Fmt.{digits}
use Rattle.std.specs.FinMap as cells
use Rattle.std.proofs.lemmas.Bool.{le-ltb}
use Rattle.caseless.proofs.Computing.{caseless}
use Rattle.currency.specs.HalfEven.{nearest}
use Rattle.currency.specs.NumberText.{read, read_digits}
use Rattle.currency.specs.Printed.{printed}
use Rattle.vba_base.specs.Fold.{folded}
use Rattle.vba_values.specs.declared.fault.OutKind.TheVariants.{Elements}
use Rattle.vba_values.specs.declared.object.HostRef.TheVariants as host
use Rattle.vba_values.specs.declared.types.OpKind.TheVariants as op
use Rattle.vba_values.specs.declared.types.WholeKind.TheVariants as kind
use Rattle.vba_values.specs.declared.value.Bound.{Bound}
use Rattle.vba_values.specs.Types as type
use Rattle.vba_values.specs.Val.{val, no_vals, null, whole, array}
use Rattle.sheet_host.specs.declared.area.Area.{Area}
use Rattle.sheet_host.specs.declared.cell.CellValue.{CellValue}
use Rattle.sheet_host.specs.declared.cell.CellValue.TheVariants as cell
use Rattle.sheet_host.specs.Books.{Sheets, cell_limit, written_count, with_area}
use Rattle.sheet_host.specs.Sheets.{Cells, position_cmp, nth_cell, unwritten}
use Rattle.sheet_host.proofs.Positions.{position_total}
use Rattle.sheet_host.proofs.Puts.{stored_count}
use Rattle.bound_project.specs.Expressions.{Variable, Expr, constant, default_of, bound_of, host_object, variable, item, no_exprs, also, no_prints, shown}
use Rattle.bound_project.specs.Statements.{skipped, assign_item, assign_default, assign_member, set, print, on_error}
use Rattle.bound_project.specs.Project.{Project}
use Rattle.vba_meaning.specs.Memory.{Memory, Ended, Stopped, outside}
use Rattle.vba_meaning.specs.Effects.{Cell, Raised, Tell, done, area_in}
use Rattle.vba_meaning.specs.Host.{cleared}
use Rattle.vba_meaning.specs.Meaning.{meaning}
use Rattle.vba_meaning.proofs.Programs.{e, n, words, two, any, v, show, becomes, flat, main, told, line, of_type, at_place}
use Rattle.vba_meaning.proofs.HostRows.{book, rows, pair, member, property_of, here, cell_at, range_at, address_of, value_of, becomes_value, half_at}

-- the book with these cells written to its first sheet
abbrev pub book_of : Cells → Sheets
book_of written = record { name = codes "S"; content = record { rows = rows; cells = written } } ∷ []

-- a book in which few cells are written is far from holding too many
pub at_most : (written : Cells) (a : Area) (k : ℕ) → unwritten written a k ≤ k
at_most written a zero = omega arith
at_most written a (suc k) = let h = at_most written a k in let i = one_at_most (is_none (cells.get written (nth_cell a k))) in omega (arith, h, i) where
  one_at_most : (b : Bool) → cond b 1 0 ≤ 1
  one_at_most true = omega arith
  one_at_most false = omega arith

pub few : (written : Cells) (t l r c : ℕ) (cs : List CellValue) → cells.len written + length cs ≤ 1000 → nat_lt cell_limit (written_count (with_area (book_of written) (area_in 1 t l r c) cs)) ≡ false
few written t l r c cs short = le-ltb cell_limit _ (omega (arith, stored_count written (area_in 1 t l r c) cs, at_most written (area_in 1 t l r c) (length cs), short))

abbrev pub unwritten_book : Sheets
unwritten_book = book_of cells.empty

pub unwritten_at : (r c : ℕ) → cells.get (cells.empty {X = CellValue} {R = position_cmp}) (r, c) ≡ None
unwritten_at r c = cells.get-empty position_cmp (r, c)

-- up to a thousand cells are written to it
pub begun : (t l r c : ℕ) (cs : List CellValue) → length cs ≤ 1000 → nat_lt cell_limit (written_count (with_area unwritten_book (area_in 1 t l r c) cs)) ≡ false
begun t l r c cs short = few cells.empty t l r c cs (omega (arith, cells.len-empty position_cmp CellValue, short))

-- Debug.Print Cells(2, 2) * 2
doubled_is : told (meaning (main [] (flat 0 (show (two op.Mul type.variant (e type.variant (default_of (cell_at 2 2))) (n 2)) ∷ []))) unwritten_book 50) ≡ (Ended, line (codes " 3 ") ∷ [])
unfolding printed digits nearest read read_digits folded caseless
doubled_is = rw (unwritten_at 2 2)

-- Range("A1:B1").Value = 5, and Debug.Print Cells(1, 2).Value where 5 was written to B1
written_is : told (meaning (main [] (flat 0 (becomes_value (range_at (codes "A1:B1")) (n 5) ∷ []))) unwritten_book 50) ≡ (Ended, Cell 1 1 1 (cell.Long (pos 5)) ∷ Cell 1 1 2 (cell.Long (pos 5)) ∷ [])
unfolding digits folded caseless
written_is = rw (begun 1 1 1 2 (cell.Long (pos 5) ∷ cell.Long (pos 5) ∷ []) (omega arith))

read_is : (written : Cells) → cells.get written (1, 2) ≡ Some (cell.Long (pos 5)) → told (meaning (main [] (flat 0 (show (value_of (cell_at 1 2)) ∷ []))) (book_of written) 50) ≡ (Ended, line (codes " 5 ") ∷ [])
unfolding digits folded caseless
read_is written e = rw e

-- Cells(1, 1) = Null
nulled_is : told (meaning (main [] (flat 0 (assign_default (cell_at 1 1) (e type.variant (constant null)) ∷ []))) unwritten_book 50) ≡ (Ended, Cell 1 1 1 cell.Empty ∷ [])
unfolding folded caseless
nulled_is = rw (begun 1 1 1 1 (cell.Empty ∷ []) (omega arith))

-- v = Range("A1:A2").Value ¶ Debug.Print LBound(v); UBound(v); UBound(v, 2); v(2, 1)
abbrev arrayed : Project
arrayed = main (type.variant ∷ []) (flat 0 (
    becomes (any 1) (value_of (range_at (codes "A1:A2"))) ∷
    print (shown (bound false 1) (shown (bound true 1) (shown (bound true 2) (shown (at_place type.variant (item (any 1) (pair (n 2) (n 1)))) no_prints)))) true ∷ [])) where
      bound : Bool → ℕ → Expr
      bound upper k = e type.long (bound_of upper (variable (any 1)) (pos k))

arrayed_is : told (meaning arrayed unwritten_book 50) ≡ (Ended, line (codes " 1  2  1 007") ∷ [])
unfolding digits read read_digits nearest folded caseless
arrayed_is = rw (unwritten_at 1 1, unwritten_at 2 1)

-- an array is written to H4:G3 by rows, and is too small for G3:I3
abbrev from_one : ℕ → Bound
from_one k = record { low = pos 1; high = pos k }

abbrev four : Expr
four = e type.variant (constant (array (from_one 2 ∷ from_one 2 ∷ []) type.variant (val (whole kind.Integer (pos 1)) (val (whole kind.Integer (pos 2)) (val (whole kind.Integer (pos 3)) (val null no_vals))))))

filled_is : told (meaning (main [] (flat 0 (becomes_value (range_at (codes "H4:G3")) four ∷ []))) unwritten_book 50) ≡
    (Ended, Cell 1 3 7 (cell.Long (pos 1)) ∷ Cell 1 3 8 (cell.Long (pos 3)) ∷ Cell 1 4 7 (cell.Long (pos 2)) ∷ Cell 1 4 8 cell.Empty ∷ [])
unfolding digits folded caseless
filled_is = rw (begun 3 7 2 2 (cell.Long (pos 1) ∷ cell.Long (pos 3) ∷ cell.Long (pos 2) ∷ cell.Empty ∷ []) (omega arith))

too_small_is : told (meaning (main [] (flat 0 (on_error skipped ∷ becomes_value (range_at (codes "G3:I3")) four ∷ []))) unwritten_book 50) ≡ (Ended, Raised (pos 1004) ∷ [])
unfolding digits folded caseless
too_small_is = refl

-- Range("A1:C1").ClearContents: A1 and B1 aren't Empty
abbrev first_cleared : Cells
first_cleared = cells.insert cells.empty (1, 1) cell.Empty

abbrev both_cleared : Cells
both_cleared = cells.insert first_cleared (1, 2) cell.Empty

one_written : cells.len first_cleared ≤ 1
one_written = omega (arith, stored_count cells.empty (area_in 1 1 1 1 1) (cell.Empty ∷ []), at_most cells.empty (area_in 1 1 1 1 1) 1, cells.len-empty position_cmp CellValue)

second_unwritten : cells.get first_cleared (1, 2) ≡ None
second_unwritten = cells.get-insert position_total cells.empty (1, 1) cell.Empty (1, 2) ∙ unwritten_at 1 2

third_unwritten : cells.get both_cleared (1, 3) ≡ None
third_unwritten = cells.get-insert position_total first_cleared (1, 2) cell.Empty (1, 3) ∙ cells.get-insert position_total cells.empty (1, 1) cell.Empty (1, 3) ∙ unwritten_at 1 3

cleared_is : (m : Memory) → cleared (area_in 1 1 1 1 3) 3 (record m { book = unwritten_book }) ≡
    Tell (Cell 1 1 1 cell.Empty ∷ []) (Tell (Cell 1 1 2 cell.Empty ∷ []) (done (record m { book = book_of both_cleared })))
unfolding digits read read_digits nearest
cleared_is m = rw (unwritten_at 1 1, begun 1 1 1 1 (cell.Empty ∷ []) (omega arith), second_unwritten, few first_cleared 1 2 1 1 (cell.Empty ∷ []) (omega (arith, one_written)), third_unwritten)

-- Debug.Print Cells(1, 1).Value(1 \ 0, 1): one value takes no places
no_places : told (meaning (main [] (flat 0 (on_error skipped ∷ show (half_at (cell_at 1 1)) ∷ []))) unwritten_book 50) ≡ (Ended, Raised (pos 450) ∷ [])
unfolding digits read read_digits nearest folded caseless
no_places = rw (unwritten_at 1 1)

-- Range("A1:B1").Value(1, 3) = 5, and (1, 1) = 5: the places count, and nothing is written
places_are : told (meaning (main [] (flat 0 (on_error skipped ∷ assign_member (range_at (codes "A1:B1")) (codes "value") (pair (n 1) (n 3)) (n 5) ∷ []))) unwritten_book 50) ≡ (Ended, Raised (pos 9) ∷ [])
unfolding digits folded caseless
places_are = refl

nothing_written : told (meaning (main [] (flat 0 (assign_member (range_at (codes "A1:B1")) (codes "value") (pair (n 1) (n 1)) (n 5) ∷ []))) unwritten_book 50) ≡ (Ended, [])
unfolding digits read read_digits nearest folded caseless
nothing_written = rw (unwritten_at 1 1)

-- Debug.Print Range("A1:B1048576").Value(1 \ 0, 1): the value is read before the places, and is too large
read_first : told (meaning (main [] (flat 0 (show (half_at (range_at (codes "A1:B1048576"))) ∷ []))) unwritten_book 50) ≡ (Stopped (outside Elements) 0 (Some 0), [])
unfolding digits folded caseless
read_first = refl

-- Dim o As Object ¶ Set o = ThisWorkbook ¶ Debug.Print o.Worksheets("T").Cells(2, 1).Address
abbrev late : Variable
late = of_type 1 type.object

late_is : told (meaning (main (type.object ∷ []) (flat 0 (
    set (variable late) (e type.object (host_object host.Workbook)) ∷
    show (address_of (member type.range (member type.worksheet (v late) (codes "worksheets") (also (words (codes "T")) no_exprs)) (codes "cells") (pair (n 2) (n 1)))) ∷ []))) book 50) ≡
    (Ended, line (codes "$A$2") ∷ [])
unfolding digits folded caseless
late_is = refl

-- Debug.Print UsedRange.Address of a sheet without fields, where B3 and A5 were written
used_is : (written : Cells) → cells.entries written ≡ ((3, 2), cell.Long (pos 1)) ∷ ((4, 3), cell.Empty) ∷ ((5, 1), cell.Text (codes "x")) ∷ [] →
    told (meaning (main [] (flat 0 (show (address_of (property_of type.range here (codes "usedrange"))) ∷ []))) (record { name = codes "S"; content = record { rows = []; cells = written } } ∷ []) 50) ≡
    (Ended, line (codes "$A$3:$B$5") ∷ [])
unfolding digits folded caseless
used_is written e = rw e

-- an item of a range that a value has is written: F()(2, 1) = 5 where F gives H4:G3
item_is : told (meaning (main [] (flat 0 (assign_item (range_at (codes "H4:G3")) (pair (n 2) (n 1)) (n 5) ∷ []))) unwritten_book 50) ≡ (Ended, Cell 1 4 7 (cell.Long (pos 5)) ∷ [])
unfolding digits folded caseless
item_is = rw (begun 4 7 1 1 (cell.Long (pos 5) ∷ []) (omega arith))
