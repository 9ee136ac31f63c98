-- Serves the code: what objects are, as the binder says it.
use Rattle.std.specs.Prelude.{◌≡◌, List, Some}
use Rattle.bound_project.specs.Expressions as bound
use Rattle.bound_project.specs.Pieces.{Piece, Tables}
use Rattle.bound_project.specs.View.{declared_view}
use Rattle.bound_calls.specs.bound_forms.specs.Operands.{host_kind}
use Rattle.bound_calls.specs.bound_forms.specs.Operands as operands
use Rattle.bound_calls.specs.declared.term.Ending.{Ending}
use Rattle.bound_calls.specs.Standing.{ValueEnds}
use Rattle.bound_members.specs.declared.kinds.HostKind.{HostKind}
use Rattle.bound_members.specs.declared.kinds.HostKind.TheVariants as kind

abbrev pub kind_view : HostKind → operands.HostKind
kind_view kind.Application = operands.application
kind_view kind.Workbook = operands.workbook
kind_view kind.Sheets = operands.sheets
kind_view kind.Sheet = operands.sheet
kind_view kind.Area = operands.area
kind_view kind.Collection = operands.collection
kind_view kind.AnyObject = operands.any_object

-- a value whose last node isn't pushed yet gives an object of this kind
abbrev pub EndingOfKind : Ending → HostKind → Type 0
EndingOfKind e k = (t : Tables) (made : bound.Node) (ps below : List Piece) → ValueEnds t e.kind made ps below → host_kind made (declared_view e.of) ≡ Some (kind_view k)
