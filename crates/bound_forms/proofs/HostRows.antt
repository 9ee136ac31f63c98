-- Worked rows: macros on sheets, by what they then tell.
use Rattle.std.specs.Prelude.{◌≡◌, pos, true, [], ◌∷◌, refl, codes}
use Rattle.std.specs.Fmt.{digits}
use Rattle.caseless.proofs.Computing.{caseless}
use Rattle.currency.specs.HalfEven.{nearest}
use Rattle.currency.specs.NumberText.{read, read_digits}
use Rattle.vba_base.specs.Fold.{folded}
use Rattle.vba_values.specs.Arithmetic.{division}
use Rattle.vba_values.specs.Operators.{join}
use Rattle.vba_meaning.specs.Effects.{Printed, Raised}
use Rattle.bound_forms.proofs.Reading.{ran_over, ends}

-- variables of object types are set, With keeps an object, and two are the same object or not
objects : ran_over (codes "Sub Main()\nDim w As Worksheet, o As Object, r As Range\nSet w = Worksheets(\"t\"): Set o = w\nDebug.Print w Is o; r Is Nothing\nWith w\nSet r = .Range(.Cells(1, 1), .Cells(2, 2))\nEnd With\nDebug.Print r.Address; r.Count; o.Name\nEnd Sub")
    ≡ ends (Printed (codes "TrueTrue") true ∷ Printed (codes "$A$1:$B$2 4 T") true ∷ [])
unfolding ran_over folded caseless digits division join nearest read read_digits
objects = refl

-- what isn't there
none : ran_over (codes "Sub Main()\nOn Error Resume Next\nDim r As Range, o As Object\nDebug.Print r.Row\nDebug.Print Err.Number\nSet o = Worksheets(1)\nDebug.Print o.Nothing\nDebug.Print Err.Number\nSet o = Worksheets(\"X\")\nDebug.Print Err.Number\nEnd Sub")
    ≡ ends (Raised (pos 91) ∷ Printed (codes " 91 ") true ∷ Raised (pos 438) ∷ Printed (codes " 438 ") true ∷ Raised (pos 9) ∷ Printed (codes " 9 ") true ∷ [])
unfolding ran_over folded caseless digits division join nearest read read_digits
none = refl

-- a Variant has a range: its members and items are found in the run
variants : ran_over (codes "Sub Main()\nDim v\nSet v = Range(\"B2:C3\")\nDebug.Print v(2, 1).Address; v.Count; v Is Nothing\nEnd Sub")
    ≡ ends (Printed (codes "$B$3 4 False") true ∷ [])
unfolding ran_over folded caseless digits division join nearest read read_digits
variants = refl

-- what a parameter without a type is given, and Set through it
given : ran_over (codes "Sub Main()\nDim r As Range\nSet r = Range(\"A1\")\nMove r\nDebug.Print r.Address\nEnd Sub\nSub Move(x)\nSet x = x.Offset(1, 0)\nEnd Sub")
    ≡ ends (Printed (codes "$A$2") true ∷ [])
unfolding ran_over folded caseless digits division join nearest read read_digits
given = refl

-- TypeOf of an object, Set of its property and Err.Raise, where the object is found in the run
late : ran_over (codes "Sub Main()\nDim o As Object\nSet o = Range(\"A1\")\nDebug.Print TypeOf o Is Range; TypeOf o Is Worksheet\nOn Error Resume Next\nSet o.Value = o\nSet o = Err\no.Raise 7, , \"x\"\nDebug.Print Err.Description\nEnd Sub")
    ≡ ends (Printed (codes "TrueFalse") true ∷ Raised (pos 438) ∷ Raised (pos 7) ∷ Printed (codes "x") true ∷ [])
unfolding ran_over folded caseless digits division join nearest read read_digits
late = refl
