-- The Types of the tests.
use Rattle.std.specs.Prelude.{pos, List, [], ◌∷◌}
use Rattle.vba_values.specs.Types as type
use Rattle.arrays_udt.specs.Fields.{Field}

-- Y(1 To 2) As Integer
abbrev pub y_of_point : Field
y_of_point = record { of = type.array_of type.integer; bounds = record { low = pos 1; high = pos 2 } ∷ [] }

-- Type Point: X As Long, and Y
abbrev pub point_fields : List Field
point_fields = record { of = type.long; bounds = [] } ∷ y_of_point ∷ []

-- Rest() As Byte
abbrev pub rest_of_line : Field
rest_of_line = record { of = type.array_of type.byte; bounds = [] }

-- Type Line: A As Point, Name As String * 3, and Rest
abbrev pub line_fields : List Field
line_fields = record { of = type.udt 0; bounds = [] } ∷ record { of = type.fixed_text 3; bounds = [] } ∷ rest_of_line ∷ []

abbrev pub line_types : List (List Field)
line_types = point_fields ∷ line_fields ∷ []
