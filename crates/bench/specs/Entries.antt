-- Serves the code: the Type whose elements are made.
use Rattle.std.specs.Prelude.{List, [], ◌∷◌}
use Rattle.vba_values.specs.Types as type
use Rattle.arrays_udt.specs.Fields.{Field}

-- Count As Long, and Name As String * 8
abbrev pub entry_fields : List Field
entry_fields = record { of = type.long; bounds = [] } ∷ record { of = type.fixed_text 8; bounds = [] } ∷ []

abbrev pub entry_types : List (List Field)
entry_types = entry_fields ∷ []
