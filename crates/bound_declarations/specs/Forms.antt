-- Serves the code: declarations by their types and bounds.
use Rattle.std.specs.Prelude.{List, [], map, Option}
use Rattle.vba_values.specs.Types.{Declared}
use Rattle.vba_values.specs.Types as type
use Rattle.vba_values.specs.declared.value.Bound.{Bound}
use Rattle.vba_words.specs.declared.identifier.Identifier.{Identifier}
use Rattle.vba_tree.specs.Tree.{TypeClause}
use Rattle.bound_project.specs.Project.{Declaration, UserType}
use Rattle.constant_values.specs.declared_names.specs.binder.specs.Sources.{spelled}
use Rattle.constant_values.specs.declared_names.specs.binder.specs.Declarations.{FieldWritten}
use Rattle.constant_values.specs.declared_names.specs.binder.specs.Scopes.{Scope}
use Rattle.constant_values.specs.declared_names.specs.binder.specs.Storage.{declared_field, plain_clause_type}

-- a name as it is declared
abbrev pub declared_as : Scope → Identifier → Declared → List Bound → Declaration
declared_as s x of bounds = record { name = spelled s.here.source.text x; place = x.token.place; of = of; bounds = bounds }

-- the array that a ReDim declares
abbrev pub redimmed_as : Scope → Identifier → Option TypeClause → Declaration
redimmed_as s x clause = declared_as s x (type.array_of (plain_clause_type s x clause)) []

-- a Type by its fields
abbrev pub type_as : Scope → Identifier → List FieldWritten → UserType
type_as s x fields = record { name = spelled s.here.source.text x; fields = map (declared_field s) fields }
