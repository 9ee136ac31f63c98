-- Serves the code: the Types that fields hold.
use Rattle.std.specs.Prelude.{ℕ, List, [], ◌∷◌, Option, Some, None}
use Rattle.vba_values.specs.Types.{Declared}
use Rattle.vba_values.specs.Types as type
use Rattle.constant_values.specs.declared_names.specs.binder.specs.Declarations.{FieldWritten}
use Rattle.constant_values.specs.declared_names.specs.binder.specs.Scopes.{Scope}
use Rattle.constant_values.specs.declared_names.specs.binder.specs.Types.{written_type}

-- the number of a Type
abbrev pub held_of_type : Declared → Option ℕ
held_of_type (type.udt number) = Some number
held_of_type _ = None

-- the number that there is, or none
abbrev pub held_list : Option ℕ → List ℕ
held_list None = []
held_list (Some number) = number ∷ []

-- what a field holds
abbrev pub number_in_field : Scope → FieldWritten → List ℕ
number_in_field s f = held_list (held_of_type (written_type (λ e. 0) s f.type_clause.declared_type))
