-- Serves the code: the names that procedures declare.
use Rattle.std.specs.Prelude.{List, [], ◌∷◌, ◌++◌, map, Option, Some, None}
use Rattle.vba_words.specs.declared.identifier.Identifier.{Identifier}
use Rattle.constant_values.specs.declared_names.specs.binder.specs.Declarations.{Local, Written, header_names}
use Rattle.constant_values.specs.declared_names.specs.binder.specs.Said.{Said, declares, said_in_body}

-- what is declared, of all that is said
abbrev pub declared_in : List Said → List Local
declared_in [] = []
declared_in (declares l ∷ said) = l ∷ declared_in said
declared_in (_ ∷ said) = declared_in said

-- the names that the header of a procedure declares, then those that its body declares
abbrev pub names_in : Written → List Identifier
names_in p = map (λ l. l.name) (header_names p) ++ map (λ l. l.name) (declared_in (said_in_body p))

-- the name that there is, or none
abbrev pub name_list : Option Identifier → List Identifier
name_list None = []
name_list (Some x) = x ∷ []
