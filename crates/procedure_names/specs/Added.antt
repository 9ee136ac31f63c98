-- Serves the code: the name that one use adds, if any.
use Rattle.std.specs.Prelude.{Bool, ◌||◌, List, [], ◌∷◌, is_some, if◌then◌else◌}
use Rattle.vba_words.specs.declared.identifier.Identifier.{Identifier}
use Rattle.declared_names.specs.binder.specs.Scopes.{Scope, Use, plainly, declares}
use Rattle.declared_names.specs.binder.specs.Declarations.{Local, an_array, undeclared}
use Rattle.declared_names.specs.binder.specs.Names.{Using, by_declaration, by_redim, by_use, has_name, has_redim}

abbrev pub added : Bool → (Use → Identifier → Bool) → List Using → List Local → Using → List Local
added static known all before (by_declaration l) = l ∷ []
added static known all before (by_redim x clause) =
    if known plainly x || has_name before x then [] else record { name = x; own = an_array clause static } ∷ []
added static known all before (by_use how x) =
    if known how x || (has_name before x || has_redim all x) then [] else record { name = x; own = undeclared static } ∷ []

-- whether a name is declared in a scope
abbrev pub known_in : Scope → Use → Identifier → Bool
known_in s how x = is_some (declares how s x)
