-- The values of names, by tables of values in place of chains of constants.
use Rattle.std.specs.Prelude.{ℕ, List, [], ◌∷◌, map, Option, Some, None, option_map, option_and_then, slice_get}
use Rattle.vba_words.specs.declared.identifier.Identifier.{Identifier}
use Rattle.vba_expression.specs.Tree.{Expr, name, member}
use Rattle.declared_names.specs.binder.specs.Scopes.{Outside, Space, Scope, plainly, Meant, of_procedure, of_module, of_library, declares, behind, qualifier_of}
use Rattle.declared_names.specs.binder.specs.Names.{scope_of}
use Rattle.declared_names.specs.binder.specs.Constants.{Known, typed, entry_by, own_by}

-- what is known of names: nothing yet, or the values of the entries of modules and of the names of a procedure, by their numbers
pub data Names : Type 0 where
  nothing : Names
  values : List (List (Option Known)) → List (Option Known) → Names

-- the value at a number
abbrev pub slot_at : ℕ → List (Option Known) → Option Known
slot_at number slots = option_and_then (λ slot. slot) (slice_get slots number)

-- the value of an entry of a module
abbrev pub entry_at : List (List (Option Known)) → ℕ → ℕ → Option Known
entry_at entries space number = option_and_then (slot_at number) (slice_get entries space)

-- the value of what a name means
abbrev pub value_of : Names → Scope → Identifier → Option Meant → Option Known
value_of nothing s x meant = None
value_of (values entries own) s x (Some (of_procedure number l)) = slot_at number own
value_of (values entries own) s x (Some (of_module space number e)) = entry_at entries space.number number
value_of (values entries own) s x (Some of_library) = option_map typed (s.outside.constant x.name)
value_of (values entries own) s x other = None

-- the value of a name
abbrev pub names_from : Names → Scope → Expr → Option Known
names_from names s (name x) = value_of names s x (declares plainly s x)
names_from names s (member base dot x) = value_of names s x (option_and_then (λ q. behind plainly s q x) (qualifier_of s base))
names_from names s e = None

-- the values of the entries of a module, by what is known of names
abbrev pub space_by : Names → Outside → List Space → Space → List (Option Known)
space_by names o spaces space = map (λ e. entry_by (names_from names) (scope_of o spaces space) e.what) space.entries

-- the values of the entries of all modules
abbrev pub entries_by : Names → Outside → List Space → List (List (Option Known))
entries_by names o spaces = map (space_by names o spaces) spaces

-- the values of the names of a procedure
abbrev pub locals_by : Names → Scope → List (Option Known)
locals_by names s = map (λ l. own_by (names_from names) s l.own) s.locals
