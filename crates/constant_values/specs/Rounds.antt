-- What tables of values hold, and where they may be asked.
use Rattle.std.specs.Prelude.{◌≡◌, ℕ, zero, suc, ◌+◌, List, [], ◌∷◌, length, map, Option, Some, slice_get}
use Rattle.declared_names.specs.binder.specs.Scopes.{Outside, Space, Scope, Meant, of_procedure, of_module, a_module, Qualifier, module_qualifier, enum_qualifier}
use Rattle.declared_names.specs.binder.specs.Names.{scope_of}
use Rattle.declared_names.specs.binder.specs.Constants.{Known, entry_by, own_by, named_within, all_entries}

-- each module of a project has its place as its number
abbrev pub AreNumbered : List Space → Type 0
AreNumbered spaces = (number : ℕ) (space : Space) → slice_get spaces number ≡ Some space → space.number ≡ number

-- a scope of a project: its module stands among the modules
pub record IsPlaced (s : Scope) : Type 0 where
  pub numbered : AreNumbered s.spaces
  pub here : slice_get s.spaces s.here.number ≡ Some s.here

-- a name's meaning stands in a scope
abbrev pub IsThere : Scope → Option Meant → Type 0
IsThere s (Some (of_procedure number l)) = slice_get s.locals number ≡ Some l
IsThere s (Some (of_module space number e)) = (slice_get s.spaces space.number ≡ Some space) × (slice_get space.entries number ≡ Some e)
IsThere s (Some (a_module space)) = slice_get s.spaces space.number ≡ Some space
IsThere s other = Unit {0}

-- so does what stands before a dot
abbrev pub IsPlace : Scope → Option Qualifier → Type 0
IsPlace s (Some (module_qualifier space)) = slice_get s.spaces space.number ≡ Some space
IsPlace s (Some (enum_qualifier space number)) = slice_get s.spaces space.number ≡ Some space
IsPlace s other = Unit {0}

-- the value of each entry through so many constants
abbrev pub space_round : ℕ → Outside → List Space → Space → List (Option Known)
space_round k o spaces space = map (λ e. entry_by (named_within k) (scope_of o spaces space) e.what) space.entries

abbrev pub entries_round : ℕ → Outside → List Space → List (List (Option Known))
entries_round k o spaces = map (space_round k o spaces) spaces

-- the value of each name of a procedure through so many constants
abbrev pub locals_round : ℕ → Scope → List (Option Known)
locals_round k s = map (λ l. own_by (named_within k) s l.own) s.locals

-- how many constants a chain may have in a scope
abbrev pub longest : Scope → ℕ
longest s = all_entries s.spaces + length s.locals

-- so many rounds of the entries, from one on
abbrev pub rounds_from : ℕ → ℕ → Outside → List Space → List (List (List (Option Known)))
rounds_from zero k o spaces = []
rounds_from (suc n) k o spaces = entries_round k o spaces ∷ rounds_from n (suc k) o spaces
