-- What names mean: the declaration found first in the order procedure, module, project, host and library.
use Rattle.std.specs.Prelude.{ℕ, suc, ◌==◌, Bool, true, false, ◌&&◌, ◌||◌, not, List, [], ◌∷◌, drop, codes, Option, Some, None, option_map, bytes_eq, if◌then◌else◌}
use Rattle.vba_lexer.specs.declared.number.TypeSuffix.{TypeSuffix}
use Rattle.vba_lexer.specs.declared.number.TypeSuffix.TheVariants as suffix
use Rattle.vba_values.specs.Val.{Val}
use Rattle.vba_words.specs.declared.identifier.Identifier.{Identifier}
use Rattle.vba_expression.specs.Tree.{Expr, name, member}
use Rattle.bound_project.specs.Project.{Spelled}
use Rattle.binder.specs.Sources.{Source, name_or, given_name}
use Rattle.binder.specs.Options.{or_else}
use Rattle.binder.specs.Declarations.{What, an_enum, a_member, a_type, an_event, Entry, entries_in, in_module, Own, the_result, Local}

-- what stands outside of a project, by the folds of names: a constant of the library; whether a name is the library's,
-- written with `$` or without; whether that is one which VBA has and this library leaves out; whether it is the host's
pub record Outside : Type 0 where
  pub constant : List ℕ → Option Val
  pub is_library : List ℕ → Bool → Bool
  pub is_left_out : List ℕ → Bool
  pub is_host : List ℕ → Bool

-- a module by its number, from 0, and what it declares
pub record Space : Type 0 where
  pub number : ℕ
  pub source : Source
  pub name : Spelled
  pub entries : List Entry

abbrev pub spaces_from : ℕ → List Source → List Space
spaces_from number [] = []
spaces_from number (s ∷ ss) =
    record { number = number; source = s; name = name_or (suc number) (given_name s.parts); entries = entries_in in_module s.parts }
    ∷ spaces_from (suc number) ss

-- where a name is looked up: a module of a project, and what the procedure there declares
pub record Scope : Type 0 where
  pub outside : Outside
  pub spaces : List Space
  pub here : Space
  pub locals : List Local

-- how a name is used: its value, a call or an index, or what stands before a dot
pub data Use : Type 0 where
  plainly : Use
  called : Use
  before_dot : Use

-- what a name means; entries and names of a procedure have their numbers
pub data Meant : Type 0 where
  of_procedure : ℕ → Local → Meant
  of_module : Space → ℕ → Entry → Meant
  -- before a dot
  a_module : Space → Meant
  the_library : Meant
  of_host : Meant
  of_library : Meant

-- ---- lists of declarations

abbrev pub is_named : List ℕ → Identifier → Bool
is_named fold x = bytes_eq x.name fold

-- the first that passes, with its number
abbrev pub first_at : {A : Type 0} → (A → Bool) → ℕ → List A → Option (ℕ × A)
first_at test number [] = None
first_at test number (x ∷ xs) = if test x then Some (number, x) else first_at test (suc number) xs

-- types and events are no values, and Enums stand before a dot alone
abbrev pub counts : Use → What → Bool
counts before_dot an_enum = true
counts how an_enum = false
counts how (a_type fields) = false
counts how (an_event ps) = false
counts how what = true

-- a Function that is called by its name isn't its result
abbrev pub counts_here : Use → Own → Bool
counts_here called (the_result p) = false
counts_here how own = true

abbrev pub is_of_enum : What → Bool
is_of_enum an_enum = true
is_of_enum (a_member e steps) = true
is_of_enum what = false

-- what other modules see of a module: what is public, and of a class its Enums alone
abbrev pub is_seen : Space → Entry → Bool
is_seen space e = e.is_public && (not space.source.is_class || is_of_enum e.what)

-- ---- the tiers

abbrev pub in_procedure : Use → Scope → Identifier → Option Meant
in_procedure how s x =
    option_map (λ f. of_procedure f.0 f.1) (first_at (λ (l : Local). is_named x.name l.name && counts_here how l.own) 0 s.locals)

-- an entry of a module that passes
abbrev pub entry_of : (Entry → Bool) → Space → Identifier → Option Meant
entry_of test space x = option_map (λ f. of_module space f.0 f.1) (first_at (λ (e : Entry). is_named x.name e.name && test e) 0 space.entries)

-- its own module, by its number
abbrev pub is_same : Space → Space → Bool
is_same one other = one.number == other.number

abbrev pub seen_from : Scope → Space → Entry → Bool
seen_from s space e = is_same s.here space || is_seen space e

abbrev pub module_named : List Space → Identifier → Option Meant
module_named [] x = None
module_named (space ∷ spaces) x = if is_named space.name.fold x then Some (a_module space) else module_named spaces x

abbrev pub in_modules : (Entry → Bool) → List Space → Identifier → Option Meant
in_modules test [] x = None
in_modules test (space ∷ spaces) x = or_else (entry_of (λ e. is_seen space e && test e) space x) (in_modules test spaces x)

abbrev pub module_before_dot : Use → List Space → Identifier → Option Meant
module_before_dot before_dot spaces x = module_named spaces x
module_before_dot how spaces x = None

abbrev pub in_project : Use → Scope → Identifier → Option Meant
in_project how s x = or_else (module_before_dot how s.spaces x) (in_modules (λ e. counts how e.what) s.spaces x)

abbrev pub has_dollar : Identifier → Bool
has_dollar x = at x.suffix
  where
    at : Option TypeSuffix → Bool
    at (Some suffix.Text) = true
    at other = false

abbrev pub is_library_word : Use → Identifier → Bool
is_library_word before_dot x = is_named (codes "vba") x
is_library_word how x = false

abbrev pub in_outside : Use → Outside → Identifier → Option Meant
in_outside how o x =
    if o.is_host x.name then Some of_host
    else if o.is_library x.name (has_dollar x) then Some of_library
    else if is_library_word how x then Some the_library
    else None

-- the declaration of a name; none where it is declared nowhere
abbrev pub declares : Use → Scope → Identifier → Option Meant
declares how s x =
    or_else (in_procedure how s x) (or_else (entry_of (λ e. counts how e.what) s.here x) (or_else (in_project how s x) (in_outside how s.outside x)))

-- ---- names behind a module, an Enum and VBA

pub data Qualifier : Type 0 where
  module_qualifier : Space → Qualifier
  -- an Enum by the number of its entry
  enum_qualifier : Space → ℕ → Qualifier
  library_qualifier : Qualifier

abbrev pub is_member : What → Bool
is_member (a_member value steps) = true
is_member what = false

-- a member of the Enum whose members begin the list
abbrev pub member_among : ℕ → List Entry → Identifier → Option (ℕ × Entry)
member_among number [] x = None
member_among number (e ∷ es) x = if not (is_member e.what) then None else if is_named x.name e.name then Some (number, e) else member_among (suc number) es x

abbrev pub library_behind : Outside → Identifier → Option Meant
library_behind o x = if o.is_library x.name (has_dollar x) then Some of_library else None

abbrev pub behind : Use → Scope → Qualifier → Identifier → Option Meant
behind how s (module_qualifier space) x = entry_of (λ e. seen_from s space e && counts how e.what) space x
behind how s (enum_qualifier space number) x = option_map (λ f. of_module space f.0 f.1) (member_among (suc number) (drop (suc number) space.entries) x)
behind how s library_qualifier x = library_behind s.outside x

abbrev pub as_qualifier : Option Meant → Option Qualifier
as_qualifier (Some (a_module space)) = Some (module_qualifier space)
as_qualifier (Some the_library) = Some library_qualifier
as_qualifier (Some (of_module space number e)) = at e.what
  where
    at : What → Option Qualifier
    at an_enum = Some (enum_qualifier space number)
    at other = None
as_qualifier other = None

-- the Enum behind a module
abbrev pub enum_behind : Scope → Option Qualifier → Identifier → Option Qualifier
enum_behind s (Some (module_qualifier space)) x = as_qualifier (behind before_dot s (module_qualifier space) x)
enum_behind s other x = None

-- whether an expression before a dot only says where a name is looked for
abbrev pub qualifier_of : Scope → Expr → Option Qualifier
qualifier_of s (name x) = as_qualifier (declares before_dot s x)
qualifier_of s (member base dot x) = enum_behind s (qualifier_of s base) x
qualifier_of s e = None
