-- What the names of types mean, and the types that declarations give ([MS-VBAL] 5.6.10, 5.2.3.1).
use Rattle.std.specs.Prelude.{ℕ, ◌+◌, Bool, true, false, ◌&&◌, List, [], ◌∷◌, take, codes, Option, Some, None, bytes_eq, if◌then◌else◌}
use Rattle.vba_lexer.specs.declared.number.TypeSuffix.{TypeSuffix}
use Rattle.vba_lexer.specs.declared.number.TypeSuffix.TheVariants as suffix
use Rattle.vba_values.specs.Types.{Declared}
use Rattle.vba_values.specs.Types as type
use Rattle.vba_words.specs.declared.identifier.Identifier.{Identifier}
use Rattle.vba_expression.specs.declared.tree.TypeName.{TypeName}
use Rattle.vba_expression.specs.declared.tree.TypeQualifier.{TypeQualifier}
use Rattle.vba_expression.specs.Tree.{Expr}
use Rattle.vba_tree.specs.Tree.{DeclaredType, named, fixed_text, TypeClause}
use Rattle.binder.specs.Options.{or_else}
use Rattle.binder.specs.Declarations.{What, an_enum, a_type, Entry}
use Rattle.binder.specs.Scopes.{Space, Scope, is_named, first_at, is_same, is_seen, seen_from}

-- ---- counting

abbrev pub counted : {A : Type 0} → (A → Bool) → List A → ℕ
counted test [] = 0
counted test (x ∷ xs) = (if test x then 1 else 0) + counted test xs

-- how many entries pass before an entry of a module, in the order of the project
abbrev pub entries_before : (Entry → Bool) → List Space → Space → ℕ → ℕ
entries_before test [] here number = 0
entries_before test (s ∷ ss) here number =
    if is_same s here then counted test (take number s.entries) else counted test s.entries + entries_before test ss here number

abbrev pub is_type_entry : Entry → Bool
is_type_entry e = at e.what
  where
    at : What → Bool
    at (a_type fields) = true
    at what = false

-- the number of a Type, and of a class, which counts from 1
abbrev pub type_number : Scope → Space → ℕ → ℕ
type_number s space number = entries_before is_type_entry s.spaces space number

abbrev pub class_number : List Space → Space → ℕ
class_number [] here = 0
class_number (s ∷ ss) here = (if s.source.is_class then 1 else 0) + (if is_same s here then 0 else class_number ss here)

-- ---- names of types

pub data TypeMeant : Type 0 where
  known : Declared → TypeMeant
  -- Application, Workbook and Sheets: Object, but for TypeOf
  of_host : TypeMeant
  -- Double and its like, which the profile hasn't
  left_out : TypeMeant

abbrev pub profile : List (List ℕ × TypeMeant)
profile =
    (codes "boolean", known type.boolean) ∷ (codes "byte", known type.byte) ∷ (codes "integer", known type.integer) ∷ (codes "long", known type.long) ∷
    (codes "longlong", known type.long_long) ∷ (codes "longptr", known type.long_long) ∷ (codes "currency", known type.currency) ∷
    (codes "string", known type.text) ∷ (codes "variant", known type.variant) ∷ (codes "object", known type.object) ∷
    (codes "collection", known type.collection) ∷ (codes "worksheet", known type.worksheet) ∷ (codes "range", known type.range) ∷
    (codes "iunknown", known type.object) ∷ (codes "application", of_host) ∷ (codes "workbook", of_host) ∷ (codes "sheets", of_host) ∷
    (codes "double", left_out) ∷ (codes "single", left_out) ∷ (codes "date", left_out) ∷ (codes "decimal", left_out) ∷ []

abbrev pub in_profile : List (List ℕ × TypeMeant) → List ℕ → Option TypeMeant
in_profile [] fold = None
in_profile (p ∷ ps) fold = if bytes_eq p.0 fold then Some p.1 else in_profile ps fold

-- an Enum is a Long
abbrev pub type_of_entry : Scope → Space → ℕ → What → Option TypeMeant
type_of_entry s space number an_enum = Some (known type.long)
type_of_entry s space number (a_type fields) = Some (known (type.udt (type_number s space number)))
type_of_entry s space number what = None

abbrev pub is_type : What → Bool
is_type an_enum = true
is_type (a_type fields) = true
is_type what = false

-- a Type or an Enum of a module, of the entries that pass
abbrev pub type_in : Scope → (Entry → Bool) → Space → Identifier → Option TypeMeant
type_in s test space x = at (first_at (λ (e : Entry). is_named x.name e.name && (is_type e.what && test e)) 0 space.entries)
  where
    at : Option (ℕ × Entry) → Option TypeMeant
    at None = None
    at (Some f) = type_of_entry s space f.0 f.1.what

abbrev pub class_named : List Space → List Space → Identifier → Option TypeMeant
class_named all [] x = None
class_named all (space ∷ spaces) x =
    if space.source.is_class && is_named space.name.fold x then Some (known (type.class (class_number all space))) else class_named all spaces x

abbrev pub type_in_modules : Scope → List Space → Identifier → Option TypeMeant
type_in_modules s [] x = None
type_in_modules s (space ∷ spaces) x = or_else (type_in s (is_seen space) space x) (type_in_modules s spaces x)

-- own Types and Enums, classes, public Types and Enums, the profile's types
abbrev pub plain_type : Scope → Identifier → Option TypeMeant
plain_type s x =
    or_else (type_in s (λ e. true) s.here x)
    (or_else (class_named s.spaces s.spaces x) (or_else (type_in_modules s s.spaces x) (in_profile profile x.name)))

-- behind a module's name its own
abbrev pub type_behind : Scope → List Space → (qualifier name : Identifier) → Option TypeMeant
type_behind s [] q x = None
type_behind s (space ∷ spaces) q x = if is_named space.name.fold q then type_in s (seen_from s space) space x else type_behind s spaces q x

-- what the name of a type means; none where it is unknown
abbrev pub type_meant : Scope → TypeName → Option TypeMeant
type_meant s t = at t.qualifier
  where
    at : Option TypeQualifier → Option TypeMeant
    at None = plain_type s t.name
    at (Some q) = type_behind s s.spaces q.name t.name

-- what New may make: a class of the project or a Collection
abbrev pub is_made : Option TypeMeant → Bool
is_made (Some (known (type.class n))) = true
is_made (Some (known type.collection)) = true
is_made other = false

-- object types
abbrev pub is_object : Declared → Bool
is_object type.object = true
is_object (type.class n) = true
is_object type.collection = true
is_object type.worksheet = true
is_object type.range = true
is_object other = false

-- what TypeOf may ask for
abbrev pub is_asked : Option TypeMeant → Bool
is_asked (Some (known of)) = is_object of
is_asked other = false

-- ---- the types of declarations

abbrev pub meant_type : Option TypeMeant → Declared
meant_type (Some (known of)) = of
meant_type (Some of_host) = type.object
meant_type other = type.variant

abbrev pub suffix_type : Option TypeSuffix → Declared
suffix_type (Some suffix.Integer) = type.integer
suffix_type (Some suffix.Long) = type.long
suffix_type (Some suffix.LongLong) = type.long_long
suffix_type (Some suffix.Currency) = type.currency
suffix_type (Some suffix.Text) = type.text
suffix_type other = type.variant

-- a type behind As, with the lengths of texts
abbrev pub written_type : (Expr → ℕ) → Scope → DeclaredType → Declared
written_type length s (named t) = meant_type (type_meant s t)
written_type length s (fixed_text string_word times e) = type.fixed_text (length e)

-- As decides before a suffix
abbrev pub clause_type : (Expr → ℕ) → Scope → Option TypeSuffix → Option TypeClause → Declared
clause_type length s x None = suffix_type x
clause_type length s x (Some c) = written_type length s c.declared_type
