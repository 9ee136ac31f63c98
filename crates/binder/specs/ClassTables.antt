-- The table of a class: the procedures that begin and end its objects, its public members, its default member and its enumerator.
use Rattle.std.specs.Prelude.{ℕ, suc, length, take, ◌==◌, Bool, true, false, ◌&&◌, not, ℤ, pos, List, [], ◌∷◌, ◌++◌, codes, Option, Some, None, option_map, option_and_then, bytes_eq, if◌then◌else◌}
use Rattle.std.specs.List.{list_any}
use Rattle.vba_lexer.specs.declared.token.Token.{Token}
use Rattle.vba_words.specs.declared.identifier.Identifier.{Identifier}
use Rattle.vba_expression.specs.declared.tree.LiteralValue.{LiteralValue}
use Rattle.vba_expression.specs.declared.tree.LiteralValue.TheVariants as literal
use Rattle.vba_tree.specs.declared.declaration.Access.{Access}
use Rattle.vba_tree.specs.declared.declaration.Access.TheVariants as access
use Rattle.vba_tree.specs.declared.declaration.AccessWord.{AccessWord}
use Rattle.vba_tree.specs.declared.line.AttributeValue.{AttributeValue}
use Rattle.vba_tree.specs.declared.procedure.ProcedureWords.{ProcedureWords}
use Rattle.vba_tree.specs.declared.procedure.ProcedureWords.TheVariants as words
use Rattle.vba_tree.specs.Tree.{Listed, attribute_line}
use Rattle.vba_module.specs.Parts.{Part, whole_line}
use Rattle.bound_project.specs.Project.{Member, Named}
use Rattle.bound_project.specs.Project as bound
use Rattle.binder.specs.Options.{or_else}
use Rattle.binder.specs.Declarations.{What, a_variable, a_procedure, Entry}
use Rattle.binder.specs.Scopes.{Scope, is_named, first_at}
use Rattle.binder.specs.Classes.{is_of_object, field_number, made_class}
use Rattle.binder.specs.Storage.{procedure_number}
use Rattle.binder.specs.Signatures.{is_get, is_let, is_set, is_property}

-- ---- Class_Initialize and Class_Terminate ([MS-VBAL] 5.3.1.10)

-- a Sub without parameters
abbrev pub is_sub : ProcedureWords → Bool
is_sub (words.Sub token) = true
is_sub kind = false

abbrev pub is_plain_sub : What → Bool
is_plain_sub (a_procedure p) = is_sub p.kind && (length p.parameters == 0)
is_plain_sub what = false

-- by its number
abbrev pub plain_sub : Scope → List ℕ → Option ℕ
plain_sub s fold = option_map (λ f. procedure_number s s.here f.0) (first_at (λ (e : Entry). is_named fold e.name && is_plain_sub e.what) 0 s.here.entries)

-- ---- members

abbrev pub is_friend_access : Access → Bool
is_friend_access access.Friend = true
is_friend_access other = false

abbrev pub is_friend_word : Option AccessWord → Bool
is_friend_word None = false
is_friend_word (Some word) = is_friend_access word.access

abbrev pub is_friend : What → Bool
is_friend (a_procedure p) = is_friend_word p.access
is_friend what = false

-- what is found in the run
abbrev pub is_public_member : Entry → Bool
is_public_member e = is_of_object e.what && (e.is_public && not (is_friend e.what))

-- a procedure of a property that counts, by its number
abbrev pub is_procedure_that : (ProcedureWords → Bool) → What → Bool
is_procedure_that test (a_procedure p) = test p.kind
is_procedure_that test what = false

abbrev pub part_of_property : Scope → (counts : Entry → Bool) → (ProcedureWords → Bool) → Identifier → Option ℕ
part_of_property s counts test x =
    option_map (λ f. procedure_number s s.here f.0) (first_at (λ (e : Entry). is_named x.name e.name && (counts e && is_procedure_that test e.what)) 0 s.here.entries)

-- the member that a procedure is, or is part of
abbrev pub procedure_member : Scope → (counts : Entry → Bool) → ℕ → Identifier → ProcedureWords → Member
procedure_member s counts number x kind =
    if is_property kind then bound.is_property (part_of_property s counts is_get x) (part_of_property s counts is_let x) (part_of_property s counts is_set x)
    else bound.is_procedure (procedure_number s s.here number)

-- the member that an entry is, or is part of
abbrev pub member_of : Scope → (counts : Entry → Bool) → ℕ → Entry → Option Member
member_of s counts number e = at e.what
  where
    at : What → Option Member
    at (a_variable v) = Some (bound.is_variable (field_number s.here number) (made_class s v))
    at (a_procedure p) = Some (procedure_member s counts number e.name p.kind)
    at what = None

abbrev pub listed_member : List ℕ → Option Member → List Named
listed_member fold None = []
listed_member fold (Some m) = record { fold = fold; member = m } ∷ []

-- there is a public member with a name
abbrev pub is_among : List Entry → Identifier → Bool
is_among es x = list_any (λ (e : Entry). is_named x.name e.name && is_public_member e) es

-- each public member once: a property at the first of its procedures
abbrev pub public_member : Scope → ℕ → Entry → List Named
public_member s number e =
    if is_public_member e && not (is_among (take number s.here.entries) e.name) then listed_member e.name.name (member_of s is_public_member number e) else []

abbrev pub public_members : Scope → ℕ → List Entry → List Named
public_members s number [] = []
public_members s number (e ∷ es) = public_member s number e ++ public_members s (suc number) es

-- ---- Attribute name.VB_UserMemId = value ([MS-VBAL] 4.2)

abbrev pub is_number : ℕ → ℤ → Bool
is_number n (pos k) = k == n
is_number n other = false

abbrev pub is_zero : Option Token → LiteralValue → Bool
is_zero None (literal.Number n is_plain) = is_number 0 n.value
is_zero minus value = false

abbrev pub is_minus_four : Option Token → LiteralValue → Bool
is_minus_four (Some minus) (literal.Number n is_plain) = is_number 4 n.value
is_minus_four minus value = false

-- the name before such an attribute with this value
abbrev pub name_marked : (Option Token → LiteralValue → Bool) → Listed Identifier → Listed AttributeValue → Option Identifier
name_marked test names values = at names.others
  where
    at : List (Token × Identifier) → Option Identifier
    at (x ∷ []) = if bytes_eq x.1.name (codes "vb_usermemid") && test values.first.minus values.first.literal.value then Some names.first else None
    at others = None

abbrev pub marked_name : (Option Token → LiteralValue → Bool) → Part → Option Identifier
marked_name test (whole_line (attribute_line attribute_word names equal values)) = name_marked test names values
marked_name test part = None

-- the first in a module
abbrev pub first_marked : (Option Token → LiteralValue → Bool) → List Part → Option Identifier
first_marked test [] = None
first_marked test (part ∷ parts) = or_else (marked_name test part) (first_marked test parts)

-- the default member and the enumerator, which may be Private
abbrev pub every_entry : Entry → Bool
every_entry e = true

abbrev pub member_named : Scope → Identifier → Option Member
member_named s x = option_and_then (λ f. member_of s every_entry f.0 f.1) (first_at (λ (e : Entry). is_named x.name e.name && is_of_object e.what) 0 s.here.entries)

abbrev pub default_member : Scope → Option Member
default_member s = option_and_then (member_named s) (first_marked is_zero s.here.source.parts)

abbrev pub enumerator : Scope → Option Member
enumerator s = option_and_then (member_named s) (first_marked is_minus_four s.here.source.parts)
