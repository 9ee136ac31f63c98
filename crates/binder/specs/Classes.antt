-- Classes: which variables and procedures their objects have, and which of them are seen where ([MS-VBAL] 5.2.4, 5.6.12).
use Rattle.std.specs.Prelude.{ℕ, ◌==◌, Bool, true, false, ◌&&◌, ◌||◌, not, List, take, Option, Some, None, is_some, option_map, if◌then◌else◌}
use Rattle.std.specs.List.{list_any}
use Rattle.vba_values.specs.Types.{Declared}
use Rattle.vba_values.specs.Types as type
use Rattle.vba_tree.specs.Tree.{Variable, NewTypeClause, Parameter, Simple, variables, Stmt, simple, if_then, if_else, Stmts, nothing, one, gap, more}
use Rattle.vba_module.specs.Parts.{Part, statement}
use Rattle.vba_module.specs.Headers.{all_of}
use Rattle.vba_words.specs.declared.identifier.Identifier.{Identifier}
use Rattle.binder.specs.Declarations.{What, a_variable, a_procedure, Entry}
use Rattle.binder.specs.Scopes.{Space, Scope, is_named, first_at, is_same, seen_from}
use Rattle.binder.specs.Types.{counted, class_number, is_object}
use Rattle.binder.specs.Constants.{is_variant}
use Rattle.binder.specs.Storage.{parameter_type, declared_variable, is_by_val, is_variable}

-- ---- the classes of a project

abbrev pub has_class : List Space → Bool
has_class spaces = list_any (λ (o : Space). o.source.is_class) spaces

abbrev pub found_at : {A : Type 0} → ℕ × A → A
found_at (number, x) = x

-- the class with a number, which counts from 1
abbrev pub class_space : List Space → ℕ → Option Space
class_space spaces number = option_map found_at (first_at (λ (o : Space). o.source.is_class && (class_number spaces o == number)) 0 spaces)

-- the type of the objects whose procedures stand here
abbrev pub own_class : Scope → Declared
own_class s = type.class (class_number s.spaces s.here)

-- ---- what objects have

-- variables and procedures
abbrev pub is_of_object : What → Bool
is_of_object (a_variable v) = true
is_of_object (a_procedure p) = true
is_of_object what = false

-- of a class all but what is Private is seen elsewhere
abbrev pub reaches : Scope → Space → Entry → Bool
reaches s space e = if space.source.is_class then is_same s.here space || e.is_public else seen_from s space e

-- what a name means behind a dot behind an object, with the number of its entry
abbrev pub member_entry : Scope → Space → Identifier → Option (ℕ × Entry)
member_entry s space x = first_at (λ (e : Entry). is_named x.name e.name && (is_of_object e.what && reaches s space e)) 0 space.entries

-- a variable by its entry, among those of its class
abbrev pub field_number : Space → ℕ → ℕ
field_number space number = counted is_variable (take number space.entries)

-- ---- variables declared As New ([MS-VBAL] 2.5.1)

-- the class that a type is
abbrev pub class_in : Declared → Option ℕ
class_in (type.class number) = Some number
class_in other = None

-- the class of which New makes objects of a type: that of Collection is 0
abbrev pub made_in : Declared → Option ℕ
made_in (type.class number) = Some number
made_in type.collection = Some 0
made_in other = None

-- what an array has elements of, or else a type itself
abbrev pub element_in : Declared → Declared
element_in (type.array_of of) = of
element_in of = of

-- the class of which an object is made for a variable of a type, or for each element of an array, by its clause
abbrev pub made_by : Option NewTypeClause → Declared → Option ℕ
made_by None of = None
made_by (Some c) of = if is_some c.new_word then made_in (element_in of) else None

abbrev pub made_class : Scope → Variable → Option ℕ
made_class s v = made_by v.type_clause (declared_variable s v).of

-- a variable of this type may have an object, or an element of it may
abbrev pub can_hold_object : Declared → Bool
can_hold_object of = is_object (element_in of) || is_variant (element_in of)

-- whether a project declares a variable As New
abbrev pub is_new_clause : Option NewTypeClause → Bool
is_new_clause None = false
is_new_clause (Some c) = is_some c.new_word

abbrev pub makes_variables : Simple → Bool
makes_variables (variables word token vs) = list_any (λ (v : Variable). is_new_clause v.type_clause) (all_of vs)
makes_variables s = false

-- a statement, with those inside a single-line If
abbrev mutual
  pub statement_makes : Stmt → Bool
  statement_makes (simple s) = makes_variables s
  statement_makes (if_then if_word e then_word ss) = list_makes ss
  statement_makes (if_else if_word e then_word ss else_word es) = list_makes ss || list_makes es

  pub list_makes : Stmts → Bool
  list_makes nothing = false
  list_makes (one s) = statement_makes s
  list_makes (gap before colon) = list_makes before
  list_makes (more before colon s) = list_makes before || statement_makes s

abbrev pub declares_new : Part → Bool
declares_new (statement s) = statement_makes s
declares_new part = false

abbrev pub has_new : List Space → Bool
has_new spaces = list_any (λ (o : Space). list_any declares_new o.source.parts) spaces

-- what a parameter of a type leads to may be declared As New, in a project that declares a variable so
abbrev pub made_through : (has : Bool) → Parameter → Declared → Bool
made_through has p of = has && (not (is_by_val p.passing) && can_hold_object of)

abbrev pub may_be_made : Scope → Parameter → Bool
may_be_made s p = made_through (has_new s.spaces) p (parameter_type s p)
