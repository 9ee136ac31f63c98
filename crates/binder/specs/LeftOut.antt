-- S23: what the language leaves out: the types Double, Single, Date and Decimal, the suffixes ! and #, and the functions
-- that VBA's library has and this one hasn't.
use Rattle.std.specs.Prelude.{List, [], ◌∷◌, ◌++◌, flat_map, map, Option, Some, None, if◌then◌else◌}
use Rattle.vba_base.specs.declared.place.Place.{Place}
use Rattle.vba_base.specs.declared.place.Refusal.{Refusal}
use Rattle.vba_lexer.specs.declared.number.TypeSuffix.{TypeSuffix}
use Rattle.vba_lexer.specs.declared.number.TypeSuffix.TheVariants as suffix
use Rattle.vba_words.specs.declared.identifier.Identifier.{Identifier}
use Rattle.vba_expression.specs.declared.tree.TypeName.{TypeName}
use Rattle.vba_expression.specs.Tree.{Expr, literal, me, name, with_member, member, index, parenthesised, new, type_of, unary, binary, Args, no_args, missing, plain}
use Rattle.vba_expression.specs.Tree as expr
use Rattle.vba_tree.specs.Tree.{Parameter}
use Rattle.vba_module.specs.Verdict.{broken}
use Rattle.binder.specs.Declarations.{Written, What, an_event, Entry}
use Rattle.binder.specs.Said.{Said, declares, type_named, constant_expression, expression, redimmed, entry_said}
use Rattle.binder.specs.Said as say
use Rattle.binder.specs.Scopes.{Outside, Space, Scope, Use, plainly, called, before_dot, Meant, of_library, Qualifier, behind, qualifier_of}
use Rattle.binder.specs.Scopes as scope
use Rattle.binder.specs.Names.{scope_of}
use Rattle.binder.specs.Types.{TypeMeant, left_out, type_meant}
use Rattle.binder.specs.Violations.{first_broken, in_space, in_body, place_of_name, place_of_type}

-- a name with the suffix of a Single or a Double
abbrev pub suffix_left_out : Identifier → List Place
suffix_left_out x = at x.suffix
  where
    at : Option TypeSuffix → List Place
    at (Some suffix.Single) = place_of_name x ∷ []
    at (Some suffix.Double) = place_of_name x ∷ []
    at other = []

-- a name that means what the library leaves out
abbrev pub meaning_left_out : Outside → Option Meant → Identifier → List Place
meaning_left_out o (Some of_library) x = if o.is_left_out x.name then place_of_name x ∷ [] else []
meaning_left_out o meant x = []

-- the name of a type that is left out
abbrev pub type_left_out : Option TypeMeant → TypeName → List Place
type_left_out (Some left_out) t = place_of_type t ∷ []
type_left_out meant t = []

-- behind a module, an Enum and VBA a name means something of its own; else what stands before the dot counts
abbrev pub behind_left_out : Scope → Option Qualifier → Use → Identifier → (base : List Place) → List Place
behind_left_out s None how x base = base
behind_left_out s (Some q) how x base = meaning_left_out s.outside (behind how s q x) x

abbrev mutual
  -- what is left out in an expression
  pub names_left_out : Scope → Use → Expr → List Place
  names_left_out s how (literal l) = []
  names_left_out s how (me token) = []
  names_left_out s how (name x) = meaning_left_out s.outside (scope.declares how s x) x ++ suffix_left_out x
  names_left_out s how (with_member dot x) = suffix_left_out x
  names_left_out s how (member base dot x) = behind_left_out s (qualifier_of s base) how x (names_left_out s before_dot base) ++ suffix_left_out x
  names_left_out s how (index base left args right) = names_left_out s called base ++ left_out_in_args s args
  names_left_out s how (parenthesised left e right) = names_left_out s plainly e
  names_left_out s how (new new_word t) = []
  names_left_out s how (type_of type_of_word e is_word t) = names_left_out s plainly e
  names_left_out s how (unary operator token e) = names_left_out s plainly e
  names_left_out s how (binary l operator token r) = names_left_out s plainly l ++ names_left_out s plainly r

  -- the same in arguments, where the names of arguments are none of these
  pub left_out_in_args : Scope → Args → List Place
  left_out_in_args s no_args = []
  left_out_in_args s (missing before comma) = left_out_in_args s before
  left_out_in_args s (plain before comma e) = left_out_in_args s before ++ names_left_out s plainly e
  left_out_in_args s (expr.named before comma x mark e) = left_out_in_args s before ++ names_left_out s plainly e

-- the same in what a statement or a declaration says
abbrev pub said_left_out : Scope → Said → List Place
said_left_out s (declares l) = suffix_left_out l.name
said_left_out s (type_named t) = type_left_out (type_meant s t) t
said_left_out s (constant_expression e) = names_left_out s plainly e
said_left_out s (expression e) = names_left_out s plainly e
said_left_out s (say.called e) = names_left_out s called e
said_left_out s (redimmed e clause) = names_left_out s plainly e
said_left_out s other = []

-- parameters by their suffixes: their types are said
abbrev pub parameters_left_out : List Parameter → List Place
parameters_left_out ps = flat_map (λ p. suffix_left_out p.name) ps

-- the parameters of an event
abbrev pub event_left_out : What → List Place
event_left_out (an_event ps) = parameters_left_out ps
event_left_out what = []

-- an entry of a module: its name, its parameters where it is an event, and what it says
abbrev pub entry_left_out : Scope → Entry → List Place
entry_left_out s e = suffix_left_out e.name ++ (event_left_out e.what ++ flat_map (said_left_out s) (entry_said e.what))

-- a procedure: its parameters, and what is said in its body
abbrev pub procedure_left_out : Scope → Written → List Place
procedure_left_out s p = parameters_left_out p.parameters ++ in_body (λ within. said_left_out s) p

-- what a module has that is left out
abbrev pub left_out_in : Scope → List Place
left_out_in s = in_space entry_left_out procedure_left_out s

-- the least place in the first module that has something left out
abbrev pub first_left_out : Outside → List Space → Option Refusal
first_left_out o spaces = first_broken (map (λ (space : Space). broken 23 (left_out_in (scope_of o spaces space))) spaces)
