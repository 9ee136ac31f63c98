-- Serves the code: what is asked of each name that an expression and a statement has: whether it is unknown (S17), or
-- left out (S23).
use Rattle.std.specs.Prelude.{ℕ, List, [], ◌++◌, Option, Some, None}
use Rattle.std.specs.List.{list_any}
use Rattle.vba_base.specs.declared.place.Place.{Place}
use Rattle.vba_words.specs.declared.identifier.Identifier.{Identifier}
use Rattle.vba_expression.specs.declared.tree.TypeName.{TypeName}
use Rattle.vba_expression.specs.Tree.{Expr, literal, me, name, with_member, member, index, parenthesised, new, type_of, unary, binary, Args, no_args, missing, plain}
use Rattle.vba_expression.specs.Tree as expr
use Rattle.declared_names.specs.binder.specs.Constants.{unless}
use Rattle.declared_names.specs.binder.specs.LeftOut.{meaning_left_out, suffix_left_out, type_left_out, said_left_out}
use Rattle.declared_names.specs.binder.specs.Said.{Said, declares, type_named, constant_expression, expression, redimmed, raises}
use Rattle.declared_names.specs.binder.specs.Said as say
use Rattle.declared_names.specs.binder.specs.Scopes.{Scope, Use, plainly, called, before_dot, Qualifier, behind, qualifier_of}
use Rattle.declared_names.specs.binder.specs.Scopes as scopes
use Rattle.declared_names.specs.binder.specs.Types.{type_meant}
use Rattle.declared_names.specs.binder.specs.Violations.{is_event, name_fault, names_said, place_of_name, unless_true}
use Rattle.use_rules.specs.declared.question.Question.{Question}
use Rattle.use_rules.specs.declared.question.Question.TheVariants.{IsUnknown, IsLeftOut}

-- the rule that a question asks for
abbrev pub rule_of : Question → ℕ
rule_of (IsUnknown in_with) = 17
rule_of IsLeftOut = 23

-- the suffix of a name
abbrev pub at_suffix : Question → Identifier → List Place
at_suffix (IsUnknown in_with) x = []
at_suffix IsLeftOut x = suffix_left_out x

-- a name by itself that is used like this
abbrev pub at_name : Scope → Question → Use → Identifier → List Place
at_name s (IsUnknown in_with) how x = name_fault s how x
at_name s IsLeftOut how x = meaning_left_out s.outside (scopes.declares how s x) x ++ suffix_left_out x

-- a name behind what says where it is
abbrev pub at_member : Scope → Question → Use → Qualifier → Identifier → List Place
at_member s (IsUnknown in_with) how q x = unless (behind how s q x) (place_of_name x)
at_member s IsLeftOut how q x = meaning_left_out s.outside (behind how s q x) x ++ suffix_left_out x

abbrev pub at_me : Scope → Question → Place → List Place
at_me s (IsUnknown in_with) place = unless_true s.here.source.is_class place
at_me s IsLeftOut place = []

-- a member of a With block, by the place of its dot
abbrev pub at_with_member : Question → Place → Identifier → List Place
at_with_member (IsUnknown in_with) dot x = unless_true in_with dot
at_with_member IsLeftOut dot x = suffix_left_out x

-- a name behind the dot of what says where it is, or of a value
abbrev pub at_dotted : Scope → Question → Option Qualifier → Use → Identifier → (base : List Place) → List Place
at_dotted s question None how x base = base ++ at_suffix question x
at_dotted s question (Some q) how x base = at_member s question how q x

abbrev mutual
  -- the places in an expression at which the answer is yes
  pub names_asked : Scope → Question → Use → Expr → List Place
  names_asked s question how (literal l) = []
  names_asked s question how (me token) = at_me s question token.place
  names_asked s question how (name x) = at_name s question how x
  names_asked s question how (with_member dot x) = at_with_member question dot.place x
  names_asked s question how (member base dot x) = at_dotted s question (qualifier_of s base) how x (names_asked s question before_dot base)
  names_asked s question how (index base left args right) = names_asked s question called base ++ asked_in_args s question args
  names_asked s question how (parenthesised left e right) = names_asked s question plainly e
  names_asked s question how (new new_word t) = []
  names_asked s question how (type_of type_of_word e is_word t) = names_asked s question plainly e
  names_asked s question how (unary operator token e) = names_asked s question plainly e
  names_asked s question how (binary l operator token r) = names_asked s question plainly l ++ names_asked s question plainly r

  pub asked_in_args : Scope → Question → Args → List Place
  asked_in_args s question no_args = []
  asked_in_args s question (missing before comma) = asked_in_args s question before
  asked_in_args s question (plain before comma e) = asked_in_args s question before ++ names_asked s question plainly e
  asked_in_args s question (expr.named before comma x mark e) = asked_in_args s question before ++ names_asked s question plainly e

-- the name of a type
abbrev pub at_type : Scope → Question → TypeName → List Place
at_type s (IsUnknown in_with) t = []
at_type s IsLeftOut t = type_left_out (type_meant s t) t

-- the name of an event that is raised
abbrev pub at_raised : Scope → Question → Identifier → List Place
at_raised s (IsUnknown in_with) x = unless_true (list_any (is_event x) s.here.entries) (place_of_name x)
at_raised s IsLeftOut x = []

-- what is said
abbrev pub said_asked : Scope → Question → Said → List Place
said_asked s question (declares l) = at_suffix question l.name
said_asked s question (type_named t) = at_type s question t
said_asked s question (constant_expression e) = names_asked s question plainly e
said_asked s question (expression e) = names_asked s question plainly e
said_asked s question (say.called e) = names_asked s question called e
said_asked s question (redimmed e clause) = names_asked s question plainly e
said_asked s question (raises x) = at_raised s question x
said_asked s question other = []

-- where what is said breaks the rule that a question asks for
abbrev pub said_faults : Scope → Question → Said → List Place
said_faults s (IsUnknown in_with) = names_said s in_with
said_faults s IsLeftOut = said_left_out s
