-- Serves the code: names behind a dot.
use Rattle.std.specs.Prelude.{◌≡◌, Bool, ◌||◌, List, codes, bytes_eq, Option, Some, None, option_map}
use Rattle.vba_words.specs.declared.identifier.Identifier.{Identifier}
use Rattle.vba_lexer.specs.declared.token.Token.{Token}
use Rattle.vba_expression.specs.Tree.{Expr}
use Rattle.vba_expression.specs.Reader.{behind_dot}
use Rattle.binder.specs.Scopes.{Scope, Qualifier, before_dot, declares, as_qualifier, enum_behind}
use Rattle.bound_names.specs.bound_members.specs.bound_calls.specs.bound_forms.specs.Terms.{Env}
use Rattle.bound_project.specs.Pieces.{Piece}
use Rattle.bound_project.specs.Drafts.{Drafted}
use Rattle.bound_names.specs.bound_members.specs.bound_calls.specs.declared.term.Dotted.{Dotted}
use Rattle.bound_names.specs.bound_members.specs.bound_calls.specs.declared.term.Tree.{Tree}
use Rattle.bound_names.specs.bound_members.specs.bound_calls.specs.Standing.{TermNamed, TreeStands, Grown}

-- whether a name behind the workbook is its sheets
abbrev pub names_sheets : Identifier → Bool
names_sheets f = bytes_eq f.name (codes "worksheets") || bytes_eq f.name (codes "sheets")

-- where a name behind a dot is looked up: behind a name, or behind two names with a dot between them
abbrev pub dotted_view : Dotted → Identifier × Identifier
dotted_view x = (x.before.now, x.name.now)

abbrev pub looked_up : Scope → (name : Option Identifier) → (dotted : Option (Identifier × Identifier)) → Option Qualifier
looked_up s (Some x) y = as_qualifier (declares before_dot s x)
looked_up s None (Some y) = enum_behind s (as_qualifier (declares before_dot s y.0)) y.1
looked_up s None None = None

abbrev pub IsQualifier : Scope → Tree → Option Qualifier → Type 0
IsQualifier s x q = q ≡ looked_up s (option_map (λ name. name.now) x.name) (option_map dotted_view x.dotted)

-- a dot and a name behind an expression make another one
pub record MakesMember (env : Env) (x : Tree) (dot : Token) (f : Identifier) (d e : Drafted) (y : Tree) : Type 0 where
  pub grown : Grown d e
  pub named : TermNamed e.tables y.term
  pub stands : (base : Expr) (below : List Piece) → TreeStands env d.tables x base d.pieces below → TreeStands env e.tables y (behind_dot base dot f) e.pieces below
