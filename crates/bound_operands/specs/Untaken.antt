-- Serves the code: arguments that aren't taken.
use Rattle.std.specs.Prelude.{◌≡◌, ℕ, ◌+◌, length, Bool, true, false, ◌&&◌, not, List, Option, Some, None, is_some}
use Rattle.std.specs.List.{list_all}
use Rattle.std.proofs.Common.{Bor}
use Rattle.vba_lexer.specs.declared.token.Token.{Token}
use Rattle.vba_words.specs.declared.identifier.Identifier.{Identifier}
use Rattle.vba_expression.specs.declared.node.ExpressionNode.TheVariants as node
use Rattle.vba_expression.specs.Nodes as nodes
use Rattle.vba_expression.specs.Nodes.{behind_node}
use Rattle.bound_project.specs.Drafts.{Drafted}
use Rattle.bound_project.specs.Project.{Declarations}
use Rattle.bound_project.specs.View.{declarations_view}
use Rattle.bound_members.specs.bound_calls.specs.bound_forms.specs.Terms.{Env}
use Rattle.bound_members.specs.bound_calls.specs.bound_forms.specs.ClassDefaults.{declared_in}
use Rattle.bound_members.specs.bound_calls.specs.declared.term.Item.{Item}
use Rattle.bound_members.specs.bound_calls.specs.declared.term.Item.TheVariants as item
use Rattle.bound_members.specs.bound_calls.specs.declared.term.Shape.{Shape}
use Rattle.bound_members.specs.bound_calls.specs.declared.term.Term.TheVariants as term
use Rattle.bound_members.specs.bound_calls.specs.declared.term.Tree.{Tree}
use Rattle.bound_members.specs.bound_calls.specs.declared.term.Untaken.{Untaken}
use Rattle.bound_members.specs.bound_calls.specs.Shapes.{shapes_given}
use Rattle.bound_members.specs.bound_calls.specs.Standing.{refused_rule, refused_type, values_before}
use Rattle.bound_members.specs.bound_calls.specs.Steps.{Goes}
use Rattle.bound_members.specs.bound_calls.specs.Taking.{broken_ending}

-- whether an argument behind this item is one that isn't taken
abbrev pub is_refused : Item → Bool
is_refused (item.Untaken x) = true
is_refused item.Unlisted = true
is_refused (item.Shape s) = true
is_refused i = false

-- of each node of an argument that is written, with this name or without one
abbrev pub EachArgument : Option (Bor Identifier) → ((List nodes.Item → List nodes.Item) → Type 0) → Type 0
EachArgument None P = (comma : Option Token) → P (behind_node (node.PlainArgument comma))
EachArgument (Some name) P = (comma : Option Token) (mark : Token) → P (behind_node (node.NamedArgument comma name.now mark))

-- whether arguments are all written, without names
abbrev pub is_plain : Shape → Bool
is_plain s = not (is_some s.name) && s.is_written

abbrev pub all_plain : List Shape → Bool
all_plain ss = list_all is_plain ss

-- what is marked where arguments end that aren't taken
pub record ClosesUntaken (known : Declarations) (d : Drafted) (x : Untaken) (ss : List Shape) (y : Tree) : Type 0 where
  pub rule : ℕ
  pub breaks : refused_rule d.tables x.refuser (shapes_given ss) ≡ Some rule
  pub is : y ≡ record { place = x.place; name = None; dotted = None; term = term.Value (broken_ending rule x.place (refused_type x.refuser) (length ss + values_before x.refuser)); declared = y.declared }
  pub known_is : known ≡ declarations_view y.declared.now

-- arguments end that aren't taken, or there are none
pub record EndsRefused (known : Declarations) (ended : Bool) (d : Drafted) (old : List Item) (e : Drafted) (new : List Item) : Type 0 where
  pub yes : ended ≡ true → (env : Env) → declared_in env.scope ≡ known → (left right : Token) → Goes env d old e new (behind_node (node.Index left right))
  pub no : ended ≡ false → (e ≡ d) × (new ≡ old)
