-- Serves the code: nodes that leave one more item, and those below as they are.
use Rattle.std.specs.Prelude.{◌≡◌, ℕ, suc, Bool, true, false, List, [], ◌∷◌, ◌++◌, Option, Some, None, option_and_then}
use Rattle.vba_base.specs.declared.place.Place.{Place}
use Rattle.vba_lexer.specs.declared.token.Token.{Token}
use Rattle.vba_lexer.specs.declared.token.TokenKind.TheVariants as kind
use Rattle.vba_expression.specs.Nodes.{Item, behind_nodes}
use Rattle.vba_expression.specs.declared.node.ExpressionNode.{ExpressionNode}
use Rattle.vba_expression.specs.declared.node.ExpressionNode.TheVariants as node

-- how many items a node takes; each leaves one
pub data ItemsTaken : Type 0 where
  none : ItemsTaken
  one : ItemsTaken
  two : ItemsTaken

abbrev pub items_taken : ExpressionNode → ItemsTaken
items_taken (node.Literal l) = none
items_taken (node.Me token) = none
items_taken (node.Name identifier) = none
items_taken (node.WithMember dot identifier) = none
items_taken node.NoArguments = none
items_taken (node.New new_word class) = none
items_taken (node.PlainArgument comma) = two
items_taken (node.NamedArgument comma identifier colon_equal) = two
items_taken (node.Index left right) = two
items_taken (node.Binary operator token) = two
items_taken n = one

-- how many items stand there then, where so many did, and none below those is taken
abbrev pub height_behind : ItemsTaken → ℕ → Option ℕ
height_behind none height = Some (suc height)
height_behind one (suc height) = Some (suc height)
height_behind two (suc (suc height)) = Some (suc height)
height_behind t height = None

abbrev pub height_of : List ExpressionNode → ℕ → Option ℕ
height_of [] height = Some height
height_of (n ∷ ns) height = option_and_then (height_of ns) (height_behind (items_taken n) height)

-- one more item, which is the same whatever stands below
pub record AddsOne (ns : List ExpressionNode) : Type 0 where
  pub added : Item
  pub is : (items : List Item) → behind_nodes items ns ≡ added ∷ items

-- arguments that are written
abbrev pub is_argument : ExpressionNode → Bool
is_argument (node.PlainArgument comma) = true
is_argument (node.NamedArgument comma identifier colon_equal) = true
is_argument n = false

-- arguments of which the last one is written
pub record GivesSome (ns : List ExpressionNode) : Type 0 where
  pub front : List ExpressionNode
  pub last : ExpressionNode
  pub written : is_argument last ≡ true
  pub ends : ns ≡ front ++ last ∷ []
  pub adds : AddsOne ns

-- brackets round arguments, which are no nodes of a statement
abbrev pub bracket : Place → Token
bracket place = record { kind = kind.BadMark; start = 0; end = 0; place = place }

abbrev pub brackets : Place → List ExpressionNode
brackets place = node.Index (bracket place) (bracket place) ∷ []
