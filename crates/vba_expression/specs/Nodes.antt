-- The plain trees that nodes stand for.
use Rattle.std.specs.Prelude.{Bool, true, false, List, [], ◌∷◌, Option, Some, None}
use Rattle.vba_words.specs.declared.identifier.Identifier.{Identifier}
use Rattle.vba_lexer.specs.declared.token.Token.{Token}
use Rattle.vba_lexer.specs.declared.token.TokenKind.TheVariants as kind
use Rattle.vba_expression.specs.declared.node.ExpressionNode.{ExpressionNode}
use Rattle.vba_expression.specs.declared.node.ExpressionNode.TheVariants as node
use Rattle.vba_expression.specs.Tree.{Expr, literal, me, name, with_member, index, parenthesised, new, type_of, unary, binary, Args, no_args, missing, plain, named}
use Rattle.vba_expression.specs.Reader.{short_type, behind_dot}

-- what nodes leave: an expression or arguments
pub data Item : Type 0 where
  tree : Expr → Item
  arguments : Args → Item

-- the token that stands where there is none
abbrev pub no_token : Token
no_token = record { kind = kind.BadMark; start = 0; end = 0; place = record { «module» = 0; line = 0; column = 0 } }

-- an item as an expression: `Me` where it is none
abbrev pub as_tree : Item → Expr
as_tree (tree e) = e
as_tree (arguments xs) = me no_token

-- an item as arguments: none where it is an expression
abbrev pub as_arguments : Item → Args
as_arguments (tree e) = no_args
as_arguments (arguments xs) = xs

-- the last item, and those before it
abbrev pub last_tree : List Item → Expr
last_tree [] = me no_token
last_tree (i ∷ items) = as_tree i

abbrev pub last_arguments : List Item → Args
last_arguments [] = no_args
last_arguments (i ∷ items) = as_arguments i

abbrev pub rest : List Item → List Item
rest [] = []
rest (i ∷ items) = items

-- what stands behind a node, the last item first
abbrev pub behind_node : ExpressionNode → List Item → List Item
behind_node (node.Literal l) items = tree (literal l) ∷ items
behind_node (node.Me token) items = tree (me token) ∷ items
behind_node (node.Name identifier) items = tree (name identifier) ∷ items
behind_node (node.WithMember dot identifier) items = tree (with_member dot identifier) ∷ items
behind_node (node.Member dot identifier) items = tree (behind_dot (last_tree items) dot identifier) ∷ rest items
behind_node node.NoArguments items = arguments no_args ∷ items
behind_node (node.MissingArgument comma) items = arguments (missing (last_arguments items) comma) ∷ rest items
behind_node (node.PlainArgument comma) items =
    arguments (plain (last_arguments (rest items)) comma (last_tree items)) ∷ rest (rest items)
behind_node (node.NamedArgument comma identifier colon_equal) items =
    arguments (named (last_arguments (rest items)) comma identifier colon_equal (last_tree items)) ∷ rest (rest items)
behind_node (node.Index left right) items =
    tree (index (last_tree (rest items)) left (last_arguments items) right) ∷ rest (rest items)
behind_node (node.Parenthesised left right) items = tree (parenthesised left (last_tree items) right) ∷ rest items
behind_node (node.New new_word class) items = tree (new new_word (short_type class)) ∷ items
behind_node (node.TypeOf type_of_word is_word class) items =
    tree (type_of type_of_word (last_tree items) is_word (short_type class)) ∷ rest items
behind_node (node.Unary operator token) items = tree (unary operator token (last_tree items)) ∷ rest items
behind_node (node.Binary operator token) items =
    tree (binary (last_tree (rest items)) operator token (last_tree items)) ∷ rest (rest items)

-- what stands behind nodes
abbrev pub behind_nodes : List Item → List ExpressionNode → List Item
behind_nodes items [] = items
behind_nodes items (n ∷ ns) = behind_nodes (behind_node n items) ns

abbrev pub items_of : List ExpressionNode → List Item
items_of nodes = behind_nodes [] nodes

-- the expression, and the arguments, that nodes are
abbrev pub tree_in : List ExpressionNode → Expr
tree_in nodes = last_tree (items_of nodes)

abbrev pub arguments_in : List ExpressionNode → Args
arguments_in nodes = last_arguments (items_of nodes)

-- the name that a node is
abbrev pub node_name : ExpressionNode → Option Identifier
node_name (node.Name identifier) = Some identifier
node_name other = None

-- does a node make one more argument?
abbrev pub is_argument : ExpressionNode → Bool
is_argument (node.MissingArgument comma) = true
is_argument (node.PlainArgument comma) = true
is_argument (node.NamedArgument comma identifier colon_equal) = true
is_argument other = false
