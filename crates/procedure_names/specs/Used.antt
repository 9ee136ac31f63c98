-- Serves the code: the names that expressions use, node by node.
use Rattle.std.specs.Prelude.{List, [], ◌∷◌, ◌++◌, map, reverse}
use Rattle.vba_words.specs.declared.identifier.Identifier.{Identifier}
use Rattle.vba_expression.specs.declared.node.ExpressionNode.{ExpressionNode}
use Rattle.vba_expression.specs.declared.node.ExpressionNode.TheVariants as node
use Rattle.vba_expression.specs.Tree.{name}
use Rattle.vba_expression.specs.Nodes as nodes
use Rattle.declared_names.specs.binder.specs.Scopes.{Use, plainly, called, before_dot}
use Rattle.declared_names.specs.binder.specs.Names.{names_used, names_in_args}
use Rattle.declared_names.specs.View.{use_view}
use Rattle.procedure_names.specs.declared.item.Used.{Used}
use Rattle.procedure_names.specs.declared.item.Item.{Item}
use Rattle.procedure_names.specs.declared.item.Item.TheVariants as item

-- an expression or arguments, by the names that they use; how a name alone is used isn't known yet
pub data Names : Type 0 where
  bare : Identifier → Names
  in_tree : List (Use × Identifier) → Names
  in_arguments : List (Use × Identifier) → Names

abbrev pub used_view : Used → Use × Identifier
used_view u = (use_view u.how, u.name.now)

abbrev pub item_view : Item → Names
item_view (item.Name x) = bare x.now
item_view (item.Tree names) = in_tree (map used_view names.items)
item_view (item.Arguments names) = in_arguments (map used_view names.items)

-- the last item first
abbrev pub stack : List Item → List Names
stack items = reverse (map item_view items)

-- the names of an item that nodes leave
abbrev pub item_names : nodes.Item → Names
item_names (nodes.tree (name x)) = bare x
item_names (nodes.tree e) = in_tree (names_used plainly e)
item_names (nodes.arguments xs) = in_arguments (names_in_args xs)

-- the names of an expression that is used in a way
abbrev pub names_of : Use → Names → List (Use × Identifier)
names_of called (bare x) = []
names_of how (bare x) = (how, x) ∷ []
names_of how (in_tree xs) = xs
names_of how (in_arguments xs) = []

abbrev pub arguments_of : Names → List (Use × Identifier)
arguments_of (in_arguments xs) = xs
arguments_of names = []

-- of the last item
abbrev pub last_tree : Use → List Names → List (Use × Identifier)
last_tree how [] = []
last_tree how (i ∷ items) = names_of how i

abbrev pub last_arguments : List Names → List (Use × Identifier)
last_arguments [] = []
last_arguments (i ∷ items) = arguments_of i

abbrev pub rest : List Names → List Names
rest [] = []
rest (i ∷ items) = items

-- behind nodes of a kind
abbrev pub behind_bare : List Names → List Names
behind_bare items = in_tree [] ∷ items

abbrev pub behind_unary : Use → List Names → List Names
behind_unary how items = in_tree (last_tree how items) ∷ rest items

abbrev pub behind_binary : List Names → List Names
behind_binary items = in_tree (last_tree plainly (rest items) ++ last_tree plainly items) ∷ rest (rest items)

abbrev pub behind_index : List Names → List Names
behind_index items = in_tree (last_tree called (rest items) ++ last_arguments items) ∷ rest (rest items)

abbrev pub behind_missing : List Names → List Names
behind_missing items = in_arguments (last_arguments items) ∷ rest items

abbrev pub behind_argument : List Names → List Names
behind_argument items = in_arguments (last_arguments (rest items) ++ last_tree plainly items) ∷ rest (rest items)

abbrev pub behind_node : ExpressionNode → List Names → List Names
behind_node (node.Literal l) items = behind_bare items
behind_node (node.Me token) items = behind_bare items
behind_node (node.Name x) items = bare x ∷ items
behind_node (node.WithMember dot x) items = behind_bare items
behind_node (node.Member dot x) items = behind_unary before_dot items
behind_node node.NoArguments items = in_arguments [] ∷ items
behind_node (node.MissingArgument comma) items = behind_missing items
behind_node (node.PlainArgument comma) items = behind_argument items
behind_node (node.NamedArgument comma x colon_equal) items = behind_argument items
behind_node (node.Index left right) items = behind_index items
behind_node (node.Parenthesised left right) items = behind_unary plainly items
behind_node (node.New new_word class) items = behind_bare items
behind_node (node.TypeOf type_of_word is_word class) items = behind_unary plainly items
behind_node (node.Unary operator token) items = behind_unary plainly items
behind_node (node.Binary operator token) items = behind_binary items

abbrev pub behind_nodes : List Names → List ExpressionNode → List Names
behind_nodes items [] = items
behind_nodes items (n ∷ ns) = behind_nodes (behind_node n items) ns
