-- What nodes leave, by names.
use Rattle.std.proofs.Common.{◌≡◌, List, [], ◌∷◌, ◌++◌, map, Option, Some, None, refl, sym, ap, ◌∙◌}
use Rattle.vba_lexer.specs.declared.token.Token.{Token}
use Rattle.vba_lexer.specs.declared.number.TypeSuffix.{TypeSuffix}
use Rattle.vba_words.specs.declared.identifier.Identifier.{Identifier}
use Rattle.vba_expression.specs.declared.node.ExpressionNode.{ExpressionNode}
use Rattle.vba_expression.specs.declared.node.ExpressionNode.TheVariants as node
use Rattle.vba_expression.specs.declared.tree.TypeQualifier.{TypeQualifier}
use Rattle.vba_expression.specs.Tree as expr
use Rattle.vba_expression.specs.Reader.{behind_dot, new_behind_dot, type_of_behind_dot}
use Rattle.vba_expression.specs.Nodes as nodes
use Rattle.declared_names.specs.binder.specs.Scopes.{Use, plainly, called, before_dot}
use Rattle.declared_names.specs.binder.specs.Names.{names_used, names_in_args, names_called}
use Rattle.procedure_names.specs.Used.{Names, bare, in_tree, in_arguments, item_names, names_of, arguments_of, last_tree, last_arguments, rest, behind_node, behind_nodes}

-- the names of an item that is used in a way
plainly_used : (e : expr.Expr) → names_of plainly (item_names (nodes.tree e)) ≡ names_used plainly e
plainly_used (expr.name x) = refl
plainly_used e = refl

index_before_dot : (b : expr.Expr) (left right : Token) (args : expr.Args) → names_used plainly (expr.index b left args right) ≡ names_used before_dot (expr.index b left args right)
index_before_dot (expr.name x) left right args = refl
index_before_dot b left right args = refl

used_before_dot : (e : expr.Expr) → names_of before_dot (item_names (nodes.tree e)) ≡ names_used before_dot e
used_before_dot (expr.name x) = refl
used_before_dot (expr.index b left args right) = index_before_dot b left right args
used_before_dot e = refl

used_called : (e : expr.Expr) → names_of called (item_names (nodes.tree e)) ≡ names_called e
used_called (expr.name x) = refl
used_called e = refl

last_plainly : (items : List nodes.Item) → last_tree plainly (map item_names items) ≡ names_used plainly (nodes.last_tree items)
last_plainly [] = refl
last_plainly (nodes.tree e ∷ items) = plainly_used e
last_plainly (nodes.arguments xs ∷ items) = refl

last_called : (items : List nodes.Item) → last_tree called (map item_names items) ≡ names_called (nodes.last_tree items)
last_called [] = refl
last_called (nodes.tree e ∷ items) = used_called e
last_called (nodes.arguments xs ∷ items) = refl

last_before_dot : (items : List nodes.Item) → last_tree before_dot (map item_names items) ≡ names_used before_dot (nodes.last_tree items)
last_before_dot [] = refl
last_before_dot (nodes.tree e ∷ items) = used_before_dot e
last_before_dot (nodes.arguments xs ∷ items) = refl

last_listed : (items : List nodes.Item) → last_arguments (map item_names items) ≡ names_in_args (nodes.last_arguments items)
last_listed [] = refl
last_listed (nodes.tree (expr.name x) ∷ items) = refl
last_listed (nodes.tree e ∷ items) = refl
last_listed (nodes.arguments xs ∷ items) = refl

rest_names : (items : List nodes.Item) → rest (map item_names items) ≡ map item_names (nodes.rest items)
rest_names [] = refl
rest_names (i ∷ items) = refl

-- a dot and a name behind an expression
new_dotted : (word : Token) (q : Option TypeQualifier) (first : Identifier) (dot : Token) (last : Identifier) (s : Option TypeSuffix) → item_names (nodes.tree (new_behind_dot word q first dot last s)) ≡ in_tree []
new_dotted word None first dot last None = refl
new_dotted word (Some q) first dot last s = refl
new_dotted word None first dot last (Some s) = refl

type_of_dotted : (word : Token) (operand : expr.Expr) (is_word : Token) (q : Option TypeQualifier) (first : Identifier) (dot : Token) (last : Identifier) (s : Option TypeSuffix)
    → item_names (nodes.tree (type_of_behind_dot word operand is_word q first dot last s)) ≡ in_tree (names_used plainly operand)
type_of_dotted word operand is_word None first dot last None = refl
type_of_dotted word operand is_word (Some q) first dot last s = refl
type_of_dotted word operand is_word None first dot last (Some s) = refl

dotted : (e : expr.Expr) (dot : Token) (x : Identifier) → item_names (nodes.tree (behind_dot e dot x)) ≡ in_tree (names_used before_dot e)
dotted (expr.new word class) dot x = new_dotted word class.qualifier class.name dot x x.suffix
dotted (expr.type_of word operand is_word class) dot x = type_of_dotted word operand is_word class.qualifier class.name dot x x.suffix
dotted e dot x = refl

indexed : (b : expr.Expr) (left right : Token) (args : expr.Args) → names_used plainly (expr.index b left args right) ≡ names_called b ++ names_in_args args
indexed (expr.name x) left right args = refl
indexed b left right args = refl

one_passed : (n : ExpressionNode) (items : List nodes.Item) → behind_node n (map item_names items) ≡ map item_names (nodes.behind_node n items)
one_passed (node.Literal l) items = refl
one_passed (node.Me token) items = refl
one_passed (node.Name x) items = refl
one_passed (node.WithMember dot x) items = refl
one_passed (node.Member dot x) items =
    (λ k. in_tree (last_before_dot items k) ∷ rest_names items k) ∙ ap (λ i. i ∷ map item_names (nodes.rest items)) (sym (dotted (nodes.last_tree items) dot x))
one_passed node.NoArguments items = refl
one_passed (node.MissingArgument comma) items = λ k. in_arguments (last_listed items k) ∷ rest_names items k
one_passed (node.PlainArgument comma) items = rw (last_plainly items, rest_names items, last_listed (nodes.rest items), rest_names (nodes.rest items)) refl
one_passed (node.NamedArgument comma x colon_equal) items = rw (last_plainly items, rest_names items, last_listed (nodes.rest items), rest_names (nodes.rest items)) refl
one_passed (node.Index left right) items =
    rw (last_listed items, rest_names items, last_called (nodes.rest items), rest_names (nodes.rest items))
    (ap (λ xs. in_tree xs ∷ map item_names (nodes.rest (nodes.rest items))) (sym (indexed (nodes.last_tree (nodes.rest items)) left right (nodes.last_arguments items))))
one_passed (node.Parenthesised left right) items = λ k. in_tree (last_plainly items k) ∷ rest_names items k
one_passed (node.New new_word class) items = refl
one_passed (node.TypeOf type_of_word is_word class) items = λ k. in_tree (last_plainly items k) ∷ rest_names items k
one_passed (node.Unary operator token) items = λ k. in_tree (last_plainly items k) ∷ rest_names items k
one_passed (node.Binary operator token) items = rw (last_plainly items, rest_names items, last_plainly (nodes.rest items), rest_names (nodes.rest items)) refl

passed_from : (items : List nodes.Item) (ns : List ExpressionNode) → behind_nodes (map item_names items) ns ≡ map item_names (nodes.behind_nodes items ns)
passed_from items [] = refl
passed_from items (n ∷ ns) = ap (λ is. behind_nodes is ns) (one_passed n items) ∙ passed_from (nodes.behind_node n items) ns

all_passed : (ns : List ExpressionNode) → behind_nodes [] ns ≡ map item_names (nodes.items_of ns)
all_passed ns = passed_from [] ns

pub expression_names : (ns : List ExpressionNode) (e : expr.Expr) → nodes.tree_in ns ≡ e → last_tree plainly (behind_nodes [] ns) ≡ names_used plainly e
expression_names ns e is = ap (last_tree plainly) (all_passed ns) ∙ last_plainly (nodes.items_of ns) ∙ ap (names_used plainly) is

pub called_names : (ns : List ExpressionNode) (e : expr.Expr) → nodes.tree_in ns ≡ e → last_tree called (behind_nodes [] ns) ≡ names_called e
called_names ns e is = ap (last_tree called) (all_passed ns) ∙ last_called (nodes.items_of ns) ∙ ap names_called is

pub argument_names : (ns : List ExpressionNode) (xs : expr.Args) → nodes.arguments_in ns ≡ xs → last_arguments (behind_nodes [] ns) ≡ names_in_args xs
argument_names ns xs is = ap last_arguments (all_passed ns) ∙ last_listed (nodes.items_of ns) ∙ ap names_in_args is
