-- The outcome of an expression is what its nodes leave.
use Rattle.std.proofs.Common.{◌≡◌, List, [], ◌∷◌, map, Option, Some, None, refl, ap, ◌∙◌, sym}
use Rattle.vba_lexer.specs.declared.token.Token.{Token}
use Rattle.vba_lexer.specs.declared.number.TypeSuffix.{TypeSuffix}
use Rattle.vba_words.specs.declared.identifier.Identifier.{Identifier}
use Rattle.vba_expression.specs.declared.node.ExpressionNode.{ExpressionNode}
use Rattle.vba_expression.specs.declared.node.ExpressionNode.TheVariants as node
use Rattle.vba_expression.specs.declared.tree.TypeQualifier.{TypeQualifier}
use Rattle.vba_expression.specs.Tree.{Expr, literal, me, name, with_member, member, index, parenthesised, new, type_of, unary, binary}
use Rattle.vba_expression.specs.Nodes.{Item, tree, arguments, no_token, as_tree, last_tree, rest, behind_node, behind_nodes, tree_in}
use Rattle.vba_expression.specs.Reader.{behind_dot, new_behind_dot, type_of_behind_dot}
use Rattle.declared_names.specs.binder.specs.Scopes.{Scope}
use Rattle.declared_names.specs.binder.specs.Constants.{value_by}
use Rattle.constant_values.specs.Names.{Names, nothing, values, names_from}
use Rattle.constant_values.specs.Stack.{Outcome, outcome, member_outcome, last, others, behind_outcome, behind_outcomes, item_outcome}

behind_none : (names : Names) (s : Scope) (x : Identifier) → member_outcome names s None x ≡ record { value = None; qualifier = None }
behind_none nothing s x = refl
behind_none (values entries own) s x = refl

behind_new : (names : Names) (s : Scope) (word : Token) (q : Option TypeQualifier) (first : Identifier) (dot : Token) (x : Identifier) (suffix : Option TypeSuffix)
    → outcome names s (new_behind_dot word q first dot x suffix) ≡ record { value = None; qualifier = None }
behind_new names s word None first dot x None = refl
behind_new names s word None first dot x (Some suffix) = behind_none names s x
behind_new names s word (Some q) first dot x suffix = behind_none names s x

behind_type_of : (names : Names) (s : Scope) (word : Token) (e : Expr) (is_word : Token) (q : Option TypeQualifier) (first : Identifier) (dot : Token) (x : Identifier)
    (suffix : Option TypeSuffix) → outcome names s (type_of_behind_dot word e is_word q first dot x suffix) ≡ record { value = None; qualifier = None }
behind_type_of names s word e is_word None first dot x None = refl
behind_type_of names s word e is_word None first dot x (Some suffix) = behind_none names s x
behind_type_of names s word e is_word (Some q) first dot x suffix = behind_none names s x

-- a name behind an expression
behind_expression : (names : Names) (s : Scope) (e : Expr) (dot : Token) (x : Identifier)
    → outcome names s (behind_dot e dot x) ≡ member_outcome names s (outcome names s e).qualifier x
behind_expression names s (literal l) dot x = refl
behind_expression names s (me token) dot x = refl
behind_expression names s (name y) dot x = refl
behind_expression names s (with_member d y) dot x = refl
behind_expression names s (member e d y) dot x = refl
behind_expression names s (index e left args right) dot x = refl
behind_expression names s (parenthesised left e right) dot x = refl
behind_expression names s (new word class) dot x = behind_new names s word class.qualifier class.name dot x x.suffix ∙ sym (behind_none names s x)
behind_expression names s (type_of word e is_word class) dot x =
    behind_type_of names s word e is_word class.qualifier class.name dot x x.suffix ∙ sym (behind_none names s x)
behind_expression names s (unary operator token e) dot x = refl
behind_expression names s (binary l operator token r) dot x = refl

last_outcome : (names : Names) (s : Scope) (items : List Item) → outcome names s (last_tree items) ≡ last (map (item_outcome names s) items)
last_outcome names s [] = refl
last_outcome names s (i ∷ items) = refl

other_outcomes : (names : Names) (s : Scope) (items : List Item) → map (item_outcome names s) (rest items) ≡ others (map (item_outcome names s) items)
other_outcomes names s [] = refl
other_outcomes names s (i ∷ items) = refl

-- one node
one_node : (names : Names) (s : Scope) (n : ExpressionNode) (items : List Item)
    → map (item_outcome names s) (behind_node n items) ≡ behind_outcome names s n (map (item_outcome names s) items)
one_node names s (node.Literal l) items = refl
one_node names s (node.Me token) items = refl
one_node names s (node.Name x) items = refl
one_node names s (node.WithMember dot x) items = refl
one_node names s (node.Member dot x) [] = ap (λ (o : Outcome). o ∷ []) (behind_expression names s (me no_token) dot x)
one_node names s (node.Member dot x) (i ∷ items) =
    ap (λ (o : Outcome). o ∷ map (item_outcome names s) items) (behind_expression names s (as_tree i) dot x)
one_node names s node.NoArguments items = refl
one_node names s (node.MissingArgument comma) [] = refl
one_node names s (node.MissingArgument comma) (i ∷ items) = refl
one_node names s (node.PlainArgument comma) [] = refl
one_node names s (node.PlainArgument comma) (i ∷ []) = refl
one_node names s (node.PlainArgument comma) (i ∷ (j ∷ items)) = refl
one_node names s (node.NamedArgument comma x mark) [] = refl
one_node names s (node.NamedArgument comma x mark) (i ∷ []) = refl
one_node names s (node.NamedArgument comma x mark) (i ∷ (j ∷ items)) = refl
one_node names s (node.Index left right) [] = refl
one_node names s (node.Index left right) (i ∷ []) = refl
one_node names s (node.Index left right) (i ∷ (j ∷ items)) = refl
one_node names s (node.Parenthesised left right) [] = refl
one_node names s (node.Parenthesised left right) (i ∷ items) = refl
one_node names s (node.New new_word class) items = refl
one_node names s (node.TypeOf type_of_word is_word class) [] = refl
one_node names s (node.TypeOf type_of_word is_word class) (i ∷ items) = refl
one_node names s (node.Unary operator token) [] = refl
one_node names s (node.Unary operator token) (i ∷ items) = refl
one_node names s (node.Binary operator token) [] = refl
one_node names s (node.Binary operator token) (i ∷ []) = refl
one_node names s (node.Binary operator token) (i ∷ (j ∷ items)) = refl

-- all nodes
all_nodes : (names : Names) (s : Scope) (items : List Item) (ns : List ExpressionNode)
    → map (item_outcome names s) (behind_nodes items ns) ≡ behind_outcomes names s (map (item_outcome names s) items) ns
all_nodes names s items [] = refl
all_nodes names s items (n ∷ ns) =
    all_nodes names s (behind_node n items) ns ∙ ap (λ (os : List Outcome). behind_outcomes names s os ns) (one_node names s n items)

pub folded : (names : Names) (s : Scope) (ns : List ExpressionNode) → outcome names s (tree_in ns) ≡ last (behind_outcomes names s [] ns)
folded names s ns = last_outcome names s (behind_nodes [] ns) ∙ ap last (all_nodes names s [] ns)

-- its value
pub folded_value : (names : Names) (s : Scope) (e : Expr) (ns : List ExpressionNode) → tree_in ns ≡ e
    → (last (behind_outcomes names s [] ns)).value ≡ value_by (names_from names) s e
folded_value names s e ns same = ap (λ (o : Outcome). o.value) (sym (folded names s ns)) ∙ ap (value_by (names_from names) s) same
