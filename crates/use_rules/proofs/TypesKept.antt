-- S16 in expressions, node by node: what is kept is what the plain items have.
use Rattle.std.proofs.Common.{◌≡◌, List, [], ◌∷◌, ◌++◌, map, Option, Some, None, refl, sym, ap, ◌∙◌}
use Rattle.vba_base.specs.declared.place.Refusal.{Refusal}
use Rattle.refusal_order.specs.Least.{least_of_both}
use Rattle.vba_lexer.specs.declared.number.TypeSuffix.{TypeSuffix}
use Rattle.vba_lexer.specs.declared.token.Token.{Token}
use Rattle.vba_words.specs.declared.identifier.Identifier.{Identifier}
use Rattle.vba_expression.specs.declared.node.ExpressionNode.{ExpressionNode}
use Rattle.vba_expression.specs.declared.node.ExpressionNode.TheVariants as node
use Rattle.vba_expression.specs.declared.tree.TypeQualifier.{TypeQualifier}
use Rattle.vba_expression.specs.Nodes.{Item, tree, arguments, as_tree, as_arguments, last_tree, last_arguments, rest, behind_node, behind_nodes, tree_in, arguments_in}
use Rattle.vba_expression.specs.Reader.{behind_dot}
use Rattle.vba_expression.specs.Tree.{Expr, Args, literal, me, name, with_member, member, index, parenthesised, new, type_of, unary, binary}
use Rattle.declared_names.specs.binder.specs.Scopes.{Scope}
use Rattle.declared_names.specs.binder.specs.Violations.{types_in, types_in_args}
use Rattle.use_rules.specs.Found.{noted}
use Rattle.use_rules.specs.Stacks.{top, below}
use Rattle.use_rules.specs.TypesFound.{TypesItem, ended, a_type_of, in_arguments, in_expression, in_given, asked_faults, with_dot, no_item, top_expression, top_given, types_behind, types_through, kept_tree, kept}
use Rattle.use_rules.proofs.Noted.{noted_append, noted_both, noted_alone}

-- an expression that is kept has its least refusal
new_kept : (s : Scope) (new_word : Token) (q : Option TypeQualifier) (x : Identifier)
    → in_expression s (kept_tree s (new new_word (record { qualifier = q; name = x }))) ≡ noted 16 None (types_in s (new new_word (record { qualifier = q; name = x })))
new_kept s new_word None x = refl
new_kept s new_word (Some q) x = refl

type_of_kept : (s : Scope) (type_of_word : Token) (e : Expr) (is_word : Token) (q : Option TypeQualifier) (x : Identifier)
    → in_expression s (kept_tree s (type_of type_of_word e is_word (record { qualifier = q; name = x })))
    ≡ noted 16 None (types_in s (type_of type_of_word e is_word (record { qualifier = q; name = x })))
type_of_kept s type_of_word e is_word None x = sym (noted_append 16 None (types_in s e) (asked_faults s (record { qualifier = None; name = x })))
type_of_kept s type_of_word e is_word (Some q) x = sym (noted_append 16 None (types_in s e) (asked_faults s (record { qualifier = Some q; name = x })))

tree_kept : (s : Scope) (e : Expr) → in_expression s (kept_tree s e) ≡ noted 16 None (types_in s e)
tree_kept s (new new_word t) = new_kept s new_word t.qualifier t.name
tree_kept s (type_of type_of_word e is_word t) = type_of_kept s type_of_word e is_word t.qualifier t.name
tree_kept s e = refl

item_kept : (s : Scope) (i : Item) → in_expression s (kept s i) ≡ noted 16 None (types_in s (as_tree i))
item_kept s (tree e) = tree_kept s e
item_kept s (arguments xs) = refl

-- no expression is kept as arguments
new_given : (s : Scope) (new_word : Token) (q : Option TypeQualifier) (x : Identifier)
    → in_given (kept_tree s (new new_word (record { qualifier = q; name = x }))) ≡ None
new_given s new_word None x = refl
new_given s new_word (Some q) x = refl

type_of_given : (s : Scope) (type_of_word : Token) (e : Expr) (is_word : Token) (q : Option TypeQualifier) (x : Identifier)
    → in_given (kept_tree s (type_of type_of_word e is_word (record { qualifier = q; name = x }))) ≡ None
type_of_given s type_of_word e is_word None x = refl
type_of_given s type_of_word e is_word (Some q) x = refl

tree_given : (s : Scope) (e : Expr) → in_given (kept_tree s e) ≡ None
tree_given s (new new_word t) = new_given s new_word t.qualifier t.name
tree_given s (type_of type_of_word e is_word t) = type_of_given s type_of_word e is_word t.qualifier t.name
tree_given s e = refl

item_given : (s : Scope) (i : Item) → in_given (kept s i) ≡ noted 16 None (types_in_args s (as_arguments i))
item_given s (tree e) = tree_given s e
item_given s (arguments xs) = refl

-- the last item
top_kept : (s : Scope) (items : List Item) → top_expression s (map (kept s) items) ≡ noted 16 None (types_in s (last_tree items))
top_kept s [] = refl
top_kept s (i ∷ items) = item_kept s i

given_kept : (s : Scope) (items : List Item) → top_given (map (kept s) items) ≡ noted 16 None (types_in_args s (last_arguments items))
given_kept s [] = refl
given_kept s (i ∷ items) = item_given s i

below_kept : (s : Scope) (items : List Item) → below (map (kept s) items) ≡ map (kept s) (rest items)
below_kept s [] = refl
below_kept s (i ∷ items) = refl

-- a dot and a name
new_dotted : (s : Scope) (new_word : Token) (q : Option TypeQualifier) (x : Identifier) (dot : Token) (last : Identifier) (suffix : Option TypeSuffix)
    → last.suffix ≡ suffix
    → ended (with_dot s (kept_tree s (new new_word (record { qualifier = q; name = x }))) last)
    ≡ kept_tree s (behind_dot (new new_word (record { qualifier = q; name = x })) dot last)
new_dotted s new_word None x dot last None e = rw e refl
new_dotted s new_word None x dot last (Some suffix) e = rw e refl
new_dotted s new_word (Some q) x dot last suffix e = refl

type_of_dotted : (s : Scope) (type_of_word : Token) (e : Expr) (is_word : Token) (q : Option TypeQualifier) (x : Identifier) (dot : Token) (last : Identifier) (suffix : Option TypeSuffix)
    → last.suffix ≡ suffix
    → ended (with_dot s (kept_tree s (type_of type_of_word e is_word (record { qualifier = q; name = x }))) last)
    ≡ kept_tree s (behind_dot (type_of type_of_word e is_word (record { qualifier = q; name = x })) dot last)
type_of_dotted s type_of_word e is_word None x dot last None is = rw is refl
type_of_dotted s type_of_word e is_word None x dot last (Some suffix) is =
    rw is (ap ended (sym (noted_append 16 None (types_in s e) (asked_faults s (record { qualifier = None; name = x })))))
type_of_dotted s type_of_word e is_word (Some q) x dot last suffix is =
    ap ended (sym (noted_append 16 None (types_in s e) (asked_faults s (record { qualifier = Some q; name = x }))))

tree_dotted : (s : Scope) (e : Expr) (dot : Token) (last : Identifier) → ended (with_dot s (kept_tree s e) last) ≡ kept_tree s (behind_dot e dot last)
tree_dotted s (new new_word t) dot last = new_dotted s new_word t.qualifier t.name dot last last.suffix refl
tree_dotted s (type_of type_of_word e is_word t) dot last = type_of_dotted s type_of_word e is_word t.qualifier t.name dot last last.suffix refl
tree_dotted s e dot last = refl

top_dotted : (s : Scope) (items : List Item) (dot : Token) (last : Identifier)
    → ended (with_dot s (top no_item (map (kept s) items)) last) ≡ kept_tree s (behind_dot (last_tree items) dot last)
top_dotted s [] dot last = refl
top_dotted s (tree e ∷ items) dot last = tree_dotted s e dot last
top_dotted s (arguments xs ∷ items) dot last = refl

-- one node
module _ (s : Scope) (items : List Item) where
  both_trees :
      noted 16 None (types_in s (last_tree (rest items)) ++ types_in s (last_tree items))
      ≡ least_of_both (top_expression s (below (map (kept s) items))) (top_expression s (map (kept s) items))
  both_trees =
      rw (noted_both 16 (types_in s (last_tree (rest items))) (types_in s (last_tree items)), below_kept s items, top_kept s (rest items), top_kept s items) refl

  both_in_index :
      noted 16 None (types_in s (last_tree (rest items)) ++ types_in_args s (last_arguments items))
      ≡ least_of_both (top_expression s (below (map (kept s) items))) (top_given (map (kept s) items))
  both_in_index =
      rw (noted_both 16 (types_in s (last_tree (rest items))) (types_in_args s (last_arguments items)), below_kept s items, top_kept s (rest items), given_kept s items) refl

  both_in_arguments :
      noted 16 None (types_in_args s (last_arguments (rest items)) ++ types_in s (last_tree items))
      ≡ least_of_both (top_given (below (map (kept s) items))) (top_expression s (map (kept s) items))
  both_in_arguments =
      rw (noted_both 16 (types_in_args s (last_arguments (rest items))) (types_in s (last_tree items)), below_kept s items, given_kept s (rest items), top_kept s items) refl

  twice_below : below (below (map (kept s) items)) ≡ map (kept s) (rest (rest items))
  twice_below = ap below (below_kept s items) ∙ below_kept s (rest items)

joined : {A : Type 0} (x y : A) (xs ys : List A) → x ≡ y → xs ≡ ys → (x ∷ xs) ≡ (y ∷ ys)
joined x y xs ys first others = cc

node_kept : (s : Scope) (n : ExpressionNode) (items : List Item) → map (kept s) (behind_node n items) ≡ types_behind s n (map (kept s) items)
node_kept s (node.Literal l) items = refl
node_kept s (node.Me token) items = refl
node_kept s (node.Name x) items = refl
node_kept s (node.WithMember dot x) items = refl
node_kept s (node.Member dot x) items = joined _ _ _ _ (sym (top_dotted s items dot x)) (sym (below_kept s items))
node_kept s node.NoArguments items = refl
node_kept s (node.MissingArgument comma) items = joined _ _ _ _ (ap in_arguments (sym (given_kept s items))) (sym (below_kept s items))
node_kept s (node.PlainArgument comma) items = joined _ _ _ _ (ap in_arguments (both_in_arguments s items)) (sym (twice_below s items))
node_kept s (node.NamedArgument comma x colon_equal) items = joined _ _ _ _ (ap in_arguments (both_in_arguments s items)) (sym (twice_below s items))
node_kept s (node.Index left right) items = joined _ _ _ _ (ap ended (both_in_index s items)) (sym (twice_below s items))
node_kept s (node.Parenthesised left right) items = joined _ _ _ _ (ap ended (sym (top_kept s items))) (sym (below_kept s items))
node_kept s (node.New new_word class) items = refl
node_kept s (node.TypeOf type_of_word is_word class) items =
    joined _ _ _ _ (ap (λ least. a_type_of least class) (sym (top_kept s items))) (sym (below_kept s items))
node_kept s (node.Unary operator token) items = joined _ _ _ _ (ap ended (sym (top_kept s items))) (sym (below_kept s items))
node_kept s (node.Binary operator token) items = joined _ _ _ _ (ap ended (both_trees s items)) (sym (twice_below s items))

nodes_kept : (s : Scope) (nodes : List ExpressionNode) (items : List Item) → map (kept s) (behind_nodes items nodes) ≡ types_through s (map (kept s) items) nodes
nodes_kept s [] items = refl
nodes_kept s (n ∷ nodes) items = nodes_kept s nodes (behind_node n items) ∙ ap (λ kept_items. types_through s kept_items nodes) (node_kept s n items)

-- what is found in an expression, and in arguments
pub expression_found : (s : Scope) (found later : Option Refusal) (nodes : List ExpressionNode) (held : List TypesItem)
    → held ≡ types_through s [] nodes
    → later ≡ least_of_both found (top_expression s held)
    → later ≡ noted 16 found (types_in s (tree_in nodes))
expression_found s found later nodes held are is =
    is
    ∙ ap (λ items. least_of_both found (top_expression s items)) (are ∙ sym (nodes_kept s nodes []))
    ∙ ap (least_of_both found) (top_kept s (behind_nodes [] nodes))
    ∙ noted_alone 16 found (types_in s (tree_in nodes))

pub arguments_found : (s : Scope) (found later : Option Refusal) (nodes : List ExpressionNode) (held : List TypesItem)
    → held ≡ types_through s [] nodes
    → later ≡ least_of_both found (top_given held)
    → later ≡ noted 16 found (types_in_args s (arguments_in nodes))
arguments_found s found later nodes held are is =
    is
    ∙ ap (λ items. least_of_both found (top_given items)) (are ∙ sym (nodes_kept s nodes []))
    ∙ ap (least_of_both found) (given_kept s (behind_nodes [] nodes))
    ∙ noted_alone 16 found (types_in_args s (arguments_in nodes))
