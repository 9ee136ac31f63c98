-- What is asked of names, node by node: what is kept is what the plain items have.
use Rattle.std.proofs.Common.{◌≡◌, List, [], ◌∷◌, ◌++◌, map, Option, Some, None, refl, sym, ap, ◌∙◌}
use Rattle.vba_base.specs.declared.place.Place.{Place}
use Rattle.vba_base.specs.declared.place.Refusal.{Refusal}
use Rattle.refusal_order.specs.Least.{least_of_both}
use Rattle.vba_lexer.specs.declared.number.TypeSuffix.{TypeSuffix}
use Rattle.vba_lexer.specs.declared.token.Token.{Token}
use Rattle.vba_words.specs.declared.identifier.Identifier.{Identifier}
use Rattle.vba_expression.specs.declared.node.ExpressionNode.{ExpressionNode}
use Rattle.vba_expression.specs.declared.node.ExpressionNode.TheVariants as node
use Rattle.vba_expression.specs.declared.tree.TypeQualifier.{TypeQualifier}
use Rattle.vba_expression.specs.Nodes.{Item, tree, arguments, as_tree, as_arguments, last_tree, last_arguments, rest, behind_node, behind_nodes, tree_in, arguments_in}
use Rattle.vba_expression.specs.Reader.{behind_dot}
use Rattle.vba_expression.specs.Tree.{Expr, Args, literal, me, name, with_member, member, index, parenthesised, new, type_of, unary, binary}
use Rattle.declared_names.specs.binder.specs.Scopes.{Scope, Use, plainly, called, before_dot, Qualifier, qualifier_of, enum_behind}
use Rattle.use_rules.specs.Asked.{rule_of, at_suffix, at_dotted, names_asked, asked_in_args}
use Rattle.use_rules.specs.Found.{noted}
use Rattle.use_rules.specs.declared.question.Question.{Question}
use Rattle.use_rules.specs.declared.question.Question.TheVariants.{IsUnknown, IsLeftOut}
use Rattle.use_rules.specs.Stacks.{top, below}
use Rattle.use_rules.specs.NamesFound.{NamesItem, ended, in_arguments, taken, given, qualifier_in, of_member, no_item, top_taken, top_given, names_behind, names_through, kept_tree, kept}
use Rattle.use_rules.proofs.Noted.{noted_append, noted_both, noted_alone}

-- a name behind a dot that is used
member_taken : (s : Scope) (question : Question) (how : Use) (q : Option Qualifier) (x : Identifier) (base : List Place)
    → taken s question how (of_member question q x (noted (rule_of question) None base)) ≡ noted (rule_of question) None (at_dotted s question q how x base)
member_taken s question how None x base = sym (noted_append (rule_of question) None base (at_suffix question x))
member_taken s question how (Some q) x base = refl

tree_taken : (s : Scope) (question : Question) (how : Use) (e : Expr) → taken s question how (kept_tree s question e) ≡ noted (rule_of question) None (names_asked s question how e)
tree_taken s question how (member base dot x) = member_taken s question how (qualifier_of s base) x (names_asked s question before_dot base)
tree_taken s question how e = refl

item_taken : (s : Scope) (question : Question) (how : Use) (i : Item) → taken s question how (kept s question i) ≡ noted (rule_of question) None (names_asked s question how (as_tree i))
item_taken s question how (tree e) = tree_taken s question how e
item_taken s question how (arguments xs) = refl

member_given : (question : Question) (q : Option Qualifier) (x : Identifier) (base : Option Refusal) → given (of_member question q x base) ≡ None
member_given question None x base = refl
member_given question (Some q) x base = refl

tree_given : (s : Scope) (question : Question) (e : Expr) → given (kept_tree s question e) ≡ None
tree_given s question (member base dot x) = member_given question (qualifier_of s base) x (noted (rule_of question) None (names_asked s question before_dot base))
tree_given s question e = refl

item_given : (s : Scope) (question : Question) (i : Item) → given (kept s question i) ≡ noted (rule_of question) None (asked_in_args s question (as_arguments i))
item_given s question (tree e) = tree_given s question e
item_given s question (arguments xs) = refl

-- where a name behind it is looked for
member_qualifier : (s : Scope) (question : Question) (q : Option Qualifier) (x : Identifier) (base : Option Refusal)
    → qualifier_in s (of_member question q x base) ≡ enum_behind s q x
member_qualifier s question None x base = refl
member_qualifier s question (Some q) x base = refl

tree_qualifier : (s : Scope) (question : Question) (e : Expr) → qualifier_in s (kept_tree s question e) ≡ qualifier_of s e
tree_qualifier s question (member base dot x) = member_qualifier s question (qualifier_of s base) x (noted (rule_of question) None (names_asked s question before_dot base))
tree_qualifier s question e = refl

item_qualifier : (s : Scope) (question : Question) (i : Item) → qualifier_in s (kept s question i) ≡ qualifier_of s (as_tree i)
item_qualifier s question (tree e) = tree_qualifier s question e
item_qualifier s question (arguments xs) = refl

-- the last item
top_kept : (s : Scope) (question : Question) (how : Use) (items : List Item)
    → top_taken s question how (map (kept s question) items) ≡ noted (rule_of question) None (names_asked s question how (last_tree items))
top_kept s question how [] = refl
top_kept s question how (i ∷ items) = item_taken s question how i

given_kept : (s : Scope) (question : Question) (items : List Item)
    → top_given (map (kept s question) items) ≡ noted (rule_of question) None (asked_in_args s question (last_arguments items))
given_kept s question [] = refl
given_kept s question (i ∷ items) = item_given s question i

top_qualifier : (s : Scope) (question : Question) (items : List Item)
    → qualifier_in s (top no_item (map (kept s question) items)) ≡ qualifier_of s (last_tree items)
top_qualifier s question [] = refl
top_qualifier s question (i ∷ items) = item_qualifier s question i

below_kept : (s : Scope) (question : Question) (items : List Item) → below (map (kept s question) items) ≡ map (kept s question) (rest items)
below_kept s question [] = refl
below_kept s question (i ∷ items) = refl

-- a name without a suffix
plain_suffix : (question : Question) (x : Identifier) → x.suffix ≡ None → at_suffix question x ≡ []
plain_suffix (IsUnknown in_with) x is = refl
plain_suffix IsLeftOut x is = rw is refl

-- a name behind a type that has none before it is the type's own
new_whole : (s : Scope) (question : Question) (new_word : Token) (x : Identifier) (dot : Token) (last : Identifier) → last.suffix ≡ None
    → ended (noted (rule_of question) None []) ≡ kept_tree s question (behind_dot (new new_word (record { qualifier = None; name = x })) dot last)
new_whole s question new_word x dot last is = rw is refl

type_of_whole : (s : Scope) (question : Question) (type_of_word : Token) (e : Expr) (is_word : Token) (x : Identifier) (dot : Token) (last : Identifier) → last.suffix ≡ None
    → ended (noted (rule_of question) (noted (rule_of question) None (names_asked s question plainly e)) [])
    ≡ kept_tree s question (behind_dot (type_of type_of_word e is_word (record { qualifier = None; name = x })) dot last)
type_of_whole s question type_of_word e is_word x dot last is = rw is refl

-- a dot and a name
new_dotted : (s : Scope) (question : Question) (new_word : Token) (q : Option TypeQualifier) (x : Identifier) (dot : Token) (last : Identifier) (suffix : Option TypeSuffix)
    → last.suffix ≡ suffix
    → of_member question (qualifier_of s (new new_word (record { qualifier = q; name = x }))) last (noted (rule_of question) None (names_asked s question before_dot (new new_word (record { qualifier = q; name = x }))))
    ≡ kept_tree s question (behind_dot (new new_word (record { qualifier = q; name = x })) dot last)
new_dotted s question new_word None x dot last None e =
    ap (λ places. ended (noted (rule_of question) None places)) (plain_suffix question last e) ∙ new_whole s question new_word x dot last e
new_dotted s question new_word None x dot last (Some suffix) e = rw e refl
new_dotted s question new_word (Some q) x dot last suffix e = refl

type_of_dotted : (s : Scope) (question : Question) (type_of_word : Token) (e : Expr) (is_word : Token) (q : Option TypeQualifier) (x : Identifier) (dot : Token) (last : Identifier) (suffix : Option TypeSuffix)
    → last.suffix ≡ suffix
    → of_member question (qualifier_of s (type_of type_of_word e is_word (record { qualifier = q; name = x }))) last
    (noted (rule_of question) None (names_asked s question before_dot (type_of type_of_word e is_word (record { qualifier = q; name = x }))))
    ≡ kept_tree s question (behind_dot (type_of type_of_word e is_word (record { qualifier = q; name = x })) dot last)
type_of_dotted s question type_of_word e is_word None x dot last None is =
    ap (λ places. ended (noted (rule_of question) (noted (rule_of question) None (names_asked s question plainly e)) places)) (plain_suffix question last is)
    ∙ type_of_whole s question type_of_word e is_word x dot last is
type_of_dotted s question type_of_word e is_word None x dot last (Some suffix) is = rw is refl
type_of_dotted s question type_of_word e is_word (Some q) x dot last suffix is = refl

tree_dotted : (s : Scope) (question : Question) (e : Expr) (dot : Token) (last : Identifier)
    → of_member question (qualifier_of s e) last (noted (rule_of question) None (names_asked s question before_dot e)) ≡ kept_tree s question (behind_dot e dot last)
tree_dotted s question (new new_word t) dot last = new_dotted s question new_word t.qualifier t.name dot last last.suffix refl
tree_dotted s question (type_of type_of_word e is_word t) dot last = type_of_dotted s question type_of_word e is_word t.qualifier t.name dot last last.suffix refl
tree_dotted s question e dot last = refl

top_dotted : (s : Scope) (question : Question) (items : List Item) (dot : Token) (last : Identifier)
    → of_member question (qualifier_in s (top no_item (map (kept s question) items))) last (top_taken s question before_dot (map (kept s question) items))
    ≡ kept_tree s question (behind_dot (last_tree items) dot last)
top_dotted s question items dot last =
    ap (λ q. of_member question q last (top_taken s question before_dot (map (kept s question) items))) (top_qualifier s question items)
    ∙ ap (of_member question (qualifier_of s (last_tree items)) last) (top_kept s question before_dot items)
    ∙ tree_dotted s question (last_tree items) dot last

-- one node
module _ (s : Scope) (question : Question) (items : List Item) where
  both_trees :
      noted (rule_of question) None (names_asked s question plainly (last_tree (rest items)) ++ names_asked s question plainly (last_tree items))
      ≡ least_of_both (top_taken s question plainly (below (map (kept s question) items))) (top_taken s question plainly (map (kept s question) items))
  both_trees =
      rw (
        noted_both (rule_of question) (names_asked s question plainly (last_tree (rest items))) (names_asked s question plainly (last_tree items)),
        below_kept s question items,
        top_kept s question plainly (rest items),
        top_kept s question plainly items,
      ) refl

  both_in_index :
      noted (rule_of question) None (names_asked s question called (last_tree (rest items)) ++ asked_in_args s question (last_arguments items))
      ≡ least_of_both (top_taken s question called (below (map (kept s question) items))) (top_given (map (kept s question) items))
  both_in_index =
      rw (
        noted_both (rule_of question) (names_asked s question called (last_tree (rest items))) (asked_in_args s question (last_arguments items)),
        below_kept s question items,
        top_kept s question called (rest items),
        given_kept s question items,
      ) refl

  both_in_arguments :
      noted (rule_of question) None (asked_in_args s question (last_arguments (rest items)) ++ names_asked s question plainly (last_tree items))
      ≡ least_of_both (top_given (below (map (kept s question) items))) (top_taken s question plainly (map (kept s question) items))
  both_in_arguments =
      rw (
        noted_both (rule_of question) (asked_in_args s question (last_arguments (rest items))) (names_asked s question plainly (last_tree items)),
        below_kept s question items,
        given_kept s question (rest items),
        top_kept s question plainly items,
      ) refl

  twice_below : below (below (map (kept s question) items)) ≡ map (kept s question) (rest (rest items))
  twice_below = ap below (below_kept s question items) ∙ below_kept s question (rest items)

joined : {A : Type 0} (x y : A) (xs ys : List A) → x ≡ y → xs ≡ ys → (x ∷ xs) ≡ (y ∷ ys)
joined x y xs ys first others = cc

node_kept : (s : Scope) (question : Question) (n : ExpressionNode) (items : List Item)
    → map (kept s question) (behind_node n items) ≡ names_behind s question n (map (kept s question) items)
node_kept s question (node.Literal l) items = refl
node_kept s question (node.Me token) items = refl
node_kept s question (node.Name x) items = refl
node_kept s question (node.WithMember dot x) items = refl
node_kept s question (node.Member dot x) items = joined _ _ _ _ (sym (top_dotted s question items dot x)) (sym (below_kept s question items))
node_kept s question node.NoArguments items = refl
node_kept s question (node.MissingArgument comma) items = joined _ _ _ _ (ap in_arguments (sym (given_kept s question items))) (sym (below_kept s question items))
node_kept s question (node.PlainArgument comma) items = joined _ _ _ _ (ap in_arguments (both_in_arguments s question items)) (sym (twice_below s question items))
node_kept s question (node.NamedArgument comma x colon_equal) items =
    joined _ _ _ _ (ap in_arguments (both_in_arguments s question items)) (sym (twice_below s question items))
node_kept s question (node.Index left right) items = joined _ _ _ _ (ap ended (both_in_index s question items)) (sym (twice_below s question items))
node_kept s question (node.Parenthesised left right) items = joined _ _ _ _ (ap ended (sym (top_kept s question plainly items))) (sym (below_kept s question items))
node_kept s question (node.New new_word class) items = refl
node_kept s question (node.TypeOf type_of_word is_word class) items = joined _ _ _ _ (ap ended (sym (top_kept s question plainly items))) (sym (below_kept s question items))
node_kept s question (node.Unary operator token) items = joined _ _ _ _ (ap ended (sym (top_kept s question plainly items))) (sym (below_kept s question items))
node_kept s question (node.Binary operator token) items = joined _ _ _ _ (ap ended (both_trees s question items)) (sym (twice_below s question items))

nodes_kept : (s : Scope) (question : Question) (nodes : List ExpressionNode) (items : List Item)
    → map (kept s question) (behind_nodes items nodes) ≡ names_through s question (map (kept s question) items) nodes
nodes_kept s question [] items = refl
nodes_kept s question (n ∷ nodes) items =
    nodes_kept s question nodes (behind_node n items) ∙ ap (λ kept_items. names_through s question kept_items nodes) (node_kept s question n items)

-- what is found in an expression that is used like this, and in arguments
pub expression_found : (s : Scope) (question : Question) (how : Use) (found later : Option Refusal) (nodes : List ExpressionNode) (held : List NamesItem)
    → held ≡ names_through s question [] nodes
    → later ≡ least_of_both found (top_taken s question how held)
    → later ≡ noted (rule_of question) found (names_asked s question how (tree_in nodes))
expression_found s question how found later nodes held are is =
    is
    ∙ ap (λ items. least_of_both found (top_taken s question how items)) (are ∙ sym (nodes_kept s question nodes []))
    ∙ ap (least_of_both found) (top_kept s question how (behind_nodes [] nodes))
    ∙ noted_alone (rule_of question) found (names_asked s question how (tree_in nodes))

pub arguments_found : (s : Scope) (question : Question) (found later : Option Refusal) (nodes : List ExpressionNode) (held : List NamesItem)
    → held ≡ names_through s question [] nodes
    → later ≡ least_of_both found (top_given held)
    → later ≡ noted (rule_of question) found (asked_in_args s question (arguments_in nodes))
arguments_found s question found later nodes held are is =
    is
    ∙ ap (λ items. least_of_both found (top_given items)) (are ∙ sym (nodes_kept s question nodes []))
    ∙ ap (least_of_both found) (given_kept s question (behind_nodes [] nodes))
    ∙ noted_alone (rule_of question) found (asked_in_args s question (arguments_in nodes))
