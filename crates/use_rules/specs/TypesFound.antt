-- Serves the code: S16 in expressions, node by node: what is kept of each item of a stack.
use Rattle.std.specs.Prelude.{List, [], ◌∷◌, Option, Some, None}
use Rattle.vba_base.specs.declared.place.Place.{Place}
use Rattle.vba_base.specs.declared.place.Refusal.{Refusal}
use Rattle.refusal_order.specs.Least.{least_of_both}
use Rattle.vba_lexer.specs.declared.number.TypeSuffix.{TypeSuffix}
use Rattle.vba_words.specs.declared.identifier.Identifier.{Identifier}
use Rattle.vba_expression.specs.declared.node.ExpressionNode.{ExpressionNode}
use Rattle.vba_expression.specs.declared.node.ExpressionNode.TheVariants as node
use Rattle.vba_expression.specs.declared.tree.TypeName.{TypeName}
use Rattle.vba_expression.specs.declared.tree.TypeQualifier.{TypeQualifier}
use Rattle.vba_expression.specs.Nodes.{Item, tree, arguments}
use Rattle.vba_expression.specs.Reader.{short_type}
use Rattle.vba_expression.specs.Tree.{Expr, new, type_of}
use Rattle.declared_names.specs.binder.specs.Scopes.{Scope}
use Rattle.declared_names.specs.binder.specs.Types.{type_meant, type_behind, is_made, is_asked}
use Rattle.declared_names.specs.binder.specs.Violations.{unless_true, place_of_name, place_of_type, types_in, types_in_args}
use Rattle.use_rules.specs.Found.{noted}
use Rattle.use_rules.specs.Stacks.{top, below}

-- the least refusal in an expression; a dot behind New and TypeOf may still belong to a type of one name
pub data TypesItem : Type 0 where
  ended : Option Refusal → TypesItem
  a_new : Identifier → TypesItem
  a_type_of : Option Refusal → Identifier → TypesItem
  in_arguments : Option Refusal → TypesItem

-- what New may not make
abbrev pub new_faults : Scope → TypeName → List Place
new_faults s t = unless_true (is_made (type_meant s t)) (place_of_type t)

-- what TypeOf may not ask for
abbrev pub asked_faults : Scope → TypeName → List Place
asked_faults s t = unless_true (is_asked (type_meant s t)) (place_of_type t)

-- an item as an expression
abbrev pub in_expression : Scope → TypesItem → Option Refusal
in_expression s (ended least) = least
in_expression s (a_new x) = noted 16 None (new_faults s (short_type x))
in_expression s (a_type_of least x) = noted 16 least (asked_faults s (short_type x))
in_expression s (in_arguments least) = None

-- an item as arguments
abbrev pub in_given : TypesItem → Option Refusal
in_given (in_arguments least) = least
in_given _ = None

-- the same of types of two names
abbrev pub long_new_faults : Scope → (first last : Identifier) → List Place
long_new_faults s first last = unless_true (is_made (type_behind s s.spaces first last)) (place_of_name first)

abbrev pub long_asked_faults : Scope → (first last : Identifier) → List Place
long_asked_faults s first last = unless_true (is_asked (type_behind s s.spaces first last)) (place_of_name first)

-- a dot and a name behind New and a type of one name
abbrev pub new_with_dot : Scope → Identifier → Identifier → Option TypeSuffix → Option Refusal
new_with_dot s x last None = noted 16 None (long_new_faults s x last)
new_with_dot s x last (Some suffix) = noted 16 None (new_faults s (short_type x))

-- the same behind TypeOf
abbrev pub asked_with_dot : Scope → Option Refusal → Identifier → Identifier → Option TypeSuffix → Option Refusal
asked_with_dot s least x last None = noted 16 least (long_asked_faults s x last)
asked_with_dot s least x last (Some suffix) = noted 16 least (asked_faults s (short_type x))

-- a dot and a name behind an item
abbrev pub with_dot : Scope → TypesItem → Identifier → Option Refusal
with_dot s (a_new x) last = new_with_dot s x last last.suffix
with_dot s (a_type_of least x) last = asked_with_dot s least x last last.suffix
with_dot s (ended least) last = least
with_dot s (in_arguments least) last = None

-- what stands for an item that isn't there
abbrev pub no_item : TypesItem
no_item = in_arguments None

abbrev pub top_expression : Scope → List TypesItem → Option Refusal
top_expression s items = in_expression s (top no_item items)

abbrev pub top_given : List TypesItem → Option Refusal
top_given items = in_given (top no_item items)

-- what stands behind a node
abbrev pub types_behind : Scope → ExpressionNode → List TypesItem → List TypesItem
types_behind s (node.Literal l) items = ended None ∷ items
types_behind s (node.Me token) items = ended None ∷ items
types_behind s (node.Name x) items = ended None ∷ items
types_behind s (node.WithMember dot x) items = ended None ∷ items
types_behind s (node.Member dot x) items = ended (with_dot s (top no_item items) x) ∷ below items
types_behind s node.NoArguments items = in_arguments None ∷ items
types_behind s (node.MissingArgument comma) items = in_arguments (top_given items) ∷ below items
types_behind s (node.PlainArgument comma) items =
    in_arguments (least_of_both (top_given (below items)) (top_expression s items)) ∷ below (below items)
types_behind s (node.NamedArgument comma x colon_equal) items =
    in_arguments (least_of_both (top_given (below items)) (top_expression s items)) ∷ below (below items)
types_behind s (node.Index left right) items = ended (least_of_both (top_expression s (below items)) (top_given items)) ∷ below (below items)
types_behind s (node.Parenthesised left right) items = ended (top_expression s items) ∷ below items
types_behind s (node.New new_word class) items = a_new class ∷ items
types_behind s (node.TypeOf type_of_word is_word class) items = a_type_of (top_expression s items) class ∷ below items
types_behind s (node.Unary operator token) items = ended (top_expression s items) ∷ below items
types_behind s (node.Binary operator token) items =
    ended (least_of_both (top_expression s (below items)) (top_expression s items)) ∷ below (below items)

-- what stands behind nodes
abbrev pub types_through : Scope → List TypesItem → List ExpressionNode → List TypesItem
types_through s items [] = items
types_through s items (n ∷ ns) = types_through s (types_behind s n items) ns

-- what is kept of a type behind New
abbrev pub kept_new : Scope → Option TypeQualifier → Identifier → TypesItem
kept_new s None x = a_new x
kept_new s (Some q) x = ended (noted 16 None (new_faults s (record { qualifier = Some q; name = x })))

-- and behind TypeOf
abbrev pub kept_type_of : Scope → List Place → Option TypeQualifier → Identifier → TypesItem
kept_type_of s places None x = a_type_of (noted 16 None places) x
kept_type_of s places (Some q) x = ended (noted 16 (noted 16 None places) (asked_faults s (record { qualifier = Some q; name = x })))

-- what is kept of a plain tree
abbrev pub kept_tree : Scope → Expr → TypesItem
kept_tree s (new new_word t) = kept_new s t.qualifier t.name
kept_tree s (type_of type_of_word e is_word t) = kept_type_of s (types_in s e) t.qualifier t.name
kept_tree s e = ended (noted 16 None (types_in s e))

-- and of a plain item
abbrev pub kept : Scope → Item → TypesItem
kept s (tree e) = kept_tree s e
kept s (arguments xs) = in_arguments (noted 16 None (types_in_args s xs))
