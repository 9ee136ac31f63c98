-- Serves the code: what is asked of the names in expressions, node by node: what is kept of each item of a stack. How a
-- name is used is told by what takes it.
use Rattle.std.specs.Prelude.{List, [], ◌∷◌, Option, Some, None}
use Rattle.vba_base.specs.declared.place.Refusal.{Refusal}
use Rattle.refusal_order.specs.Least.{least_of_both}
use Rattle.vba_module.specs.Parts.{nowhere}
use Rattle.vba_words.specs.declared.identifier.Identifier.{Identifier}
use Rattle.vba_expression.specs.declared.node.ExpressionNode.{ExpressionNode}
use Rattle.vba_expression.specs.declared.node.ExpressionNode.TheVariants as node
use Rattle.vba_expression.specs.Nodes.{Item, tree, arguments}
use Rattle.vba_expression.specs.Tree.{Expr, name, member}
use Rattle.declared_names.specs.binder.specs.Scopes.{Scope, Use, plainly, called, before_dot, Qualifier, declares, as_qualifier, enum_behind, qualifier_of}
use Rattle.use_rules.specs.Asked.{rule_of, at_suffix, at_name, at_member, at_me, at_with_member, names_asked, asked_in_args}
use Rattle.use_rules.specs.Found.{noted}
use Rattle.use_rules.specs.declared.question.Question.{Question}
use Rattle.use_rules.specs.Stacks.{top, below}

-- a name, a name behind what says where it is, and what else has its least refusal
pub data NamesItem : Type 0 where
  a_name : Identifier → NamesItem
  a_member : Qualifier → Identifier → NamesItem
  ended : Option Refusal → NamesItem
  in_arguments : Option Refusal → NamesItem

-- an item as an expression that is used like this
abbrev pub taken : Scope → Question → Use → NamesItem → Option Refusal
taken s question how (a_name x) = noted (rule_of question) None (at_name s question how x)
taken s question how (a_member q x) = noted (rule_of question) None (at_member s question how q x)
taken s question how (ended least) = least
taken s question how (in_arguments least) = noted (rule_of question) None (at_me s question nowhere)

-- an item as arguments
abbrev pub given : NamesItem → Option Refusal
given (in_arguments least) = least
given _ = None

-- where an item says that a name behind it is looked for
abbrev pub qualifier_in : Scope → NamesItem → Option Qualifier
qualifier_in s (a_name x) = as_qualifier (declares before_dot s x)
qualifier_in s (a_member q x) = enum_behind s (Some q) x
qualifier_in s _ = None

-- a name behind a dot
abbrev pub of_member : Question → Option Qualifier → Identifier → Option Refusal → NamesItem
of_member question None x base = ended (noted (rule_of question) base (at_suffix question x))
of_member question (Some q) x base = a_member q x

-- what stands for an item that isn't there
abbrev pub no_item : NamesItem
no_item = in_arguments None

abbrev pub top_taken : Scope → Question → Use → List NamesItem → Option Refusal
top_taken s question how items = taken s question how (top no_item items)

abbrev pub top_given : List NamesItem → Option Refusal
top_given items = given (top no_item items)

-- what stands behind a node
abbrev pub names_behind : Scope → Question → ExpressionNode → List NamesItem → List NamesItem
names_behind s question (node.Literal l) items = ended None ∷ items
names_behind s question (node.Me token) items = ended (noted (rule_of question) None (at_me s question token.place)) ∷ items
names_behind s question (node.Name x) items = a_name x ∷ items
names_behind s question (node.WithMember dot x) items = ended (noted (rule_of question) None (at_with_member question dot.place x)) ∷ items
names_behind s question (node.Member dot x) items =
    of_member question (qualifier_in s (top no_item items)) x (top_taken s question before_dot items) ∷ below items
names_behind s question node.NoArguments items = in_arguments None ∷ items
names_behind s question (node.MissingArgument comma) items = in_arguments (top_given items) ∷ below items
names_behind s question (node.PlainArgument comma) items =
    in_arguments (least_of_both (top_given (below items)) (top_taken s question plainly items)) ∷ below (below items)
names_behind s question (node.NamedArgument comma x colon_equal) items =
    in_arguments (least_of_both (top_given (below items)) (top_taken s question plainly items)) ∷ below (below items)
names_behind s question (node.Index left right) items =
    ended (least_of_both (top_taken s question called (below items)) (top_given items)) ∷ below (below items)
names_behind s question (node.Parenthesised left right) items = ended (top_taken s question plainly items) ∷ below items
names_behind s question (node.New new_word class) items = ended None ∷ items
names_behind s question (node.TypeOf type_of_word is_word class) items = ended (top_taken s question plainly items) ∷ below items
names_behind s question (node.Unary operator token) items = ended (top_taken s question plainly items) ∷ below items
names_behind s question (node.Binary operator token) items =
    ended (least_of_both (top_taken s question plainly (below items)) (top_taken s question plainly items)) ∷ below (below items)

-- what stands behind nodes
abbrev pub names_through : Scope → Question → List NamesItem → List ExpressionNode → List NamesItem
names_through s question items [] = items
names_through s question items (n ∷ ns) = names_through s question (names_behind s question n items) ns

-- what is kept of a plain tree
abbrev pub kept_tree : Scope → Question → Expr → NamesItem
kept_tree s question (name x) = a_name x
kept_tree s question (member base dot x) =
    of_member question (qualifier_of s base) x (noted (rule_of question) None (names_asked s question before_dot base))
kept_tree s question e = ended (noted (rule_of question) None (names_asked s question plainly e))

-- and of a plain item
abbrev pub kept : Scope → Question → Item → NamesItem
kept s question (tree e) = kept_tree s question e
kept s question (arguments xs) = in_arguments (noted (rule_of question) None (asked_in_args s question xs))
