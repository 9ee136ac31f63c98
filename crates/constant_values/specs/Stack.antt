-- Serves the code: what nodes of expressions leave, where only values and what stands before dots count.
use Rattle.std.specs.Prelude.{List, [], ◌∷◌, Option, Some, None, option_and_then}
use Rattle.vba_words.specs.declared.identifier.Identifier.{Identifier}
use Rattle.vba_expression.specs.declared.node.ExpressionNode.{ExpressionNode}
use Rattle.vba_expression.specs.declared.node.ExpressionNode.TheVariants as node
use Rattle.vba_expression.specs.Tree.{Expr, name}
use Rattle.vba_expression.specs.Nodes.{Item, as_tree}
use Rattle.declared_names.specs.binder.specs.Scopes.{Scope, plainly, Qualifier, behind, enum_behind, qualifier_of}
use Rattle.declared_names.specs.binder.specs.Constants.{Known, typed, literal_meant, with_one, with_two, compare_in, value_by}
use Rattle.constant_values.specs.Names.{Names, value_of, names_from}

-- what counts of an expression: its value, and what it is before a dot
pub record Outcome : Type 0 where
  pub value : Option Known
  pub qualifier : Option Qualifier

abbrev pub no_outcome : Outcome
no_outcome = record { value = None; qualifier = None }

abbrev pub with_value : Option Known → Outcome
with_value value = record { value = value; qualifier = None }

abbrev pub outcome : Names → Scope → Expr → Outcome
outcome names s e = record { value = value_by (names_from names) s e; qualifier = qualifier_of s e }

-- of a name behind what stands before its dot
abbrev pub member_outcome : Names → Scope → Option Qualifier → Identifier → Outcome
member_outcome names s q x = record {
  value = value_of names s x (option_and_then (λ q. behind plainly s q x) q);
  qualifier = enum_behind s q x;
}

abbrev pub last : List Outcome → Outcome
last [] = no_outcome
last (o ∷ os) = o

abbrev pub others : List Outcome → List Outcome
others [] = []
others (o ∷ os) = os

-- what stands behind a node, the last one first
abbrev pub behind_outcome : Names → Scope → ExpressionNode → List Outcome → List Outcome
behind_outcome names s (node.Literal l) os = with_value (Some (typed (literal_meant l.value))) ∷ os
behind_outcome names s (node.Me token) os = no_outcome ∷ os
behind_outcome names s (node.Name x) os = outcome names s (name x) ∷ os
behind_outcome names s (node.WithMember dot x) os = no_outcome ∷ os
behind_outcome names s (node.Member dot x) os = member_outcome names s (last os).qualifier x ∷ others os
behind_outcome names s node.NoArguments os = no_outcome ∷ os
behind_outcome names s (node.MissingArgument comma) os = no_outcome ∷ others os
behind_outcome names s (node.PlainArgument comma) os = no_outcome ∷ others (others os)
behind_outcome names s (node.NamedArgument comma x mark) os = no_outcome ∷ others (others os)
behind_outcome names s (node.Index left right) os = no_outcome ∷ others (others os)
behind_outcome names s (node.Parenthesised left right) os = with_value (last os).value ∷ others os
behind_outcome names s (node.New new_word class) os = no_outcome ∷ os
behind_outcome names s (node.TypeOf type_of_word is_word class) os = no_outcome ∷ others os
behind_outcome names s (node.Unary operator token) os = with_value (with_one operator (last os).value) ∷ others os
behind_outcome names s (node.Binary operator token) os =
    with_value (with_two operator (compare_in s) (last (others os)).value (last os).value) ∷ others (others os)

abbrev pub behind_outcomes : Names → Scope → List Outcome → List ExpressionNode → List Outcome
behind_outcomes names s os [] = os
behind_outcomes names s os (n ∷ ns) = behind_outcomes names s (behind_outcome names s n os) ns

-- of a plain item, as an expression
abbrev pub item_outcome : Names → Scope → Item → Outcome
item_outcome names s i = outcome names s (as_tree i)
