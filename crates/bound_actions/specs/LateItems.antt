-- Serves the code: what arguments lead to in a value, where it is assigned to or set.
use Rattle.std.specs.Prelude.{◌≡◌, ℕ, length, List, [], ◌∷◌, ◌++◌, map}
use Rattle.vba_base.specs.declared.place.Place.{Place}
use Rattle.vba_lexer.specs.declared.token.Token.{Token}
use Rattle.vba_values.specs.Types as type
use Rattle.vba_expression.specs.Tree.{Args, Expr, index}
use Rattle.vba_expression.specs.Nodes as nodes
use Rattle.vba_expression.specs.Nodes.{behind_nodes, last_tree}
use Rattle.vba_expression.specs.declared.node.ExpressionNode.{ExpressionNode}
use Rattle.vba_expression.specs.declared.node.ExpressionNode.TheVariants as node
use Rattle.bound_project.specs.Drafts.{Drafted}
use Rattle.bound_project.specs.Expressions.{late_item, value_place}
use Rattle.bound_project.specs.Expressions as bound
use Rattle.bound_project.specs.Lists.{above, exprs_of}
use Rattle.bound_project.specs.Pieces.{Piece, a_place, an_expr}
use Rattle.bound_terms.specs.bound_accesses.specs.bound_names.specs.bound_members.specs.bound_calls.specs.bound_forms.specs.Terms.{Env, a_value}
use Rattle.bound_terms.specs.bound_accesses.specs.bound_names.specs.bound_members.specs.bound_calls.specs.bound_forms.specs.Operands.{place_told}
use Rattle.bound_terms.specs.bound_accesses.specs.bound_names.specs.bound_members.specs.bound_calls.specs.bound_forms.specs.ExpressionsBound.{callee, givens, indexed, term_of}
use Rattle.statement_terms.specs.Called.{item_before}
use Rattle.bound_terms.specs.bound_accesses.specs.bound_names.specs.bound_members.specs.bound_calls.specs.declared.term.Ending.{Ending}
use Rattle.bound_terms.specs.bound_accesses.specs.bound_names.specs.bound_members.specs.bound_calls.specs.declared.term.Indexed.{Indexed}
use Rattle.bound_terms.specs.bound_accesses.specs.bound_names.specs.bound_members.specs.bound_calls.specs.declared.term.Item.TheVariants as item
use Rattle.bound_terms.specs.bound_accesses.specs.bound_names.specs.bound_members.specs.bound_calls.specs.declared.term.Term.TheVariants as term
use Rattle.bound_terms.specs.bound_accesses.specs.bound_names.specs.bound_members.specs.bound_calls.specs.Standing.{Grown, TermStands}
use Rattle.bound_terms.specs.bound_accesses.specs.bound_names.specs.bound_members.specs.bound_calls.specs.Steps.{Goes}

-- arguments were read behind what they index
pub record ReadsIndexed (env : Env) (x : Indexed) (ns : List ExpressionNode) (d e : Drafted) (y : Indexed) : Type 0 where
  pub behind : List ExpressionNode
  pub is : ns ≡ node.NoArguments ∷ behind
  pub goes : Goes env d (item.Indexed x ∷ []) e (item.Indexed y ∷ []) (λ is. behind_nodes is behind)

-- an expression with so many arguments in brackets is what they lead to in a value, of which the place was pushed, and they
-- behind it
pub record ItemLed (env : Env) (base whole : Expr) (left right : Token) (count : ℕ) (ps below : List Piece) : Type 0 where
  pub args : Args
  pub whole_is : whole ≡ index base left args right
  pub value : bound.Expr
  pub numbers : List bound.Expr
  pub count_is : count ≡ length numbers
  pub indexed_is : indexed env (place_told base) (item_before env base) (givens env args) ≡ a_value (late_item value (exprs_of numbers)) type.variant
  pub on_top : ps ≡ above (map an_expr numbers) (a_place (value_place value) ∷ below)

pub record LeadsFrom (env : Env) (x : Ending) (place : Place) (ns : List ExpressionNode) (d e : Drafted) (count : ℕ) : Type 0 where
  pub grown : Grown d e
  pub stands : (base : Expr) (left right : Token) (below : List Piece) → place ≡ place_told base → TermStands env d.tables (term.Value x) (callee env base (term_of env base)) d.pieces below
      → ItemLed env base (last_tree (behind_nodes (nodes.tree base ∷ []) (ns ++ node.Index left right ∷ []))) left right count e.pieces below
