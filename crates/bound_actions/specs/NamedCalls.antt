-- Serves the code: calls of which all written arguments were pushed, and that stand as statements.
use Rattle.std.specs.Prelude.{ℕ, List, [], ◌∷◌}
use Rattle.vba_expression.specs.Nodes as nodes
use Rattle.vba_expression.specs.declared.node.ExpressionNode.{ExpressionNode}
use Rattle.bound_project.specs.Project.{Parameter}
use Rattle.bound_project.specs.Drafts.{Drafted}
use Rattle.bound_terms.specs.bound_accesses.specs.bound_names.specs.bound_members.specs.bound_calls.specs.bound_forms.specs.Terms.{Env}
use Rattle.bound_terms.specs.bound_accesses.specs.bound_names.specs.bound_members.specs.bound_calls.specs.declared.term.Passed.{Passed}
use Rattle.bound_terms.specs.bound_accesses.specs.bound_names.specs.bound_members.specs.bound_calls.specs.InOrder.{with_named}
use Rattle.bound_terms.specs.bound_accesses.specs.bound_names.specs.bound_members.specs.bound_calls.specs.Standing.{Grown, Stands}
use Rattle.bound_terms.specs.bound_accesses.specs.bound_names.specs.bound_members.specs.bound_calls.specs.declared.term.Item.TheVariants as item
use Rattle.bound_terms.specs.bound_operands.specs.Gathering.{with_gathered}
use Rattle.statement_terms.specs.Called.{Framed, args_on}

-- the arguments of a statement were pushed for these parameters; above those without names so many values for a ParamArray, and
-- above these the ones that name their parameters
pub record ReadsWritten (env : Env) (parameters : List Parameter) (ns : List ExpressionNode) (d e : Drafted) (x : Passed) (named : List ℕ) (values : ℕ) : Type 0 where
  pub grown : Grown d e
  pub framed : Framed ns
  pub stands : (items : List nodes.Item)
      → Stands env e.tables (with_named named (with_gathered values (item.Listed x ∷ []))) (nodes.arguments (args_on items ns) ∷ items) e.pieces (record { pieces = d.pieces; parameters = parameters; items = items })
