use Rattle.std.proofs.Common.{Bool, Option, sym, subst}
use Rattle.std.specs.Prelude.{option_map}
use Rattle.std.specs.Result.{IfOk}
use Rattle.vba_tree.specs.declared.block.LoopCondition.{LoopCondition}
use Rattle.vba_tree.specs.View.{loop_condition_view}
use Rattle.bound_project.specs.DraftView.{draft_view}
use Rattle.bound_project.specs.Statements as to
use Rattle.bound_terms.specs.bound_accesses.specs.bound_names.specs.bound_members.specs.bound_calls.specs.bound_forms.specs.ExpressionsBound.{bound_operand}
use Rattle.bound_terms.specs.bound_accesses.specs.bound_names.specs.bound_members.specs.bound_calls.specs.bound_forms.specs.StatementsBound as plain
use Rattle.bound_terms.specs.bound_accesses.specs.bound_names.specs.View.{env_view}
use Rattle.statement_nodes.specs.Pushed.{ActionPushed}
use Rattle.vba_expression.specs.View.{view as expression_view}
use Rattle.bound_lines.proofs.lines.bind_loop.Goals as goal

pub returns-in-Some : goal.returns-in-Some
returns-in-Some c =
    let env = env_view c.args.env in
    let d = draft_view c.args.draft.now in
    let e = draft_view c.bind_test.new.draft in
    let found = bound_operand env (expression_view c.in-Some.condition.condition) in
    let P : Bool → Type 0 = λ (b : Bool). IfOk c.bind_test.result (λ kind. ActionPushed kind (option_map (λ x. to.test b x c.args.to c.args.behind) found) d e) in
    let Q : Option LoopCondition → Type 0 =
    λ (o : Option LoopCondition). IfOk c.bind_test.result (λ kind. ActionPushed kind (plain.loop_action env (option_map loop_condition_view o) c.args.to c.args.behind) d e) in
    subst Q (sym c.in-Some.is) (subst P c.is_while.ensures c.bind_test.ensures)
