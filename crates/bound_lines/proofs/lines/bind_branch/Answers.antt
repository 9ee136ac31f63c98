use Rattle.std.proofs.Common.{ℕ, true, subst}
use Rattle.std.specs.Prelude.{option_map}
use Rattle.std.specs.Result.{IfOk}
use Rattle.bound_project.specs.DraftView.{draft_view}
use Rattle.bound_project.specs.Statements as to
use Rattle.bound_terms.specs.bound_accesses.specs.bound_names.specs.bound_members.specs.bound_calls.specs.bound_forms.specs.ExpressionsBound.{bound_operand}
use Rattle.bound_terms.specs.bound_accesses.specs.bound_names.specs.View.{env_view}
use Rattle.statement_nodes.specs.Pushed.{ActionPushed}
use Rattle.vba_expression.specs.View.{view as expression_view}
use Rattle.bound_lines.proofs.lines.bind_branch.Goals as goal

pub returns : goal.returns
returns c =
    let found = bound_operand (env_view c.args.env) (expression_view c.args.condition.now) in
    let P : ℕ → ℕ → Type 0 =
    λ (n m : ℕ). IfOk c.bind_test.result (λ kind. ActionPushed kind (option_map (λ v. to.test true v n m) found) (draft_view c.args.draft.now) (draft_view c.bind_test.new.draft)) in
    let A : ℕ → Type 0 = λ (n : ℕ). P n c.in_ok-other.other in
    let first = subst A c.in_ok-first.ensures c.bind_test.ensures in
    subst (P _) c.in_ok-other.ensures first
