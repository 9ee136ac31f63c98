use Rattle.std.proofs.lemmas.Result.{IfOk-weaker}
use Rattle.bound_terms.specs.bound_accesses.specs.bound_names.specs.View.{env_view}
use Rattle.statement_nodes.specs.statement_numbers.specs.View.{standing_view}
use Rattle.bound_lines.specs.Round.{around_view}
use Rattle.statement_nodes.proofs.Ended.{selected_operand}
use Rattle.bound_lines.proofs.case_lines.selected_type.Goals as goal

pub returns-in-Some : goal.returns-in-Some
returns-in-Some c =
    IfOk-weaker c.operand_type.result _ _
    (λ of o. selected_operand (env_view c.args.around.env) (around_view c.args.around) (standing_view c.args.standing) _ of c.requires.placed c.in-Some.ensures o)
    c.operand_type.ensures
