use Rattle.std.proofs.lemmas.Result.{IfOk-weaker}
use Rattle.statement_nodes.proofs.Ended.{operand_is}
use Rattle.bound_lines.proofs.case_lines.operand_type.Goals as goal

pub returns : goal.returns
returns c = IfOk-weaker c.push_operand.result _ _ (λ of v. operand_is _ of _ _ v) c.push_operand.ensures
