use Rattle.statement_terms.proofs.targets.late_value.Goals as goal

pub returns : goal.returns
returns c = record { is = c.in-Value.is; late = c.if-not-is_known_late.ensures }
