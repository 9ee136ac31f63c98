use Rattle.std.proofs.Common.{sym, ◌∙◌}
use Rattle.statement_terms.proofs.WrittenTargets.{constant_wrong, kept_wrong}
use Rattle.statement_terms.proofs.targets.is_wrong.Goals as goal

pub returns-then-is_kept : goal.returns-then-is_kept
returns-then-is_kept c = kept_wrong c.args.ending (sym c.is_kept.ensures ∙ c.if-is_kept.true)

pub returns : goal.returns
returns c = constant_wrong c.args.ending c.is_value.result (sym c.if-not-is_unassignable.ensures) c.is_value.ensures
