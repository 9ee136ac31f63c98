use Rattle.std.proofs.Common.{sym, ◌∙◌}
use Rattle.statement_terms.proofs.WrittenTargets.{ends_plain}
use Rattle.statement_terms.proofs.targets.is_value.Goals as goal

pub returns-in-Some : goal.returns-in-Some
returns-in-Some c = ends_plain c.args.ending c.in-Some.gives (sym c.is_object.ensures ∙ c.if-is_object.false) c.in-Some.ensures
