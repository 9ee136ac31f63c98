use Rattle.statement_terms.proofs.WrittenMembers.{known_none}
use Rattle.statement_terms.proofs.member_targets.is_no_instance.Goals as goal

pub returns-in-Some : goal.returns-in-Some
returns-in-Some c = known_none c.args.may_be c.in-Some.may c.in-Some.is
