use Rattle.statement_terms.proofs.WrittenTargets.{host_is_known}
use Rattle.statement_terms.proofs.targets.host_known.Goals as goal

pub returns : goal.returns
returns c = host_is_known c.args.ending c.in_ok-kind.kind c.kind_written.result c.requires c.in_ok-kind.ensures c.kind_written.ensures
