use Rattle.statement_nodes.proofs.Broken.{loop_named}
use Rattle.statement_nodes.proofs.for_lines.loop_name.Goals as goal

pub returns-in-Some : goal.returns-in-Some
returns-in-Some c = loop_named _ c.in-Some.ensures.0 _ _ c.in-Some.ensures.1 c.opened_name.ensures
