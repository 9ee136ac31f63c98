use Rattle.vba_parser.proofs.Closing.{opens_more}
use Rattle.vba_parser.proofs.building.open_else.Goals as goal

pub closing-preserved : goal.closing-preserved
closing-preserved c =
    opens_more _ _ _ _ _ c.pop.new.self.items c.in-Some.frame c.in-Else.head c.in-Some.ensures.items c.in-Else.is c.closing.invariant
    c.in_ok-end_if_else-in-Else.ensures
