use Rattle.vba_parser.proofs.Closing.{closing_begun, closes_more}
use Rattle.vba_parser.proofs.building.close_all.Goals as goal

pub end_frame-requires : goal.end_frame-requires
end_frame-requires c = closing_begun _ _ _ c.pop.new.self.items c.in-Some.frame c.in-Some.ensures.items c.closing.invariant

pub closing-preserved : goal.closing-preserved
closing-preserved c = closes_more _ _ _ _ c.pop.new.self.items c.in-Some.frame c.in-Some.ensures.items c.closing.invariant c.in_ok-end_frame.ensures
