use Rattle.vba_events.proofs.Changes.{nothing_kept}
use Rattle.vba_events.proofs.links.Links.numbered_from.Goals as goal

pub invariant_of-result : goal.invariant_of-result
invariant_of-result c =
    nothing_kept c.args.next c.new.result.entries c.new-2.result.entries c.new.ensures.empty c.new-2.ensures.empty c.new.ensures.ordered c.new-2.ensures.ordered
