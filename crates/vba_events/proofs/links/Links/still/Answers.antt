use Rattle.std.proofs.Common.{ap, ◌∙◌}
use Rattle.vba_events.specs.Links.{stands}
use Rattle.vba_events.proofs.links.Links.still.Goals as goal

pub returns : goal.returns
returns c = c.is_kept.ensures _ _ c.self.invariant ∙ ap (λ s. stands c.args.entry.now s.links) c.self.view_is
