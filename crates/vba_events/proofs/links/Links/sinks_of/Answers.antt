use Rattle.std.proofs.Common.{◌≡◌, subst, IfOk}
use Rattle.vba_events.specs.Links.{Linking, links_of}
use Rattle.vba_events.proofs.links.Links.sinks_of.Goals as goal

pub returns : goal.returns
returns c =
    subst (λ (s : Linking). IfOk c.of_source.result (λ found. found.items ≡ links_of c.args.source.now s.links)) c.self.view_is (c.of_source.ensures _ c.self.invariant)
