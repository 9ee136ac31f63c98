use Rattle.std.proofs.Common.{List, ap, ◌∙◌}
use Rattle.vba_events.specs.declared.linked.Linked.{Linked}
use Rattle.vba_events.specs.Links.{Linking, disconnected}
use Rattle.vba_events.proofs.links.Links.disconnect.Goals as goal

pub invariant_of-self : goal.invariant_of-self
invariant_of-self c = (c.take_out.ensures c.self.inside.next c.self.invariant).0

pub returns : goal.returns
returns c =
    ap (λ (links : List Linked). let s : Linking = record { links = links; next = c.self.inside.next } in s) (c.take_out.ensures c.self.inside.next c.self.invariant).1
    ∙ ap (λ s. disconnected s c.args.sink c.args.field) c.self.view_is
