use Rattle.std.proofs.Common.{ap, sym, ◌∙◌, map}
use Rattle.std.proofs.lemmas.List.{take-map}
use Rattle.run_host.specs.View.{event_view}
use Rattle.run_host.proofs.events.Told.keep_first.Goals as goal

pub returns : goal.returns
returns c = ap (map event_view) c.truncate.ensures.items ∙ sym (take-map event_view c.args.count c.args.self.now.events.items)
