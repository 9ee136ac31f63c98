use Rattle.std.proofs.Common.{sym, ap, ◌∙◌}
use Rattle.std.specs.Prelude.{◌&&◌, nat_eq}
use Rattle.std.specs.Map.{lookup}
use Rattle.vba_events.specs.Kept.{same_sink_key, same_source_key, by_sink}
use Rattle.vba_events.proofs.Changes.{stands_found, at_sink}
use Rattle.vba_events.proofs.Entries.{finds}
use Rattle.vba_values.proofs.SameObjects.{object_equal}
use Rattle.vba_events.proofs.Keys.{sink_alike}
use Rattle.vba_events.proofs.maps.is_kept.Goals as goal

pub returns-in-Some : goal.returns-in-Some
returns-in-Some c = λ sources next kept.
    let link = c.args.link.now in
    c.eq.ensures ∙ ap (λ b. b && nat_eq link.number c.in-Some.key.now.1) (object_equal link.source c.in-Some.key.now.0)
    ∙ ap (λ o. finds by_sink same_sink_key (link.sink, link.field) (sink_alike (link.sink, link.field)) (same_source_key (link.source, link.number)) o)
    (c.in-Some.ensures.value ∙ ap (λ test. lookup test c.args.by_sink.now.entries) (at_sink (link.sink, link.field)))
    ∙ sym (stands_found link c.args.by_sink.now.entries kept.sinks_once)

pub returns-in-None : goal.returns-in-None
returns-in-None c = λ sources next kept.
    let link = c.args.link.now in
    ap (λ o. finds by_sink same_sink_key (link.sink, link.field) (sink_alike (link.sink, link.field)) (same_source_key (link.source, link.number)) o)
    (c.in-None.ensures.value ∙ ap (λ test. lookup test c.args.by_sink.now.entries) (at_sink (link.sink, link.field)))
    ∙ sym (stands_found link c.args.by_sink.now.entries kept.sinks_once)
