use Rattle.std.proofs.Common.{sym, ap, ◌∙◌}
use Rattle.std.specs.Map.{remove_entry}
use Rattle.std.specs.BTreeMap.{is_at}
use Rattle.vba_events.proofs.Keys.{source_cmp}
use Rattle.vba_events.proofs.Puts.{put_new, put_over, put_back}
use Rattle.vba_events.proofs.maps.put.Goals as goal

pub returns-in-Ok-None : goal.returns-in-Ok-None
returns-in-Ok-None c =
    put_new c.args.link _ _ _ _ c.requires (sym c.in-Ok-None.ensures.old ∙ c.in-Ok-None.field-0-is) c.in_ok-insert.ensures.entries c.in-Ok-None.ensures.entries
    c.in_ok-insert.ensures.ordered c.in-Ok-None.ensures.ordered

pub returns-in-Ok-Some : goal.returns-in-Ok-Some
returns-in-Ok-Some c =
    let removed = c.remove.ensures.entries ∙ ap (λ at. remove_entry (is_at (source_cmp at)) c.insert.new.self.entries) c.in-Ok-Some.replaced-is in
    put_over c.args.link c.in-Ok-Some.replaced _ _ _ _ _ c.requires (sym c.in-Ok-Some.ensures.old ∙ c.in-Ok-Some.field-0-is) c.in_ok-insert.ensures.entries removed
    c.in-Ok-Some.ensures.entries c.in-Ok-Some.ensures.was_ordered c.in_ok-insert.ensures.ordered c.remove.ensures.ordered c.in-Ok-Some.ensures.ordered

pub returns-in-Err : goal.returns-in-Err
returns-in-Err c = (
  c.remove-in-Err.ensures.entries
      ∙ ap (remove_entry (is_at (source_cmp (c.args.link.source, c.args.link.number)))) c.in_ok-insert.ensures.entries
      ∙ put_back c.args.link c.args.by_source.now.entries c.requires.sources_below,
  c.in-Err.ensures.err,
)
