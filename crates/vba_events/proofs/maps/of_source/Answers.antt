use Rattle.std.proofs.Common.{◌≡◌, [], ◌++◌, map, sym, ap, ◌∙◌, append-nil}
use Rattle.std.specs.Map.Iter.{deref_pair}
use Rattle.std.proofs.lemmas.Map.Iter.{rest_all}
use Rattle.vba_events.specs.Kept.{by_source}
use Rattle.vba_events.proofs.Sought.{links_between}
use Rattle.vba_events.proofs.maps.of_source.Goals as goal

pub returns : goal.returns
returns c = λ sinks kept.
    let done : c.loop-key.key-iterator ≡ [] = rest_all deref_pair _ _ _ c.in-None.is c.next.ensures.steps in
    sym (append-nil c.loop-key.found.items) ∙ ap (λ t. c.loop-key.found.items ++ map by_source t) (sym done) ∙ c.loop-key.invariant
    ∙ ap (map by_source) (c.into_iter-key-iterator.ensures.into_iter_gives ∙ c.range-key-items.ensures.between tt)
    ∙ links_between c.args.source c.args.next c.args.by_source.now.entries sinks kept c.range-key-items.ensures.ordered
