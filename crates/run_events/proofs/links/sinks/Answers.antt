use Rattle.std.proofs.Common.{◌≡◌, ℕ, ◌<◌, map, drop, sym, ap, ◌∙◌, arith}
use Rattle.std.specs.Prelude.{option_map}
use Rattle.vba_events.specs.Links.{links_of}
use Rattle.vba_events.specs.Order.{in_order}
use Rattle.vba_meaning.specs.Events.{links_from}
use Rattle.run_memory.specs.View.{memory_view, object_view}
use Rattle.run_events.proofs.Ordered.{next_links, sinks_are}
use Rattle.run_events.proofs.links.sinks.Goals as goal

pub index-requires : goal.index-requires
index-requires c = omega (arith, c.loop-number.invariant.within, c.loop-number-test.true, c.args.memory.now.objects.ok.0)

pub loop-number-preserved : goal.loop-number-preserved
loop-number-preserved c =
    let n = c.loop-number.number in
    let all = c.args.memory.now.objects.items in
    let i = c.loop-number.invariant in
    let some : 0 < n = omega (arith, c.loop-number-test.true) in
    record {
      within = omega (arith, i.within, some);
      found = next_links c.args.source n all c.index.result.now c.loop-number.links.items c.add_links.new.links.items some i.within c.index.ensures i.found c.in_ok-add_links.ensures;
    }

pub returns : goal.returns
returns c =
    let none : c.loop-number.number ≡ 0 = omega (arith, c.loop-number-test.false) in
    c.loop-number.invariant.found
    ∙ ap (λ (n : ℕ). in_order (links_of c.args.source (links_from n (drop n (map (option_map object_view) c.args.memory.now.objects.items))))) none
    ∙ sym (sinks_are c.args.source (memory_view c.args.memory.now))
