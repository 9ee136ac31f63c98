use Rattle.std.proofs.Common.{rules, ◌+◌, length, sym, ap, ◌∙◌, arith}
use Rattle.std.specs.Vec.Iter.{into_iter_items}
use Rattle.std.specs.FinMap.{insert}
use Rattle.sheet_host.specs.Pages.{kept}
use Rattle.sheet_host.specs.Sheets.{stored}
use Rattle.sheet_host.proofs.Puts.{nil_of}
use Rattle.sheet_host.proofs.sheet.fill_area.Goals as goal

pub nth_cell-row-requires-clause-small : goal.nth_cell-row-requires-clause-small
nth_cell-row-requires-clause-small c = omega (arith, c.loop-value.invariant.count, ap length c.in-Some.ensures.steps.0)

pub loop-value-preserved : goal.loop-value-preserved
loop-value-preserved c = record {
  are = c.fill.ensures.pages;
  room = λ j lt. c.fill.ensures.keeps _ (c.loop-value.invariant.room j lt);
  count = omega (arith, c.loop-value.invariant.count, ap length c.in-Some.ensures.steps.0);
  sum = ap (λ cells. stored cells c.args.area.now (c.loop-value.i + 1) (into_iter_items c.next.new.self))
      (c.fill.ensures.cell ∙ ap (λ p. insert (kept c.loop-value.pages.entries) p c.in-Some.value) c.nth_cell-row.ensures.cell)
      ∙ ap (λ values. stored (kept c.loop-value.pages.entries) c.args.area.now c.loop-value.i values) (sym c.in-Some.ensures.steps.0)
      ∙ c.loop-value.invariant.sum;
}

pub returns-clause-cells : goal.returns-clause-cells
returns-clause-cells c =
    sym (ap (λ values. stored (kept c.loop-value.pages.entries) c.args.area.now c.loop-value.i values) (nil_of (into_iter_items c.loop-value.value-iterator) (search rules)))
    ∙ c.loop-value.invariant.sum
