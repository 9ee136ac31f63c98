use Rattle.std.proofs.Common.{◌+◌, length, sym, ap, ◌∙◌}
use Rattle.std.specs.FinMap.{len}
use Rattle.sheet_host.specs.Pages.{kept}
use Rattle.sheet_host.specs.Sheets.{SheetContent, stored, unwritten}
use Rattle.sheet_host.proofs.Puts.{stored_count}
use Rattle.sheet_host.proofs.sheet.Sheet.put_values.Goals as goal

pub invariant_of-self-2 : goal.invariant_of-self-2
invariant_of-self-2 c = record {
  few = c.self.invariant.few;
  short = c.self.invariant.short;
  paged = c.fill_area.ensures.pages;
  count = ap (λ n. n + c.args.added) c.self.invariant.count
      ∙ ap (λ n. len (kept c.self.inside.pages.entries) + n)
      (c.requires.added ∙ ap (λ (s : SheetContent). unwritten s.cells c.args.area.now (length c.args.values.items)) (sym c.self.view_is))
      ∙ sym (stored_count (kept c.self.inside.pages.entries) c.args.area.now c.args.values.items)
      ∙ ap (λ cells. len (stored cells c.args.area.now 0 c.args.values.items)) (sym c.in_ok-take_area.ensures.same)
      ∙ ap len (sym c.fill_area.ensures.cells);
}
