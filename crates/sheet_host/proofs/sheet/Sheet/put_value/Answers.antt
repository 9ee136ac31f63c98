use Rattle.std.proofs.Common.{◌+◌, ap, ◌∙◌}
use Rattle.sheet_host.specs.Pages.{kept}
use Rattle.sheet_host.proofs.Puts.{one_if, one_len}
use Rattle.sheet_host.proofs.sheet.Sheet.put_value.Goals as goal

pub invariant_of-self-2 : goal.invariant_of-self-2
invariant_of-self-2 c = record {
  few = c.self.invariant.few;
  short = c.self.invariant.short;
  paged = c.put.ensures.pages;
  count = ap (λ n. n + c.from.result) c.self.invariant.count
      ∙ one_len (kept c.self.inside.pages.entries) (kept c.put.new.pages.entries) (c.args.row, c.args.column) c.args.value c.in_ok-added.added c.from.result
      c.in_ok-added.ensures.cell c.in_ok-added.ensures.added (one_if c.from.result c.in_ok-added.added c.from.ensures);
}
