use Rattle.std.proofs.Common.{below_more, subst, ◌∙◌}
use Rattle.sheet_host.specs.Pages.{HasSlot}
use Rattle.sheet_host.specs.Sheets.{nth_cell}
use Rattle.sheet_host.proofs.sheet.take_area.Goals as goal

pub loop-i-preserved : goal.loop-i-preserved
loop-i-preserved c = record {
  are = c.take_room.ensures.pages;
  same = c.take_room.ensures.same ∙ c.loop-i.invariant.same;
  room = below_more (λ j. HasSlot c.take_room.new.pages.entries (nth_cell c.args.area.now j)) c.loop-i.i
      (λ j lt. c.take_room.ensures.keeps _ (c.loop-i.invariant.room j lt))
      (subst (λ p. HasSlot c.take_room.new.pages.entries p) c.nth_cell-row.ensures.cell c.in_ok-take_room.ensures.room);
}
