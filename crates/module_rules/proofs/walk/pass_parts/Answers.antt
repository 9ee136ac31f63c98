use Rattle.module_rules.specs.Seen.{before_view, stack}
use Rattle.module_rules.proofs.Walking.{more_unmatched, more_misplaced}
use Rattle.module_rules.proofs.walk.pass_parts.Goals as goal

pub loop-part-preserved : goal.loop-part-preserved
loop-part-preserved c = record {
  unmatched =
      more_unmatched c.loop-part.walk.unmatched c.pass_part.new.walk.unmatched _ (stack c.loop-part.walk.opened.items) (stack c.pass_part.new.walk.opened.items)
      c.part-item.result c.args.parts.now c.loop-part.part-index c.loop-part-test.true c.part-item.is
      c.in_ok-pass_part.ensures.opened c.in_ok-pass_part.ensures.unmatched c.loop-part.invariant.unmatched;
  misplaced =
      more_misplaced c.args.is_class c.loop-part.walk.misplaced c.pass_part.new.walk.misplaced _ (before_view c.loop-part.walk.before) (before_view c.pass_part.new.walk.before)
      (stack c.loop-part.walk.opened.items) (stack c.pass_part.new.walk.opened.items)
      c.part-item.result c.args.parts.now c.loop-part.part-index c.loop-part-test.true c.part-item.is
      c.in_ok-pass_part.ensures.opened c.in_ok-pass_part.ensures.before c.in_ok-pass_part.ensures.misplaced c.loop-part.invariant.misplaced;
}
