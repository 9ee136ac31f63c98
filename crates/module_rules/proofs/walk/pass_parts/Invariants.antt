use Rattle.std.proofs.Common.{◌≡◌, drop}
use Rattle.module_parts.specs.View.{parts_view}
use Rattle.module_rules.specs.Found.{noted}
use Rattle.module_rules.specs.Seen.{before_view, stack}
use Rattle.vba_module.specs.Blocks.{block_faults}
use Rattle.vba_module.specs.Misplaced.{all_misplaced}
use Rattle.module_rules.proofs.walk.pass_parts.Given as goal

abbrev pub invariant-loop-part : goal.invariant-loop-part
invariant-loop-part l = record {
  unmatched : noted 11 l.walk.unmatched (block_faults (stack l.walk.opened.items) (parts_view (drop l.part-index l.parts)))
      ≡ noted 11 l.fn.walk.unmatched (block_faults (stack l.fn.walk.opened.items) (parts_view l.parts));
  misplaced : noted 12 l.walk.misplaced (all_misplaced l.is_class (before_view l.walk.before) (stack l.walk.opened.items) (parts_view (drop l.part-index l.parts)))
      ≡ noted 12 l.fn.walk.misplaced (all_misplaced l.is_class (before_view l.fn.walk.before) (stack l.fn.walk.opened.items) (parts_view l.parts));
}
