use Rattle.std.proofs.Common.{◌≡◌, true, is_some}
use Rattle.std.specs.Prelude.{vec_len}
use Rattle.module_parts.specs.Brackets.{kind_view}
use Rattle.module_rules.specs.Found.{noted, outside_nearest, inside_nearest}
use Rattle.module_rules.specs.Seen.{stack}
use Rattle.vba_module.specs.Blocks as blocks
use Rattle.module_rules.proofs.open.close_nearest.Given as goal

abbrev pub invariant-closing : goal.invariant-closing
invariant-closing l = record {
  is_open : is_some (blocks.nearest (kind_view l.kind) (stack l.opened.items)) ≡ true;
  outside : outside_nearest (blocks.nearest (kind_view l.kind) (stack l.opened.items))
      ≡ outside_nearest (blocks.nearest (kind_view l.kind) (stack l.fn.opened.items));
  inside : noted 11 l.least (inside_nearest (blocks.nearest (kind_view l.kind) (stack l.opened.items)))
      ≡ noted 11 l.fn.least (inside_nearest (blocks.nearest (kind_view l.kind) (stack l.fn.opened.items)));
}

abbrev pub decreases-closing : goal.decreases-closing
decreases-closing l = vec_len l.opened
