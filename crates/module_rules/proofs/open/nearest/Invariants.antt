use Rattle.std.proofs.Common.{◌≡◌, length}
use Rattle.std.specs.Prelude.{option_map}
use Rattle.module_parts.specs.Brackets.{kind_view}
use Rattle.module_rules.specs.Seen.{stack}
use Rattle.vba_module.specs.Blocks as blocks
use Rattle.module_rules.proofs.open.nearest.Given as goal

abbrev pub invariant-looking : goal.invariant-looking
invariant-looking l =
    option_map (λ near. near.found) (blocks.nearest (kind_view l.kind) (stack l.left))
    ≡ option_map (λ near. near.found) (blocks.nearest (kind_view l.kind) (stack l.fn.opened))

abbrev pub decreases-looking : goal.decreases-looking
decreases-looking l = length l.left
