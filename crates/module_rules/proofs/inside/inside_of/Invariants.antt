use Rattle.std.proofs.Common.{◌≡◌, length}
use Rattle.module_rules.specs.Seen.{stack}
use Rattle.vba_module.specs.Misplaced.{inside_of}
use Rattle.module_rules.proofs.inside.inside_of.Given as goal

abbrev pub invariant-looking : goal.invariant-looking
invariant-looking l = inside_of (stack l.left) ≡ inside_of (stack l.fn.opened)

abbrev pub decreases-looking : goal.decreases-looking
decreases-looking l = length l.left
