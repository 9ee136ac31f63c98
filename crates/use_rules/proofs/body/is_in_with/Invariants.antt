use Rattle.std.proofs.Common.{◌≡◌, length}
use Rattle.use_rules.specs.View.{kinds_stack}
use Rattle.use_rules.specs.Walked.{is_within}
use Rattle.use_rules.proofs.body.is_in_with.Given as goal

abbrev pub invariant-looking : goal.invariant-looking
invariant-looking l = is_within (kinds_stack l.left) ≡ is_within (kinds_stack l.opened)

abbrev pub decreases-looking : goal.decreases-looking
decreases-looking l = length l.left
