use Rattle.std.proofs.Common.{◌≡◌, length}
use Rattle.signature_rules.specs.Signatures.{same_signature}
use Rattle.signature_rules.specs.View.{signature_view}
use Rattle.signature_rules.proofs.passed.is_same_signature.Given as goal

abbrev pub invariant-loop-ones : goal.invariant-loop-ones
invariant-loop-ones l = same_signature (signature_view l.ones) (signature_view l.others) ≡ same_signature (signature_view l.fn.ones) (signature_view l.fn.others)

abbrev pub decreases-loop-ones : goal.decreases-loop-ones
decreases-loop-ones l = length l.ones
