use Rattle.std.proofs.Common.{◌≡◌}
use Rattle.std.specs.Prelude.{vec_len}
use Rattle.module_rules.specs.Found.{noted}
use Rattle.module_rules.specs.Seen.{stack}
use Rattle.vba_module.specs.Blocks.{places_of}
use Rattle.module_rules.proofs.open.note_unclosed.Given as goal

abbrev pub invariant-closing : goal.invariant-closing
invariant-closing l = noted 11 l.least (places_of (stack l.opened.items)) ≡ noted 11 l.fn.least (places_of (stack l.fn.opened.items))

abbrev pub decreases-closing : goal.decreases-closing
decreases-closing l = vec_len l.opened
