use Rattle.std.proofs.Common.{◌≡◌, drop, map}
use Rattle.module_rules.specs.Found.{noted}
use Rattle.module_rules.specs.Seen.{variable_with_mark}
use Rattle.vba_module.specs.Misplaced.{with_events_others}
use Rattle.module_rules.proofs.body.note_with_events_of_others.Given as goal

abbrev pub invariant-loop-next : goal.invariant-loop-next
invariant-loop-next l =
    noted 12 l.least (with_events_others (map variable_with_mark (drop l.next-index l.others)))
    ≡ noted 12 l.fn.least (with_events_others (map variable_with_mark l.others))
