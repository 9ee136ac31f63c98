use Rattle.std.proofs.Common.{sym}
use Rattle.vba_events.proofs.Changes.{taken_out, none_taken}
use Rattle.vba_events.proofs.maps.take_out.Goals as goal

pub returns-in-Some : goal.returns-in-Some
returns-in-Some c = λ next kept.
    taken_out c.args.sink c.args.field c.in-Some.held _ _ _ _ next kept (sym c.in-Some.ensures.value) c.remove-in-Some.ensures.entries c.remove.ensures.entries
    c.remove-in-Some.ensures.ordered c.remove.ensures.ordered

pub returns-in_default : goal.returns-in_default
returns-in_default c = λ next kept. none_taken c.args.sink c.args.field _ _ _ next kept (sym c.in_default.ensures.value) c.in_default.ensures.unchanged
