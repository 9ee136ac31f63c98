use Rattle.vba_statements.proofs.Places.{place_ends, not_assigned}
use Rattle.vba_statements.proofs.assignment.read_assignment_or_call.Goals as goal

pub overflow_sub-end : goal.overflow_sub-end
overflow_sub-end c = (place_ends _ _ _ (rw c.in-Some.is at c.in_ok-place.ensures)).1

pub returns : goal.returns
returns c =
    rw (not_assigned _ _ _ (rw c.in-Some.is at c.in_ok-place.ensures) (rw c.in_default-2.is at c.in_ok-equal.ensures)) at c.read_longest_call.ensures
