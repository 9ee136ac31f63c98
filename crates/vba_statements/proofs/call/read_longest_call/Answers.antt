use Rattle.std.proofs.Common.{arith}
use Rattle.std.proofs.lemmas.List.{take_rest}
use Rattle.vba_statements.proofs.Places.{calls_begin, goes_back, call_found, call_ends}
use Rattle.vba_statements.proofs.call.read_longest_call.Goals as goal

pub targets-init : goal.targets-init
targets-init c = calls_begin _ _ _ c.requires.within c.requires.placed c.in_ok-parts.ensures

pub returns-in-Some-2 : goal.returns-in-Some-2
returns-in-Some-2 c =
    call_found _ _ _ _ _ _ _ _ c.targets.invariant c.in-Some.ensures.items (rw (c.in-Some-2.is, take_rest) at c.in_ok-call.ensures)

pub overflow_sub-behind : goal.overflow_sub-behind
overflow_sub-behind c =
    (goes_back _ _ _ _ _ _ _ c.targets.invariant c.in-Some.ensures.items (rw (c.in_default-2.is, take_rest) at c.in_ok-call.ensures)).fits

pub targets-preserved : goal.targets-preserved
targets-preserved c =
    (goes_back _ _ _ _ _ _ _ c.targets.invariant c.in-Some.ensures.items (rw (c.in_default-2.is, take_rest) at c.in_ok-call.ensures)).calls

pub returns : goal.returns
returns c = rw (take_rest, call_ends _ _ _ _ _ c.targets.invariant (omega (arith, c.in_default.ensures.cases.0))) at c.read_call.ensures
