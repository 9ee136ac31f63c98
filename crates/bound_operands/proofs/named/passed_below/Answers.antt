use Rattle.std.proofs.Common.{◌-◌, length, refl, sym, ◌∙◌}
use Rattle.bound_members.specs.bound_calls.proofs.NamedSteps.{below_found, below_next}
use Rattle.bound_operands.proofs.named.passed_below.Goals as goal

pub returns-then-not-is_named : goal.returns-then-not-is_named
returns-then-not-is_named c =
    let xs = c.args.stack.now in
    let k = c.loop-above.above in
    c.passed_in.ensures ∙ sym (below_found xs k (length xs - 1 - k) c.index-stack-count.result c.loop-above-test.true refl c.index-stack-count.is (sym c.if-not-is_named.ensures)) ∙ c.loop-above.invariant

pub loop-above-preserved : goal.loop-above-preserved
loop-above-preserved c =
    let xs = c.args.stack.now in
    let k = c.loop-above.above in
    sym (below_next xs k (length xs - 1 - k) c.index-stack-count.result c.loop-above-test.true refl c.index-stack-count.is (sym c.if-not-is_named.ensures)) ∙ c.loop-above.invariant
