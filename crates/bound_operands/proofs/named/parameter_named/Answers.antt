use Rattle.std.proofs.Common.{sym, ◌∙◌}
use Rattle.bound_members.specs.bound_calls.proofs.NamedSteps.{found_here}
use Rattle.bound_operands.proofs.named.parameter_named.Goals as goal

pub returns-then-eq : goal.returns-then-eq
returns-then-eq c =
    sym
    (found_here c.loop-parameter.number c.args.parameters.now c.loop-parameter.parameter-index c.parameter-item.result c.args.name.now.name c.loop-parameter-test.true c.parameter-item.is c.if-not-parameter.true
    (sym c.if-eq.ensures.value))
    ∙ c.loop-parameter.invariant
