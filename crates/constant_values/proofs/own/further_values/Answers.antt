use Rattle.std.proofs.Common.{◌≤◌, ◌-◌, refl, arith}
use Rattle.declared_names.specs.View.{scope_view}
use Rattle.constant_values.specs.Rounds.{longest}
use Rattle.constant_values.proofs.Kept.{left_next}
use Rattle.constant_values.proofs.own.further_values.Goals as goal

pub loop-left-preserved : goal.loop-left-preserved
loop-left-preserved c =
    let left = c.loop-left.left in
    let fit : left ≤ longest (scope_view c.args.scope) = c.loop-left.invariant.1 in
    let less : left - 1 ≤ longest (scope_view c.args.scope) = omega arith in (
      left_next c.args.scope c.args.project.now c.loop-left.own c.in_ok-own.own left (left - 1) c.requires.placed c.requires.values c.loop-left.invariant.0
          c.loop-left.invariant.1 c.loop-left-test.true c.in_ok-own.ensures.slots c.in_ok-own.ensures.entries refl,
      less,
    )
