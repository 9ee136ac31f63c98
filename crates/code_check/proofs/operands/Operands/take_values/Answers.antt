use Rattle.std.proofs.Common.{◌+◌, ◌-◌, None, cond, ap, ◌∙◌}
use Rattle.code_check.specs.Effects.{values_off}
use Rattle.code_check.specs.View.{operands_view}
use Rattle.code_check.proofs.Takings.{values_more}
use Rattle.code_check.proofs.operands.Operands.take_values.Goals as goal

pub returns-then-not-take_value : goal.returns-then-not-take_value
returns-then-not-take_value c = λ go.
    c.loop-taken.invariant go
    ∙ values_more c.args.count c.loop-taken._taken c.take_value.result (operands_view c.loop-taken.self) (operands_view c.take_value.new.self) c.loop-taken-test.true c.take_value.ensures go
    ∙ ap (λ b. cond b (values_off (c.args.count - (c.loop-taken._taken + 1)) (operands_view c.take_value.new.self) go) None) c.if-not-take_value.true

pub loop-taken-preserved : goal.loop-taken-preserved
loop-taken-preserved c = λ go.
    c.loop-taken.invariant go
    ∙ values_more c.args.count c.loop-taken._taken c.take_value.result (operands_view c.loop-taken.self) (operands_view c.take_value.new.self) c.loop-taken-test.true c.take_value.ensures go
    ∙ ap (λ b. cond b (values_off (c.args.count - (c.loop-taken._taken + 1)) (operands_view c.take_value.new.self) go) None) c.if-not-take_value.false
