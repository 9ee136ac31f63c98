use Rattle.std.proofs.Common.{◌≡◌, None, cond, ap, ◌∙◌}
use Rattle.std.proofs.lemmas.Result.{IfOk-weaker}
use Rattle.code_check.specs.declared.way.Step.{Step}
use Rattle.code_check.specs.Effects.{given_by, takes_off}
use Rattle.code_check.specs.View.{operands_view, step_way}
use Rattle.code_check.proofs.way.take_and_give.Goals as goal

pub returns-then-not-take : goal.returns-then-not-take
returns-then-not-take c =
    c.take.ensures (given_by c.args.gives) ∙ ap (λ b. cond b (given_by c.args.gives (operands_view c.take.new.self)) None) c.if-not-take.true

pub returns : goal.returns
returns c =
    let taken = c.take.ensures (given_by c.args.gives) ∙ ap (λ b. cond b (given_by c.args.gives (operands_view c.take.new.self)) None) c.if-not-take.false in
    IfOk-weaker c.give.result (λ (step : Step). given_by c.args.gives (operands_view c.take.new.self) ≡ step_way step (operands_view c.give.new.operands))
    (λ (step : Step). takes_off c.args.takes (operands_view c.args.operands.now) (given_by c.args.gives) ≡ step_way step (operands_view c.give.new.operands))
    (λ step h. taken ∙ h) c.give.ensures
