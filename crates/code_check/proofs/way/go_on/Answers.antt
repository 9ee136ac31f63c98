use Rattle.std.proofs.Common.{◌≡◌, ap, ◌∙◌}
use Rattle.std.proofs.lemmas.Result.{IfOk-weaker}
use Rattle.bound_project.specs.Pieces.{Tables}
use Rattle.pcode.specs.View.{tables_of}
use Rattle.code_check.specs.declared.effects.Effect.{Effect}
use Rattle.code_check.specs.declared.effects.Effect.TheVariants.{Lifts}
use Rattle.code_check.specs.declared.way.Step.{Step}
use Rattle.code_check.specs.Effects.{behind_effect}
use Rattle.code_check.specs.View.{operands_view, step_way}
use Rattle.code_check.proofs.way.go_on.Goals as goal

pub returns-in-Lifts : goal.returns-in-Lifts
returns-in-Lifts c =
    let t = tables_of c.args.code.now in
    let old = operands_view c.args.operands.now in
    let new = operands_view c.lift.new.operands in
    IfOk-weaker c.lift.result (λ (step : Step). (t : Tables) → behind_effect t (Lifts c.in-Lifts.arguments) old ≡ step_way step new)
    (λ (step : Step). behind_effect t c.args.effect old ≡ step_way step new)
    (λ step h. ap (λ (e : Effect). behind_effect t e old) c.in-Lifts.is ∙ h t) c.lift.ensures
