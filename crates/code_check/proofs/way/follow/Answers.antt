use Rattle.std.proofs.Common.{◌≡◌, ap, sym, ◌∙◌}
use Rattle.std.proofs.lemmas.Result.{IfOk-weaker}
use Rattle.pcode.specs.View.{instr_view, tables_of}
use Rattle.pcode.specs.WellFormed.{along}
use Rattle.code_check.specs.declared.way.Step.{Step}
use Rattle.code_check.specs.Effects.{behind_effect}
use Rattle.code_check.specs.View.{operands_view, step_way, way_of}
use Rattle.code_check.proofs.way.follow.Goals as goal

pub returns-then-is_begun : goal.returns-then-is_begun
returns-then-is_begun c =
    let t = tables_of c.args.code.now in
    let old = operands_view c.args.operands.now in
    let new = operands_view c.go_on.new.operands in
    let same = ap (λ b. along (instr_view t c.args.instr) (way_of b old)) c.if-is_begun.true ∙ c.effect_of-effect.ensures.with t old in
    IfOk-weaker c.go_on.result (λ (step : Step). behind_effect t c.effect_of-effect.result old ≡ step_way step new) (λ (step : Step). along (instr_view t c.args.instr) (way_of c.args.is_begun old) ≡ step_way step new)
    (λ step h. same ∙ h) c.go_on.ensures

pub returns : goal.returns
returns c =
    let t = tables_of c.args.code.now in
    let old = operands_view c.args.operands.now in
    ap (λ b. along (instr_view t c.args.instr) (way_of b old)) c.if-is_begun.false ∙ c.effect_of-effect.ensures.without t ∙ c.begin.ensures ∙ ap (λ ks. step_way c.begin.result ks) (sym c.clear.ensures)
