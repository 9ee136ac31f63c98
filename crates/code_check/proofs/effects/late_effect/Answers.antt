use Rattle.std.proofs.Common.{ℕ, [], ap}
use Rattle.bound_project.specs.Pieces.{order_in}
use Rattle.bound_project.proofs.Lists.{flags_count}
use Rattle.pcode.specs.WellFormed.{brings_value, taken_off}
use Rattle.code_check.specs.Effects.{values_off}
use Rattle.code_check.proofs.effects.late_effect.Goals as goal

pub returns-clause-with : goal.returns-clause-with
returns-clause-with c = λ t ks.
    ap (λ (n : ℕ). taken_off n ks [] (λ xs js. values_off c.args.values js brings_value)) (flags_count c.args.member.arguments (order_in t c.args.member.given))
