use Rattle.std.proofs.Common.{◌≡◌, suc, ap, arith, ◌∙◌}
use Rattle.std.specs.Prelude.{reverse}
use Rattle.bound_operands.specs.Gathering.{with_gathered, with_value}
use Rattle.bound_operands.proofs.ParamArrays.{gathered_more}
use Rattle.bound_operands.proofs.gathering.take_gathered.Goals as goal

pub loop-values-preserved : goal.loop-values-preserved
loop-values-preserved c =
    let v = c.loop-values.values in
    let xs = reverse c.take_value.new.stack.items in
    let more : suc v ≡ c.in_ok-values.values = omega (arith, c.in_ok-values.ensures) in
    c.loop-values.invariant ∙ ap (λ l. with_gathered v l) (c.in_ok-take_value.ensures ∙ ap (λ b. with_value b xs) c.if-branch.true) ∙ gathered_more v xs ∙ ap (λ n. with_gathered n xs) more
