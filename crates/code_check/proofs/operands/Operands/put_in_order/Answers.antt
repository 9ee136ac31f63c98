use Rattle.std.proofs.Common.{◌∷◌, get_or, map, ap, sym, ◌∙◌}
use Rattle.std.specs.Prelude.{slice_index_or}
use Rattle.pcode.specs.WellFormed.{a_value}
use Rattle.code_check.specs.View.{kind_view, operands_view}
use Rattle.code_check.proofs.Takings.{reordered_more}
use Rattle.code_check.proofs.operands.Operands.put_in_order.Goals as goal

pub loop-number-preserved : goal.loop-number-preserved
loop-number-preserved c =
    c.in_ok-put.ensures ∙ ap (λ k. k ∷ operands_view c.loop-number.self) c.kind_at.ensures ∙ ap (λ ks. slice_index_or (map kind_view c.args.taken.now) (get_or c.args.order.now c.loop-number.number-index 0) a_value ∷ ks) c.loop-number.invariant
    ∙ sym (reordered_more c.args.order.now c.loop-number.number-index (map kind_view c.args.taken.now) (operands_view c.args.self.now) c.loop-number-test.true)
