use Rattle.std.proofs.Common.{List, [], Some, ℕ, ap, sym, ◌∙◌}
use Rattle.pcode.specs.WellFormed.{brings, taken_off, kinds_pushed, kinds_reordered}
use Rattle.code_check.specs.View.{operands_view, step_way}
use Rattle.code_check.proofs.Ways.{found_way}
use Rattle.code_check.proofs.way.reorder.Goals as goal

pub returns : goal.returns
returns c =
    ap (λ (order : List ℕ). taken_off c.args.arguments (operands_view c.args.operands.now) [] (λ xs js. Some (brings (kinds_pushed (kinds_reordered order xs) js)))) (sym c.order.ensures)
    ∙ c.in_ok-is_found.ensures (λ ks. Some (brings ks))
    ∙ found_way c.in_ok-is_found.is_found (operands_view c.reorder.new.self)
    ∙ ap (λ s. step_way s (operands_view c.reorder.new.self)) (sym c.found.ensures)
