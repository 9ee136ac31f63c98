use Rattle.std.proofs.Common.{Some, ap, sym, ◌∙◌}
use Rattle.pcode.specs.WellFormed.{brings}
use Rattle.code_check.specs.View.{operands_view, step_way}
use Rattle.code_check.proofs.Ways.{found_way}
use Rattle.code_check.proofs.way.lift.Goals as goal

pub returns : goal.returns
returns c = λ t.
    c.in_ok-is_found.ensures (λ ks. Some (brings ks))
    ∙ found_way c.in_ok-is_found.is_found (operands_view c.lift.new.self)
    ∙ ap (λ s. step_way s (operands_view c.lift.new.self)) (sym c.found.ensures)
