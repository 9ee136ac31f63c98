use Rattle.std.proofs.Common.{◌≡◌, length}
use Rattle.module_parts.specs.View.{parts_view}
use Rattle.binder.specs.Numbering as numbering
use Rattle.statement_numbers.specs.View.{awaited_view, sought_view}
use Rattle.statement_numbers.proofs.sought.number_sought.Given as goal

abbrev pub invariant-seeking : goal.invariant-seeking
invariant-seeking l =
    numbering.sought (sought_view l.what) (awaited_view l.awaited) l.number (parts_view l.left)
    ≡ numbering.sought (sought_view l.fn.what) (awaited_view l.fn.awaited) l.fn.number (parts_view l.fn.parts)

abbrev pub decreases-seeking : goal.decreases-seeking
decreases-seeking l = length l.left
