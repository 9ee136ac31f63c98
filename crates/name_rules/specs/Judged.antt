-- Serves the code: the least of what each rule finds.
use Rattle.std.specs.Prelude.{Option}
use Rattle.vba_base.specs.declared.place.Refusal.{Refusal}
use Rattle.refusal_order.specs.Least.{least_of_both}

-- the least of eight, of which each may be missing
abbrev pub least_of_eight : (a b c d e f g h : Option Refusal) → Option Refusal
least_of_eight a b c d e f g h =
    least_of_both (least_of_both (least_of_both (least_of_both (least_of_both (least_of_both (least_of_both a b) c) d) e) f) g) h
