use Rattle.std.proofs.Common.{◌≡◌, ◌≤◌, drop}
use Rattle.std.specs.Prelude.{min}
use Rattle.std.specs.Str.Parse.{digits_value_after}
use Rattle.currency.specs.Cut.{greatest}
use Rattle.currency.proofs.cut.with_digits.Given as goal

abbrev pub invariant-loop-digit : goal.invariant-loop-digit
invariant-loop-digit l =
    (l.size ≤ greatest)
    × (min (digits_value_after 10 l.size (drop l.digit-index l.digits)) greatest ≡ min (digits_value_after 10 l.start l.digits) greatest)
