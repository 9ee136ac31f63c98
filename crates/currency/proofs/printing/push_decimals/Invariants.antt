use Rattle.std.proofs.Common.{◌≡◌, ◌<◌, ◌^◌, ◌++◌}
use Rattle.currency.specs.Printed.{decimals}
use Rattle.currency.proofs.printing.push_decimals.Given as goal

abbrev pub invariant-loop-places : goal.invariant-loop-places
invariant-loop-places l =
    (l.rest < 10 ^ l.places) × (l.text ++ decimals l.places l.rest ≡ l.initial.text ++ decimals 4 l.part)
