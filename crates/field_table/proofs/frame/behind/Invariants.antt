-- The units behind as many frames as there were turns.
use Rattle.std.proofs.Common.{◌≡◌}
use Rattle.field_table.specs.Frames.{behind}
use Rattle.field_table.proofs.frame.behind.Given as goal

abbrev pub invariant-loop : goal.invariant-loop
invariant-loop l = l.rest ≡ behind l.counter l.units
