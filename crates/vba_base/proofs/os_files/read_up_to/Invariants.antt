use Rattle.std.proofs.Common.{◌≤◌, length}
use Rattle.std.specs.Io.KnownBytes.{Consumes}
use Rattle.vba_base.proofs.os_files.read_up_to.Given as goal

-- what the file gave so far is in the list
abbrev pub invariant-loop : goal.invariant-loop
invariant-loop g l = record {
  within : length l.into.items ≤ l.limit;
  given : Consumes (g.F.Read.remaining l.initial.file) (g.F.Read.remaining l.file) l.into.items;
}
