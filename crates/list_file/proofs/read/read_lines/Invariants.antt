use Rattle.std.proofs.Common.{length}
use Rattle.list_file.proofs.Reading.{LinesGoOn}
use Rattle.list_file.proofs.read.read_lines.Given as goal

abbrev pub invariant-loop-partial : goal.invariant-loop-partial
invariant-loop-partial l = LinesGoOn l.source l.rest l.number l.partial

abbrev pub decreases-loop-partial : goal.decreases-loop-partial
decreases-loop-partial l = length l.rest
