use Rattle.std.proofs.Common.{◌≡◌, length}
use Rattle.vba_base.specs.Memory.{names_of, are_different}
use Rattle.vba_base.proofs.mem_files.MemFiles.are_different.Given as goal

-- the names so far stand nowhere else
abbrev pub invariant-loop-first : goal.invariant-loop-first
invariant-loop-first l = are_different (names_of l.rest) ≡ are_different (names_of l.files)

abbrev pub decreases-loop-first : goal.decreases-loop-first
decreases-loop-first l = length l.rest
