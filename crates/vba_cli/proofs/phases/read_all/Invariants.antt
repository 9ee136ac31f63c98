use Rattle.std.proofs.Common.{suc, length, map}
use Rattle.vba_cli.specs.Program.{module_of}
use Rattle.vba_cli.specs.Programs.{kept_view, module_view}
use Rattle.vba_cli.proofs.Each.{EachGoesOn}
use Rattle.vba_cli.proofs.phases.read_all.Given as goal

abbrev pub invariant-loop-first : goal.invariant-loop-first
invariant-loop-first l = EachGoesOn module_of (map kept_view l.kept) (map kept_view l.left) (map module_view l.modules.items) (suc (length l.modules.items))

abbrev pub decreases-loop-first : goal.decreases-loop-first
decreases-loop-first l = length l.left
