use Rattle.std.proofs.Common.{◌≡◌, ◌+◌, length, map}
use Rattle.list_file.specs.Sources.{files_view}
use Rattle.vba_cli.specs.Program.{kept_of}
use Rattle.vba_cli.specs.Programs.{kept_view}
use Rattle.vba_cli.proofs.Each.{EachGoesOn}
use Rattle.vba_cli.proofs.phases.keep_all.Given as goal

abbrev pub invariant-loop-file : goal.invariant-loop-file
invariant-loop-file l = record {
  goes_on : EachGoesOn kept_of (files_view l.files) (files_view l.left) (map kept_view l.kept.items) l.number;
  counted : l.number + length l.left ≡ length l.files + 1;
}

abbrev pub decreases-loop-file : goal.decreases-loop-file
decreases-loop-file l = length l.left
