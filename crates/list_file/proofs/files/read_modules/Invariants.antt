use Rattle.std.proofs.Common.{length}
use Rattle.list_file.specs.Files.{FilesAt}
use Rattle.list_file.specs.Sources.{bytes_view, paths_view}
use Rattle.list_file.proofs.FilesRead.{FilesGoOn}
use Rattle.list_file.proofs.ModulesRead.{KindsGoOn}
use Rattle.list_file.proofs.files.read_modules.Given as goal

abbrev pub invariant-loop-module : goal.invariant-loop-module
invariant-loop-module g l =
    let old : FilesAt = record { told = g.F.Files.told l.initial.files; counts = g.F.Files.counts l.initial.files } in
    let now : FilesAt = record { told = g.F.Files.told l.files; counts = g.F.Files.counts l.files } in
    FilesGoOn (paths_view l.modules) (paths_view l.left) l.initial.taken (bytes_view l.read.items) l.number l.taken old now × KindsGoOn l.modules l.left l.read.items

abbrev pub decreases-loop-module : goal.decreases-loop-module
decreases-loop-module g l = length l.left
