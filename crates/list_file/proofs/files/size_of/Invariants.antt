use Rattle.std.proofs.Common.{◌≡◌, ◌+◌, drop}
use Rattle.list_file.specs.Files.{total}
use Rattle.list_file.specs.Sources.{bytes_view}
use Rattle.list_file.proofs.files.size_of.Given as goal

abbrev pub invariant-loop-file : goal.invariant-loop-file
invariant-loop-file l = l.size + total (bytes_view (drop l.file-index l.files)) ≡ total (bytes_view l.files)
