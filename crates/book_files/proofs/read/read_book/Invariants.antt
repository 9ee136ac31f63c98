use Rattle.std.proofs.Common.{length}
use Rattle.list_file.specs.Files.{FilesAt}
use Rattle.list_file.specs.Sources.{sheets_view}
use Rattle.book_files.proofs.BooksRead.{BookGoesOn}
use Rattle.book_files.proofs.read.read_book.Given as goal

abbrev pub invariant-loop-sheet : goal.invariant-loop-sheet
invariant-loop-sheet g l =
    let old : FilesAt = record { told = g.F.Files.told l.initial.files; counts = g.F.Files.counts l.initial.files } in
    let now : FilesAt = record { told = g.F.Files.told l.files; counts = g.F.Files.counts l.files } in
    BookGoesOn (sheets_view l.sheets) (sheets_view l.left) l.initial.number l.initial.taken l.book l.number l.taken old now

abbrev pub decreases-loop-sheet : goal.decreases-loop-sheet
decreases-loop-sheet g l = length l.left
