use Rattle.list_file.specs.Files.{FilesAt}
use Rattle.list_file.specs.Sources.{sheets_view}
use Rattle.book_files.specs.Saves.{saves_of}
use Rattle.book_files.proofs.BooksSaved.{SavesGoOn}
use Rattle.book_files.proofs.save.save_book.Given as goal

abbrev pub invariant-loop-place : goal.invariant-loop-place
invariant-loop-place g l =
    let old : FilesAt = record { told = g.F.Files.told l.initial.files; counts = g.F.Files.counts l.initial.files } in
    let now : FilesAt = record { told = g.F.Files.told l.files; counts = g.F.Files.counts l.files } in
    SavesGoOn tt (saves_of l.suffix (sheets_view l.sheets) l.book) l.place old now
