use Rattle.std.proofs.Common.{[], ◌∷◌, subst}
use Rattle.list_file.specs.Files.{FilesAt}
use Rattle.vba_base.specs.Outside.{TellsWrite}
use Rattle.book_files.specs.Made.{made_view}
use Rattle.book_files.specs.Saves.{Save, WritesSaves}
use Rattle.book_files.proofs.BooksSaved.{one_written}
use Rattle.book_files.proofs.save.save_sheet.Goals as goal

pub returns-in-Ok : goal.returns-in-Ok
returns-in-Ok g c =
    let old : FilesAt = record { told = g.F.Files.told c.args.files.now; counts = g.F.Files.counts c.args.files.now } in
    let new : FilesAt = record { told = g.F.Files.told c.write.new.self; counts = g.F.Files.counts c.write.new.self } in
    let made : Save = made_view c.in-Ok.made in
    subst (λ (s : Save). WritesSaves (s ∷ []) c.write.result old new) c.in-Ok.ensures
    (one_written made c.write.result old new c.write.ensures.counts
    (subst (λ name. TellsWrite old.told new.told name made.bytes c.write.result) c.as_str.ensures.value
    (subst (λ bytes. TellsWrite old.told new.told c.as_str.result.now bytes c.write.result) c.as_slice.ensures.value c.write.ensures.told)))
