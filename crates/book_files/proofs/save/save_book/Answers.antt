use Rattle.std.proofs.Common.{subst, ◌≡◌, ◌<◌, suc, ◌+◌, length, arith}
use Rattle.list_file.specs.Files.{FilesAt}
use Rattle.list_file.specs.Sources.{sheets_view}
use Rattle.book_files.specs.Saves.{WritesSaves, Written, save_of, saves_of}
use Rattle.book_files.proofs.BooksSaved.{SavesGoOn, fails_by, save_of_number, save_stopped, save_written, saves_done, saves_end, saves_short}
use Rattle.book_files.proofs.save.save_book.Goals as goal

pub returns-in_default : goal.returns-in_default
returns-in_default g c =
    let first : FilesAt = record { told = g.F.Files.told c.args.files.now; counts = g.F.Files.counts c.args.files.now } in
    let now : FilesAt = record { told = g.F.Files.told c.loop-place.files; counts = g.F.Files.counts c.loop-place.files } in
    saves_done tt (saves_of c.args.suffix.now (sheets_view c.args.sheets.now) c.args.book.now) c.loop-place.place first now c.loop-place.invariant
    (let h = c.in_default.ensures.lookup in saves_end c.args.suffix.now c.args.sheets.now c.args.book.now c.loop-place.place h.3)

pub returns-in_err-save_sheet : goal.returns-in_err-save_sheet
returns-in_err-save_sheet g c =
    let first : FilesAt = record { told = g.F.Files.told c.args.files.now; counts = g.F.Files.counts c.args.files.now } in
    let before : FilesAt = record { told = g.F.Files.told c.loop-place.files; counts = g.F.Files.counts c.loop-place.files } in
    let after : FilesAt = record { told = g.F.Files.told c.save_sheet.new.files; counts = g.F.Files.counts c.save_sheet.new.files } in
    let saves = saves_of c.args.suffix.now (sheets_view c.args.sheets.now) c.args.book.now in
    let h = c.in-Some.ensures.lookup in
    let within : c.loop-place.place < length c.args.book.now = omega (arith, c.loop-place-test.true, c.sheets-place-end.ensures) in
    let e = c.in_err-save_sheet.field-0.0 in
    fails_by c.from_residual.result e c.from_residual.ensures.1 (λ (r : Written). WritesSaves saves r first after)
    (save_stopped tt saves c.loop-place.place (save_of c.as_str.result.now c.args.suffix.now c.sheet-content.result.now) first before after c.loop-place.invariant
    (save_of_number c.args.suffix.now c.as_str.result.now c.args.sheets.now c.args.book.now c.loop-place.place c.in-Some.sheet.now c.sheet-content.result.now h.3.0 within
    c.as_str.ensures.value h.1 c.sheet-content.ensures)
    e c.in_err-save_sheet.ensures)

pub loop-place-preserved : goal.loop-place-preserved
loop-place-preserved g c =
    let first : FilesAt = record { told = g.F.Files.told c.args.files.now; counts = g.F.Files.counts c.args.files.now } in
    let before : FilesAt = record { told = g.F.Files.told c.loop-place.files; counts = g.F.Files.counts c.loop-place.files } in
    let after : FilesAt = record { told = g.F.Files.told c.save_sheet.new.files; counts = g.F.Files.counts c.save_sheet.new.files } in
    let saves = saves_of c.args.suffix.now (sheets_view c.args.sheets.now) c.args.book.now in
    let h = c.in-Some.ensures.lookup in
    let within : c.loop-place.place < length c.args.book.now = omega (arith, c.loop-place-test.true, c.sheets-place-end.ensures) in
    let next : suc c.loop-place.place ≡ c.loop-place.place + 1 = omega arith in
    subst (λ k. SavesGoOn tt saves k first after) next
    (save_written tt saves c.loop-place.place (save_of c.as_str.result.now c.args.suffix.now c.sheet-content.result.now) first before after c.loop-place.invariant
    (save_of_number c.args.suffix.now c.as_str.result.now c.args.sheets.now c.args.book.now c.loop-place.place c.in-Some.sheet.now c.sheet-content.result.now h.3.0 within
    c.as_str.ensures.value h.1 c.sheet-content.ensures)
    c.in_ok-save_sheet.ensures)

pub returns : goal.returns
returns g c =
    let first : FilesAt = record { told = g.F.Files.told c.args.files.now; counts = g.F.Files.counts c.args.files.now } in
    let now : FilesAt = record { told = g.F.Files.told c.loop-place.files; counts = g.F.Files.counts c.loop-place.files } in
    saves_done tt (saves_of c.args.suffix.now (sheets_view c.args.sheets.now) c.args.book.now) c.loop-place.place first now c.loop-place.invariant
    (omega (arith, saves_short c.args.suffix.now (sheets_view c.args.sheets.now) c.args.book.now, c.loop-place-test.false, c.sheets-place-end.ensures))
