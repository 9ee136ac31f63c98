use Rattle.std.proofs.Common.{ap, sym, subst, ◌≡◌, ◌∙◌, ◌++◌, ◌∷◌, [], ◌+◌, length}
use Rattle.std.specs.Prelude.{Ok, Err}
use Rattle.sheet_host.specs.Books.{IsNewName, Sheets}
use Rattle.list_file.specs.declared.files.ReadStop.TheVariants.{NoMemory}
use Rattle.list_file.specs.Files.{FilesAt}
use Rattle.list_file.specs.Sources.{sheets_view}
use Rattle.list_file.specs.View.{sheet_view}
use Rattle.book_files.specs.declared.stop.BookStop.TheVariants.{Unread}
use Rattle.book_files.specs.Book.{ReadsBook}
use Rattle.book_files.specs.One.{ReadsOne, one_view}
use Rattle.book_files.proofs.BooksRead.{BookGoesOn, book_begins, next_is_new, sheet_added, sheet_stopped, sheet_wanted, stops_by}
use Rattle.book_files.proofs.read.read_book.Goals as goal

pub loop-sheet-init : goal.loop-sheet-init
loop-sheet-init g c =
    let at : FilesAt = record { told = g.F.Files.told c.args.files.now; counts = g.F.Files.counts c.args.files.now } in
    let all = sheets_view c.args.sheets.now in
    subst (λ (b : Sheets). BookGoesOn all all c.args.number c.args.taken b c.args.number c.args.taken at at) (sym c.new-book.ensures)
    (book_begins all c.args.number c.args.taken at c.requires.within c.requires.names)

pub returns-in_err-content : goal.returns-in_err-content
returns-in_err-content g c =
    let first : FilesAt = record { told = g.F.Files.told c.args.files.now; counts = g.F.Files.counts c.args.files.now } in
    let before : FilesAt = record { told = g.F.Files.told c.loop-sheet.files; counts = g.F.Files.counts c.loop-sheet.files } in
    let after : FilesAt = record { told = g.F.Files.told c.read_one.new.files; counts = g.F.Files.counts c.read_one.new.files } in
    let all = sheets_view c.args.sheets.now in
    let s = sheet_view c.in-Some.sheet.now in
    let left = sheets_view c.in-Some.rest.now in
    let book = c.loop-sheet.book in
    let reason = c.in_err-content.field-0.0 in
    let on : BookGoesOn all (s ∷ left) c.args.number c.args.taken book c.loop-sheet.number c.loop-sheet.taken first before =
    subst (λ ss. BookGoesOn all ss c.args.number c.args.taken book c.loop-sheet.number c.loop-sheet.taken first before)
    (ap sheets_view c.in-Some.ensures.cases.0) c.loop-sheet.invariant in
    let one : ReadsOne s.path c.loop-sheet.number (length book + 1) c.loop-sheet.taken (Err reason) before after =
    subst (λ p. ReadsOne p c.loop-sheet.number (length book + 1) c.loop-sheet.taken (Err reason) before after) c.as_str.ensures.value
    (subst (λ k. ReadsOne c.as_str.result.now c.loop-sheet.number (k + 1) c.loop-sheet.taken (Err reason) before after) c.sheets-place.ensures c.in_err-content.ensures.read) in
    stops_by c.from_residual.result reason c.from_residual.ensures.1 (λ r. ReadsBook all c.args.number c.args.taken r first after)
    (sheet_stopped all left s c.args.number c.args.taken book c.loop-sheet.number c.loop-sheet.taken first before after on reason one)

pub returns-in_err-copy : goal.returns-in_err-copy
returns-in_err-copy g c =
    let first : FilesAt = record { told = g.F.Files.told c.args.files.now; counts = g.F.Files.counts c.args.files.now } in
    let before : FilesAt = record { told = g.F.Files.told c.loop-sheet.files; counts = g.F.Files.counts c.loop-sheet.files } in
    let after : FilesAt = record { told = g.F.Files.told c.read_one.new.files; counts = g.F.Files.counts c.read_one.new.files } in
    let all = sheets_view c.args.sheets.now in
    let s = sheet_view c.in-Some.sheet.now in
    let left = sheets_view c.in-Some.rest.now in
    let book = c.loop-sheet.book in
    let on : BookGoesOn all (s ∷ left) c.args.number c.args.taken book c.loop-sheet.number c.loop-sheet.taken first before =
    subst (λ ss. BookGoesOn all ss c.args.number c.args.taken book c.loop-sheet.number c.loop-sheet.taken first before)
    (ap sheets_view c.in-Some.ensures.cases.0) c.loop-sheet.invariant in
    let read = one_view (Ok c.in_ok-content.field-0) in
    let one : ReadsOne s.path c.loop-sheet.number (c.sheets-place.result + 1) c.loop-sheet.taken read before after =
    subst (λ p. ReadsOne p c.loop-sheet.number (c.sheets-place.result + 1) c.loop-sheet.taken read before after) c.as_str.ensures.value c.in_ok-content.ensures.read in
    stops_by c.from_residual-in_err-copy.result (Unread NoMemory) c.from_residual-in_err-copy.ensures.1 (λ r. ReadsBook all c.args.number c.args.taken r first after)
    (sheet_wanted all left s c.args.number c.args.taken book c.loop-sheet.number c.loop-sheet.taken first before after on one.bytes one.read)

pub add-requires : goal.add-requires
add-requires g c =
    let first : FilesAt = record { told = g.F.Files.told c.args.files.now; counts = g.F.Files.counts c.args.files.now } in
    let before : FilesAt = record { told = g.F.Files.told c.loop-sheet.files; counts = g.F.Files.counts c.loop-sheet.files } in
    let after : FilesAt = record { told = g.F.Files.told c.read_one.new.files; counts = g.F.Files.counts c.read_one.new.files } in
    let all = sheets_view c.args.sheets.now in
    let s = sheet_view c.in-Some.sheet.now in
    let left = sheets_view c.in-Some.rest.now in
    let book = c.loop-sheet.book in
    let on : BookGoesOn all (s ∷ left) c.args.number c.args.taken book c.loop-sheet.number c.loop-sheet.taken first before =
    subst (λ ss. BookGoesOn all ss c.args.number c.args.taken book c.loop-sheet.number c.loop-sheet.taken first before)
    (ap sheets_view c.in-Some.ensures.cases.0) c.loop-sheet.invariant in
    subst (λ name. IsNewName book name) (sym c.in_ok-copy.ensures)
    (next_is_new all left s c.args.number c.args.taken book c.loop-sheet.number c.loop-sheet.taken first before after on)

pub returns-in_err-add : goal.returns-in_err-add
returns-in_err-add g c =
    let first : FilesAt = record { told = g.F.Files.told c.args.files.now; counts = g.F.Files.counts c.args.files.now } in
    let before : FilesAt = record { told = g.F.Files.told c.loop-sheet.files; counts = g.F.Files.counts c.loop-sheet.files } in
    let after : FilesAt = record { told = g.F.Files.told c.read_one.new.files; counts = g.F.Files.counts c.read_one.new.files } in
    let all = sheets_view c.args.sheets.now in
    let s = sheet_view c.in-Some.sheet.now in
    let left = sheets_view c.in-Some.rest.now in
    let book = c.loop-sheet.book in
    let on : BookGoesOn all (s ∷ left) c.args.number c.args.taken book c.loop-sheet.number c.loop-sheet.taken first before =
    subst (λ ss. BookGoesOn all ss c.args.number c.args.taken book c.loop-sheet.number c.loop-sheet.taken first before)
    (ap sheets_view c.in-Some.ensures.cases.0) c.loop-sheet.invariant in
    let read = one_view (Ok c.in_ok-content.field-0) in
    let one : ReadsOne s.path c.loop-sheet.number (c.sheets-place.result + 1) c.loop-sheet.taken read before after =
    subst (λ p. ReadsOne p c.loop-sheet.number (c.sheets-place.result + 1) c.loop-sheet.taken read before after) c.as_str.ensures.value c.in_ok-content.ensures.read in
    stops_by c.from_residual-in_err-add.result (Unread NoMemory) c.from_residual-in_err-add.ensures.1 (λ r. ReadsBook all c.args.number c.args.taken r first after)
    (sheet_wanted all left s c.args.number c.args.taken book c.loop-sheet.number c.loop-sheet.taken first before after on one.bytes one.read)

pub loop-sheet-preserved : goal.loop-sheet-preserved
loop-sheet-preserved g c =
    let first : FilesAt = record { told = g.F.Files.told c.args.files.now; counts = g.F.Files.counts c.args.files.now } in
    let before : FilesAt = record { told = g.F.Files.told c.loop-sheet.files; counts = g.F.Files.counts c.loop-sheet.files } in
    let after : FilesAt = record { told = g.F.Files.told c.read_one.new.files; counts = g.F.Files.counts c.read_one.new.files } in
    let all = sheets_view c.args.sheets.now in
    let s = sheet_view c.in-Some.sheet.now in
    let left = sheets_view c.in-Some.rest.now in
    let book = c.loop-sheet.book in
    let content = c.in_ok-content.field-0.sheet in
    let size = c.in_ok-content.field-0.size in
    let on : BookGoesOn all (s ∷ left) c.args.number c.args.taken book c.loop-sheet.number c.loop-sheet.taken first before =
    subst (λ ss. BookGoesOn all ss c.args.number c.args.taken book c.loop-sheet.number c.loop-sheet.taken first before)
    (ap sheets_view c.in-Some.ensures.cases.0) c.loop-sheet.invariant in
    let one : ReadsOne s.path c.loop-sheet.number (length book + 1) c.loop-sheet.taken (Ok (size, content)) before after =
    subst (λ p. ReadsOne p c.loop-sheet.number (length book + 1) c.loop-sheet.taken (Ok (size, content)) before after) c.as_str.ensures.value
    (subst (λ k. ReadsOne c.as_str.result.now c.loop-sheet.number (k + 1) c.loop-sheet.taken (Ok (size, content)) before after) c.sheets-place.ensures c.in_ok-content.ensures.read) in
    let added : c.add.new.self ≡ book ++ record { name = s.name; content = content } ∷ [] =
    c.in_ok-add.ensures.ok ∙ ap (λ name. book ++ record { name = name; content = content } ∷ []) c.in_ok-copy.ensures in
    subst (λ (b : Sheets). BookGoesOn all left c.args.number c.args.taken b (c.loop-sheet.number + 1) (c.loop-sheet.taken + size) first after) (sym added)
    (sheet_added all left s c.args.number c.args.taken book c.loop-sheet.number c.loop-sheet.taken first before after on size content one c.in_ok-content.ensures.within)
