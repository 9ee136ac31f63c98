-- Reading a sheet, row after row.
use Rattle.std.proofs.Common.{◌≡◌, ℕ, ◌+◌, ◌<◌, List, [], ◌∷◌, drop, length, map, Option, Some, None, Ok, Err, refl, sym, ap, ap₂, ◌∙◌, arith}
use Rattle.std.specs.FinMap.{empty}
use Rattle.std.proofs.lemmas.Bool.Decides.{nat_tests}
use Rattle.csv.specs.Machine.{Read, next_record}
use Rattle.csv.specs.Reading.{default_config}
use Rattle.csv.specs.Writing.{read_back}
use Rattle.csv.specs.declared.parser.State.TheVariants as st
use Rattle.sheet_host.specs.Sheets.{SheetContent}
use Rattle.csv_book.specs.Reading.{Fields, Rows, fault_by, fault_of, row_of, sheet_of, text_of_bytes, unless, with_last_row}
use Rattle.csv_book.specs.Row.{HasTexts, ReadsRow}
use Rattle.csv_book.specs.Scan.{without_return}
use Rattle.csv_book.specs.declared.fault.BookFault.{BookFault}
use Rattle.csv_book.specs.declared.row.Row.{Row}
use Rattle.csv_book.proofs.Added.{added, after_added, after_none, after_refused, sheet_after}
use Rattle.csv_book.proofs.Records.{after_last, after_one, record_has_fields, records_after, same_after}
use Rattle.csv_book.proofs.RowBytes.{next_return}
use Rattle.csv_book.proofs.RowRead.{fault_known}

-- the sheet has the rows that were read, and these bytes have the others
pub record HasRead (bytes rest : List ℕ) (sheet : SheetContent) : Type 0 where
  pub unwritten : sheet.cells ≡ empty
  pub meant : sheet_of bytes ≡ sheet_after sheet.rows (records_after default_config st.StartRecord rest)

-- a row without a fault is added
its_texts : (rows : Rows) (fields : Fields) (sheet : SheetContent) → HasTexts rows fields sheet → read_back fields ≡ fields
    → fault_of (length rows + 1) fields ≡ None
    → with_last_row rows (row_of (length rows + 1) fields) ≡ Ok sheet
its_texts rows [] sheet texts some none = cc some
its_texts rows (field ∷ fields) sheet texts some none =
    ap (λ o. with_last_row rows (unless o (map text_of_bytes (field ∷ fields)))) none ∙ ap Ok (sym (texts none))

row_fits : (rows : Rows) (fields : Fields) → fault_of (length rows + 1) fields ≡ None → length rows < 1048576
row_fits rows fields none = grind (arith, nat_tests)

module _ (bytes rest : List ℕ) (sheet : SheetContent) (read : HasRead bytes rest sheet) where
  none_left : (o : Option Read) (row : Row) (after : SheetContent) → next_record default_config st.StartRecord [] [] rest ≡ o
      → ReadsRow sheet.rows rest o None row after → sheet_of bytes ≡ Ok after
  none_left None row after is reads =
      read.meant ∙ ap (sheet_after sheet.rows) (after_last default_config st.StartRecord rest is) ∙ after_none sheet.rows ∙ ap Ok (sym reads.1)
  none_left (Some next) row after is reads = cc reads.1

  -- there was no row left
  pub read_all : (row : Row) (after : SheetContent) → ReadsRow sheet.rows rest (next_record default_config st.StartRecord [] [] rest) None row after
      → sheet_of bytes ≡ Ok after
  read_all row after reads = none_left (next_record default_config st.StartRecord [] [] rest) row after refl reads

  row_refused : (o : Option Read) (count : ℕ) (row : Row) (after : SheetContent) (fault : BookFault) → next_record default_config st.StartRecord [] [] rest ≡ o
      → ReadsRow sheet.rows rest o (Some count) row after → fault_by row.number row.is_utf8 row.columns ≡ Some fault → sheet_of bytes ≡ Err fault
  row_refused None count row after fault is reads found = cc reads.0
  row_refused (Some next) count row after fault is reads found =
      let known = sym (fault_known sheet.rows next.0 row reads.5.counted) ∙ found in
      read.meant ∙ ap (sheet_after sheet.rows) (after_one default_config st.StartRecord rest next is)
      ∙ after_refused sheet.rows (records_after default_config next.1 next.2) next.0 fault
      (ap (λ o. with_last_row sheet.rows (unless o (map text_of_bytes next.0))) known)

  -- the next row has a fault
  pub read_refused : (count : ℕ) (row : Row) (after : SheetContent) (fault : BookFault)
      → ReadsRow sheet.rows rest (next_record default_config st.StartRecord [] [] rest) (Some count) row after
      → fault_by row.number row.is_utf8 row.columns ≡ Some fault → sheet_of bytes ≡ Err fault
  read_refused count row after fault reads found = row_refused (next_record default_config st.StartRecord [] [] rest) count row after fault refl reads found

  row_added : (o : Option Read) (count : ℕ) (row : Row) (after : SheetContent) → next_record default_config st.StartRecord [] [] rest ≡ o
      → ReadsRow sheet.rows rest o (Some count) row after → fault_by row.number row.is_utf8 row.columns ≡ None
      → HasRead bytes (drop count rest) after × (length sheet.rows < 1048576) × (length after.rows ≡ length sheet.rows + 1)
  row_added None count row after is reads none = cc reads.0
  row_added (Some next) count row after is reads none =
      let same : count ≡ reads.0 = cc reads.1 in
      let known = sym (fault_known sheet.rows next.0 row reads.5.counted) ∙ none in
      let texts = its_texts sheet.rows next.0 after reads.5.texts (record_has_fields default_config st.StartRecord [] [] rest next is) known in
      let more = added sheet.rows (row_of (length sheet.rows + 1) next.0) after texts in
      let later = same_after default_config next.1 (without_return next.1) next.2 (next_return next.1 [] [] next.2)
      ∙ ap₂ (records_after default_config) reads.4 (reads.3 ∙ ap (λ n. drop n rest) (sym same)) in (
        record {
          unwritten = more.0;
          meant = read.meant ∙ ap (sheet_after sheet.rows) (after_one default_config st.StartRecord rest next is)
              ∙ after_added sheet.rows (records_after default_config next.1 next.2) next.0 after texts ∙ ap (sheet_after after.rows) later;
        },
        row_fits sheet.rows next.0 known,
        more.1,
      )

  -- the next row was added
  pub read_added : (count : ℕ) (row : Row) (after : SheetContent)
      → ReadsRow sheet.rows rest (next_record default_config st.StartRecord [] [] rest) (Some count) row after
      → fault_by row.number row.is_utf8 row.columns ≡ None → HasRead bytes (drop count rest) after × (length sheet.rows < 1048576)
      × (length after.rows ≡ length sheet.rows + 1)
  read_added count row after reads none = row_added (next_record default_config st.StartRecord [] [] rest) count row after refl reads none
