-- Serves the code: reading one sheet.
use Rattle.std.specs.Prelude.{◌≡◌, ℕ, List, [], ◌∷◌, length, Result, Ok, Err}
use Rattle.sheet_host.specs.Sheets.{SheetContent}
use Rattle.csv_book.specs.Reading.{sheet_of}
use Rattle.list_file.specs.declared.files.ReadStop.TheVariants as read
use Rattle.list_file.specs.Files.{FilesAt, ReadInOrder}
use Rattle.book_files.specs.declared.read.ReadSheet.{ReadSheet}
use Rattle.book_files.specs.declared.stop.BookStop.{BookStop}
use Rattle.book_files.specs.declared.stop.BookStop.TheVariants as stop

-- how many bytes the file has, and the sheet that it is
abbrev pub one_view : Result ReadSheet BookStop → Result (ℕ × SheetContent) BookStop
one_view (Ok read) = Ok (read.size, read.sheet)
one_view (Err reason) = Err reason

-- what these bytes are as a sheet at a place
abbrev pub IsSheetIn : (bytes : List ℕ) → (place : ℕ) → Result (ℕ × SheetContent) BookStop → Type 0
IsSheetIn bytes place (Ok read) = (read.0 ≡ length bytes) × (sheet_of bytes ≡ Ok read.1)
IsSheetIn bytes place (Err (stop.Unread (read.Failed n))) = ⊥
IsSheetIn bytes place (Err (stop.Unread (read.TooLong n))) = ⊥
IsSheetIn bytes place (Err (stop.Unread read.NoMemory)) = Unit {0}
IsSheetIn bytes place (Err (stop.BadSheet sheet fault)) = (sheet ≡ place) × (sheet_of bytes ≡ Err fault)

-- a file was read with these bytes, and they are this sheet, or none
pub record ReadsBytes (path : List ℕ) (number place taken : ℕ) (result : Result (ℕ × SheetContent) BookStop) (old new : FilesAt) : Type 0 where
  pub bytes : List ℕ
  pub read : ReadInOrder (path ∷ []) number taken (Ok (bytes ∷ [])) old new
  pub sheet : IsSheetIn bytes place result

-- a sheet was read, or its file can't be read
abbrev pub ReadsOne : (path : List ℕ) → (number place taken : ℕ) → Result (ℕ × SheetContent) BookStop → FilesAt → FilesAt → Type 0
ReadsOne path number place taken (Ok read) old new = ReadsBytes path number place taken (Ok read) old new
ReadsOne path number place taken (Err (stop.Unread reason)) old new = ReadInOrder (path ∷ []) number taken (Err reason) old new
ReadsOne path number place taken (Err (stop.BadSheet sheet fault)) old new = ReadsBytes path number place taken (Err (stop.BadSheet sheet fault)) old new
