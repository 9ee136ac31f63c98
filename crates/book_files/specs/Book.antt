-- The book of a call: the sheets that its list names, read from their files in order.
use Rattle.std.specs.Prelude.{◌≡◌, ℕ, suc, ◌+◌, ◌≤◌, List, [], ◌∷◌, map, take, length, IfSome, Result, Ok, Err}
use Rattle.vba_base.specs.Answer.{◌>>=◌}
use Rattle.vba_base.specs.Map.{FileMap, bytes_of}
use Rattle.vba_base.specs.Outside.{Told}
use Rattle.sheet_host.specs.Books.{Sheets}
use Rattle.csv_book.specs.declared.fault.BookFault.{BookFault}
use Rattle.csv_book.specs.Reading.{sheet_of}
use Rattle.list_file.specs.declared.files.ReadStop.{ReadStop}
use Rattle.list_file.specs.declared.files.ReadStop.TheVariants as read
use Rattle.list_file.specs.Files.{FilesAt, ReadInOrder, file_of}
use Rattle.list_file.specs.Lists.{SheetAt}
use Rattle.book_files.specs.declared.stop.BookStop.{BookStop}
use Rattle.book_files.specs.declared.stop.BookStop.TheVariants as stop

-- the paths of sheets
abbrev pub sheet_paths : List SheetAt → List (List ℕ)
sheet_paths sheets = map (λ (s : SheetAt). s.path) sheets

-- a file that can't be read, and one that is no sheet, by the sheet's number
abbrev pub or_unread : {X : Type 0} → Result X ReadStop → Result X BookStop
or_unread (Ok x) = Ok x
or_unread (Err reason) = Err (stop.Unread reason)

abbrev pub or_bad : {X : Type 0} → (sheet : ℕ) → Result X BookFault → Result X BookStop
or_bad sheet (Ok x) = Ok x
or_bad sheet (Err fault) = Err (stop.BadSheet sheet fault)

-- the book of these sheets, of which the first is the file with this number, behind files of so many bytes together, and
-- the sheet with this number; or why it isn't read
abbrev pub book_from : FileMap → (number sheet taken : ℕ) → List SheetAt → Result Sheets BookStop
book_from files number sheet taken [] = Ok []
book_from files number sheet taken (s ∷ sheets) =
    or_unread (file_of number taken (bytes_of files s.path)) >>= λ bytes.
    or_bad sheet (sheet_of bytes) >>= λ content.
    book_from files (suc number) (suc sheet) (taken + length bytes) sheets >>= λ others.
    Ok (record { name = s.name; content = content } ∷ others)

-- the book of the sheets of a list, whose files begin with this number
abbrev pub book_of : FileMap → (number taken : ℕ) → List SheetAt → Result Sheets BookStop
book_of files number taken sheets = book_from files number 1 taken sheets

-- these files were read in order, all of them
pub record ReadsAll (names : List (List ℕ)) (number taken : ℕ) (old new : FilesAt) : Type 0 where
  pub files : List (List ℕ)
  pub read : ReadInOrder names number taken (Ok files) old new

-- the names that were read: all, those up to one that can't be read, or those up to the sheet that is told
abbrev pub ReadsFor : Result Sheets BookStop → (names : List (List ℕ)) → (number taken : ℕ) → FilesAt → FilesAt → Type 0
ReadsFor (Ok book) names number taken old new = ReadsAll names number taken old new
ReadsFor (Err (stop.Unread reason)) names number taken old new = ReadInOrder names number taken (Err reason) old new
ReadsFor (Err (stop.BadSheet sheet fault)) names number taken old new =
    (1 ≤ sheet) × (sheet ≤ length names) × ReadsAll (take sheet names) number taken old new

-- the outcome is the one that is meant, unless a read failed or memory ran out
abbrev pub IsMeant : Result Sheets BookStop → Result Sheets BookStop → Type 0
IsMeant (Ok book) meant = meant ≡ Ok book
IsMeant (Err (stop.Unread (read.Failed n))) meant = Unit {0}
IsMeant (Err (stop.Unread (read.TooLong n))) meant = meant ≡ Err (stop.Unread (read.TooLong n))
IsMeant (Err (stop.Unread read.NoMemory)) meant = Unit {0}
IsMeant (Err (stop.BadSheet sheet fault)) meant = meant ≡ Err (stop.BadSheet sheet fault)

-- sheets were read in order, the first of which has the file with this number, behind so many bytes, with this outcome
pub record ReadsBook (sheets : List SheetAt) (number taken : ℕ) (result : Result Sheets BookStop) (old new : FilesAt) : Type 0 where
  pub read : ReadsFor result (sheet_paths sheets) number taken old new
  -- where the files tell their map, the outcome is the one that it means
  pub meant : IfSome old.told (λ (told : Told). IsMeant result (book_of told.files number taken sheets))
