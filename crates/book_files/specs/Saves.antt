-- Saving a book: each of its sheets is written to its path with a suffix behind it, in order.
use Rattle.std.specs.Prelude.{◌≡◌, ◌≢◌, ℕ, suc, ◌<◌, List, [], ◌∷◌, ◌++◌, map, take, length, slice_get, Option, Some, None, IfSome, IsSomeAnd, Result, Ok, Err}
use Rattle.vba_base.specs.declared.outside.WriteAnswer.{WriteAnswer}
use Rattle.vba_base.specs.declared.outside.WriteAnswer.TheVariants as write
use Rattle.vba_base.specs.Causes.{Rose}
use Rattle.vba_base.specs.Map.{FileMap, bytes_of, with_bytes}
use Rattle.vba_base.specs.Outside.{Told, Counts}
use Rattle.sheet_host.specs.Books.{Sheets}
use Rattle.sheet_host.specs.Sheets.{SheetContent}
use Rattle.csv_book.specs.Writing.{text_of_sheet}
use Rattle.list_file.specs.Files.{FilesAt, ups}
use Rattle.list_file.specs.Lists.{SheetAt}

-- what writing answers
abbrev pub Written : Type 0
Written = Result (Unit {0}) WriteAnswer

-- a write: a name, and the bytes that it is to hold
pub record Save : Type 0 where
  pub name : List ℕ
  pub bytes : List ℕ

-- the save of a sheet: its path with the suffix behind it, and its file
abbrev pub save_of : (path suffix : List ℕ) → SheetContent → Save
save_of path suffix content = record { name = path ++ suffix; bytes = text_of_sheet content }

-- the saves of the sheets of a list, as they are in a book, in order
abbrev pub saves_of : (suffix : List ℕ) → List SheetAt → Sheets → List Save
saves_of suffix [] book = []
saves_of suffix (s ∷ sheets) [] = []
saves_of suffix (s ∷ sheets) (n ∷ book) = save_of s.path suffix n.content ∷ saves_of suffix sheets book

abbrev pub save_names : List Save → List (List ℕ)
save_names saves = map (λ (s : Save). s.name) saves

-- files to which these saves were written, in order
abbrev pub with_saves : FileMap → List Save → FileMap
with_saves files [] = files
with_saves files (s ∷ saves) = with_saves (with_bytes files s.name s.bytes) saves

-- so many of the saves were written: all, or those before one that wasn't
abbrev pub IsWritten : (all : ℕ) → Written → ℕ → Type 0
IsWritten all (Ok x) count = count ≡ all
IsWritten all (Err e) count = count < all

-- so many writes count, and one that failed; the count of faults rose with it alone
abbrev pub CountsSaves : Written → ℕ → Counts → Counts → Type 0
CountsSaves (Ok x) count old new = (new.writes ≡ ups count old.writes) × (new.write_faults ≡ old.write_faults)
CountsSaves (Err write.Failed) count old new = (new.writes ≡ ups (suc count) old.writes) × Rose old.write_faults new.write_faults
CountsSaves (Err write.NoMemory) count old new = new.write_faults ≡ old.write_faults

-- the names of so many saves were noted, and that of one that failed
abbrev pub NotesSaves : Written → ℕ → (names old new : List (List ℕ)) → Type 0
NotesSaves (Ok x) count names old new = new ≡ old ++ take count names
NotesSaves (Err write.Failed) count names old new = new ≡ old ++ take (suc count) names
NotesSaves (Err write.NoMemory) count names old new = new ≡ old ++ take count names

-- two maps hold the same but for one name
abbrev pub SameButFor : (name : List ℕ) → FileMap → FileMap → Type 0
SameButFor name old new = (other : List ℕ) → other ≢ name → bytes_of new other ≡ bytes_of old other

-- the files hold what so many saves wrote; after an error the bytes of the next one's name are open
abbrev pub HoldsSaves : Written → ℕ → List Save → FileMap → FileMap → Type 0
HoldsSaves (Ok x) count saves old new = new ≡ with_saves old (take count saves)
HoldsSaves (Err e) count saves old new = IfSome (slice_get saves count) (λ (s : Save). SameButFor s.name (with_saves old (take count saves)) new)

pub record SavedTo (saves : List Save) (result : Written) (count : ℕ) (old new : Told) : Type 0 where
  pub files : HoldsSaves result count saves old.files new.files
  pub names_read : new.names_read ≡ old.names_read
  pub names_written : NotesSaves result count (save_names saves) old.names_written new.names_written

-- what is told behind so many saves
abbrev pub TellsSaves : List Save → Written → ℕ → Option Told → Option Told → Type 0
TellsSaves saves result count None new = new ≡ None
TellsSaves saves result count (Some old) new = IsSomeAnd new (λ after. SavedTo saves result count old after)

-- these saves were written in order, with this outcome
pub record WritesSaves (saves : List Save) (result : Written) (old new : FilesAt) : Type 0 where
  pub count : ℕ
  pub is_count : IsWritten (length saves) result count
  pub counted : CountsSaves result count old.counts new.counts
  pub told : TellsSaves saves result count old.told new.told
  pub reads : new.counts.reads ≡ old.counts.reads
  pub read_faults : new.counts.read_faults ≡ old.counts.read_faults
  pub long_reads : new.counts.long_reads ≡ old.counts.long_reads
