-- Serves the code: what the steps of a command do: running a source, performing the command, and telling its status.
use Rattle.std.specs.Prelude.{◌≡◌, ℕ, ◌+◌, ◌≤◌, ◌<◌, ◌^◌, false, List, [], ◌∷◌, take, length, Option, Some, None, Result, Ok, Err, IfSome, ◌⊎◌}
use Rattle.vba_base.specs.Causes.{Rose, Adds, AddsPrefix}
use Rattle.vba_base.specs.Decode.{decoded}
use Rattle.vba_base.specs.Outside.{Told}
use Rattle.vba_base.specs.declared.outside.WriteAnswer.TheVariants as write
use Rattle.vba_base.specs.declared.place.Place.{Place}
use Rattle.sheet_host.specs.Books.{Sheets}
use Rattle.bound_project.specs.Project.{Project}
use Rattle.bound_forms.specs.Bind as bind
use Rattle.project_run.specs.pcode_run.specs.declared.texts.Shows.{Shows}
use Rattle.vba_cli.specs.declared.status.Status.{Status}
use Rattle.vba_cli.specs.declared.status.Status.TheVariants as status
use Rattle.vba_cli.specs.declared.sheets.ListedSheets.{ListedSheets}
use Rattle.command_words.specs.Words.{Command}
use Rattle.list_file.specs.declared.files.ReadStop.TheVariants as read
use Rattle.list_file.specs.Files.{FilesAt, ReadInOrder, call_limit}
use Rattle.list_file.specs.Lists.{HaveNewNames, ModuleAt, SheetAt, Start}
use Rattle.list_file.specs.Plans.{project_at, plan_of}
use Rattle.list_file.specs.Sources.{sheets_view}
use Rattle.book_files.specs.declared.stop.BookStop.{BookStop}
use Rattle.book_files.specs.Book.{ReadsAll, book_of, sheet_paths}
use Rattle.book_files.specs.Saves.{Save, WritesSaves, Written}
use Rattle.vba_cli.specs.Command.{ends_in_bas, path_in}
use Rattle.vba_cli.specs.Named.{Named}
use Rattle.vba_cli.specs.Answer.{Shown, err_of, shown_of_book, shown_of_command, shown_of_source, what_is_named}
use Rattle.vba_cli.specs.Contract.{IsAlone, IsNamed, TakesSome, UnlessUnwritten, World, book_paths, names_of, names_to, sheet_names}

-- ---- what is on `out`, and the counts of faults

-- no put and no write failed
pub record Unspoilt (old new : World) : Type 0 where
  pub out_faults : new.out_faults ≡ old.out_faults
  pub write_faults : new.counts.write_faults ≡ old.counts.write_faults

-- and nothing was put on `out`
pub record Untouched (old new : World) : Type 0 where
  pub unspoilt : Unspoilt old new
  pub out : new.out ≡ old.out

-- a step gave a status; a count of faults rose with WriteFault alone, and a refusal put nothing on `out`
abbrev pub Leaves : Status → World → World → Type 0
Leaves status.WriteFault old new = Rose old.out_faults new.out_faults ⊎ Rose old.counts.write_faults new.counts.write_faults
Leaves status.Usage old new = Untouched old new
Leaves (status.Refused refusal) old new = Untouched old new
Leaves (status.ReadFault number) old new = Untouched old new
Leaves (status.BadList line) old new = Untouched old new
Leaves (status.TooLong number) old new = Untouched old new
Leaves (status.BadBook sheet fault) old new = Untouched old new
Leaves (status.NotBuilt place) old new = Untouched old new
Leaves result old new = Unspoilt old new

-- the status is the one to be shown, and `out` took what was to be shown; after a fault or want of memory it took a prefix of that
abbrev pub Meets : Shown → Status → Option (List ℕ) → Option (List ℕ) → Type 0
Meets meant (status.ReadFault number) old new = new ≡ old
Meets meant status.WriteFault old new = AddsPrefix old new meant.out
Meets meant status.NoMemory old new = AddsPrefix old new meant.out
Meets meant result old new = (result ≡ meant.status) × Adds old new meant.out

-- ---- what was read and written

-- files with these names were read, the first of which has this number, up to where a status ended it: all of them, those up to one
-- that can't be read or that is no sheet, or none
abbrev pub ReadsTo : Status → (names : List (List ℕ)) → (number taken : ℕ) → FilesAt → FilesAt → Type 0
ReadsTo status.Usage names number taken old new = ⊥
ReadsTo (status.BadList line) names number taken old new = ⊥
ReadsTo (status.Refused refusal) names number taken old new = ReadsAll [] number taken old new
ReadsTo (status.NotBuilt place) names number taken old new = ReadsAll [] number taken old new
ReadsTo (status.ReadFault n) names number taken old new = ReadInOrder names number taken (Err (read.Failed n)) old new
ReadsTo (status.TooLong n) names number taken old new = ReadInOrder names number taken (Err (read.TooLong n)) old new
ReadsTo (status.BadBook sheet fault) names number taken old new = (1 ≤ sheet) × (sheet ≤ length names) × ReadsAll (take sheet names) number taken old new
ReadsTo status.NoMemory names number taken old new = ReadInOrder names number taken (Err read.NoMemory) old new
ReadsTo result names number taken old new = ReadsAll names number taken old new

-- saves were written with this outcome; where the files tell their map they are the ones that are meant
pub record Stores (meant : Told → List Save) (told : Option Told) (outcome : Written) (old new : FilesAt) : Type 0 where
  pub saves : List Save
  pub are_meant : IfSome told (λ t. saves ≡ meant t)
  pub written : WritesSaves saves outcome old new

-- what was written where a step gave a status
abbrev pub WritesFor : Status → (meant : Told → List Save) → Option Told → FilesAt → FilesAt → Type 0
WritesFor status.Ended meant told old new = Stores meant told (Ok tt) old new
WritesFor status.WriteFault meant told old new = (new ≡ old) ⊎ Stores meant told (Err write.Failed) old new
WritesFor status.NoMemory meant told old new = (new ≡ old) ⊎ Stores meant told (Err write.NoMemory) old new
WritesFor result meant told old new = new ≡ old

-- ---- running

-- the files of a world
abbrev pub files_in : World → FilesAt
files_in w = record { told = w.told; counts = w.counts }

-- a world with these files
abbrev pub with_files : World → FilesAt → World
with_files w files = record w { told = files.told; counts = files.counts }

-- the sheets of a list can be read: their files have numbers, and their names differ
pub record IsReadable (l : ListedSheets) : Type 0 where
  pub few : l.number + length l.sheets.now < 2 ^ 32
  pub within : l.taken ≤ call_limit
  pub names : HaveNewNames [] (sheets_view l.sheets.now)

-- a command that touches no file gave a status: a put failed with WriteFault alone, and a refusal put nothing on `out`
abbrev pub LeavesOut : Status → (old new : Option (List ℕ)) → (faults_old faults_new : ℕ) → Type 0
LeavesOut status.Ended old new faults_old faults_new = faults_new ≡ faults_old
LeavesOut status.WriteFault old new faults_old faults_new = Rose faults_old faults_new
LeavesOut status.NoMemory old new faults_old faults_new = faults_new ≡ faults_old
LeavesOut (status.Refused refusal) old new faults_old faults_new = (faults_new ≡ faults_old) × (new ≡ old)
LeavesOut (status.NotBuilt place) old new faults_old faults_new = (faults_new ≡ faults_old) × (new ≡ old)
LeavesOut result old new faults_old faults_new = ⊥

-- these bytes were put on `out`: all, unless that failed or memory ran out
abbrev pub PutsShown : List ℕ → Status → (old new : Option (List ℕ)) → (faults_old faults_new : ℕ) → Type 0
PutsShown shown status.Ended old new faults_old faults_new = (faults_new ≡ faults_old) × Adds old new shown
PutsShown shown status.WriteFault old new faults_old faults_new = Rose faults_old faults_new × AddsPrefix old new shown
PutsShown shown status.NoMemory old new faults_old faults_new = (faults_new ≡ faults_old) × AddsPrefix old new shown
PutsShown shown result old new faults_old faults_new = ⊥

-- such a command was performed, of which this is to be shown
pub record Ran (meant : Shown) (result : Status) (old new : Option (List ℕ)) (faults_old faults_new : ℕ) : Type 0 where
  pub leaves : LeavesOut result old new faults_old faults_new
  pub meets : Meets meant result old new

-- a source was checked or listed; what is shown of it saves nothing, whatever its sheets are
pub record RanAlone (command : Command) (program : (left : Option Place) → bind.Answer) (result : Status) (old new : Option (List ℕ)) (faults_old faults_new : ℕ) : Type 0 where
  pub left : Option Place
  pub shown : Shown
  pub is_shown : (sheets : List SheetAt) (book : Result Sheets BookStop) → shown_of_source command sheets book (program left) ≡ shown
  pub saves : shown.saves ≡ []
  pub none_read : (sheets : List SheetAt) → book_paths command sheets ≡ []
  pub ran : Ran shown result old new faults_old faults_new

-- the statuses that a run gives
abbrev pub IsOfRun : Status → Type 0
IsOfRun status.Ended = Unit {0}
IsOfRun (status.Faulted number place) = Unit {0}
IsOfRun (status.Stopped why place) = Unit {0}
IsOfRun status.Going = Unit {0}
IsOfRun status.WriteFault = Unit {0}
IsOfRun status.NoMemory = Unit {0}
IsOfRun result = ⊥

-- a project was run over a book, and its sheets were saved where that was asked
pub record RanOver (meant : Shown) (result : Status) (old new : World) : Type 0 where
  pub of_run : IsOfRun result
  pub leaves : Leaves result old new
  pub meets : Meets meant result old.out new.out
  pub written : WritesFor result (λ told. meant.saves) old.told (files_in old) (files_in new)

-- sheets were saved, or this wasn't asked
abbrev pub EndsSaved : List Save → Status → FilesAt → FilesAt → Type 0
EndsSaved saves status.Ended old new = WritesSaves saves (Ok tt) old new
EndsSaved saves status.WriteFault old new = WritesSaves saves (Err write.Failed) old new
EndsSaved saves status.NoMemory old new = WritesSaves saves (Err write.NoMemory) old new
EndsSaved saves result old new = ⊥

-- from behind the reading of sources the files with these names were read, and this was to be shown, by what the files tell
pub record Does (meant : Told → Shown) (names : List (List ℕ)) (number taken : ℕ) (result : Status) (old new : World) : Type 0 where
  pub leaves : Leaves result old new
  pub meets : IfSome old.told (λ told. Meets (meant told) result old.out new.out)
  pub mid : FilesAt
  pub read : ReadsTo result names number taken (files_in old) mid
  pub written : WritesFor result (λ told. (meant told).saves) old.told mid (files_in new)

-- a program was run, checked or listed, or a part of it isn't built yet; its list has these sheets, whose files begin with this number
pub record RanSources (command : Command) (sheets : List SheetAt) (number taken : ℕ) (program : (left : Option Place) → bind.Answer) (result : Status) (old new : World) : Type 0 where
  pub left : Option Place
  pub does :
      Does (λ told. shown_of_source command sheets (book_of told.files number taken sheets) (program left)) (book_paths command sheets) number taken result old new

-- a project was run over the sheets of its list
abbrev pub RanProject : (turns : ℕ) → Shows → (save : Option (List ℕ)) → List SheetAt → (number taken : ℕ) → Project → Status → World → World → Type 0
RanProject turns shows save sheets number taken pr result old new =
    Does (λ told. shown_of_book turns shows save sheets (book_of told.files number taken sheets) pr) (sheet_paths sheets) number taken result old new

-- ---- a command

-- the files that a command read, up to where a status ended it
abbrev pub ReadsFor : Option Command → Named → Status → FilesAt → FilesAt → Type 0
ReadsFor command l status.Usage old new = (command ≡ None) × (new ≡ old)
ReadsFor command l (status.ReadFault n) old new = ReadInOrder (names_of command l) 0 0 (Err (read.Failed n)) old new
ReadsFor command l (status.TooLong n) old new = ReadInOrder (names_of command l) 0 0 (Err (read.TooLong n)) old new
ReadsFor command l status.NoMemory old new = ReadInOrder (names_of command l) 0 0 (Err read.NoMemory) old new
ReadsFor command l (status.BadBook sheet fault) old new =
    (1 ≤ sheet) × (sheet ≤ length (sheet_names command l)) × ReadsAll (names_to command l (status.BadBook sheet fault)) 0 0 old new
ReadsFor command l result old new = ReadsAll (names_to command l result) 0 0 old new

-- a command, or none, was performed, up to the text on `err`; its list names these files
pub record Performs (command : Option Command) (l : Named) (result : Status) (old new : World) : Type 0 where
  pub left : Option Place
  pub leaves : Leaves result old new
  pub meets : IfSome old.told (λ told. Meets (shown_of_command left told.files command) result old.out new.out)
  pub alone : IsAlone command l
  pub listed : IfSome old.told (λ told. IsNamed result l (what_is_named told.files command))
  pub mid : FilesAt
  pub read : ReadsFor command l result (files_in old) mid
  pub written : WritesFor result (λ told. (shown_of_command left told.files command).saves) old.told mid (files_in new)
  pub usage : command ≡ None → UnlessUnwritten result status.Usage

-- a file with these bytes is a list of so many bytes, which has these modules, these sheets and this startup
pub record IsListOf (command : Command) (bytes : List ℕ) (taken : ℕ) (modules : List ModuleAt) (sheets : List SheetAt) (start : Start) : Type 0 where
  pub list : ends_in_bas (path_in command) ≡ false
  pub planned : plan_of (decoded bytes) ≡ project_at modules sheets start
  pub taken_is : taken ≡ length bytes

-- a command was performed from behind the reading of the file that it names, which has these bytes
abbrev pub GoesOn : Command → List ℕ → Named → Status → World → World → Type 0
GoesOn command bytes l result old new =
    (first : FilesAt) → ReadInOrder (path_in command ∷ []) 0 0 (Ok (bytes ∷ [])) first (files_in old)
    → Performs (Some command) l result (with_files old first) new

-- ---- telling

-- a line was put for a status: all of it was taken, the put failed, or memory ran out
abbrev pub Puts : List ℕ → Status → Status → Option (List ℕ) → Option (List ℕ) → ℕ → ℕ → Type 0
Puts line performed result old new faults_old faults_new =
    ((result ≡ performed) × (faults_new ≡ faults_old) × Adds old new line)
    ⊎ ((result ≡ status.WriteFault) × Rose faults_old faults_new × AddsPrefix old new line)
    ⊎ ((result ≡ status.NoMemory) × (faults_new ≡ faults_old) × AddsPrefix old new line)

-- the status of a command was told on `err`, which gave this status
abbrev pub Tells : Option Command → Named → Status → Status → Option (List ℕ) → Option (List ℕ) → ℕ → ℕ → Type 0
Tells command l performed status.WriteFault old new faults_old faults_new =
    ((performed ≡ status.WriteFault) × (faults_new ≡ faults_old) × Adds old new (err_of command l status.WriteFault))
    ⊎ (Rose faults_old faults_new × TakesSome command l old new)
Tells command l performed status.NoMemory old new faults_old faults_new = (faults_new ≡ faults_old) × TakesSome command l old new
Tells command l performed result old new faults_old faults_new =
    (result ≡ performed) × (faults_new ≡ faults_old) × Adds old new (err_of command l result)
