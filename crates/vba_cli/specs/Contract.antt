-- What `run_cli` promises.
use Rattle.std.specs.Prelude.{◌≡◌, ℕ, suc, ◌+◌, ◌<◌, true, List, [], ◌∷◌, ◌++◌, take, length, Option, Some, None, IfSome, IsSomeAnd, ◌⊎◌}
use Rattle.vba_base.specs.declared.place.Place.{Place}
use Rattle.vba_base.specs.Causes.{Rose, Adds, AddsPrefix}
use Rattle.vba_base.specs.Outside.{Told, Counts}
use Rattle.vba_cli.specs.declared.status.Status.{Status}
use Rattle.vba_cli.specs.declared.status.Status.TheVariants as status
use Rattle.command_words.specs.Words.{Command, run, check, code}
use Rattle.list_file.specs.Files.{ups}
use Rattle.list_file.specs.Lists.{SheetAt}
use Rattle.book_files.specs.Book.{sheet_paths}
use Rattle.book_files.specs.Saves.{HoldsSaves, IsWritten, NotesSaves, Save, Written, save_names, with_saves}
use Rattle.vba_cli.specs.Command.{command_in, ends_in_bas, path_in}
use Rattle.vba_cli.specs.Named.{Named, nothing_named}
use Rattle.vba_cli.specs.Answer.{Answer, answer, err_of, shown_of_command, what_is_named}

-- the number with which the program ends
abbrev pub code_of : Status → ℕ
code_of status.Ended = 0
code_of (status.Faulted number place) = 1
code_of status.Usage = 2
code_of (status.Refused refusal) = 3
code_of (status.Stopped why place) = 4
code_of status.Going = 5
code_of (status.ReadFault number) = 6
code_of status.WriteFault = 7
code_of (status.BadList line) = 8
code_of (status.TooLong number) = 9
code_of (status.BadBook sheet fault) = 10
code_of (status.NotBuilt place) = 69
code_of status.NoMemory = 70

-- the files and sinks of a call, as it begins or as it has returned
pub record World : Type 0 where
  pub told : Option Told
  pub counts : Counts
  pub out : Option (List ℕ)
  pub out_faults : ℕ
  pub err : Option (List ℕ)
  pub err_faults : ℕ

-- no count of faults rose
pub record NoneRose (old new : World) : Type 0 where
  pub read_faults : ¬ Rose old.counts.read_faults new.counts.read_faults
  pub write_faults : ¬ Rose old.counts.write_faults new.counts.write_faults
  pub out_faults : ¬ Rose old.out_faults new.out_faults
  pub err_faults : ¬ Rose old.err_faults new.err_faults

-- the status, the bytes added to `out` and `err`, and the files afterwards are those of an answer
pub record IsAnswer (meant : Answer) (result : Status) (old new : World) : Type 0 where
  pub status : result ≡ meant.status
  pub out : Adds old.out new.out meant.out
  pub err : Adds old.err new.err meant.err
  pub files : IsSomeAnd new.told (λ told. told.files ≡ meant.files)

-- the status is this one, unless reading or writing failed or memory ran out
abbrev pub UnlessFault : Status → Status → Type 0
UnlessFault (status.ReadFault number) meant = Unit {0}
UnlessFault status.WriteFault meant = Unit {0}
UnlessFault status.NoMemory meant = Unit {0}
UnlessFault result meant = result ≡ meant

-- the status is this one, unless writing failed or memory ran out
abbrev pub UnlessUnwritten : Status → Status → Type 0
UnlessUnwritten status.WriteFault meant = Unit {0}
UnlessUnwritten status.NoMemory meant = Unit {0}
UnlessUnwritten result meant = result ≡ meant

-- ---- reading

-- the names of the sources that a command reads, in order: the file that it names, and the modules of its list
abbrev pub source_names : Option Command → Named → List (List ℕ)
source_names None l = []
source_names (Some command) l = path_in command ∷ l.modules

-- behind them a run reads the files of its sheets
abbrev pub book_paths : Command → List SheetAt → List (List ℕ)
book_paths (run path turns trace save) sheets = sheet_paths sheets
book_paths (check path) sheets = []
book_paths (code path) sheets = []

abbrev pub sheet_names : Option Command → Named → List (List ℕ)
sheet_names None l = []
sheet_names (Some command) l = book_paths command l.sheets

-- the names that a command reads, in order
abbrev pub names_of : Option Command → Named → List (List ℕ)
names_of command l = source_names command l ++ sheet_names command l

-- those that a call reads which gives a status: up to the file that the status tells, or else up to the step that gives it
abbrev pub names_to : Option Command → Named → Status → List (List ℕ)
names_to command l (status.ReadFault number) = take (suc number) (names_of command l)
names_to command l (status.TooLong number) = take (suc number) (names_of command l)
names_to command l (status.BadBook sheet fault) = source_names command l ++ take sheet (sheet_names command l)
names_to command l (status.Refused refusal) = source_names command l
names_to command l (status.NotBuilt place) = source_names command l
names_to command l result = names_of command l

-- the names read in a call that gave a status; a part of the command's where memory ran out or writing failed
pub record ReadsSome (names old new : List (List ℕ)) : Type 0 where
  pub count : ℕ
  pub read : new ≡ old ++ take count names

abbrev pub NamesRead : Option Command → Named → Status → (old new : List (List ℕ)) → Type 0
NamesRead command l status.WriteFault old new = ReadsSome (names_of command l) old new
NamesRead command l status.NoMemory old new = ReadsSome (names_of command l) old new
NamesRead command l result old new = new ≡ old ++ names_to command l result

-- ---- writing

-- nothing was written
pub record WritesNone (old new : Told) : Type 0 where
  pub files : new.files ≡ old.files
  pub names_written : new.names_written ≡ old.names_written

-- these saves were written, in order
pub record WritesAll (saves : List Save) (old new : Told) : Type 0 where
  pub files : new.files ≡ with_saves old.files saves
  pub names_written : new.names_written ≡ old.names_written ++ save_names saves

-- these saves were written in order, or those before one that failed
pub record WritesUpTo (saves : List Save) (old new : Told) : Type 0 where
  pub outcome : Written
  pub count : ℕ
  pub is_count : IsWritten (length saves) outcome count
  pub files : HoldsSaves outcome count saves old.files new.files
  pub names_written : NotesSaves outcome count (save_names saves) old.names_written new.names_written

-- what was written in a call that gave a status, where these saves were asked for: all where the command came to its end; where
-- memory ran out or writing failed those before one, or nothing; and else nothing
abbrev pub FilesWritten : List Save → Status → (old new : Told) → Type 0
FilesWritten saves status.Ended old new = WritesAll saves old new
FilesWritten saves status.WriteFault old new = WritesNone old new ⊎ WritesUpTo saves old new
FilesWritten saves status.NoMemory old new = WritesNone old new ⊎ WritesUpTo saves old new
FilesWritten saves result old new = WritesNone old new

-- what a call does to files that tell themselves
pub record Touches (command : Option Command) (l : Named) (saves : List Save) (result : Status) (old new : Told) : Type 0 where
  pub read : NamesRead command l result old.names_read new.names_read
  pub written : FilesWritten saves result old new

-- how often files were written: never, unless the command came to its end, memory ran out or writing failed
abbrev pub CountsWrites : Status → Counts → Counts → Type 0
CountsWrites status.Ended old new = Unit {0}
CountsWrites status.WriteFault old new = Unit {0}
CountsWrites status.NoMemory old new = Unit {0}
CountsWrites result old new = new.writes ≡ old.writes

-- ---- statuses and their causes

-- the file with this number was the last that was read
abbrev pub IsLastRead : List (List ℕ) → ℕ → Counts → Counts → Type 0
IsLastRead names number old new = (number < length names) × (new.reads ≡ ups (suc number) old.reads)

-- why a status came: the words, a read that failed, a put or a write that failed, a file with too many bytes, a file that is no sheet
abbrev pub Cause : List (List ℕ) → Named → World → World → Status → Type 0
Cause words l old new status.Usage = command_in words ≡ None
Cause words l old new (status.ReadFault number) =
    IsLastRead (names_of (command_in words) l) number old.counts new.counts × Rose old.counts.read_faults new.counts.read_faults
Cause words l old new status.WriteFault =
    Rose old.out_faults new.out_faults ⊎ (Rose old.err_faults new.err_faults ⊎ Rose old.counts.write_faults new.counts.write_faults)
Cause words l old new (status.TooLong number) =
    IsLastRead (names_of (command_in words) l) number old.counts new.counts × Rose old.counts.long_reads new.counts.long_reads
Cause words l old new (status.BadBook sheet fault) = IsLastRead (names_of (command_in words) l) (length l.modules + sheet) old.counts new.counts
Cause words l old new result = Unit {0}

-- no count of faults changed
pub record Unfailed (old new : World) : Type 0 where
  pub read_faults : new.counts.read_faults ≡ old.counts.read_faults
  pub write_faults : new.counts.write_faults ≡ old.counts.write_faults
  pub out_faults : new.out_faults ≡ old.out_faults
  pub err_faults : new.err_faults ≡ old.err_faults

-- no count of faults but that of reads changed
pub record UnfailedWrites (old new : World) : Type 0 where
  pub write_faults : new.counts.write_faults ≡ old.counts.write_faults
  pub out_faults : new.out_faults ≡ old.out_faults
  pub err_faults : new.err_faults ≡ old.err_faults

-- no fault is passed over: a status that names none comes only where no count of faults changed, ReadFault only where none but that
-- of reads did
abbrev pub Noticed : World → World → Status → Type 0
Noticed old new (status.ReadFault number) = UnfailedWrites old new
Noticed old new status.WriteFault = Unit {0}
Noticed old new status.NoMemory = Unit {0}
Noticed old new result = Unfailed old new

-- after a refusal `out` has taken nothing
abbrev pub Quiet : World → World → Status → Type 0
Quiet old new status.Usage = new.out ≡ old.out
Quiet old new (status.Refused refusal) = new.out ≡ old.out
Quiet old new (status.ReadFault number) = new.out ≡ old.out
Quiet old new (status.BadList line) = new.out ≡ old.out
Quiet old new (status.TooLong number) = new.out ≡ old.out
Quiet old new (status.BadBook sheet fault) = new.out ≡ old.out
Quiet old new (status.NotBuilt place) = new.out ≡ old.out
Quiet old new result = Unit {0}

-- ---- lists and texts

-- what is named is what the list names; where reading or writing failed or memory ran out, the list may not have been read
abbrev pub IsNamed : Status → (l all : Named) → Type 0
IsNamed (status.ReadFault number) l all = (l ≡ nothing_named) ⊎ (l ≡ all)
IsNamed status.WriteFault l all = (l ≡ nothing_named) ⊎ (l ≡ all)
IsNamed status.NoMemory l all = (l ≡ nothing_named) ⊎ (l ≡ all)
IsNamed result l all = l ≡ all

-- a file that is one standard module names nothing
abbrev pub IsAlone : Option Command → Named → Type 0
IsAlone None l = l ≡ nothing_named
IsAlone (Some command) l = ends_in_bas (path_in command) ≡ true → l ≡ nothing_named

-- `err` took a prefix of the line of one status
pub record TakesSome (command : Option Command) (l : Named) (old new : Option (List ℕ)) : Type 0 where
  pub of_status : Status
  pub part : AddsPrefix old new (err_of command l of_status)

-- `err` took the line of the status; where its own count rose, or memory ran out, a prefix of the line of one status
abbrev pub Says : Option Command → Named → World → World → Status → Type 0
Says command l old new status.WriteFault =
    Adds old.err new.err (err_of command l status.WriteFault)
    ⊎ (Rose old.err_faults new.err_faults × TakesSome command l old.err new.err)
Says command l old new status.NoMemory = TakesSome command l old.err new.err
Says command l old new result = Adds old.err new.err (err_of command l result)

-- what a command does with these words, from a first world to a second
pub record Commands (words : List (List ℕ)) (result : Status) (old new : World) : Type 0 where
  -- Where a part of a module stands that isn't built yet, if any.
  pub left : Option Place
  -- What the list names that the words name: nothing where they name one standard module.
  pub named : Named
  pub alone : IsAlone (command_in words) named
  pub listed : IfSome old.told (λ told. IsNamed result named (what_is_named told.files (command_in words)))
  -- The headline: where the files tell their map, no count of faults rose, and memory didn't run out, the status, the bytes on
  -- `out` and `err`, and the files afterwards are those of the answer.
  pub answers : NoneRose old new → ¬ (result ≡ status.NoMemory) → IfSome old.told (λ told. IsAnswer (answer left words told.files) result old new)
  -- Where the files tell their map, the status is the answer's, unless a fault came.
  pub has_status : IfSome old.told (λ told. UnlessFault result (answer left words told.files).status)
  -- Where the files tell their map, `out` took a prefix of the answer's bytes, whatever came.
  pub part : IfSome old.told (λ told. AddsPrefix old.out new.out (answer left words told.files).out)
  -- Words that are no command give Usage; so with its cause Usage comes exactly there.
  pub usage : command_in words ≡ None → UnlessUnwritten result status.Usage
  pub cause : Cause words named old new result
  pub noticed : Noticed old new result
  pub quiet : Quiet old new result
  pub says : Says (command_in words) named old new result
  -- Nothing is written to files but the sheets of a run that came to its end.
  pub writes : CountsWrites result old.counts new.counts
  pub touches :
      IfSome old.told (λ before. IsSomeAnd new.told (λ after. Touches (command_in words) named (shown_of_command left before.files (command_in words)).saves result before after))
