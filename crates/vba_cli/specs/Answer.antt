-- The answer to a command: a function of its words and of what the files hold, but for what isn't built yet.
use Rattle.std.specs.Prelude.{ℕ, suc, ◌+◌, Bool, true, false, List, [], ◌∷◌, ◌++◌, length, codes, Option, Some, None, Result, Ok, Err, if◌then◌else◌}
use Rattle.vba_base.specs.Decode.{decoded}
use Rattle.vba_base.specs.declared.place.Place.{Place}
use Rattle.vba_base.specs.Map.{FileMap, bytes_of}
use Rattle.sheet_host.specs.Books.{Sheets}
use Rattle.bound_project.specs.Project.{Project}
use Rattle.bound_forms.specs.Bind as bind
use Rattle.project_run.specs.pcode.specs.Layout.{code_of}
use Rattle.code_listing.specs.Listing.{listing_of}
use Rattle.project_run.specs.pcode_run.specs.declared.texts.Shows.{Shows}
use Rattle.project_run.specs.pcode_run.specs.declared.texts.Shows.TheVariants.{Plain, Trace}
use Rattle.project_run.specs.declared.outcome.Outcome.{Outcome}
use Rattle.project_run.specs.declared.outcome.Outcome.TheVariants as outcome
use Rattle.project_run.specs.Meant.{meant_book, meant_outcome, meant_text}
use Rattle.vba_cli.specs.declared.status.Status.{Status}
use Rattle.vba_cli.specs.declared.status.Status.TheVariants as status
use Rattle.command_words.specs.Words.{Command, run, check, code}
use Rattle.list_file.specs.declared.files.ReadStop.{ReadStop}
use Rattle.list_file.specs.declared.files.ReadStop.TheVariants as read_stop
use Rattle.list_file.specs.Files.{file_of, files_of, total}
use Rattle.list_file.specs.Lists.{ModuleAt, SheetAt, Start}
use Rattle.list_file.specs.Plans.{ModuleFile, Plan, bad_line, module_files, paths_at, plan_of, project_at}
use Rattle.book_files.specs.declared.stop.BookStop.{BookStop}
use Rattle.book_files.specs.declared.stop.BookStop.TheVariants as book_stop
use Rattle.book_files.specs.Book.{book_of}
use Rattle.book_files.specs.Saves.{Save, saves_of, with_saves}
use Rattle.vba_cli.specs.Command.{command_in, ends_in_bas, path_in, turns_in}
use Rattle.vba_cli.specs.Named.{Named, named_by, nothing_named}
use Rattle.vba_cli.specs.Program.{program_of}
use Rattle.vba_cli.specs.Messages.{status_text, error_line}

-- a status, the bytes on `out`, and what is written to files
pub record Shown : Type 0 where
  pub status : Status
  pub out : List ℕ
  pub saves : List Save

-- the status, the bytes on `out` and on `err`, and the files afterwards
pub record Answer : Type 0 where
  pub status : Status
  pub out : List ℕ
  pub err : List ℕ
  pub files : FileMap

-- the path of the file that a command names, and the bound on turns
abbrev pub path_of : Option Command → List ℕ
path_of None = []
path_of (Some command) = path_in command

abbrev pub turns_of : Option Command → ℕ
turns_of None = 0
turns_of (Some command) = turns_in command

-- what is written on `err` for the status of a command, where its list names these files
abbrev pub err_of : Option Command → Named → Status → List ℕ
err_of command l status = error_line (status_text (path_of command) l (turns_of command) status)

-- the status of a run that ended so
abbrev pub status_of : Outcome → Status
status_of outcome.Ended = status.Ended
status_of (outcome.Faulted number place) = status.Faulted number place
status_of (outcome.Stopped why place) = status.Stopped why place
status_of outcome.Going = status.Going

-- a refusal shows nothing on `out` and writes nothing
abbrev pub refused : Status → Shown
refused status = record { status = status; out = []; saves = [] }

-- whether a run shows what it prints alone, or is traced
abbrev pub shows_of : (trace : Bool) → Shows
shows_of false = Plain
shows_of true = Trace

-- what a run saves that ended so and left this book: its sheets, where it came to its end and a suffix is given
abbrev pub saved_by : (save : Option (List ℕ)) → Outcome → List SheetAt → Sheets → List Save
saved_by None ending sheets book = []
saved_by (Some suffix) outcome.Ended sheets book = saves_of suffix sheets book
saved_by (Some suffix) ending sheets book = []

-- a run shows how it ends and what it prints, or its trace, as its project means over this book with this bound on turns
abbrev pub shown_of_run : (turns : ℕ) → Shows → (save : Option (List ℕ)) → List SheetAt → Sheets → Project → Shown
shown_of_run turns shows save sheets book pr = record {
  status = status_of (meant_outcome pr book turns);
  out = meant_text pr book turns shows;
  saves = saved_by save (meant_outcome pr book turns) sheets (meant_book pr book turns);
}

-- the status where a file can't be read, or has more bytes than it may
abbrev pub unread : ReadStop → Status
unread (read_stop.Failed number) = status.ReadFault number
unread (read_stop.TooLong number) = status.TooLong number
unread read_stop.NoMemory = status.NoMemory

-- the status where the file of a sheet can't be read, or is no sheet
abbrev pub no_book : BookStop → Status
no_book (book_stop.Unread reason) = unread reason
no_book (book_stop.BadSheet sheet fault) = status.BadBook sheet fault

-- a run wants its sheets first
abbrev pub shown_of_book : (turns : ℕ) → Shows → (save : Option (List ℕ)) → List SheetAt → Result Sheets BookStop → Project → Shown
shown_of_book turns shows save sheets (Err reason) pr = refused (no_book reason)
shown_of_book turns shows save sheets (Ok book) pr = shown_of_run turns shows save sheets book pr

-- a source that breaks a rule is refused; where a part isn't built yet, that alone is told; any other shows what its project does
abbrev pub shown_of_program : (Project → Shown) → bind.Answer → Shown
shown_of_program shown (bind.refused refusal) = refused (status.Refused refusal)
shown_of_program shown (bind.not_built_at place) = refused (status.NotBuilt place)
shown_of_program shown (bind.bound_as pr) = shown pr

-- a check shows `ok` and a line end where no rule is broken
abbrev pub all_right : Shown
all_right = record { status = status.Ended; out = codes "ok" ++ 10 ∷ []; saves = [] }

abbrev pub shown_of_check : bind.Answer → Shown
shown_of_check (bind.refused refusal) = refused (status.Refused refusal)
shown_of_check answer = all_right

-- the listing of a project's code
abbrev pub shown_of_code : Project → Shown
shown_of_code pr = record { status = status.Ended; out = listing_of (code_of pr); saves = [] }

-- what a command shows of sources, where its list names these sheets, and this comes of reading them
abbrev pub shown_of_source : Command → List SheetAt → Result Sheets BookStop → bind.Answer → Shown
shown_of_source (run path turns trace save) sheets book answer = shown_of_program (shown_of_book turns (shows_of trace) save sheets book) answer
shown_of_source (check path) sheets book answer = shown_of_check answer
shown_of_source (code path) sheets book answer = shown_of_program shown_of_code answer

-- what a command shows of the files of the modules of its list, with its sheets and its startup, where the list has so
-- many bytes
abbrev pub shown_of_files : (left : Option Place) → Command → FileMap → (taken : ℕ) → List ModuleAt → List SheetAt → Start → Result (List (List ℕ)) ReadStop → Shown
shown_of_files left command files taken modules sheets start (Err reason) = refused (unread reason)
shown_of_files left command files taken modules sheets start (Ok sources) =
    shown_of_source command sheets (book_of files (suc (length sources)) (taken + total sources) sheets) (program_of (Some start) (module_files modules sources) left)

-- what a command shows of its list, which has so many bytes
abbrev pub shown_of_plan : (left : Option Place) → Command → FileMap → (taken : ℕ) → Plan → Shown
shown_of_plan left command files taken (bad_line line) = refused (status.BadList line)
shown_of_plan left command files taken (project_at modules sheets start) =
    shown_of_files left command files taken modules sheets start (files_of files 1 taken (paths_at modules))

-- a standard module
abbrev pub standard_module : List ℕ → ModuleFile
standard_module bytes = record { is_class = false; bytes = bytes }

-- the file that a command names: one standard module, or a list
abbrev pub shown_of_bytes : (left : Option Place) → Command → FileMap → List ℕ → Shown
shown_of_bytes left command files bytes =
    if ends_in_bas (path_in command) then shown_of_source command [] (Ok []) (program_of None (standard_module bytes ∷ []) left)
    else shown_of_plan left command files (length bytes) (plan_of (decoded bytes))

abbrev pub shown_of_first : (left : Option Place) → Command → FileMap → Result (List ℕ) ReadStop → Shown
shown_of_first left command files (Err reason) = refused (unread reason)
shown_of_first left command files (Ok bytes) = shown_of_bytes left command files bytes

-- that file, by what its name holds
abbrev pub first_file : FileMap → Command → Result (List ℕ) ReadStop
first_file files command = file_of 0 0 (bytes_of files (path_in command))

-- words that name no command are answered by the usage
abbrev pub shown_of_command : (left : Option Place) → FileMap → Option Command → Shown
shown_of_command left files None = refused status.Usage
shown_of_command left files (Some command) = shown_of_first left command files (first_file files command)

-- what the list of a command names, where it has one
abbrev pub named_in : Command → Result (List ℕ) ReadStop → Named
named_in command (Err reason) = nothing_named
named_in command (Ok bytes) = if ends_in_bas (path_in command) then nothing_named else named_by (plan_of (decoded bytes))

abbrev pub what_is_named : FileMap → Option Command → Named
what_is_named files None = nothing_named
what_is_named files (Some command) = named_in command (first_file files command)

-- what is shown, with its text on `err`, and the files with what is written to them
abbrev pub answer_with : Option Command → FileMap → Shown → Answer
answer_with command files shown = record {
  status = shown.status;
  out = shown.out;
  err = err_of command (what_is_named files command) shown.status;
  files = with_saves files shown.saves;
}

-- the answer to these words. Which forms vbarun builds grows from version to version and isn't told here: `left` is the place of a part
-- of a module that it doesn't build yet, or none where it builds all
abbrev pub answer : (left : Option Place) → List (List ℕ) → FileMap → Answer
answer left words files = answer_with (command_in words) files (shown_of_command left files (command_in words))
