-- The texts that are written on `err`.
use Rattle.std.specs.Prelude.{ℕ, zero, suc, ℤ, ◌==◌, List, [], ◌∷◌, ◌++◌, codes, option_map, slice_get, unwrap_or, if◌then◌else◌}
use Rattle.std.specs.Fmt.{decimal, signed_decimal}
use Rattle.vba_base.specs.Text.{encoded}
use Rattle.vba_base.specs.declared.place.Place.{Place}
use Rattle.csv_book.specs.declared.fault.BookFault.{BookFault}
use Rattle.csv_book.specs.declared.fault.BookFault.TheVariants.{NotUtf8, TooManyRows, TooManyColumns}
use Rattle.list_file.specs.Lists.{SheetAt}
use Rattle.vba_values.specs.Messages.{message_of}
use Rattle.vba_values.specs.declared.fault.OutKind.TheVariants as out
use Rattle.project_run.specs.pcode_vm.specs.declared.step.Why.{Why}
use Rattle.project_run.specs.pcode_vm.specs.declared.step.Why.TheVariants as why
use Rattle.vba_cli.specs.declared.status.Status.{Status}
use Rattle.vba_cli.specs.declared.status.Status.TheVariants as status
use Rattle.vba_cli.specs.Named.{Named, paths_named}

-- PATH:LINE:COLUMN
abbrev pub place_text : List ℕ → Place → List ℕ
place_text path place = path ++ codes ":" ++ decimal place.line ++ codes ":" ++ decimal place.column

-- the text of an error that left the startup macro
abbrev pub fault_text : List ℕ → ℤ → Place → List ℕ
fault_text path number place =
    codes "vbarun: fault " ++ signed_decimal number ++ codes " at " ++ place_text path place ++ codes ": " ++ message_of number

-- why a run was stopped
abbrev pub why_text : Why → List ℕ
why_text why.StopStatement = codes "Stop statement"
why_text (why.Outside out.DoubleResult) = codes "Double result"
why_text (why.Outside out.NumberText) = codes "number text"
why_text (why.Outside out.Elements) = codes "too many elements"
why_text (why.Outside out.Objects) = codes "too many objects"
why_text (why.Outside out.Cells) = codes "too many cells"
why_text (why.Outside out.TextLength) = codes "text too long"
why_text (why.Outside out.Links) = codes "too many links"

-- the text of a run that was stopped
abbrev pub stop_text : List ℕ → Why → Place → List ℕ
stop_text path why place = codes "vbarun: stopped: " ++ why_text why ++ codes " at " ++ place_text path place

-- the word of a rule that is built
unfoldable pub rule_word : ℕ → List ℕ
rule_word rule =
    if rule == 1 then codes "bad character"
    else if rule == 2 then codes "unclosed string"
    else if rule == 3 then codes "identifier too long"
    else if rule == 4 then codes "number out of range"
    else if rule == 5 then codes "Double literal"
    else if rule == 6 then codes "Date literal"
    else if rule == 7 then codes "directive form"
    else if rule == 8 then codes "unmatched directive"
    else if rule == 9 then codes "bad constant"
    else if rule == 10 then codes "no line tree"
    else if rule == 11 then codes "unmatched block"
    else if rule == 12 then codes "misplaced declaration"
    else if rule == 13 then codes "form outside the profile"
    else if rule == 14 then codes "header form"
    else if rule == 15 then codes "duplicate name"
    else if rule == 16 then codes "unknown type"
    else if rule == 17 then codes "unknown name"
    else if rule == 18 then codes "unknown label"
    else if rule == 19 then codes "duplicate label"
    else if rule == 20 then codes "bad constant expression"
    else if rule == 21 then codes "recursive type"
    else if rule == 22 then codes "bad WithEvents"
    else if rule == 23 then codes "outside type"
    else if rule == 24 then codes "Double result"
    else if rule == 25 then codes "argument count"
    else if rule == 26 then codes "ByRef type"
    else if rule == 27 then codes "not assignable"
    else if rule == 28 then codes "Set needed on a non-object"
    else if rule == 29 then codes "For control"
    else if rule == 30 then codes "array assignment"
    else if rule == 31 then codes "property signatures differ"
    else if rule == 32 then codes "event signature"
    else if rule == 33 then codes "startup"
    else if rule == 34 then codes "member unknown"
    else []

-- the text of a rule that the source breaks: SR at PATH:LINE:COLUMN: WORD
abbrev pub refusal_text : List ℕ → ℕ → Place → List ℕ
refusal_text path rule place =
    codes "vbarun: refused S" ++ decimal rule ++ codes " at " ++ place_text path place ++ codes ": " ++ rule_word rule

-- the path of a file by its number: 0 is the file that a command names, and behind it come those that its list names; a
-- file that is one standard module has its own path besides
abbrev pub path_at : List ℕ → List (List ℕ) → ℕ → List ℕ
path_at path others zero = path
path_at path others (suc number) = unwrap_or (slice_get others number) path

-- the name of a sheet by its number, from 1
abbrev pub sheet_name : List SheetAt → ℕ → List ℕ
sheet_name sheets zero = []
sheet_name sheets (suc number) = unwrap_or (option_map (λ (s : SheetAt). s.name) (slice_get sheets number)) []

-- why the file of a sheet is none
abbrev pub sheet_fault : BookFault → List ℕ
sheet_fault (NotUtf8 row) = codes "row " ++ decimal row ++ codes ": " ++ codes "not UTF-8"
sheet_fault TooManyRows = codes "too many rows"
sheet_fault (TooManyColumns row) = codes "row " ++ decimal row ++ codes ": " ++ codes "too many columns"

-- the text of a sheet whose file is none: sheet NAME: WHY
abbrev pub sheet_text : (name : List ℕ) → BookFault → List ℕ
sheet_text name fault = codes "vbarun: sheet " ++ encoded name ++ codes ": " ++ sheet_fault fault

-- the text of a status of a command that names the file with this path, whose list names these files, and which has this
-- bound on its turns
abbrev pub status_text : List ℕ → Named → ℕ → Status → List ℕ
status_text path l turns status.Ended = []
status_text path l turns (status.Faulted number place) = fault_text (path_at path (paths_named l) place.«module») number place
status_text path l turns status.Usage =
    codes "vbarun: usage: run [--turns N] [--trace] [--save SUFFIX] LIST, check LIST, code LIST, gen N"
status_text path l turns (status.Refused refusal) = refusal_text (path_at path (paths_named l) refusal.place.«module») refusal.rule refusal.place
status_text path l turns (status.Stopped why place) = stop_text (path_at path (paths_named l) place.«module») why place
status_text path l turns status.Going = codes "vbarun: going after " ++ decimal turns ++ codes " turns"
status_text path l turns (status.ReadFault number) = codes "vbarun: cannot read " ++ path_at path (paths_named l) number
status_text path l turns status.WriteFault = codes "vbarun: cannot write"
status_text path l turns (status.BadList line) = codes "vbarun: bad list line " ++ decimal line ++ codes " in " ++ path
status_text path l turns (status.TooLong number) = codes "vbarun: too long: " ++ path_at path (paths_named l) number
status_text path l turns (status.BadBook sheet fault) = sheet_text (sheet_name l.sheets sheet) fault
status_text path l turns (status.NotBuilt place) = codes "vbarun: not built at " ++ place_text (path_at path (paths_named l) place.«module») place
status_text path l turns status.NoMemory = codes "vbarun: out of memory"

-- what is written on `err`: the text and a line end, or nothing where there is no text
abbrev pub error_line : List ℕ → List ℕ
error_line [] = []
error_line (byte ∷ text) = byte ∷ (text ++ 10 ∷ [])
