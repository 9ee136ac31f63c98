-- What a list file says as a whole, or the number of the first line that breaks it.
use Rattle.std.specs.Prelude.{◌≡◌, ℕ, suc, Bool, false, not, List, [], ◌∷◌, ◌++◌, Option, Some, None, bytes_eq, Result, Ok, Err, if◌then◌else◌}
use Rattle.std.specs.List.{list_any}
use Rattle.vba_base.specs.Fold.{folded}
use Rattle.vba_lexer.specs.Lines.{PhysicalLine, lines_of}
use Rattle.list_file.specs.Lines.{Entry, says_nothing, a_module, a_sheet, a_startup, no_entry, entry_of}

-- a module or class by its path, a sheet by its name and path
pub record ModuleAt : Type 0 where
  pub path : List ℕ
  pub is_class : Bool

pub record SheetAt : Type 0 where
  pub name : List ℕ
  pub path : List ℕ

-- the procedure that the run begins with, by the case folds of its module's name and its own
pub record Start : Type 0 where
  pub in_module : List ℕ
  pub procedure : List ℕ

pub record Listed : Type 0 where
  pub modules : List ModuleAt
  pub sheets : List SheetAt
  pub startup : Option Start

abbrev pub nothing_listed : Listed
nothing_listed = record { modules = []; sheets = []; startup = None }

-- names of sheets match without regard to case
abbrev pub is_listed : List ℕ → List SheetAt → Bool
is_listed name sheets = list_any (λ (s : SheetAt). bytes_eq (folded name) (folded s.name)) sheets

-- each of these sheets has a name that none before it has
abbrev pub HaveNewNames : (before sheets : List SheetAt) → Type 0
HaveNewNames before [] = Unit {0}
HaveNewNames before (s ∷ sheets) = (is_listed s.name before ≡ false) × HaveNewNames (before ++ s ∷ []) sheets

-- one line more; none where it says nothing that may stand there
abbrev pub with_entry : Listed → Entry → Option Listed
with_entry l says_nothing = Some l
with_entry l (a_module is_class path) = Some (record l { modules = l.modules ++ record { path = path; is_class = is_class } ∷ [] })
with_entry l (a_sheet name path) =
    if is_listed name l.sheets then None else Some (record l { sheets = l.sheets ++ record { name = name; path = path } ∷ [] })
with_entry l (a_startup in_module procedure) = at l.startup
  where
    at : Option Start → Option Listed
    at None = Some (record l { startup = Some (record { in_module = in_module; procedure = procedure }) })
    at (Some start) = None
with_entry l no_entry = None

-- what comes of a further line with this number, if it says what may stand there
abbrev pub listed_on : ℕ → Option Listed → (Listed → Result Listed ℕ) → Result Listed ℕ
listed_on number None go = Err number
listed_on number (Some l) go = go l

-- lines behind what was listed, the first of them with this number
abbrev pub listed_from : ℕ → Listed → List PhysicalLine → Result Listed ℕ
listed_from number l [] = Ok l
listed_from number l (line ∷ lines) = listed_on number (with_entry l (entry_of line.text)) (λ l1. listed_from (suc number) l1 lines)

-- a standard module
abbrev pub has_module : List ModuleAt → Bool
has_module modules = list_any (λ (m : ModuleAt). not m.is_class) modules

-- a whole list has a standard module and says where the run begins
abbrev pub whole_list : Result Listed ℕ → Result Listed ℕ
whole_list (Err number) = Err number
whole_list (Ok l) = at l.startup
  where
    at : Option Start → Result Listed ℕ
    at None = Err 0
    at (Some start) = if has_module l.modules then Ok l else Err 0

-- what a list file says, or the number of its first line that says nothing that may stand there; 0 where no line is
-- wrong but the list isn't whole
abbrev pub list_of : List ℕ → Result Listed ℕ
list_of text = whole_list (listed_from 1 nothing_listed (lines_of text))
