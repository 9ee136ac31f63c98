-- What a list file asks for.
use Rattle.std.specs.Prelude.{ℕ, Bool, List, [], ◌∷◌, map, Option, Some, None, Result, Ok, Err}
use Rattle.list_file.specs.Lists.{ModuleAt, SheetAt, Start, Listed, list_of}

-- a line breaks the list; or modules and sheets, both in their order, with the procedure that the run begins with
pub data Plan : Type 0 where
  bad_line : (line : ℕ) → Plan
  project_at : (modules : List ModuleAt) → (sheets : List SheetAt) → Start → Plan

abbrev pub started : Listed → Option Start → Plan
started l None = bad_line 0
started l (Some start) = project_at l.modules l.sheets start

abbrev pub planned : Result Listed ℕ → Plan
planned (Err line) = bad_line line
planned (Ok l) = started l l.startup

-- what a list with this text asks for
abbrev pub plan_of : List ℕ → Plan
plan_of text = planned (list_of text)

-- the paths of modules
abbrev pub paths_at : List ModuleAt → List (List ℕ)
paths_at modules = map (λ (m : ModuleAt). m.path) modules

-- the paths of the modules that it names, and its sheets
abbrev pub paths_of : Plan → List (List ℕ)
paths_of (project_at modules sheets start) = paths_at modules
paths_of other = []

abbrev pub sheets_of : Plan → List SheetAt
sheets_of (project_at modules sheets start) = sheets
sheets_of other = []

-- a module by what its file holds
pub record ModuleFile : Type 0 where
  pub is_class : Bool
  pub bytes : List ℕ

-- the modules of a list by what their files hold, in its order
abbrev pub module_files : List ModuleAt → List (List ℕ) → List ModuleFile
module_files (m ∷ modules) (bytes ∷ files) = record { is_class = m.is_class; bytes = bytes } ∷ module_files modules files
module_files modules files = []
