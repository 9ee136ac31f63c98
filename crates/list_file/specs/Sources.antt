-- Serves the code: what was read, without where it lies in memory.
use Rattle.std.specs.Prelude.{ℕ, ◌+◌, ◌≤◌, length, List, [], ◌∷◌, map, Result, Ok, Err, Vec}
use Rattle.std.specs.declared.alloc.Global.{Global}
use Rattle.list_file.specs.declared.files.ReadStop.{ReadStop}
use Rattle.list_file.specs.declared.bytes.FileBytes.{FileBytes}
use Rattle.list_file.specs.declared.bytes.ModuleBytes.{ModuleBytes}
use Rattle.list_file.specs.declared.list.ModulePath.{ModulePath}
use Rattle.list_file.specs.declared.list.SheetPath.{SheetPath}
use Rattle.list_file.specs.declared.list.ListFile.{ListFile}
use Rattle.list_file.specs.declared.plan.Plan.{Plan}
use Rattle.list_file.specs.declared.plan.Plan.TheVariants as plan
use Rattle.list_file.specs.Plans as plans
use Rattle.list_file.specs.Plans.{ModuleFile, paths_at}
use Rattle.list_file.specs.Lists.{ModuleAt, SheetAt, HaveNewNames}
use Rattle.list_file.specs.View.{module_view, sheet_view, start_view}

abbrev pub bytes_view : List ModuleBytes → List (List ℕ)
bytes_view files = map (λ (f : ModuleBytes). f.bytes.items) files

-- modules by what their files hold
abbrev pub file_view : ModuleBytes → ModuleFile
file_view f = record { is_class = f.is_class; bytes = f.bytes.items }

abbrev pub files_view : List ModuleBytes → List ModuleFile
files_view files = map file_view files

-- modules by their paths and kinds
abbrev pub modules_view : List ModulePath → List ModuleAt
modules_view modules = map module_view modules

abbrev pub paths_view : List ModulePath → List (List ℕ)
paths_view modules = paths_at (modules_view modules)

-- sheets by their names and paths
abbrev pub sheets_view : List SheetPath → List SheetAt
sheets_view sheets = map sheet_view sheets

-- one file, and several, or why reading stopped
abbrev pub outcome_of_one : Result FileBytes ReadStop → Result (List (List ℕ)) ReadStop
outcome_of_one (Ok file) = Ok (file.bytes.items ∷ [])
outcome_of_one (Err reason) = Err reason

abbrev pub outcome : Result (Vec ModuleBytes Global) ReadStop → Result (List (List ℕ)) ReadStop
outcome (Ok files) = Ok (bytes_view files.items)
outcome (Err reason) = Err reason

abbrev pub plan_view : Plan → plans.Plan
plan_view (plan.BadLine line) = plans.bad_line line
plan_view (plan.Project list) = plans.project_at (modules_view list.modules.items) (sheets_view list.sheets.items) (start_view list.startup)

-- the modules and sheets are so many as a text may list, and the sheets have different names
pub record IsListable (list : ListFile) : Type 0 where
  pub few : length list.modules.items + length list.sheets.items ≤ 67108865
  pub names : HaveNewNames [] (sheets_view list.sheets.items)

abbrev pub IsProper : Plan → Type 0
IsProper (plan.Project list) = IsListable list
IsProper other = Unit {0}
