-- What the list of a command names: the modules of the project, and its sheets.
use Rattle.std.specs.Prelude.{ℕ, List, [], ◌++◌}
use Rattle.list_file.specs.Lists.{SheetAt}
use Rattle.list_file.specs.Plans.{Plan, paths_of, sheets_of}
use Rattle.book_files.specs.Book.{sheet_paths}

-- the paths of the modules, and the sheets
pub record Named : Type 0 where
  pub modules : List (List ℕ)
  pub sheets : List SheetAt

-- a file that is one standard module names nothing
abbrev pub nothing_named : Named
nothing_named = record { modules = []; sheets = [] }

-- what a list names that asks for this
abbrev pub named_by : Plan → Named
named_by plan = record { modules = paths_of plan; sheets = sheets_of plan }

-- the paths of all its files, in the order of their numbers from 1: the modules, and behind them the sheets
abbrev pub paths_named : Named → List (List ℕ)
paths_named l = l.modules ++ sheet_paths l.sheets
