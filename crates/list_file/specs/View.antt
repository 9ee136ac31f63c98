-- Serves the code: the plain list that a list file in memory stands for.
use Rattle.std.specs.Prelude.{map, Option, Some, None, string_bytes}
use Rattle.list_file.specs.declared.list.ModulePath.{ModulePath}
use Rattle.list_file.specs.declared.list.SheetPath.{SheetPath}
use Rattle.list_file.specs.declared.list.Startup.{Startup}
use Rattle.list_file.specs.declared.list.ListFile.{ListFile}
use Rattle.list_file.specs.declared.list.Partial.{Partial}
use Rattle.list_file.specs.declared.line.Entry.{Entry}
use Rattle.list_file.specs.declared.line.Entry.TheVariants as line
use Rattle.list_file.specs.Lines as lines
use Rattle.list_file.specs.Lists.{ModuleAt, SheetAt, Start, Listed}

abbrev pub module_view : ModulePath → ModuleAt
module_view m = record { path = string_bytes m.path; is_class = m.is_class }

abbrev pub sheet_view : SheetPath → SheetAt
sheet_view s = record { name = s.name; path = string_bytes s.path }

abbrev pub start_view : Startup → Start
start_view s = record { in_module = s.in_module; procedure = s.procedure }

abbrev pub partial_view : Partial → Listed
partial_view p = record { modules = map module_view p.modules.items; sheets = map sheet_view p.sheets.items; startup = option_view p.startup }
  where
    option_view : Option Startup → Option Start
    option_view None = None
    option_view (Some s) = Some (start_view s)

abbrev pub list_view : ListFile → Listed
list_view l = record { modules = map module_view l.modules.items; sheets = map sheet_view l.sheets.items; startup = Some (start_view l.startup) }

abbrev pub entry_view : Entry → lines.Entry
entry_view line.Nothing = lines.says_nothing
entry_view (line.Module path is_class) = lines.a_module is_class (string_bytes path)
entry_view (line.Sheet name path) = lines.a_sheet name (string_bytes path)
entry_view (line.Startup in_module procedure) = lines.a_startup in_module procedure
entry_view line.None = lines.no_entry
