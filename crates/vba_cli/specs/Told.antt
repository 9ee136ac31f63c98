-- Serves the code: what a list names, as the code holds it.
use Rattle.std.specs.Prelude.{List}
use Rattle.list_file.specs.declared.list.ModulePath.{ModulePath}
use Rattle.list_file.specs.declared.list.SheetPath.{SheetPath}
use Rattle.list_file.specs.Sources.{paths_view, sheets_view}
use Rattle.vba_cli.specs.Named.{Named}

abbrev pub named_of : List ModulePath → List SheetPath → Named
named_of modules sheets = record { modules = paths_view modules; sheets = sheets_view sheets }
