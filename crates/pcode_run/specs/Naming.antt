-- Serves the code: the names that a trace has.
use Rattle.pcode_run.specs.declared.texts.Names.{Names}
use Rattle.pcode_run.specs.Runs as plain

abbrev pub names_view : Names → plain.Names
names_view names = record { sheets = names.sheets.items; classes = names.classes.items }
