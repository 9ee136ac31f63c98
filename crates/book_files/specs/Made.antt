-- Serves the code: what is written for a sheet, as the code holds it.
use Rattle.std.specs.Prelude.{string_bytes}
use Rattle.book_files.specs.declared.save.Made.{Made}
use Rattle.book_files.specs.Saves.{Save}

abbrev pub made_view : Made → Save
made_view m = record { name = string_bytes m.name; bytes = m.bytes.items }
