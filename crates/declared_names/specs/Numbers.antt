-- Serves the code: which entries are counted.
use Rattle.std.specs.Prelude.{Bool}
use Rattle.binder.specs.Declarations.{Entry}
use Rattle.binder.specs.Storage.{is_procedure, is_variable}
use Rattle.binder.specs.Types.{is_type_entry}
use Rattle.declared_names.specs.declared.numbers.Counted.{Counted}
use Rattle.declared_names.specs.declared.numbers.Counted.TheVariants.{Types, Procedures, Variables}

-- whether an entry is counted
abbrev pub is_counted : Counted → Entry → Bool
is_counted Types = is_type_entry
is_counted Procedures = is_procedure
is_counted Variables = is_variable
