-- Serves the code: a procedure with the number of its entry.
use Rattle.std.specs.Prelude.{ℕ}
use Rattle.bound_members.specs.bound_calls.specs.bound_declarations.specs.constant_values.specs.declared_names.specs.binder.specs.Declarations as plain
use Rattle.bound_members.specs.bound_calls.specs.bound_declarations.specs.constant_values.specs.declared_names.specs.declared.entry.Written.{Written}
use Rattle.bound_members.specs.bound_calls.specs.bound_declarations.specs.constant_values.specs.declared_names.specs.View.{written_view}

abbrev pub row_view : ℕ × Written → ℕ × plain.Written
row_view f = (f.0, written_view f.1)
