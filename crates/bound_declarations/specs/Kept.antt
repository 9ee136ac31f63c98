-- Serves the code: where names of a procedure are kept.
use Rattle.std.specs.Prelude.{Bool}
use Rattle.constant_values.specs.declared_names.specs.binder.specs.Declarations.{Local}
use Rattle.constant_values.specs.declared_names.specs.binder.specs.Storage.{is_framed, is_static, is_parameter}
use Rattle.bound_declarations.specs.declared.kept.Kept.{Kept}
use Rattle.bound_declarations.specs.declared.kept.Kept.TheVariants as kept

-- whether a name is of these
abbrev pub is_kept : Kept → Local → Bool
is_kept kept.Framed = is_framed
is_kept kept.Static = is_static
is_kept kept.Parameters = is_parameter
