use Rattle.std.proofs.Common.{◌≡◌, length}
use Rattle.std.specs.Prelude.{bytes_eq}
use Rattle.constant_values.specs.declared_names.specs.binder.specs.EventTables.{handler_name}
use Rattle.bound_declarations.proofs.handler_names.is_handler_name.Given as goal

abbrev pub invariant-loop-source : goal.invariant-loop-source
invariant-loop-source l = bytes_eq l.name (handler_name l.source l.event) ≡ bytes_eq l.fn.name (handler_name l.fn.source l.event)

abbrev pub decreases-loop-source : goal.decreases-loop-source
decreases-loop-source l = length l.source
