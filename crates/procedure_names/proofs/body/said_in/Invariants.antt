use Rattle.std.proofs.Common.{◌≡◌, ◌++◌, drop}
use Rattle.std.specs.Prelude.{flat_map}
use Rattle.declared_names.specs.module_parts.specs.View.{parts_view}
use Rattle.declared_names.specs.binder.specs.Said.{said_in_part}
use Rattle.said_parts.specs.View.{all_said}
use Rattle.procedure_names.proofs.body.said_in.Given as goal

abbrev pub invariant-loop-part : goal.invariant-loop-part
invariant-loop-part l =
    all_said l.said.items ++ flat_map (said_in_part l.is_static) (parts_view (drop l.part-index l.parts)) ≡ flat_map (said_in_part l.is_static) (parts_view l.parts)
