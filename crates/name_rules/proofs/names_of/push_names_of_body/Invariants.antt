use Rattle.std.proofs.Common.{◌≡◌, ◌++◌, drop, map}
use Rattle.std.specs.Prelude.{flat_map}
use Rattle.constant_values.specs.declared_names.specs.binder.specs.Declarations.{Local}
use Rattle.constant_values.specs.declared_names.specs.binder.specs.Said.{said_in_part}
use Rattle.constant_values.specs.declared_names.specs.module_parts.specs.View.{parts_view}
use Rattle.name_rules.specs.Naming.{declared_in}
use Rattle.name_rules.proofs.names_of.push_names_of_body.Given as goal

abbrev pub invariant-loop-part : goal.invariant-loop-part
invariant-loop-part l =
    map (λ x. x.now) l.names.items ++ map (λ (m : Local). m.name) (declared_in (flat_map (said_in_part l.is_static) (parts_view (drop l.part-index l.parts))))
    ≡ map (λ x. x.now) l.fn.names.items ++ map (λ (m : Local). m.name) (declared_in (flat_map (said_in_part l.is_static) (parts_view l.parts)))
