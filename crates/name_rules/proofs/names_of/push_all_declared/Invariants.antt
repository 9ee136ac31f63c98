use Rattle.std.proofs.Common.{◌≡◌, ◌++◌, drop, map}
use Rattle.constant_values.specs.declared_names.specs.binder.specs.Declarations.{Local}
use Rattle.name_rules.specs.Naming.{declared_in}
use Rattle.said_parts.specs.View.{all_said}
use Rattle.name_rules.proofs.names_of.push_all_declared.Given as goal

abbrev pub invariant-loop-one : goal.invariant-loop-one
invariant-loop-one l =
    map (λ x. x.now) l.names.items ++ map (λ (m : Local). m.name) (declared_in (all_said (drop l.one-index l.said)))
    ≡ map (λ x. x.now) l.fn.names.items ++ map (λ (m : Local). m.name) (declared_in (all_said l.said))
