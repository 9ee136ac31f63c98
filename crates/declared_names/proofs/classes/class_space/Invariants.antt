use Rattle.std.proofs.Common.{◌≡◌, ◌&&◌, ◌==◌, map, drop, option_map}
use Rattle.binder.specs.Classes.{class_space, found_at}
use Rattle.binder.specs.Scopes.{Space, first_at}
use Rattle.binder.specs.Types.{class_number}
use Rattle.declared_names.specs.View.{space_view}
use Rattle.declared_names.proofs.classes.class_space.Given as goal

abbrev pub invariant-loop-space : goal.invariant-loop-space
invariant-loop-space l =
    option_map found_at
    (first_at (λ (o : Space). o.source.is_class && (class_number (map space_view l.spaces) o == l.number)) l.space-index (map space_view (drop l.space-index l.spaces)))
    ≡ class_space (map space_view l.spaces) l.number
