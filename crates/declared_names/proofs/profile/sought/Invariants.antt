use Rattle.std.proofs.Common.{◌≡◌, map, length}
use Rattle.binder.specs.Types.{in_profile}
use Rattle.declared_names.specs.View.{type_meant_view}
use Rattle.declared_names.proofs.profile.sought.Given as goal

abbrev pub invariant-loop-table : goal.invariant-loop-table
invariant-loop-table l =
    in_profile (map (λ row. (row.0.now, type_meant_view row.1)) l.table) l.name ≡ in_profile (map (λ row. (row.0.now, type_meant_view row.1)) l.fn.table) l.name

abbrev pub decreases-loop-table : goal.decreases-loop-table
decreases-loop-table l = length l.table
