use Rattle.std.proofs.Common.{◌≡◌, ◌+◌, map, drop}
use Rattle.binder.specs.Types.{entries_before}
use Rattle.declared_names.specs.Numbers.{is_counted}
use Rattle.declared_names.specs.View.{space_view}
use Rattle.declared_names.proofs.numbers.entries_before.Given as goal

abbrev pub invariant-loop-space : goal.invariant-loop-space
invariant-loop-space l =
    l.before + entries_before (is_counted l.which) (map space_view (drop l.space-index l.spaces)) (space_view l.here) l.number
    ≡ entries_before (is_counted l.which) (map space_view l.spaces) (space_view l.here) l.number
