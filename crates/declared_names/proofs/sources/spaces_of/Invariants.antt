use Rattle.std.proofs.Common.{◌≡◌, ◌++◌, drop, map}
use Rattle.binder.specs.Scopes.{spaces_from}
use Rattle.declared_names.specs.View.{source_view, space_view}
use Rattle.declared_names.proofs.sources.spaces_of.Given as goal

abbrev pub invariant-loop-number : goal.invariant-loop-number
invariant-loop-number l =
    map space_view l.spaces.items ++ spaces_from l.number (map source_view (drop l.number l.sources)) ≡ spaces_from 0 (map source_view l.sources)
