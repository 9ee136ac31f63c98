use Rattle.std.proofs.Common.{◌≡◌, ◌++◌, drop, map}
use Rattle.module_parts.specs.View.{parts_view}
use Rattle.binder.specs.Declarations.{entries_in, in_module}
use Rattle.declared_names.specs.View.{entry_view}
use Rattle.declared_names.specs.Entries.{inside_view}
use Rattle.declared_names.proofs.entries.entries_of.Given as goal

abbrev pub invariant-loop-number : goal.invariant-loop-number
invariant-loop-number l =
    map entry_view l.entries.items ++ entries_in (inside_view l.inside) (parts_view (drop l.number l.parts.items)) ≡ entries_in in_module (parts_view l.parts.items)
