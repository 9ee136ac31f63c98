use Rattle.std.proofs.Common.{◌≡◌, map, drop}
use Rattle.binder.specs.Scopes.{member_among}
use Rattle.declared_names.specs.View.{entry_view}
use Rattle.declared_names.proofs.qualifiers.member_among.Given as goal

abbrev pub invariant-loop-number : goal.invariant-loop-number
invariant-loop-number l =
    member_among l.number (map entry_view (drop l.number l.entries)) l.name ≡ member_among l.start (map entry_view (drop l.start l.entries)) l.name
