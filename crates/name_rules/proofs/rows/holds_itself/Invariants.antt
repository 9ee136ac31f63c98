use Rattle.std.proofs.Common.{◌≡◌, ◌+◌, [], ◌++◌, length, drop, take, map}
use Rattle.name_rules.specs.Rows.{row_of}
use Rattle.name_rules.proofs.rows.holds_itself.Given as goal

abbrev pub invariant-loop-round : goal.invariant-loop-round
invariant-loop-round l =
    l.row.items ≡ row_of l._round (map (λ v. v.items) l.types) l.number
