use Rattle.std.proofs.Common.{◌≡◌, ◌+◌, [], ◌++◌, length, drop, take, map}
use Rattle.name_rules.specs.Rows.{next_row}
use Rattle.name_rules.proofs.rows.next_row.Given as goal

abbrev pub invariant-loop-held : goal.invariant-loop-held
invariant-loop-held l =
    l.next.items ++ next_row (map (λ v. v.items) (drop l.held-index l.types)) l.to l.row ≡ next_row (map (λ v. v.items) l.types) l.to l.row
