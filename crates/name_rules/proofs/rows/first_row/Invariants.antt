use Rattle.std.proofs.Common.{◌≡◌, ◌+◌, [], ◌++◌, length, drop, take, map}
use Rattle.name_rules.specs.Rows.{row_of}
use Rattle.name_rules.proofs.rows.first_row.Given as goal

abbrev pub invariant-loop-held : goal.invariant-loop-held
invariant-loop-held l =
    l.row.items ++ row_of 0 (map (λ v. v.items) (drop l._held-index l.types)) l.to ≡ row_of 0 (map (λ v. v.items) l.types) l.to
