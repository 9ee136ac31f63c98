use Rattle.std.proofs.Common.{◌≡◌, ◌+◌, [], ◌++◌, length, drop, take, map}
use Rattle.std.specs.Prelude.{◌==◌, ◌||◌}
use Rattle.std.specs.List.{list_any}
use Rattle.name_rules.specs.Rows.{told}
use Rattle.name_rules.proofs.rows.leads_by.Given as goal

abbrev pub invariant-loop-number : goal.invariant-loop-number
invariant-loop-number l =
    list_any (λ n. (n == l.to) || told l.row n) (drop l.number-index l.held) ≡ list_any (λ n. (n == l.to) || told l.row n) l.held
