use Rattle.std.proofs.Common.{◌≡◌, map, drop}
use Rattle.sheet_host.specs.Members.{first_named}
use Rattle.sheet_host.proofs.members.first_named.Given as goal

abbrev pub invariant-loop-own : goal.invariant-loop-own
invariant-loop-own l =
    first_named l.name (map (λ m. (m.0.now, m.1)) (drop l.own-index l.members)) ≡ first_named l.name (map (λ m. (m.0.now, m.1)) l.members)
