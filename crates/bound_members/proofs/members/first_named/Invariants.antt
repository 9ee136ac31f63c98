use Rattle.std.proofs.Common.{◌≡◌, map, drop}
use Rattle.bound_calls.specs.bound_forms.specs.Members.{listed_member}
use Rattle.bound_members.specs.Members.{entry_member}
use Rattle.bound_members.proofs.members.first_named.Given as goal

abbrev pub invariant-loop-own : goal.invariant-loop-own
invariant-loop-own l =
    listed_member (map (λ m. entry_member (m.0.now, m.1)) (drop l.own-index l.members)) l.name ≡ listed_member (map (λ m. entry_member (m.0.now, m.1)) l.members) l.name
