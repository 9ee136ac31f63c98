use Rattle.std.proofs.Common.{◌≡◌, ◌+◌, drop}
use Rattle.run_events.specs.Sought.{place_among}
use Rattle.run_events.proofs.links.place_of.Given as goal

abbrev pub invariant-loop-place : goal.invariant-loop-place
invariant-loop-place l = place_among l.number l.links ≡ l.place + place_among l.number (drop l.place l.links)
