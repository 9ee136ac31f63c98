use Rattle.std.proofs.Common.{◌≡◌, ◌+◌, ◌≤◌, length, take}
use Rattle.std.specs.List.{suffix_len}
use Rattle.currency.specs.NumberText.{is_blank}
use Rattle.library_calls.proofs.texts.before_blanks.Given as goal

abbrev pub invariant-loop-count : goal.invariant-loop-count
invariant-loop-count l =
    (l.count ≤ length l.units) × (l.count + suffix_len is_blank l.units ≡ length l.units + suffix_len is_blank (take l.count l.units))

abbrev pub decreases-loop-count : goal.decreases-loop-count
decreases-loop-count l = l.count
