-- Serves the code: comparisons that never hold.
use Rattle.std.specs.Prelude.{false}
use Rattle.vba_values.specs.Val.{Val, boolean}

-- a truth becomes False
abbrev pub without_truth : Val → Val
without_truth (boolean b) = boolean false
without_truth v = v
