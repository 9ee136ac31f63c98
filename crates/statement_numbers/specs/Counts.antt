-- Serves the code: how many statements stand behind colons.
use Rattle.std.specs.Prelude.{ℕ, ◌+◌, List, [], ◌∷◌}
use Rattle.vba_tree.specs.View.{Next, written, missing}
use Rattle.binder.specs.Numbering.{count}

-- behind one
abbrev pub next_count : Next → ℕ
next_count (written colon s) = count s
next_count (missing colon) = 0

-- behind each of them
abbrev pub next_counts : List Next → ℕ
next_counts [] = 0
next_counts (next ∷ others) = next_count next + next_counts others
