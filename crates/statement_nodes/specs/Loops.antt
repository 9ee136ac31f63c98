-- Serves the code: the nearest For and the With blocks that stand open, by their lines.
use Rattle.std.specs.Prelude.{ℕ, Option, Some, None}
use Rattle.vba_expression.specs.Tree.{Expr}
use Rattle.vba_tree.specs.Tree as tree
use Rattle.vba_tree.specs.Tree.{BlockLine}
use Rattle.vba_module.specs.Parts.{Part, statement}

-- the header of a For Each, by its line and number
abbrev pub line_each : BlockLine → (header : ℕ) → Option ℕ
line_each (tree.for_each for_word each_word x in_word group) header = Some header
line_each line header = None

abbrev pub each_at : Part → (header : ℕ) → Option ℕ
each_at (statement (tree.simple (tree.block_line (tree.for_each for_word each_word x in_word group)))) header = Some header
each_at part header = None

-- what a With block is over, by its line
abbrev pub line_object : BlockLine → Option Expr
line_object (tree.with_line with_word e) = Some e
line_object line = None
