-- Serves the code: the statements that stand behind colons.
use Rattle.std.specs.Prelude.{List, [], ◌∷◌}
use Rattle.vba_tree.specs.Tree.{Stmt}
use Rattle.vba_tree.specs.View.{Next, written, missing}

-- those that are written
abbrev pub written_in : List Next → List Stmt
written_in [] = []
written_in (written colon s ∷ others) = s ∷ written_in others
written_in (missing colon ∷ others) = written_in others
