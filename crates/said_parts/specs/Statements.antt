-- Serves the code: what statements behind their colons say.
use Rattle.std.specs.Prelude.{Bool, List, [], ◌∷◌, ◌++◌}
use Rattle.vba_tree.specs.View.{Next, written, missing}
use Rattle.binder.specs.Said.{Said, said}

-- what stands behind one colon
abbrev pub next_said : Bool → Next → List Said
next_said static (written colon s) = said static s
next_said static (missing colon) = []

-- and behind several
abbrev pub all_next_said : Bool → List Next → List Said
all_next_said static [] = []
all_next_said static (next ∷ others) = next_said static next ++ all_next_said static others
