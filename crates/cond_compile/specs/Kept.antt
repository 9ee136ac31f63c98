-- Lines of which some are left out.
use Rattle.std.specs.Prelude.{◌≡◌, ◌⊎◌, List, [], ◌∷◌}
use Rattle.vba_lexer.specs.Lexed.{LexedLine}

-- the kept lines are the lines, in order, with some left out
abbrev pub LeavesOut : List LexedLine → List LexedLine → Type 0
LeavesOut [] kept = kept ≡ []
LeavesOut (line ∷ lines) kept = LeavesOut lines kept ⊎ ((rest : List LexedLine) × (kept ≡ line ∷ rest) × LeavesOut lines rest)
