-- Serves the code: how a reading goes on from a state.
use Rattle.std.specs.Prelude.{◌≡◌, ℕ, List, Option}
use Rattle.vba_lexer.specs.declared.token.Token.{Token}
use Rattle.cond_compile.specs.declared.frame.Frame.{Frame}
use Rattle.cond_compile.specs.declared.operand.Constant.{Constant}
use Rattle.cond_compile.specs.declared.reader.Advanced.{Advanced}
use Rattle.cond_compile.specs.declared.reader.Advanced.TheVariants.{On, Ended}
use Rattle.cond_compile.specs.Evaluation.{of_leaf, values}
use Rattle.cond_compile.specs.Expressions.{Leaf}
use Rattle.cond_compile.specs.Pieces.{Piece, pieces_behind}
use Rattle.cond_compile.specs.Reader.{Making, Reading, State, finish, reading_of, run, with_rest}
use Rattle.cond_compile.specs.Seen.{Outcome, constants_view, reading_view, state}

-- what is read from a state on
abbrev pub read_from : {A : Type 0} → Making A → (Leaf → A) → State A → List Piece → Option (A × List Piece)
read_from m l s ps = let r = run m l s ps in with_rest r.1 (finish m l r.0)

-- a reading goes on behind a token, or it ended
abbrev pub Advances : Reading Outcome → List Constant → List ℕ → Token → List Token → List Frame → Advanced → Type 0
Advances meant constants source token rest frames (On mode) =
    meant ≡ reading_of (read_from values (of_leaf (constants_view constants)) (state mode frames) (pieces_behind source token rest))
Advances meant constants source token rest frames (Ended reading) = meant ≡ reading_view reading
