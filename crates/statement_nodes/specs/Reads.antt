-- Serves the code: the tests of a Case and the items of Debug.Print, pushed one after another.
use Rattle.std.specs.Prelude.{◌≡◌, ℕ, suc, Bool, true, List, [], ◌∷◌, Option, Some, is_some, option_map}
use Rattle.vba_tree.specs.Tree.{PrintItem}
use Rattle.bound_project.specs.Pieces.{Piece}
use Rattle.bound_project.specs.Drafts.{Drafted}
use Rattle.statement_nodes.specs.Actions.{OnlyPieces}

-- one more item: what it makes of those behind it, and the piece that says so
pub record ItemPushed (A : Type 0) (off : ℕ → List Piece → A → Option (A × List Piece)) (found rest : Option A) (d e : Drafted) : Type 0 where
  pub same : OnlyPieces d e
  pub piece : Piece
  pub make : A → A
  pub is : found ≡ option_map make rest
  pub on_top : e.pieces ≡ piece ∷ d.pieces
  pub taken : (n : ℕ) (st : List Piece) (a : A) → off (suc n) (piece ∷ st) a ≡ off n st (make a)

-- so many items: what they make of those that are still to come
pub record Read (A : Type 0) (off : ℕ → List Piece → A → Option (A × List Piece)) (all left : Option A) (count : ℕ) (d e : Drafted) : Type 0 where
  pub same : OnlyPieces d e
  pub make : A → A
  pub is : all ≡ option_map make left
  pub taken : (a : A) → off count e.pieces a ≡ Some (make a, d.pieces)

-- whether a line ends, where it does so far
abbrev pub ends_after : Bool → List PrintItem → Bool
ends_after ends [] = ends
ends_after ends (i ∷ is) = ends_after (is_some i.value) is
