-- Which tree stands at the front of tokens.
use Rattle.std.specs.Prelude.{ℕ, ◌<◌, ◌≤◌, ◌≡◌, false, List, [], ◌∷◌, ◌++◌}
use Rattle.vba_words.specs.declared.reading.ReadToken.{ReadToken}
use Rattle.vba_expression.specs.declared.part.Part.{Part}
use Rattle.vba_expression.specs.declared.part.Part.TheVariants as part
use Rattle.vba_expression.specs.Tree.{Expr, Args}
use Rattle.vba_expression.specs.Spelling.{spell, spell_args}
use Rattle.vba_expression.specs.Fitting.{binary_level, level, is_lone, Fits, FitsArgs}
use Rattle.vba_expression.specs.Parts.{part_of}

-- an expression below this level doesn't go on with the token: no operator that is tighter, no `(`, no dot
abbrev pub StopsAt : ℕ → Part → Type 0
StopsAt limit (part.Operator operator) = limit ≤ binary_level operator
StopsAt limit part.LeftParenthesis = ⊥
StopsAt limit part.Dot = ⊥
StopsAt limit other = Unit {0}

-- an expression below this level doesn't go on with the tokens
abbrev pub Stops : ℕ → List ReadToken → Type 0
Stops limit [] = Unit {0}
Stops limit (t ∷ ts) = StopsAt limit (part_of t)

-- a fitting expression below this level is at the front of the tokens and doesn't go on with the rest
pub record Takes (limit : ℕ) (ts : List ReadToken) (e : Expr) (rest : List ReadToken) : Type 0 where
  pub same : ts ≡ spell e ++ rest
  pub under : level e < limit
  pub fits : Fits e
  pub stops : Stops limit rest

-- the token closes the arguments of a call statement: `)`, or none of an expression
abbrev pub ClosesAt : Part → Type 0
ClosesAt part.RightParenthesis = Unit {0}
ClosesAt part.Outside = Unit {0}
ClosesAt other = ⊥

-- the arguments of a call statement end before the tokens
abbrev pub Closes : List ReadToken → Type 0
Closes [] = Unit {0}
Closes (t ∷ ts) = ClosesAt (part_of t)

-- fitting arguments are at the front of the tokens, and aren't one missing argument alone
pub record TakesArgs (ts : List ReadToken) (arguments : Args) (rest : List ReadToken) : Type 0 where
  pub same : ts ≡ spell_args arguments ++ rest
  pub fits : FitsArgs arguments
  pub written : is_lone arguments ≡ false
