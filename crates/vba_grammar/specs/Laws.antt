-- The laws of reading: what is found is spelled there and fits, what fits is found, and what has a tree is not refused.
use Rattle.std.specs.Prelude.{◌≡◌, Bool, true, false, List, ◌++◌, Some, None}
use Rattle.vba_words.specs.declared.reading.ReadToken.{ReadToken}
use Rattle.vba_tree.specs.Tree.{Simple, block_line, if_line, Stmts, Line}
use Rattle.vba_tree.specs.Spelling.{spell_simple, spell_statements, spell}
use Rattle.vba_tree.specs.Forms.{Formed, FormedStatements, FormedLine}
use Rattle.vba_tree.specs.Fitting.{Chosen, ChosenStatements, IsReadAs}
use Rattle.vba_grammar.specs.Front.{Found, ends}
use Rattle.vba_grammar.specs.Statements.{simple_at}
use Rattle.vba_grammar.specs.Lists.{statements_of}
use Rattle.vba_grammar.specs.Lines.{line_of}

-- what is found at the front of tokens is spelled there, and is good
abbrev pub IsSound : {A : Type 0} → (A → List ReadToken) → (A → Type 0) → (List ReadToken → Found A) → Type 0
IsSound {A} spelled Good reader = (ts rest : List ReadToken) (a : A) → reader ts ≡ Some (a, rest) → (ts ≡ spelled a ++ rest) × Good a

-- what is spelled and good is found, where it doesn't go on with the rest
abbrev pub IsComplete : {A : Type 0} → (A → List ReadToken) → (A → Type 0) → (List ReadToken → Type 0) → (List ReadToken → Found A) → Type 0
IsComplete {A} spelled Good Ends reader = (a : A) (rest : List ReadToken) → Good a → Ends rest → reader (spelled a ++ rest) ≡ Some (a, rest)

-- the line of a block that begins with If
abbrev pub is_if_line : Simple → Bool
is_if_line (block_line (if_line if_word condition then_word)) = true
is_if_line _ = false

-- a statement ends before these tokens
abbrev pub Ends : List ReadToken → Type 0
Ends rest = ends rest ≡ true

-- a statement of the grammar's form, other than an If, for which the choices hold
pub record FitsSimple (s : Simple) : Type 0 where
  pub formed : Formed s
  pub chosen : Chosen s
  pub no_if : is_if_line s ≡ false

-- something is found, and this is left
abbrev pub IsFoundBefore : {A : Type 0} → List ReadToken → Found A → Type 0
IsFoundBefore rest None = ⊥
IsFoundBefore rest (Some found) = found.1 ≡ rest

-- the laws of reading a statement
pub record SimpleLaws : Type 0 where
  pub sound : IsSound spell_simple FitsSimple simple_at
  pub over : (ts rest : List ReadToken) (s : Simple) → simple_at ts ≡ Some (s, rest) → Ends rest
  pub complete : IsComplete spell_simple FitsSimple Ends simple_at
  -- where any statement of the form stands, one is found that ends at the same place
  pub found : (s : Simple) (rest : List ReadToken) → Formed s → is_if_line s ≡ false → Ends rest → IsFoundBefore rest (simple_at (spell_simple s ++ rest))

-- the laws of reading the statements of a line
pub record StatementsLaws : Type 0 where
  pub sound : (ts : List ReadToken) (ss : Stmts) → statements_of ts ≡ Some ss → (ts ≡ spell_statements ss) × FormedStatements ss × ChosenStatements ss
  pub complete : (ss : Stmts) → FormedStatements ss → ChosenStatements ss → statements_of (spell_statements ss) ≡ Some ss
  pub found : (ss : Stmts) → FormedStatements ss → statements_of (spell_statements ss) ≡ None → ⊥

-- the laws of reading a line
pub record LineLaws : Type 0 where
  -- the tree that is found has the line's tokens and fits
  pub sound : (ts : List ReadToken) (line : Line) → line_of ts ≡ Some line → IsReadAs ts line
  -- a tree that has the line's tokens and fits is found; so there is one
  pub complete : (ts : List ReadToken) (line : Line) → IsReadAs ts line → line_of ts ≡ Some line
  -- no tree is found only where no tree of the grammar's form has these tokens
  pub found : (line : Line) → FormedLine line → line_of (spell line) ≡ None → ⊥
