-- What is answered of the lines of a module.
use Rattle.std.specs.Prelude.{◌≡◌, ℕ, Bool, List, [], ◌∷◌, Option, Some, None}
use Rattle.vba_base.specs.declared.fault.OrMemory.{OrMemory}
use Rattle.vba_base.specs.declared.fault.OrMemory.TheVariants.{Fault, NoMemory}
use Rattle.vba_base.specs.declared.place.Refusal.{Refusal}
use Rattle.vba_lexer.specs.Lexed.{LexedLine}
use Rattle.vba_words.specs.declared.reading.ReadToken.{ReadToken}
use Rattle.vba_words.specs.Readings.{read_line}
use Rattle.refusal_order.specs.Least.{least_of}
use Rattle.vba_module.specs.Parts.{parts_of_lines}
use Rattle.vba_module.specs.Tree.{Nodes, AreBracketed, parts_of_nodes}
use Rattle.vba_module.specs.Verdict.{trees_of, module_violations}

-- the tokens of the lines of a source as the grammar reads them
abbrev pub read_lexed : List ℕ → List LexedLine → List (List ReadToken)
read_lexed source [] = []
read_lexed source (line ∷ lines) = read_line source line.tokens ∷ read_lexed source lines

-- the least of the rules S10 to S14 that the lines of a module break, in a class or not
abbrev pub verdict : Bool → List (List ReadToken) → Option Refusal
verdict is_class lines = least_of None (module_violations is_class lines)

-- the lines break none of these rules, and the nodes bracket the parts of their trees
pub record IsModule (is_class : Bool) (lines : List (List ReadToken)) (nodes : Nodes) : Type 0 where
  pub unbroken : verdict is_class lines ≡ None
  pub bracketed : AreBracketed [] nodes
  pub same : parts_of_nodes nodes ≡ parts_of_lines (trees_of lines)

-- the refusal is the least that there is; want of memory says nothing of the lines
abbrev pub IsRefused : Bool → List (List ReadToken) → OrMemory Refusal → Type 0
IsRefused is_class lines (Fault refusal) = verdict is_class lines ≡ Some refusal
IsRefused is_class lines NoMemory = Unit {0}
