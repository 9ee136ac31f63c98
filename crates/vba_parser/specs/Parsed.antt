-- Serves the code: what is answered of a line by its tokens.
use Rattle.std.specs.Prelude.{◌≡◌, List, None}
use Rattle.vba_base.specs.declared.fault.OrMemory.{OrMemory}
use Rattle.vba_base.specs.declared.fault.OrMemory.TheVariants.{Fault, NoMemory}
use Rattle.vba_base.specs.declared.place.Refusal.{Refusal}
use Rattle.vba_words.specs.declared.reading.ReadToken.{ReadToken}
use Rattle.vba_tree.specs.Forms.{FormedLine}
use Rattle.vba_tree.specs.Spelling.{spell}
use Rattle.vba_tree.specs.Tree.{Line}
use Rattle.vba_grammar.specs.Lines.{line_of}
use Rattle.vba_module.specs.Outside.{form_of}
use Rattle.vba_module.specs.Verdict.{unread}

-- a line without a tree is refused by S13 or S10; want of memory says nothing of it
abbrev pub IsRefused : List ReadToken → OrMemory Refusal → Type 0
IsRefused tokens (Fault refusal) = (line_of tokens ≡ None) × (refusal ≡ unread tokens (form_of tokens))
IsRefused tokens NoMemory = Unit {0}

-- no tree of the grammar's form has these tokens, whether it fits or not
abbrev pub IsUnspelled : List ReadToken → Type 0
IsUnspelled tokens = (line : Line) → FormedLine line → spell line ≡ tokens → ⊥

-- a line is refused only where no tree has its tokens; want of memory says nothing of it
abbrev pub IsRefusedUnspelled : List ReadToken → OrMemory Refusal → Type 0
IsRefusedUnspelled tokens (Fault refusal) = IsUnspelled tokens
IsRefusedUnspelled tokens NoMemory = Unit {0}
