-- A turn and an Else line by what their tokens are between statements.
use Rattle.std.proofs.Common.{◌≡◌, Bool, List, ◌∷◌, refl}
use Rattle.std.specs.Prelude.{not, if◌then◌else◌}
use Rattle.vba_lexer.specs.declared.token.Token.{Token}
use Rattle.vba_words.specs.declared.keyword.Keyword.TheVariants as keyword
use Rattle.vba_words.specs.declared.mark.Mark.TheVariants as mark
use Rattle.vba_words.specs.declared.reading.Reading.{Reading}
use Rattle.vba_words.specs.declared.reading.Reading.TheVariants as reading
use Rattle.vba_words.specs.declared.reading.ReadToken.{ReadToken}
use Rattle.vba_words.specs.Spelling.{read}
use Rattle.vba_tree.specs.Tree.{Stmts}
use Rattle.vba_grammar.specs.Lists.{Where, at_line, in_list, behind, Frame, State, need, got, is_else_line, needed, had, turn}
use Rattle.vba_parser.specs.Turns.{cut_of, cut_at, turn_by}

needed_cut : (place : Where) (fs : List Frame) (t : Token) (ts : List ReadToken) (r : Reading)
    → needed place fs (read t r) ts r ≡ turn_by (cut_of r) (need place fs) (read t r ∷ ts)
needed_cut at_line fs t ts (reading.Keyword keyword.If) = refl
needed_cut in_list fs t ts (reading.Keyword keyword.If) = refl
needed_cut (behind ss c) fs t ts (reading.Keyword keyword.If) = refl
needed_cut at_line fs t ts (reading.Keyword keyword.Else) = refl
needed_cut in_list fs t ts (reading.Keyword keyword.Else) = refl
needed_cut (behind ss c) fs t ts (reading.Keyword keyword.Else) = refl
needed_cut at_line fs t ts (reading.Mark mark.Colon) = refl
needed_cut in_list fs t ts (reading.Mark mark.Colon) = refl
needed_cut (behind ss c) fs t ts (reading.Mark mark.Colon) = refl
needed_cut at_line fs t ts _ = refl
needed_cut in_list fs t ts _ = refl
needed_cut (behind ss c) fs t ts _ = refl

had_cut : (ss : Stmts) (fs : List Frame) (t : Token) (ts : List ReadToken) (r : Reading)
    → had ss fs (read t r) ts r ≡ turn_by (cut_of r) (got ss fs) (read t r ∷ ts)
had_cut ss fs t ts (reading.Keyword keyword.If) = refl
had_cut ss fs t ts (reading.Keyword keyword.Else) = refl
had_cut ss fs t ts (reading.Mark mark.Colon) = refl
had_cut ss fs t ts _ = refl

pub turn_cut : (s : State) (t : ReadToken) (ts : List ReadToken) → turn s t ts ≡ turn_by (cut_at (t ∷ ts)) s (t ∷ ts)
turn_cut (need place fs) t ts = needed_cut place fs t.token ts t.reading
turn_cut (got ss fs) t ts = had_cut ss fs t.token ts t.reading

-- whether tokens, behind so many Else, make a line of a block of the first of them
abbrev pub turned : Bool → List ReadToken → Bool
turned b ts = if b then not (is_else_line ts) else is_else_line ts
