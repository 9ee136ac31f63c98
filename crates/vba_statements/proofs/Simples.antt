-- A statement is read by whether it begins with a kept word.
use Rattle.std.proofs.Common.{◌≡◌, true, false, List, ◌∷◌, Some, None, refl, sym, ap, ◌∙◌}
use Rattle.vba_words.specs.declared.keyword.Keyword.{Keyword}
use Rattle.vba_words.specs.declared.keyword.Keyword.TheVariants as keyword
use Rattle.vba_words.specs.declared.reading.Reading.{Reading}
use Rattle.vba_words.specs.declared.reading.Reading.TheVariants as reading
use Rattle.vba_words.specs.declared.reading.ReadToken.{ReadToken}
use Rattle.vba_words.specs.Spelling.{read}
use Rattle.vba_tree.specs.Tree.{Simple}
use Rattle.vba_grammar.specs.Front.{Found, ending}
use Rattle.vba_grammar.specs.Statements.{free_at, kept_at, simple_at}
use Rattle.vba_grammar.proofs.SimplesLaws.{is_kept, unkept_free, kept_read}
use Rattle.vba_statements.specs.Kept.{unless_me, first_word}

same_word : (a b : Keyword) → Some a ≡ Some b → a ≡ b
same_word a b h = cc

-- the first word is that kept word
record Begins (meant : Reading) (kept : Keyword) : Type 0 where
  word : meant ≡ reading.Keyword kept
  is : is_kept (reading.Keyword kept) ≡ true

unless_kept : (word kept : Keyword) → unless_me word ≡ Some kept → Begins (reading.Keyword word) kept
unless_kept keyword.Me kept h = absurd cc
unless_kept word kept h =
    let e = same_word word kept h in record { word = ap reading.Keyword e; is = ap (λ k. is_kept (reading.Keyword k)) (sym e) ∙ refl }

begins_of : (meant : Reading) (kept : Keyword) → first_word meant ≡ Some kept → Begins meant kept
begins_of (reading.Keyword word) kept h = unless_kept word kept h
begins_of _ kept h = absurd cc

unkept : (meant : Reading) → first_word meant ≡ None → is_kept meant ≡ false
unkept (reading.Keyword keyword.Me) h = refl
unkept (reading.Keyword word) h = absurd cc
unkept _ h = refl

-- behind a kept word at the front
pub kept_first : (line : List ReadToken) (t : ReadToken) (ts : List ReadToken) (kept : Keyword)
    → line ≡ t ∷ ts → first_word t.reading ≡ Some kept → ending (kept_at t.token kept ts) ≡ simple_at line
kept_first line t ts kept front word =
    let b = begins_of t.reading kept word in
    sym (kept_read t.token kept ts b.is) ∙ ap (λ r. simple_at (read t.token r ∷ ts)) (sym b.word) ∙ ap simple_at (sym front)

-- what is found where another token stands there
pub free_first : (found : Found Simple) (line : List ReadToken) (t : ReadToken) (ts : List ReadToken)
    → line ≡ t ∷ ts → first_word t.reading ≡ None → found ≡ free_at line → found ≡ simple_at line
free_first found line t ts front word same =
    same ∙ ap free_at front ∙ sym (unkept_free t.token t.reading ts (unkept t.reading word)) ∙ ap simple_at (sym front)
