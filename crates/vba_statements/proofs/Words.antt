-- What single tokens are.
use Rattle.std.proofs.Common.{◌≡◌, ◌≢◌, ℕ, true, false, ℤ, pos, negsuc, None, refl, sym, ap, ◌∙◌, eq-eqb, ne_eqb}
use Rattle.vba_words.specs.declared.keyword.Keyword.{Keyword}
use Rattle.vba_words.specs.declared.keyword.Keyword.TheVariants as keyword
use Rattle.vba_words.specs.declared.reading.Reading.TheVariants as reading
use Rattle.vba_words.specs.declared.reading.ReadToken.{ReadToken}
use Rattle.vba_expression.specs.Parts.{keyword_part, part_of, reading_part}
use Rattle.vba_grammar.specs.Blocks.{comparison_of}
use Rattle.vba_grammar.specs.Statements.{is_whole}

compares : (kept : Keyword) → None ≡ comparison_of (keyword_part kept)
compares keyword.True = refl
compares _ = refl

-- no kept word is a comparison
pub no_keyword_compares : (t : ReadToken) (kept : Keyword) → t.reading ≡ reading.Keyword kept → None ≡ comparison_of (part_of t)
no_keyword_compares t kept h = compares kept ∙ ap (λ r. comparison_of (reading_part t.token r)) (sym h)

-- a number is a digit
pub whole_is : (digit : ℕ) (n : ℤ) → n ≡ pos digit → true ≡ is_whole digit n
whole_is digit n h = sym (ap (is_whole digit) h ∙ eq-eqb digit digit refl)

pub whole_is_not : (digit : ℕ) (n : ℤ) → n ≢ pos digit → false ≡ is_whole digit n
whole_is_not digit (pos n) h = sym (ne_eqb n digit (λ e. h (ap pos e)))
whole_is_not digit (negsuc n) h = refl
