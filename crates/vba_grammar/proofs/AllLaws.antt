-- The laws of reading, put together.
use Rattle.std.proofs.Common.{◌≡◌, true, false, List, Some, None, refl, sym, ap, ◌∙◌}
use Rattle.vba_words.specs.declared.keyword.Keyword.{Keyword}
use Rattle.vba_words.specs.declared.keyword.Keyword.TheVariants as keyword
use Rattle.vba_words.specs.declared.reading.Reading.TheVariants as reading
use Rattle.vba_tree.specs.Tree.{Simple, assignment, call, debug_print}
use Rattle.vba_tree.specs.Spelling.{spell}
use Rattle.vba_tree.specs.Tree.{Line}
use Rattle.vba_tree.specs.Forms.{FormedLine}
use Rattle.vba_tree.specs.Fitting.{IsReadAs}
use Rattle.vba_words.specs.declared.reading.ReadToken.{ReadToken}
use Rattle.vba_grammar.specs.Lines.{line_of}
use Rattle.vba_grammar.specs.Laws.{LineLaws}
use Rattle.vba_grammar.proofs.Free.{is_free}
use Rattle.vba_grammar.proofs.KeptLaws.{is_kept, is_me, simple_told, kept_is, kept_found}
use Rattle.vba_grammar.proofs.SimplesLaws as simples
use Rattle.vba_grammar.proofs.SimplesLaws.{KeptLaws, kept_read, simple_laws}
use Rattle.vba_grammar.proofs.ListsFound.{statements_laws}
use Rattle.vba_grammar.proofs.ResultFound.{result_type_found}
use Rattle.vba_grammar.proofs.ParameterLaws.{ParameterLaws}
use Rattle.vba_grammar.proofs.ParametersLaws.{parameters_sound, parameters_is, parameters_found}
use Rattle.vba_grammar.proofs.LineFound.{line_laws}

not_free : (s : Simple) → is_free s ≡ false → is_kept s ≡ true
not_free (assignment None place equal e) h = absurd cc
not_free (call called arguments) h = absurd cc
not_free (debug_print debug_word dot print_word first others) h = absurd cc
not_free (assignment (Some word) place equal e) h = refl
not_free _ h = refl

not_me : (kept : Keyword) → simples.is_kept (reading.Keyword kept) ≡ true → is_me kept ≡ false
not_me keyword.Me h = absurd cc
not_me _ h = refl

kept_laws : KeptLaws
kept_laws = record {
  sound = λ token kept ts rest s k h. ((simple_told token kept ts (not_me kept k)).at s rest (kept_read token kept ts k ∙ h)).0;
  complete = λ s rest f fits over. kept_is s rest (not_free s f) fits over;
  found = λ s rest f formed no_if over. kept_found s rest (not_free s f) formed no_if over;
}

parameter_laws : ParameterLaws
parameter_laws = record {
  sound = parameters_sound;
  complete = parameters_is;
  found = λ p rest formed. parameters_found p rest formed;
  result_found = result_type_found;
}

pub lines : LineLaws
lines = line_laws (statements_laws (simple_laws kept_laws)) parameter_laws

-- no two fitting trees have the same tokens
pub one_line : (ts : List ReadToken) (line other : Line) → IsReadAs ts line → IsReadAs ts other → line ≡ other
one_line ts line other p q = some_same line other (sym (lines.complete ts line p) ∙ lines.complete ts other q)
  where
    some_same : (a b : Line) → Some a ≡ Some b → a ≡ b
    some_same a b h = cc

-- a line is refused exactly where no tree of the grammar's form has its tokens
pub no_line : (ts : List ReadToken) (line : Line) → line_of ts ≡ None → FormedLine line → spell line ≡ ts → ⊥
no_line ts line h formed same = lines.found line formed (ap line_of same ∙ h)
