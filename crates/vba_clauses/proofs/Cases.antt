-- A type clause and a value, by whether `As String *` stands at the front.
use Rattle.std.proofs.Common.{◌≡◌, List, [], ◌∷◌, refl}
use Rattle.std.specs.Prelude.{if◌then◌else◌}
use Rattle.vba_words.specs.declared.reading.ReadToken.{ReadToken}
use Rattle.vba_grammar.specs.Front.{Found}
use Rattle.vba_grammar.specs.Clauses.{Valued, valued_at}
use Rattle.vba_clauses.specs.Seen.{has_fixed_clause, unfixed_at}

pub valued_by_cases : (fixed : List ReadToken → Found Valued) (ts : List ReadToken)
    → valued_at fixed ts ≡ (if has_fixed_clause ts then fixed ts else unfixed_at ts)
valued_by_cases fixed [] = refl
valued_by_cases fixed (t ∷ ts) = refl
