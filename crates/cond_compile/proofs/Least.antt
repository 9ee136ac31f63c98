-- The least of more refusals.
use Rattle.std.proofs.Common.{◌≡◌, ℕ, true, false, List, [], ◌∷◌, ◌++◌, Option, Some, refl, sym, ap, ◌∙◌, append_assoc}
use Rattle.std.specs.Prelude.{if◌then◌else◌}
use Rattle.vba_lexer.specs.Lexed.{LexedLine}
use Rattle.cond_compile.specs.Selection.{Ground, behind, is_kept_line, kept_lines, line_violations, violations}
use Rattle.vba_base.specs.declared.place.Refusal.{Refusal}
use Rattle.refusal_order.specs.Least.{least_of}
use Rattle.refusal_order.proofs.LeastFound.{least_of_append}

-- one line more
pub more_violations : (found : Option Refusal) (source : List ℕ) (standing : Ground) (line : LexedLine) (lines : List LexedLine)
    → least_of (least_of found (line_violations source standing line)) (violations source (behind source standing line) lines)
    ≡ least_of found (violations source standing (line ∷ lines))
more_violations found source standing line lines =
    sym (least_of_append found (line_violations source standing line) (violations source (behind source standing line) lines))

pub kept_more : (source : List ℕ) (standing : Ground) (line : LexedLine) (lines kept : List LexedLine) → is_kept_line source standing line ≡ true
    → (kept ++ line ∷ []) ++ kept_lines source (behind source standing line) lines ≡ kept ++ kept_lines source standing (line ∷ lines)
kept_more source standing line lines kept e =
    append_assoc kept (line ∷ []) (kept_lines source (behind source standing line) lines)
    ∙ sym (ap (λ b. kept ++ (if b then line ∷ kept_lines source (behind source standing line) lines else kept_lines source (behind source standing line) lines)) e)

pub not_kept : (source : List ℕ) (standing : Ground) (line : LexedLine) (lines kept : List LexedLine) → is_kept_line source standing line ≡ false
    → kept ++ kept_lines source (behind source standing line) lines ≡ kept ++ kept_lines source standing (line ∷ lines)
not_kept source standing line lines kept e =
    sym (ap (λ b. kept ++ (if b then line ∷ kept_lines source (behind source standing line) lines else kept_lines source (behind source standing line) lines)) e)
