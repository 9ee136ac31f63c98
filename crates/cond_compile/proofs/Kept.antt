-- The kept lines are lines of the source's, in order.
use Rattle.std.proofs.Common.{◌≡◌, ℕ, ◌+◌, ◌≤◌, Bool, true, false, List, [], ◌∷◌, length, Option, Some, None, refl, sym, subst, arith, inl, inr}
use Rattle.std.specs.Prelude.{All, Ok, if◌then◌else◌}
use Rattle.std.specs.List.{AllByRecursion}
use Rattle.std.proofs.lemmas.List.Elements.{All-from_recursion, recursion_from_All}
use Rattle.vba_base.specs.declared.place.Refusal.{Refusal}
use Rattle.vba_lexer.specs.declared.line.Line.{Line}
use Rattle.vba_lexer.specs.Inside.{AllLieIn, IsWithin, LiesIn, view_count}
use Rattle.vba_lexer.specs.Lexed.{LexedLine, lines_view}
use Rattle.cond_compile.specs.Kept.{LeavesOut}
use Rattle.refusal_order.specs.Least.{least_of}
use Rattle.cond_compile.specs.Selection.{Ground, behind, is_kept_line, kept_lines, opening, selected, verdict, violations}

if_kept : (b : Bool) (line : LexedLine) (lines kept : List LexedLine) → LeavesOut lines kept → LeavesOut (line ∷ lines) (if b then line ∷ kept else kept)
if_kept true line lines kept h = inr (kept, refl, h)
if_kept false line lines kept h = inl h

pub leaves_out : (source : List ℕ) (standing : Ground) (lines : List LexedLine) → LeavesOut lines (kept_lines source standing lines)
leaves_out source standing [] = refl
leaves_out source standing (line ∷ lines) =
    if_kept (is_kept_line source standing line) line lines (kept_lines source (behind source standing line) lines)
    (leaves_out source (behind source standing line) lines)

if_count : (b : Bool) (line : LexedLine) (n : ℕ) (kept : List LexedLine) → view_count kept ≤ n → view_count (if b then line ∷ kept else kept) ≤ length line.tokens + n
if_count true line n kept h = omega (arith, h)
if_count false line n kept h = omega (arith, h)

pub kept_count : (source : List ℕ) (standing : Ground) (lines : List LexedLine) → view_count (kept_lines source standing lines) ≤ view_count lines
kept_count source standing [] = omega arith
kept_count source standing (line ∷ lines) =
    if_count (is_kept_line source standing line) line (view_count lines) (kept_lines source (behind source standing line) lines)
    (kept_count source (behind source standing line) lines)

pub kept_by : (least : Option Refusal) (kept wanted : List LexedLine) → verdict least kept ≡ Ok wanted → kept ≡ wanted
kept_by None kept wanted e = cc
kept_by (Some refusal) kept wanted e = absurd cc

pub selected_leaves_out : (source : List ℕ) (lines kept : List LexedLine) → selected source lines ≡ Ok kept → LeavesOut lines kept
selected_leaves_out source lines kept e =
    subst (LeavesOut lines) (kept_by (least_of None (violations source opening lines)) (kept_lines source opening lines) kept e) (leaves_out source opening lines)

pub selected_count : (source : List ℕ) (lines kept : List LexedLine) → selected source lines ≡ Ok kept → view_count kept ≤ view_count lines
selected_count source lines kept e =
    let P : List LexedLine → Type 0 = λ k. view_count k ≤ view_count lines in
    subst P (kept_by (least_of None (violations source opening lines)) (kept_lines source opening lines) kept e) (kept_count source opening lines)

-- the tokens of a line lie within the first so many units
abbrev lies_within : ℕ → LexedLine → Type 0
lies_within size line = All (IsWithin size) line.tokens

viewed : (source : List ℕ) (lines : List Line) → AllByRecursion (LiesIn source) lines → AllByRecursion (lies_within (length source)) (lines_view lines)
viewed source [] all = tt
viewed source (line ∷ lines) all = (all.0, viewed source lines all.1)

unviewed : (source : List ℕ) (lines : List Line) → AllByRecursion (lies_within (length source)) (lines_view lines) → AllByRecursion (LiesIn source) lines
unviewed source [] all = tt
unviewed source (line ∷ lines) all = (all.0, unviewed source lines all.1)

left_within : (size : ℕ) (lines kept : List LexedLine) → LeavesOut lines kept → AllByRecursion (lies_within size) lines → AllByRecursion (lies_within size) kept
left_within size [] kept out all = subst (AllByRecursion (lies_within size)) (sym out) tt
left_within size (line ∷ lines) kept (inl out) all = left_within size lines kept out all.1
left_within size (line ∷ lines) kept (inr out) all =
    subst (AllByRecursion (lies_within size)) (sym out.1) (all.0, left_within size lines out.0 out.2 all.1)

-- the tokens of kept lines lie in the source where those of its lines do
pub kept_lie_in : (source : List ℕ) (lines kept : List Line) → selected source (lines_view lines) ≡ Ok (lines_view kept) → AllLieIn source lines → AllLieIn source kept
kept_lie_in source lines kept is all =
    All-from_recursion (LiesIn source) kept
    (unviewed source kept
    (left_within (length source) (lines_view lines) (lines_view kept) (selected_leaves_out source (lines_view lines) (lines_view kept) is)
    (viewed source lines (recursion_from_All (LiesIn source) lines all))))
