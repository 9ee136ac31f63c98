-- The bytes of a text begin with those of its first character.
use Rattle.std.proofs.Common.{◌≡◌, ◌∷◌, ℕ, List, [], length, get_or, slice_get, unwrap_or, arith, refl, sym, ap, ◌∙◌}
use Rattle.std.proofs.lemmas.List.{take_rest}
use Rattle.vba_base.specs.Text.{encoded}
use Rattle.csv_book.proofs.Characters.{encoded_none, first_of_pair, first_of_unit}
use Rattle.csv_book.proofs.field.first_character.Goals as goal

no_text : (text : List ℕ) → length text ≡ 0 → encoded text ≡ []
no_text [] none = encoded_none
no_text (unit ∷ text) none = absurd (omega (arith, none))

first_or : (behind : List ℕ) → unwrap_or (slice_get behind 0) 0 ≡ get_or behind 0 0
first_or [] = refl
first_or (unit ∷ behind) = refl

pub returns-in_err-unit-clause-text : goal.returns-in_err-unit-clause-text
returns-in_err-unit-clause-text c = rw c.from_residual.ensures (no_text c.args.text.now c.in_err-unit.ensures.cases)

pub returns-then-is_pair-clause-text : goal.returns-then-is_pair-clause-text
returns-then-is_pair-clause-text c =
    let behind = c.in_ok-unit.behind.now in
    let next = c.unwrap_or-next.ensures ∙ ap (λ o. unwrap_or o 0) (c.copied.ensures ∙ c.first.ensures.value) ∙ first_or behind in
    let is = sym c.is_pair.ensures ∙ c.if-is_pair.true in
    let bytes = first_of_pair c.in_ok-unit.unit.now c.unwrap_or-next.result behind is next in
    ap encoded c.in_ok-unit.ensures.cases.0 ∙ rw (c.character_of_pair.ensures, take_rest behind 1) bytes

pub returns-else-is_pair-clause-text : goal.returns-else-is_pair-clause-text
returns-else-is_pair-clause-text c =
    let behind = c.in_ok-unit.behind.now in
    let next = c.unwrap_or-next.ensures ∙ ap (λ o. unwrap_or o 0) (c.copied.ensures ∙ c.first.ensures.value) ∙ first_or behind in
    let isnt = sym c.is_pair.ensures ∙ c.if-is_pair.false in
    let bytes = first_of_unit c.in_ok-unit.unit.now c.unwrap_or-next.result behind isnt next in
    ap encoded c.in_ok-unit.ensures.cases.0 ∙ rw c.character_of_unit.ensures bytes
