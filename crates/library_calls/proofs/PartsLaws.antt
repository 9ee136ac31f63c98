-- The parts of a text between separators, one after another.
use Rattle.std.proofs.Common.{◌≡◌, ℕ, zero, suc, ◌+◌, ◌-◌, ◌<◌, ◌≤◌, List, [], ◌∷◌, ◌++◌, length, take, drop, refl, ap, sym, ◌∙◌, flat_map, Err, append_assoc, length-append, length-drop, arith}
use Rattle.std.proofs.lemmas.Grind.{common_steps}
use Rattle.vba_values.specs.declared.types.Compare.TheVariants.{Binary}
use Rattle.vba_lib.specs.Arguments.{text_answer, text_too_long}
use Rattle.vba_lib.specs.Searching.{cut_at, first_place, joined_by, parts, parts_within, stands}

place_of : List ℕ → List ℕ → ℕ
place_of separator units = first_place (stands Binary separator) 1 units

-- a text is cut in the same way however many cuts are allowed, if there are enough
same_cuts : (separator units : List ℕ) (f g : List ℕ → List (List ℕ)) (place : ℕ)
    → ((before : ℕ) → f (drop (before + length separator) units) ≡ g (drop (before + length separator) units))
    → cut_at separator units f place ≡ cut_at separator units g place
same_cuts separator units f g zero same = refl
same_cuts separator units f g (suc before) same = ap (λ t. take before units ∷ t) (same before)

same_parts : (m n : ℕ) (separator units : List ℕ) → 0 < length separator → length units ≤ m → length units ≤ n
    → parts_within m separator units ≡ parts_within n separator units
same_parts zero zero separator units some below enough = refl
same_parts zero (suc n) separator [] some below enough = refl
same_parts zero (suc n) separator (x ∷ units) some below enough = absurd (omega arith)
same_parts (suc m) zero separator [] some below enough = refl
same_parts (suc m) zero separator (x ∷ units) some below enough = absurd (omega arith)
same_parts (suc m) (suc n) separator units some below enough =
    same_cuts separator units (λ rest. parts_within m separator rest) (λ rest. parts_within n separator rest) (first_place (stands Binary separator) 1 units)
    (λ before. same_parts m n separator (drop (before + length separator) units) some
    (omega (arith, length-drop (before + length separator) units)) (omega (arith, length-drop (before + length separator) units)))

-- the text where the separator stands nowhere, and where it stands at a place
pub parts_end : (separator units : List ℕ) → 0 ≡ first_place (stands Binary separator) 1 units → parts separator units ≡ units ∷ []
parts_end separator [] none = refl
parts_end separator (x ∷ units) none = ap (cut_at separator (x ∷ units) (λ rest. parts_within (length units) separator rest)) (sym none)

pub parts_cut : (separator units : List ℕ) (place : ℕ) → 0 < length separator → 0 < place → place ≡ first_place (stands Binary separator) 1 units
    → parts separator units ≡ take (place - 1) units ∷ parts separator (drop (place - 1 + length separator) units)
parts_cut separator [] place some found is = absurd (omega arith)
parts_cut separator (x ∷ units) zero some found is = absurd (omega arith)
parts_cut separator (x ∷ units) (suc before) some found is =
    let rest : List ℕ = drop (before + length separator) (x ∷ units) in
    let less : suc before - 1 ≡ before = omega arith in
    rw less
    (ap (cut_at separator (x ∷ units) (λ rest. parts_within (length units) separator rest)) (sym is)
    ∙ ap (λ t. take before (x ∷ units) ∷ t) (same_parts (length units) (length rest) separator rest some
    (omega (arith, length-drop (before + length separator) (x ∷ units))) (omega arith)))

-- a text has some parts
parts_some : (n : ℕ) (separator units : List ℕ) → (first : List ℕ) × (others : List (List ℕ)) × (parts_within n separator units ≡ first ∷ others)
parts_some zero separator units = (units, [], refl)
parts_some (suc n) separator units = by (first_place (stands Binary separator) 1 units) where
  by : (place : ℕ) → (first : List ℕ) × (others : List (List ℕ)) × (cut_at separator units (λ rest. parts_within n separator rest) place ≡ first ∷ others)
  by zero = (units, [], refl)
  by (suc before) = (take before units, parts_within n separator (drop (before + length separator) units), refl)

-- a part before others that are joined
pub joined_cut : (new part separator rest : List ℕ) → joined_by new (part ∷ parts separator rest) ≡ part ++ (new ++ joined_by new (parts separator rest))
joined_cut new part separator rest =
    let some = parts_some (length rest) separator rest in
    rw (some.2) (ap (λ t. part ++ t) (append_assoc new some.0 (flat_map (λ next. new ++ next) some.1)))

-- a part and the new text behind it, where the rest of the parts is still to be joined
pub part_joined : (whole text part new separator rest behind : List ℕ) → parts separator rest ≡ part ∷ parts separator behind
    → text ++ joined_by new (parts separator rest) ≡ whole
    → (text ++ (part ++ new)) ++ joined_by new (parts separator behind) ≡ whole
part_joined whole text part new separator rest behind is so_far =
    let joined : List ℕ = joined_by new (parts separator behind) in
    append_assoc text (part ++ new) joined
    ∙ (ap (λ t. text ++ t) (append_assoc part new joined)
    ∙ (ap (λ t. text ++ t) (sym (joined_cut new part separator behind))
    ∙ (ap (λ t. text ++ joined_by new t) (sym is) ∙ so_far)))

-- a text is too long where what it begins with is
pub begins_too_long : (whole first behind : List ℕ) → first ++ behind ≡ whole → 16777216 < length first → text_answer whole ≡ Err text_too_long
begins_too_long whole first behind is long =
    let longer : 16777216 < length whole = omega (arith, length-append first behind, ap length is) in
    grind (arith, common_steps)
