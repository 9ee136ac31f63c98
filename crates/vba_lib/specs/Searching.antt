-- Texts inside of texts.
use Rattle.std.specs.Prelude.{ℕ, zero, suc, ◌+◌, nat_eq, Bool, ℤ, pos, negsuc, List, [], ◌∷◌, ◌++◌, length, take, drop, map, flat_map, bytes_eq, Result, Ok, Err, if◌then◌else◌}
use Rattle.std.specs.List.{list_any, starts_with}
use Rattle.std.specs.Ordering.{int_eq}
use Rattle.std.specs.declared.cmp.Ordering.{Ordering}
use Rattle.std.specs.declared.cmp.Ordering.TheVariants.{Less, Equal, Greater}
use Rattle.vba_base.specs.Answer.{◌>>=◌}
use Rattle.vba_base.specs.Fold.{folded}
use Rattle.vba_values.specs.declared.fault.Bad.{Bad}
use Rattle.vba_values.specs.declared.types.Compare.{Compare}
use Rattle.vba_values.specs.declared.types.Compare.TheVariants.{Binary, Folded}
use Rattle.vba_values.specs.declared.types.WholeKind.TheVariants as kind
use Rattle.vba_values.specs.Coerce.{text_of}
use Rattle.vba_values.specs.Comparison.{compare_texts}
use Rattle.vba_values.specs.Val.{Val, whole}
use Rattle.vba_lib.specs.Arguments.{invalid_call, long_answer, long_of, text_answer}

-- the slices with which a text begins
abbrev pub fronts : List ℕ → List (List ℕ)
fronts [] = [] ∷ []
fronts (unit ∷ units) = [] ∷ map (λ front. unit ∷ front) (fronts units)

-- whether one of them folds to this
abbrev pub begins_with_fold : List ℕ → List ℕ → Bool
begins_with_fold fold units = list_any (λ front. bytes_eq (folded front) fold) (fronts units)

-- whether the sought text stands where these units begin
abbrev pub stands : Compare → List ℕ → List ℕ → Bool
stands Binary sought units = starts_with nat_eq units sought
stands Folded sought units = begins_with_fold (folded sought) units

-- the first place at which what stands there passes a test, and 0 where there is none; the first unit has the place that is given
abbrev pub first_place : (List ℕ → Bool) → ℕ → List ℕ → ℕ
first_place test place [] = 0
first_place test place (unit ∷ units) = if test (unit ∷ units) then place else first_place test (place + 1) units

-- the first place from the start on at which the sought text stands
abbrev pub place_of : Compare → ℤ → List ℕ → List ℕ → Result Val Bad
place_of compare (pos (suc before)) units sought = long_answer (first_place (stands compare sought) (before + 1) (drop before units))
place_of compare start units sought = Err invalid_call

-- a compare argument: 0 by units, 1 by case folds, and all else as the module says
abbrev pub chosen : Compare → ℤ → Compare
chosen compare number = if int_eq number (pos 0) then Binary else if int_eq number (pos 1) then Folded else compare

-- InStr
abbrev pub in_str : Compare → Val → Val → Result Val Bad
in_str compare value sought = text_of value >>= λ units. text_of sought >>= λ text. place_of compare (pos 1) units text

abbrev pub in_str_from : Compare → Val → Val → Val → Result Val Bad
in_str_from compare start value sought =
    long_of start >>= λ place. text_of value >>= λ units. text_of sought >>= λ text. place_of compare place units text

abbrev pub in_str_by : Compare → Val → Val → Val → Val → Result Val Bad
in_str_by compare start value sought by =
    long_of start >>= λ place. text_of value >>= λ units. text_of sought >>= λ text. long_of by >>= λ number. place_of (chosen compare number) place units text

-- StrComp: -1, 0 or 1
abbrev pub order_number : Ordering → ℤ
order_number Less = negsuc 0
order_number Equal = pos 0
order_number Greater = pos 1

abbrev pub compared : Compare → List ℕ → List ℕ → Val
compared compare left right = whole kind.Integer (order_number (compare_texts compare left right))

abbrev pub str_comp : Compare → Val → Val → Result Val Bad
str_comp compare left right = text_of left >>= λ l. text_of right >>= λ r. Ok (compared compare l r)

abbrev pub str_comp_by : Compare → Val → Val → Val → Result Val Bad
str_comp_by compare left right by =
    text_of left >>= λ l. text_of right >>= λ r. long_of by >>= λ number. Ok (compared (chosen compare number) l r)

-- a text cut where a separator stands, which has the place that is given, and what is behind it cut on; 0 is no place
abbrev pub cut_at : List ℕ → List ℕ → (List ℕ → List (List ℕ)) → ℕ → List (List ℕ)
cut_at separator units cut_on zero = units ∷ []
cut_at separator units cut_on (suc before) = take before units ∷ cut_on (drop (before + length separator) units)

-- a text cut at the separators found from the left, at most so many of them
abbrev pub parts_within : ℕ → List ℕ → List ℕ → List (List ℕ)
parts_within zero separator units = units ∷ []
parts_within (suc more) separator units =
    cut_at separator units (λ rest. parts_within more separator rest) (first_place (stands Binary separator) 1 units)

-- the parts of a text between the separators: it has at most as many of them as units
abbrev pub parts : List ℕ → List ℕ → List (List ℕ)
parts separator units = parts_within (length units) separator units

-- texts, with a separator before each but the first
abbrev pub joined_by : List ℕ → List (List ℕ) → List ℕ
joined_by separator [] = []
joined_by separator (text ∷ texts) = text ++ flat_map (λ next. separator ++ next) texts

-- Replace: the parts between what is found, joined by the new text; an empty find changes nothing
abbrev pub replaced : List ℕ → List ℕ → List ℕ → List ℕ
replaced [] new units = units
replaced (unit ∷ find) new units = joined_by new (parts (unit ∷ find) units)

abbrev pub replace : Val → Val → Val → Result Val Bad
replace value find new =
    text_of value >>= λ units. text_of find >>= λ found. text_of new >>= λ put. text_answer (replaced found put units)
