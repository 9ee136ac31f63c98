-- The parts of a procedure with what stands round them.
use Rattle.std.proofs.Common.{◌≡◌, ℕ, ◌+◌, ◌<◌, Bool, true, false, List, [], ◌∷◌, ◌++◌, length, drop, get_or, map, Option, refl, sym, ap, ◌∙◌}
use Rattle.std.specs.Prelude.{◌||◌, flat_map, reverse}
use Rattle.std.specs.List.{list_any}
use Rattle.std.proofs.lemmas.List.{drop_more}
use Rattle.std.proofs.lemmas.List.Concat.{flat_map-append}
use Rattle.vba_base.specs.declared.place.Place.{Place}
use Rattle.vba_base.specs.declared.place.Refusal.{Refusal}
use Rattle.vba_module.specs.Blocks.{Kind, with_block, same_kind, Role, opens, divides, closes, stands, role_of}
use Rattle.vba_module.specs.Parts as parts
use Rattle.declared_names.specs.module_parts.specs.Brackets.{IsRole}
use Rattle.declared_names.specs.module_parts.specs.declared.bracket.Bracket.TheVariants as bracket
use Rattle.declared_names.specs.module_parts.specs.declared.part.Part.{Part}
use Rattle.declared_names.specs.module_parts.specs.View.{part_view, parts_view}
use Rattle.declared_names.specs.binder.specs.Numbering.{Opened, Standing, opened_behind, part_count, standings, in_with}
use Rattle.declared_names.specs.binder.specs.Said.{Said, said_in_part}
use Rattle.use_rules.specs.Found.{noted}
use Rattle.use_rules.specs.Stacks.{below}
use Rattle.use_rules.specs.Walked.{kinds_behind, is_within, walked}
use Rattle.use_rules.proofs.Noted.{noted_append}

abbrev kinds_of : List Opened → List Kind
kinds_of around = map (λ (o : Opened). o.kind) around

within_kinds : (around : List Opened) → list_any (λ (o : Opened). same_kind with_block o.kind) around ≡ is_within (kinds_of around)
within_kinds [] = refl
within_kinds (o ∷ around) = ap (λ found. same_kind with_block o.kind || found) (within_kinds around)

kinds_opened : (part : parts.Part) (role : Role) (n : ℕ) (rest : List parts.Part) (around : List Opened)
    → kinds_of (opened_behind part role n rest around) ≡ kinds_behind role (kinds_of around)
kinds_opened part (opens kind) n rest around = refl
kinds_opened part (closes kind) n rest [] = refl
kinds_opened part (closes kind) n rest (o ∷ around) = refl
kinds_opened part (divides kind is_last) n rest [] = refl
kinds_opened part (divides kind is_last) n rest (o ∷ around) = refl
kinds_opened part (stands exits) n rest [] = refl
kinds_opened part (stands exits) n rest (o ∷ around) = refl

-- the walk finds what the standings have
pub standings_walked : (test : Bool → Said → List Place) (static : Bool) (n : ℕ) (around : List Opened) (ps : List parts.Part)
    → flat_map (λ (st : Standing). flat_map (test (in_with st)) (said_in_part static st.part)) (standings n around ps) ≡ walked test static (kinds_of around) ps
standings_walked test static n around [] = refl
standings_walked test static n around (part ∷ ps) =
    let behind = opened_behind part (role_of part) n ps around in
    ap (λ others. flat_map (test (list_any (λ (o : Opened). same_kind with_block o.kind) around)) (said_in_part static part) ++ others)
    (standings_walked test static (n + part_count part) behind ps
    ∙ ap (λ kinds. walked test static kinds ps) (kinds_opened part (role_of part) n ps around))
    ∙ ap (λ within. flat_map (test within) (said_in_part static part) ++ walked test static (kinds_behind (role_of part) (kinds_of around)) ps) (within_kinds around)

-- what neither opens nor closes
pub stands_behind : (role : Role) (kinds : List Kind) → IsRole bracket.Stands role → kinds_behind role kinds ≡ kinds
stands_behind (stands exits) kinds is = refl
stands_behind (opens kind) kinds is = absurd is
stands_behind (closes kind) kinds is = absurd is
stands_behind (divides kind is_last) kinds is = absurd is

split : (all : List Part) (index : ℕ) (part : Part) → index < length all → part ≡ get_or all index part → drop index all ≡ part ∷ drop (index + 1) all
split all index part more here = drop_more all index part more ∙ ap (λ p. p ∷ drop (index + 1) all) (sym here)

-- one part more
pub more_walked : (rule : ℕ) (test : Bool → Said → List Place) (static : Bool) (within : Bool) (now next found : Option Refusal) (kinds behind : List Kind) (part : Part) (all : List Part) (index : ℕ)
    → index < length all → part ≡ get_or all index part
    → behind ≡ kinds_behind (role_of (part_view part)) kinds
    → within ≡ is_within kinds
    → next ≡ noted rule now (flat_map (test within) (said_in_part static (part_view part)))
    → noted rule now (walked test static kinds (parts_view (drop index all))) ≡ found
    → noted rule next (walked test static behind (parts_view (drop (index + 1) all))) ≡ found
more_walked rule test static within now next found kinds behind part all index more here goes stands_in is before =
    let others = parts_view (drop (index + 1) all) in
    let first = flat_map (test (is_within kinds)) (said_in_part static (part_view part)) in
    ap (λ f. noted rule f (walked test static behind others))
    (is ∙ ap (λ w. noted rule now (flat_map (test w) (said_in_part static (part_view part)))) stands_in)
    ∙ ap (λ ks. noted rule (noted rule now first) (walked test static ks others)) goes
    ∙ sym (noted_append rule now first (walked test static (kinds_behind (role_of (part_view part)) kinds) others))
    ∙ ap (λ ps. noted rule now (walked test static kinds (parts_view ps))) (sym (split all index part more here))
    ∙ before

-- one part more of all that is said
pub more_said : (rule : ℕ) (test : Said → List Place) (static : Bool) (now next found : Option Refusal) (part : Part) (all : List Part) (index : ℕ)
    → index < length all → part ≡ get_or all index part
    → next ≡ noted rule now (flat_map test (said_in_part static (part_view part)))
    → noted rule now (flat_map test (flat_map (said_in_part static) (parts_view (drop index all)))) ≡ found
    → noted rule next (flat_map test (flat_map (said_in_part static) (parts_view (drop (index + 1) all)))) ≡ found
more_said rule test static now next found part all index more here is before =
    let others = flat_map (said_in_part static) (parts_view (drop (index + 1) all)) in
    let first = said_in_part static (part_view part) in
    ap (λ f. noted rule f (flat_map test others)) is
    ∙ sym (noted_append rule now (flat_map test first) (flat_map test others))
    ∙ ap (noted rule now) (sym (flat_map-append test first others))
    ∙ ap (λ ps. noted rule now (flat_map test (flat_map (said_in_part static) (parts_view ps)))) (sym (split all index part more here))
    ∙ before

-- where a With block doesn't count
free_of_kinds : (test : Said → List Place) (static : Bool) (kinds others : List Kind) (ps : List parts.Part)
    → walked (λ within. test) static kinds ps ≡ walked (λ within. test) static others ps
free_of_kinds test static kinds others [] = refl
free_of_kinds test static kinds others (part ∷ ps) =
    ap (λ places. flat_map test (said_in_part static part) ++ places)
    (free_of_kinds test static (kinds_behind (role_of part) kinds) (kinds_behind (role_of part) others) ps)

-- one part more, where a With block doesn't count
pub more_plain : (rule : ℕ) (test : Said → List Place) (static : Bool) (now next found : Option Refusal) (part : Part) (all : List Part) (index : ℕ)
    → index < length all → part ≡ get_or all index part
    → next ≡ noted rule now (flat_map test (said_in_part static (part_view part)))
    → noted rule now (walked (λ within. test) static [] (parts_view (drop index all))) ≡ found
    → noted rule next (walked (λ within. test) static [] (parts_view (drop (index + 1) all))) ≡ found
more_plain rule test static now next found part all index more here is before =
    ap (noted rule next) (free_of_kinds test static [] (kinds_behind (role_of (part_view part)) []) (parts_view (drop (index + 1) all)))
    ∙ more_walked rule (λ within. test) static false now next found [] (kinds_behind (role_of (part_view part)) []) part all index more here refl refl is before
