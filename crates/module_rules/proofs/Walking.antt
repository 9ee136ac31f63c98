-- One part more.
use Rattle.std.proofs.Common.{◌≡◌, ℕ, ◌+◌, ◌<◌, Bool, List, ◌∷◌, length, drop, get_or, Option, sym, ap, ◌∙◌}
use Rattle.std.specs.Prelude.{flat_map}
use Rattle.std.proofs.lemmas.List.{drop_more}
use Rattle.vba_base.specs.declared.place.Place.{Place}
use Rattle.vba_base.specs.declared.place.Refusal.{Refusal}
use Rattle.vba_module.specs.Blocks as blocks
use Rattle.vba_module.specs.Misplaced as places
use Rattle.vba_module.specs.Parts as parts
use Rattle.module_parts.specs.View.{part_view, parts_view}
use Rattle.module_parts.specs.declared.part.Part.{Part}
use Rattle.module_rules.specs.Found.{noted}
use Rattle.module_rules.proofs.Noted.{noted_append}

-- what is left begins with the next part
split : (all : List Part) (index : ℕ) (part : Part) → index < length all → part ≡ get_or all index part → drop index all ≡ part ∷ drop (index + 1) all
split all index part more here = drop_more all index part more ∙ ap (λ p. p ∷ drop (index + 1) all) (sym here)

-- S14
pub more_faults : (faults : parts.Part → List Place) (now new found : Option Refusal) (part : Part) (all : List Part) (index : ℕ)
    → index < length all → part ≡ get_or all index part
    → new ≡ noted 14 now (faults (part_view part))
    → noted 14 now (flat_map faults (parts_view (drop index all))) ≡ found
    → noted 14 new (flat_map faults (parts_view (drop (index + 1) all))) ≡ found
more_faults faults now new found part all index more here is before =
    let rest = parts_view (drop (index + 1) all) in
    ap (λ f. noted 14 f (flat_map faults rest)) is
    ∙ sym (noted_append 14 now (faults (part_view part)) (flat_map faults rest))
    ∙ ap (λ ps. noted 14 now (flat_map faults (parts_view ps))) (sym (split all index part more here))
    ∙ before

-- what a part does to what is open
abbrev step_at : List blocks.Open → Part → blocks.Step
step_at opened part = blocks.step (parts.place_of (part_view part)) opened (blocks.role_of (part_view part))

-- S11
pub more_unmatched : (now new found : Option Refusal) (opened behind : List blocks.Open) (part : Part) (all : List Part) (index : ℕ)
    → index < length all → part ≡ get_or all index part
    → behind ≡ (step_at opened part).opened
    → new ≡ noted 11 now (step_at opened part).faults
    → noted 11 now (blocks.block_faults opened (parts_view (drop index all))) ≡ found
    → noted 11 new (blocks.block_faults behind (parts_view (drop (index + 1) all))) ≡ found
more_unmatched now new found opened behind part all index more here goes is before =
    let rest = parts_view (drop (index + 1) all) in
    let s = step_at opened part in
    ap (λ f. noted 11 f (blocks.block_faults behind rest)) is
    ∙ ap (λ o. noted 11 (noted 11 now s.faults) (blocks.block_faults o rest)) goes
    ∙ sym (noted_append 11 now s.faults (blocks.block_faults s.opened rest))
    ∙ ap (λ ps. noted 11 now (blocks.block_faults opened (parts_view ps))) (sym (split all index part more here))
    ∙ before

-- S12
pub more_misplaced : (is_class : Bool) (now new found : Option Refusal) (stood stands : places.Before) (opened behind : List blocks.Open) (part : Part) (all : List Part) (index : ℕ)
    → index < length all → part ≡ get_or all index part
    → behind ≡ (step_at opened part).opened
    → stands ≡ places.behind stood (places.inside_of opened) (part_view part)
    → new ≡ noted 12 now (places.misplaced is_class stood (places.inside_of opened) (parts.place_of (part_view part)) (part_view part))
    → noted 12 now (places.all_misplaced is_class stood opened (parts_view (drop index all))) ≡ found
    → noted 12 new (places.all_misplaced is_class stands behind (parts_view (drop (index + 1) all))) ≡ found
more_misplaced is_class now new found stood stands opened behind part all index more here goes passes is before =
    let rest = parts_view (drop (index + 1) all) in
    let first = places.misplaced is_class stood (places.inside_of opened) (parts.place_of (part_view part)) (part_view part) in
    let after = places.behind stood (places.inside_of opened) (part_view part) in
    ap (λ f. noted 12 f (places.all_misplaced is_class stands behind rest)) is
    ∙ ap (λ o. noted 12 (noted 12 now first) (places.all_misplaced is_class stands o rest)) goes
    ∙ ap (λ b. noted 12 (noted 12 now first) (places.all_misplaced is_class b (step_at opened part).opened rest)) passes
    ∙ sym (noted_append 12 now first (places.all_misplaced is_class after (step_at opened part).opened rest))
    ∙ ap (λ ps. noted 12 now (places.all_misplaced is_class stood opened (parts_view ps))) (sym (split all index part more here))
    ∙ before
