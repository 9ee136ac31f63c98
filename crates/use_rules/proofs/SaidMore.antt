-- What is noted of all that is said, one after another.
use Rattle.std.proofs.Common.{◌≡◌, ℕ, ◌+◌, ◌<◌, List, [], ◌∷◌, ◌++◌, length, drop, get_or, Option, refl, sym, ap, ◌∙◌}
use Rattle.std.specs.Prelude.{flat_map}
use Rattle.std.proofs.lemmas.List.{drop_more}
use Rattle.std.proofs.lemmas.List.Concat.{flat_map-append}
use Rattle.vba_base.specs.declared.place.Place.{Place}
use Rattle.vba_base.specs.declared.place.Refusal.{Refusal}
use Rattle.declared_names.specs.binder.specs.Said as plain
use Rattle.said_parts.specs.declared.said.Said.{Said}
use Rattle.said_parts.specs.View.{all_said, said_view}
use Rattle.use_rules.specs.Found.{noted}
use Rattle.use_rules.proofs.Noted.{noted_append}

split : (all : List Said) (index : ℕ) (one : Said) → index < length all → one ≡ get_or all index one → drop index all ≡ one ∷ drop (index + 1) all
split all index one more here = drop_more all index one more ∙ ap (λ s. s ∷ drop (index + 1) all) (sym here)

pub said_noted : (rule : ℕ) (test : plain.Said → List Place) (now next found : Option Refusal) (one : Said) (all : List Said) (index : ℕ)
    → index < length all → one ≡ get_or all index one
    → next ≡ noted rule now (flat_map test (said_view one))
    → noted rule now (flat_map test (all_said (drop index all))) ≡ found
    → noted rule next (flat_map test (all_said (drop (index + 1) all))) ≡ found
said_noted rule test now next found one all index more here is before =
    let others = all_said (drop (index + 1) all) in
    ap (λ f. noted rule f (flat_map test others)) is
    ∙ sym (noted_append rule now (flat_map test (said_view one)) (flat_map test others))
    ∙ ap (noted rule now) (sym (flat_map-append test (said_view one) others))
    ∙ ap (λ all_of. noted rule now (flat_map test (all_said all_of))) (sym (split all index one more here))
    ∙ before
