-- What a procedure says without a With block, and lengths.
use Rattle.std.proofs.Common.{◌≡◌, ℕ, suc, Bool, List, [], ◌∷◌, length, map, Option, refl, sym, ap, ◌∙◌}
use Rattle.std.specs.Prelude.{flat_map, is_some, Result, Ok, Err, OnOk}
use Rattle.vba_base.specs.declared.place.Place.{Place}
use Rattle.vba_base.specs.declared.place.Refusal.{Refusal}
use Rattle.vba_module.specs.Parts.{Part}
use Rattle.constant_values.specs.declared_names.specs.binder.specs.Declarations.{Written}
use Rattle.constant_values.specs.declared_names.specs.binder.specs.Said.{Said, header_said}
use Rattle.constant_values.specs.declared_names.specs.binder.specs.Violations.{in_body}
use Rattle.use_rules.specs.Found.{noted}
use Rattle.use_rules.specs.Walked.{walked}
use Rattle.name_rules.proofs.Gathered.{header_noted}

pub mapped_length : {A B : Type 0} (f : A → B) (xs : List A) → length (map f xs) ≡ length xs
mapped_length f [] = refl
mapped_length f (x ∷ xs) = ap suc (mapped_length f xs)

-- what the header and the body of a procedure say
pub inside_noted : {T E : Type 0} (rule : ℕ) (test : Said → List Place) (result : Result T E) (next between now : Option Refusal) (p : Written) (said : List Said) (static : Bool) (parts : List Part)
    → static ≡ is_some p.static_word → parts ≡ p.body → said ≡ header_said p
    → between ≡ noted rule now (flat_map test said)
    → OnOk result (next ≡ noted rule between (walked (λ within. test) static [] parts))
    → OnOk result (next ≡ noted rule now (in_body (λ within. test) p))
inside_noted rule test (Ok x) next between now p said static parts same_static same_parts same_said first is =
    is
    ∙ ap (λ st. noted rule between (walked (λ within. test) st [] parts)) same_static
    ∙ ap (λ ps. noted rule between (walked (λ within. test) (is_some p.static_word) [] ps)) same_parts
    ∙ ap (λ f. noted rule f (walked (λ within. test) (is_some p.static_word) [] p.body)) (first ∙ ap (λ all. noted rule now (flat_map test all)) same_said)
    ∙ sym (header_noted rule (λ within. test) p now)
inside_noted rule test (Err x) next between now p said static parts same_static same_parts same_said first is = tt
