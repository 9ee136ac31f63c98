-- What arguments break is told by their shapes.
use Rattle.std.proofs.Common.{◌≡◌, ℕ, zero, suc, ◌==◌, Bool, true, false, ◌||◌, ◌&&◌, not, List, [], ◌∷◌, map, length, Option, Some, None, is_some, if◌then◌else◌, refl, ap, ◌∙◌}
use Rattle.std.specs.Prelude.{option_and_then}
use Rattle.vba_values.specs.Types.{Declared}
use Rattle.vba_values.specs.Types as type
use Rattle.bound_project.specs.View.{declared_view, parameter_view}
use Rattle.bound_project.specs.Pieces.{Tables}
use Rattle.bound_project.specs.Project.{Parameter}
use Rattle.bound_forms.specs.Terms.{Given, all_but, by_name_from, has_names, may_lack, takes, takes_named}
use Rattle.bound_forms.specs.Terms as plain
use Rattle.bound_forms.specs.Operands.{are_numbers, are_places, fits_bounds}
use Rattle.bound_forms.specs.ExpressionsBound.{arguments_rule, may_index, member_takes, names_taken, takes_arguments, takes_names}
use Rattle.bound_calls.specs.declared.term.Refuser.{Refuser}
use Rattle.bound_calls.specs.declared.term.Refuser.TheVariants as refuser
use Rattle.bound_calls.specs.declared.term.Shape.{Shape}
use Rattle.bound_calls.specs.Shapes.{AreShaped, shapes_given, some_term}
use Rattle.bound_calls.specs.Standing.{member_is, refused_rule}

pub term_some : (b : Bool) → is_some (some_term b) ≡ b
term_some true = refl
term_some false = refl

names_same : (ss : List Shape) (gs : List Given) → AreShaped ss gs → map (λ (g : Given). g.name) (shapes_given ss) ≡ map (λ (g : Given). g.name) gs
names_same [] [] h = refl
names_same [] (g ∷ gs) h = absurd h
names_same (s ∷ ss) [] h = absurd h
names_same (s ∷ ss) (g ∷ gs) h = ap (λ n. n ∷ map (λ (x : Given). x.name) (shapes_given ss)) h.0.0 ∙ ap (λ l. g.name ∷ l) (names_same ss gs h.1)

named_same : (ss : List Shape) (gs : List Given) → AreShaped ss gs → has_names (shapes_given ss) ≡ has_names gs
named_same [] [] h = refl
named_same [] (g ∷ gs) h = absurd h
named_same (s ∷ ss) [] h = absurd h
named_same (s ∷ ss) (g ∷ gs) h = ap (λ n. is_some n || has_names (shapes_given ss)) h.0.0 ∙ ap (λ b. is_some g.name || b) (named_same ss gs h.1)

pub shapes_long : (ss : List Shape) (gs : List Given) → AreShaped ss gs → length (shapes_given ss) ≡ length gs
shapes_long [] [] h = refl
shapes_long [] (g ∷ gs) h = absurd h
shapes_long (s ∷ ss) [] h = absurd h
shapes_long (s ∷ ss) (g ∷ gs) h = ap (λ n. suc n) (shapes_long ss gs h.1)

takes_by_name : (o : Option (List Parameter)) (ss : List Shape) (gs : List Given) → AreShaped ss gs → takes_named o (shapes_given ss) ≡ takes_named o gs
takes_by_name None ss gs h = refl
takes_by_name (Some ps) [] [] h = refl
takes_by_name (Some ps) [] (g ∷ gs) h = absurd h
takes_by_name (Some ps) (s ∷ ss) [] h = absurd h
takes_by_name (Some ps) (s ∷ ss) (g ∷ gs) h =
    ap (λ n. takes_named (option_and_then (all_but ps) n) (shapes_given ss)) h.0.0 ∙ takes_by_name (option_and_then (all_but ps) g.name) ss gs h.1

pub takes_shaped : (ps : List Parameter) (ss : List Shape) (gs : List Given) → AreShaped ss gs → takes ps (shapes_given ss) ≡ takes ps gs
takes_shaped ps [] [] h = refl
takes_shaped ps [] (g ∷ gs) h = absurd h
takes_shaped ps (s ∷ ss) [] h = absurd h
takes_shaped [] (s ∷ ss) (g ∷ gs) h = refl
takes_shaped (p ∷ ps) (s ∷ ss) (g ∷ gs) h =
    let all = shapes_given (s ∷ ss) in
    let written : is_some (some_term s.is_written) ≡ is_some g.term = term_some s.is_written ∙ h.0.1 in
    ap (λ n. if is_some n then takes_named (Some (p ∷ ps)) all else if p.many then not (has_names all) else (is_some (some_term s.is_written) || may_lack p) && takes ps (shapes_given ss)) h.0.0
    ∙ ap (λ b. if is_some g.name then b else if p.many then not (has_names all) else (is_some (some_term s.is_written) || may_lack p) && takes ps (shapes_given ss)) (takes_by_name (Some (p ∷ ps)) (s ∷ ss) (g ∷ gs) h)
    ∙ ap (λ b. if is_some g.name then takes_named (Some (p ∷ ps)) (g ∷ gs) else if p.many then not b else (is_some (some_term s.is_written) || may_lack p) && takes ps (shapes_given ss)) (named_same (s ∷ ss) (g ∷ gs) h)
    ∙ ap (λ b. if is_some g.name then takes_named (Some (p ∷ ps)) (g ∷ gs) else if p.many then not (has_names (g ∷ gs)) else (b || may_lack p) && takes ps (shapes_given ss)) written
    ∙ ap (λ b. if is_some g.name then takes_named (Some (p ∷ ps)) (g ∷ gs) else if p.many then not (has_names (g ∷ gs)) else (is_some g.term || may_lack p) && b) (takes_shaped ps ss gs h.1)

numbers_same : (ss : List Shape) (gs : List Given) → AreShaped ss gs → are_numbers (shapes_given ss) ≡ are_numbers gs
numbers_same [] [] h = refl
numbers_same [] (g ∷ gs) h = absurd h
numbers_same (s ∷ ss) [] h = absurd h
numbers_same (s ∷ []) (g ∷ []) h = term_some s.is_written ∙ h.0.1
numbers_same (s ∷ []) (g ∷ f ∷ gs) h = absurd h.1
numbers_same (s ∷ r ∷ ss) (g ∷ []) h = absurd h.1
numbers_same (s ∷ r ∷ ss) (g ∷ f ∷ gs) h =
    ap (λ b. b && are_numbers (shapes_given (r ∷ ss))) (term_some s.is_written ∙ h.0.1) ∙ ap (λ b. is_some g.term && b) (numbers_same (r ∷ ss) (f ∷ gs) h.1)

places_same : (ss : List Shape) (gs : List Given) → AreShaped ss gs → are_places (shapes_given ss) ≡ are_places gs
places_same ss gs h = ap (λ b. b && not (has_names (shapes_given ss))) (numbers_same ss gs h) ∙ ap (λ b. are_numbers gs && not b) (named_same ss gs h)

fits_same : (bounds : ℕ) (ss : List Shape) (gs : List Given) → AreShaped ss gs → fits_bounds bounds (shapes_given ss) ≡ fits_bounds bounds gs
fits_same zero ss gs h = refl
fits_same (suc n) ss gs h = ap (λ k. k == suc n) (shapes_long ss gs h)

index_same : (of : Declared) (bounds : ℕ) (ss : List Shape) (gs : List Given) → AreShaped ss gs → may_index of bounds (shapes_given ss) ≡ may_index of bounds gs
index_same (type.array_of of) bounds ss gs h = ap (λ b. b && fits_bounds bounds (shapes_given ss)) (places_same ss gs h) ∙ ap (λ b. are_places gs && b) (fits_same bounds ss gs h)
index_same type.variant bounds ss gs h = refl
index_same of bounds ss gs h = refl

taken_same : (m : plain.HostMember) (ss : List Shape) (gs : List Given) → AreShaped ss gs → names_taken m (shapes_given ss) ≡ names_taken m gs
taken_same m ss gs h = ap (λ l. option_and_then (λ by. if takes_names m by then Some by else None) (by_name_from 0 l)) (names_same ss gs h)

member_by : (m : plain.HostMember) (o : Option ℕ) (ss : List Shape) (gs : List Given) → AreShaped ss gs → member_takes (record m { greatest = o }) (shapes_given ss) ≡ member_takes (record m { greatest = o }) gs
member_by m None ss gs h =
    let x : plain.HostMember = record m { greatest = None } in
    ap (λ n. takes_arguments x n && (not (has_names (shapes_given ss)) || true)) (shapes_long ss gs h) ∙ ap (λ b. takes_arguments x (length gs) && (not b || true)) (named_same ss gs h)
member_by m (Some zero) ss gs h =
    let x : plain.HostMember = record m { greatest = Some zero } in
    ap (λ n. takes_arguments x n && (not (has_names (shapes_given ss)) || true)) (shapes_long ss gs h) ∙ ap (λ b. takes_arguments x (length gs) && (not b || true)) (named_same ss gs h)
member_by m (Some (suc k)) ss gs h =
    let x : plain.HostMember = record m { greatest = Some (suc k) } in
    ap (λ n. takes_arguments x n && (not (has_names (shapes_given ss)) || is_some (names_taken x (shapes_given ss)))) (shapes_long ss gs h)
    ∙ ap (λ b. takes_arguments x (length gs) && (not b || is_some (names_taken x (shapes_given ss)))) (named_same ss gs h)
    ∙ ap (λ o. takes_arguments x (length gs) && (not (has_names gs) || is_some o)) (taken_same x ss gs h)

pub member_same : (m : plain.HostMember) (ss : List Shape) (gs : List Given) → AreShaped ss gs → member_takes m (shapes_given ss) ≡ member_takes m gs
member_same m ss gs h = member_by m m.greatest ss gs h

-- so is the rule that they break
pub rule_shaped : (t : Tables) (x : Refuser) (ss : List Shape) (gs : List Given) → AreShaped ss gs → refused_rule t x (shapes_given ss) ≡ refused_rule t x gs
rule_shaped t (refuser.Procedure values ps of) ss gs h = ap (λ b. if b then None else Some 25) (takes_shaped (map parameter_view ps.now) ss gs h)
rule_shaped t (refuser.Value of bounds) ss gs h = ap (λ b. if b then None else Some 25) (index_same (declared_view of) bounds ss gs h)
rule_shaped t (refuser.Called of) [] [] h = refl
rule_shaped t (refuser.Called of) [] (g ∷ gs) h = absurd h
rule_shaped t (refuser.Called of) (s ∷ ss) [] h = absurd h
rule_shaped t (refuser.Called of) (s ∷ ss) (g ∷ gs) h = ap (λ b. if b then None else Some 25) (index_same (declared_view of) 0 (s ∷ ss) (g ∷ gs) h)
rule_shaped t (refuser.Member m) ss gs h = ap (λ b. if b then None else arguments_rule (member_is t m)) (member_same (member_is t m) ss gs h)
rule_shaped t (refuser.Behind m) [] [] h = refl
rule_shaped t (refuser.Behind m) [] (g ∷ gs) h = absurd h
rule_shaped t (refuser.Behind m) (s ∷ ss) [] h = absurd h
rule_shaped t (refuser.Behind m) (s ∷ ss) (g ∷ gs) h = ap (λ b. if b then None else arguments_rule (member_is t m)) (member_same (member_is t m) (s ∷ ss) (g ∷ gs) h)
rule_shaped t refuser.Bare [] [] h = refl
rule_shaped t refuser.Bare [] (g ∷ gs) h = absurd h
rule_shaped t refuser.Bare (s ∷ ss) [] h = absurd h
rule_shaped t refuser.Bare (s ∷ ss) (g ∷ gs) h = refl
rule_shaped t (refuser.Led rule count) ss gs h =
    ap (λ b. if b && (length (shapes_given ss) == count) then Some rule else None) (places_same ss gs h) ∙ ap (λ n. if are_places gs && (n == count) then Some rule else None) (shapes_long ss gs h)
