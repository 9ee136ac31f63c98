-- Numbers of parameters by their names.
use Rattle.std.proofs.Common.{◌≡◌, ℕ, suc, ◌+◌, ◌-◌, ◌≤◌, Bool, true, false, List, [], ◌∷◌, map, length, take, drop, get_or, Option, Some, if◌then◌else◌, Bor, Decides, refl, sym, ap, ◌∙◌, arith}
use Rattle.std.proofs.lemmas.List.{take_all}
use Rattle.std.proofs.lemmas.Slice.Eq.{bytes_eq-Decides}
use Rattle.std.specs.Prelude.{bytes_eq}
use Rattle.vba_meaning.specs.ByName.{parameter_named}

-- two texts are the same whichever stands first
same_swapped : (a b : List ℕ) → bytes_eq a b ≡ bytes_eq b a
same_swapped a b = at (bytes_eq a b) (bytes_eq b a) (bytes_eq-Decides a b) (bytes_eq-Decides b a)
  where
    at : (x y : Bool) → Decides x (a ≡ b) → Decides y (b ≡ a) → x ≡ y
    at true true d e = refl
    at true false d e = sym (e.1 (sym (d.0 refl)))
    at false true d e = d.1 (sym (e.0 refl))
    at false false d e = refl

-- where the first parameter has another name it is one behind it
pub named_behind : (first : ℕ) (ps : List (Bor (List ℕ))) (none : Bor (List ℕ)) (name : List ℕ) (found : Option ℕ) → 1 ≤ length ps → bytes_eq name (get_or ps 0 none).now ≡ false
    → found ≡ parameter_named (first + 1) (map (λ w. w.now) (take (length ps - 1) (drop 1 ps))) name → found ≡ parameter_named first (map (λ w. w.now) ps) name
named_behind first [] none name found some other behind = absurd (omega (arith, some))
named_behind first (p ∷ ps) none name found some other behind =
    let all : take (length (p ∷ ps) - 1) ps ≡ ps = take_all (length (p ∷ ps) - 1) ps (omega arith) in
    let next : first + 1 ≡ suc first = omega arith in
    let rest = parameter_named (suc first) (map (λ w. w.now) ps) name in
    behind ∙ ap (λ (l : List (Bor (List ℕ))). parameter_named (first + 1) (map (λ w. w.now) l) name) all ∙ ap (λ (k : ℕ). parameter_named k (map (λ w. w.now) ps) name) next
    ∙ ap (λ (b : Bool). if b then Some first else rest) (sym (same_swapped p.now name ∙ other))
