-- Classes by their numbers, and parameters without the last one.
use Rattle.std.proofs.Common.{◌≡◌, ℕ, zero, suc, ◌-◌, ◌≤◌, List, [], ◌∷◌, length, map, take, slice_get, slice_index_or, Option, refl, ap, ◌∙◌, arith}
use Rattle.std.specs.Prelude.{unwrap_or}
use Rattle.bound_project.specs.Parameters.{without_last}
use Rattle.bound_project.specs.Project.{Class, Declarations, class_at, no_class}

class_in : (cs : List Class) (i : ℕ) → unwrap_or (slice_get cs i) no_class ≡ slice_index_or cs i no_class
class_in [] i = refl
class_in (c ∷ cs) zero = refl
class_in (c ∷ cs) (suc i) = class_in cs i

-- what stands at a place is the class with the number behind it, where there is one
pub class_found : (d : Declarations) (number place : ℕ) (o : Option Class) → (1 ≤ number) × (place ≡ number - 1) → o ≡ slice_get d.classes place → unwrap_or o no_class ≡ class_at d number
class_found d zero place o h e = absurd (omega (arith, h.0))
class_found d (suc i) place o h e =
    let same : place ≡ i = omega (arith, h.1) in
    ap (λ (x : Option Class). unwrap_or x no_class) e ∙ ap (λ (k : ℕ). unwrap_or (slice_get d.classes k) no_class) same ∙ class_in d.classes i

-- parameters without the last one are as many of the first ones as stand behind the first
without_last_count : {A B : Type 0} (f : A → B) (x : A) (xs : List A) → without_last (map f (x ∷ xs)) ≡ map f (take (length xs) (x ∷ xs))
without_last_count f x [] = refl
without_last_count f x (y ∷ ys) = ap (λ l. f x ∷ l) (without_last_count f y ys)

-- they are the first ones
pub without_last_map : {A B : Type 0} (f : A → B) (xs : List A) → without_last (map f xs) ≡ map f (take (length xs - 1) xs)
without_last_map f [] = refl
without_last_map f (x ∷ xs) =
    let behind : suc (length xs) - 1 ≡ length xs = omega arith in
    rw behind (without_last_count f x xs)
