-- The rows tell which Types lead to one of them.
use Rattle.std.proofs.Common.{◌≡◌, ℕ, zero, suc, Bool, false, ◌||◌, List, [], ◌∷◌, map, refl, sym, ap, ◌∙◌}
use Rattle.std.specs.Prelude.{◌==◌}
use Rattle.std.specs.List.{list_any}
use Rattle.constant_values.specs.declared_names.specs.binder.specs.Violations.{leads, held_by}
use Rattle.name_rules.specs.Rows.{told, next_row, row_of}

told_by : (f : List ℕ → Bool) → f [] ≡ false → (types : List (List ℕ)) (n : ℕ) → told (map f types) n ≡ f (held_by types n)
told_by f none [] n = sym none
told_by f none (held ∷ types) zero = refl
told_by f none (held ∷ types) (suc n) = told_by f none types n

any_same : (f g : ℕ → Bool) → ((n : ℕ) → f n ≡ g n) → (ns : List ℕ) → list_any f ns ≡ list_any g ns
any_same f g same [] = refl
any_same f g same (n ∷ ns) = ap (λ found. found || list_any f ns) (same n) ∙ ap (λ found. g n || found) (any_same f g same ns)

pub row_told : (k : ℕ) (types : List (List ℕ)) (to n : ℕ) → told (row_of k types to) n ≡ leads k types n to
row_told zero types to n = told_by (λ held. false) refl types n
row_told (suc k) types to n =
    told_by (λ held. list_any (λ m. (m == to) || told (row_of k types to) m) held) refl types n
    ∙ any_same (λ m. (m == to) || told (row_of k types to) m) (λ m. (m == to) || leads k types m to)
    (λ m. ap (λ found. (m == to) || found) (row_told k types to m)) (held_by types n)
