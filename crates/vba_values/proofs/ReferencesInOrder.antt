-- The references of values in order.
use Rattle.std.proofs.Common.{◌≡◌, ℕ, zero, suc, ◌+◌, ◌<◌, ◌++◌, List, [], ◌∷◌, length, get_or, take, refl, sym, ap, ◌∙◌, append_assoc, add-one, arith}
use Rattle.std.proofs.lemmas.List.{append-nil}
use Rattle.vba_values.specs.declared.value.Value.{Value}
use Rattle.vba_values.specs.Objects.{references_in, references_of}
use Rattle.vba_values.specs.View.{view, views}

-- one value more has its references behind those before it
references_more : (xs : List Value) (n : ℕ) (d : Value) → n < length xs
    → references_in (views (take (suc n) xs)) ≡ references_in (views (take n xs)) ++ references_of (view (get_or xs n d))
references_more [] n d h = absurd (omega arith)
references_more (x ∷ xs) zero d h = append-nil (references_of (view x))
references_more (x ∷ xs) (suc n) d h =
    ap (λ rest. references_of (view x) ++ rest) (references_more xs n d (omega arith))
    ∙ sym (append_assoc (references_of (view x)) (references_in (views (take n xs))) (references_of (view (get_or xs n d))))

pub references_next : (xs : List Value) (n : ℕ) (d : Value) → n < length xs
    → references_in (views (take (n + 1) xs)) ≡ references_in (views (take n xs)) ++ references_of (view (get_or xs n d))
references_next xs n d h = ap (λ m. references_in (views (take m xs))) (add-one n) ∙ references_more xs n d h
