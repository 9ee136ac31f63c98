-- Bounds one after another are all bounds.
use Rattle.std.proofs.Common.{◌≡◌, List, [], ◌∷◌, ◌++◌, Option, Some, None, refl, sym, ap, ◌∙◌, append_assoc}
use Rattle.std.specs.Prelude.{option_map}
use Rattle.std.proofs.lemmas.List.{append-nil}
use Rattle.vba_values.specs.declared.value.Bound.{Bound}
use Rattle.declared_names.specs.binder.specs.Options.{from_two}
use Rattle.declared_names.specs.binder.specs.Constants.{all_bounds}
use Rattle.constant_values.specs.Bounds.{all_behind}

one_more : (before : List Bound) (b : Bound) (r : Option (List Bound))
    → option_map (λ (bs : List Bound). (before ++ b ∷ []) ++ bs) r ≡ option_map (λ (bs : List Bound). before ++ bs) (from_two (λ (x : Bound) (xs : List Bound). x ∷ xs) (Some b) r)
one_more before b None = refl
one_more before b (Some bs) = ap Some (append_assoc before (b ∷ []) bs)

behind_all : (before : List Bound) (bounds : List (Option Bound)) → all_behind before bounds ≡ option_map (λ (bs : List Bound). before ++ bs) (all_bounds bounds)
behind_all before [] = ap Some (sym (append-nil before))
behind_all before (None ∷ bounds) = refl
behind_all before (Some b ∷ bounds) = behind_all (before ++ b ∷ []) bounds ∙ one_more before b (all_bounds bounds)

same_map : (b : Bound) (r : Option (List Bound))
    → option_map (λ (bs : List Bound). (b ∷ []) ++ bs) r ≡ from_two (λ (x : Bound) (xs : List Bound). x ∷ xs) (Some b) r
same_map b None = refl
same_map b (Some bs) = refl

pub all_from : (b : Bound) (bounds : List (Option Bound)) → all_behind (b ∷ []) bounds ≡ all_bounds (Some b ∷ bounds)
all_from b bounds = behind_all (b ∷ []) bounds ∙ same_map b (all_bounds bounds)
