-- Worked rows: two objects whose numbers are exchanged.
use Rattle.std.proofs.Common.{◌≡◌, ℕ, zero, suc, ◌+◌, ◌<◌, List, [], ◌∷◌, Option, Some, None, refl, sym, ap, ◌∙◌, arith}
use Rattle.std.specs.Prelude.{option_map, slice_index_or}
use Rattle.vba_meaning.specs.Memory.{Object}
use Rattle.object_names.specs.Names.{object_named}
use Rattle.object_names.specs.Renamed.{Matches}

-- 1 is 2, and 2 is 1
abbrev pub exchanged : ℕ → ℕ
exchanged zero = 0
exchanged (suc zero) = 2
exchanged (suc (suc zero)) = 1
exchanged (suc (suc (suc n))) = suc (suc (suc n))

twice : (n : ℕ) → exchanged (exchanged n) ≡ n
twice zero = refl
twice (suc zero) = refl
twice (suc (suc zero)) = refl
twice (suc (suc (suc n))) = refl

behind : (j : ℕ) → exchanged (3 + j) ≡ 3 + j
behind j = let is : 3 + j ≡ suc (suc (suc j)) = omega arith in ap exchanged is ∙ sym is

module _ (a b : Object) where
  abbrev these : List (Option Object)
  these = None ∷ Some a ∷ Some b ∷ []

  abbrev those : List (Option Object)
  those = None ∷ Some (object_named exchanged b) ∷ Some (object_named exchanged a) ∷ []

  same_there : (o : ℕ) → slice_index_or those (exchanged o) None ≡ option_map (λ c. object_named exchanged c) (slice_index_or these o None)
  same_there zero = refl
  same_there (suc zero) = refl
  same_there (suc (suc zero)) = refl
  same_there (suc (suc (suc n))) = refl

  inside_there : (o : ℕ) → o < 3 → exchanged o < 3
  inside_there zero lt = omega arith
  inside_there (suc zero) lt = omega arith
  inside_there (suc (suc zero)) lt = omega arith
  inside_there (suc (suc (suc n))) lt = absurd (omega (arith, lt))

  pub exchanged_matches : Matches exchanged these those
  exchanged_matches = record {
    once = λ o n e. sym (twice o) ∙ ap exchanged e ∙ twice n;
    first = refl;
    same = same_there;
    onto = λ n c e. (exchanged n, twice n);
    inside = inside_there;
    next = behind;
  }
