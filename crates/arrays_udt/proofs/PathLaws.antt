-- What stands at a path after a write at a path.
use Rattle.std.proofs.Common.{◌≡◌, ℕ, zero, suc, nat_eq, true, false, ◌⊎◌, inl, inr, List, [], ◌∷◌, ◌++◌, Some, IsSome, if◌then◌else◌, refl, ap, arith, rules}
use Rattle.std.proofs.lemmas.Bool.Decides.{nat_tests}
use Rattle.std.proofs.lemmas.Bool.{eqb-true}
use Rattle.vba_values.specs.Val.{Val, Vals, array, udt, no_vals, val}
use Rattle.arrays_udt.specs.declared.paths.PathStep.{PathStep}
use Rattle.arrays_udt.specs.declared.paths.PathStep.TheVariants.{Field, Element}
use Rattle.arrays_udt.specs.Paths.{BeginsWith, are_apart, inner_value, path_value, same_step, with_inner, with_path}

next_same : (a b : ℕ) → nat_eq (suc a) (suc b) ≡ nat_eq a b
next_same a b = grind (arith, nat_tests)

mutual
  pub read_apart : (value new : Val) (path other : List PathStep) → are_apart path other ≡ true → path_value (with_path value path new) other ≡ path_value value other
  read_apart value new [] other h = absurd (search rules)
  read_apart value new (a ∷ path) [] h = absurd (search rules)
  read_apart (array bounds element items) new (Element a ∷ path) (Element b ∷ other) h = inner_apart items new a b path other h
  read_apart (array bounds element items) new (Element a ∷ path) (Field b ∷ other) h = refl
  read_apart (array bounds element items) new (Field a ∷ path) (b ∷ other) h = refl
  read_apart (udt number fields) new (Field a ∷ path) (Field b ∷ other) h = inner_apart fields new a b path other h
  read_apart (udt number fields) new (Field a ∷ path) (Element b ∷ other) h = refl
  read_apart (udt number fields) new (Element a ∷ path) (b ∷ other) h = refl
  read_apart value new (a ∷ path) (b ∷ other) h = refl

  inner_apart : (vs : Vals) (new : Val) (a b : ℕ) (path other : List PathStep) → (if nat_eq a b then are_apart path other else true) ≡ true → inner_value (with_inner vs a path new) b other ≡ inner_value vs b other
  inner_apart no_vals new a b path other h = refl
  inner_apart (val v vs) new zero zero path other h = read_apart v new path other h
  inner_apart (val v vs) new zero (suc b) path other h = refl
  inner_apart (val v vs) new (suc a) zero path other h = refl
  inner_apart (val v vs) new (suc a) (suc b) path other h = inner_apart vs new a b path other (rw (next_same a b) at h)

mutual
  pub read_written : (value new : Val) (path rest : List PathStep) → IsSome (path_value value path) → path_value (with_path value path new) (path ++ rest) ≡ path_value new rest
  read_written value new [] rest h = refl
  read_written (array bounds element items) new (Element a ∷ path) rest h = inner_written items new a path rest h
  read_written (array bounds element items) new (Field a ∷ path) rest h = absurd (search rules)
  read_written (udt number fields) new (Field a ∷ path) rest h = inner_written fields new a path rest h
  read_written (udt number fields) new (Element a ∷ path) rest h = absurd (search rules)
  read_written value new (a ∷ path) rest h = absurd (search rules)

  inner_written : (vs : Vals) (new : Val) (a : ℕ) (path rest : List PathStep) → IsSome (inner_value vs a path) → inner_value (with_inner vs a path new) a (path ++ rest) ≡ path_value new rest
  inner_written no_vals new a path rest h = absurd (search rules)
  inner_written (val v vs) new zero path rest h = read_written v new path rest h
  inner_written (val v vs) new (suc a) path rest h = inner_written vs new a path rest h

mutual
  pub read_above : (value old new : Val) (path rest : List PathStep) → path_value value path ≡ Some old → path_value (with_path value (path ++ rest) new) path ≡ Some (with_path old rest new)
  read_above value old new [] rest h = let e : value ≡ old = cc in ap (λ v. Some (with_path v rest new)) e
  read_above (array bounds element items) old new (Element a ∷ path) rest h = inner_above items old new a path rest h
  read_above (array bounds element items) old new (Field a ∷ path) rest h = absurd (cc)
  read_above (udt number fields) old new (Field a ∷ path) rest h = inner_above fields old new a path rest h
  read_above (udt number fields) old new (Element a ∷ path) rest h = absurd (cc)
  read_above value old new (a ∷ path) rest h = absurd (cc)

  inner_above : (vs : Vals) (old new : Val) (a : ℕ) (path rest : List PathStep) → inner_value vs a path ≡ Some old → inner_value (with_inner vs a (path ++ rest) new) a path ≡ Some (with_path old rest new)
  inner_above no_vals old new a path rest h = absurd (cc)
  inner_above (val v vs) old new zero path rest h = read_above v old new path rest h
  inner_above (val v vs) old new (suc a) path rest h = inner_above vs old new a path rest h

same_steps : (a b : PathStep) → same_step a b ≡ true → a ≡ b
same_steps (Field a) (Field b) h = ap Field (eqb-true a b h)
same_steps (Element a) (Element b) h = ap Element (eqb-true a b h)
same_steps (Field a) (Element b) h = absurd (cc)
same_steps (Element a) (Field b) h = absurd (cc)

abbrev Parting : List PathStep → List PathStep → Type 0
Parting path other = (are_apart path other ≡ true) ⊎ (BeginsWith other path ⊎ BeginsWith path other)

step_more : (a b : PathStep) (path other : List PathStep) → same_step a b ≡ true → Parting path other → Parting (a ∷ path) (b ∷ other)
step_more a b path other e (inl h) = inl (rw e h)
step_more a b path other e (inr (inl h)) = inr (inl (h.0, rw (same_steps a b e) (ap (λ p. b ∷ p) h.1)))
step_more a b path other e (inr (inr h)) = inr (inr (h.0, rw (same_steps a b e) (ap (λ p. b ∷ p) h.1)))

pub paths_part : (path other : List PathStep) → Parting path other
paths_part [] other = inr (inl (other, refl))
paths_part (a ∷ path) [] = inr (inr (a ∷ path, refl))
paths_part (a ∷ path) (b ∷ other) = elim (same_step a b) as (λ w. same_step a b ≡ w → Parting (a ∷ path) (b ∷ other)) [
  | true ↦ λ e. step_more a b path other e (paths_part path other)
  | false ↦ λ e. inl (rw e refl)
] refl
