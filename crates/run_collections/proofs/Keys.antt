-- The first item with a key.
use Rattle.std.proofs.Common.{◌≡◌, ℕ, suc, ◌+◌, true, false, List, [], ◌∷◌, length, refl, sym, ap, ◌∙◌, arith, inl, inr}
use Rattle.std.specs.Prelude.{Option, Some, None, Bool, bytes_eq, cond, not, if◌then◌else◌, nat_lt, option_map, position}
use Rattle.std.specs.List.{position_or_len}
use Rattle.std.proofs.lemmas.Bool.{cases_lt, lt-ltb, le-ltb}
use Rattle.vba_meaning.specs.Collections.{key_place}
use Rattle.run_collections.specs.Parts.{has_key}

lt_more : (p n : ℕ) → nat_lt (suc p) (suc n) ≡ nat_lt p n
lt_more p n = elim (cases_lt p n) [
  | inl a ↦ lt-ltb (suc p) (suc n) (omega arith) ∙ sym (lt-ltb p n a)
  | inr a ↦ le-ltb (suc p) (suc n) (omega arith) ∙ sym (le-ltb p n a)
]

-- one place further
further : (p n : ℕ) → option_map suc (cond (nat_lt p n) (Some p) None) ≡ cond (nat_lt (1 + p) (suc n)) (Some (1 + p)) None
further p n = by_test (nat_lt p n) ∙ ap (λ b. cond b (Some (suc p)) None) (sym (lt_more p n)) ∙ shown where
  by_test : (b : Bool) → option_map suc (cond b (Some p) None) ≡ cond b (Some (suc p)) None
  by_test true = refl
  by_test false = refl

  shown : cond (nat_lt (suc p) (suc n)) (Some (suc p)) None ≡ cond (nat_lt (1 + p) (suc n)) (Some (1 + p)) None
  shown = let e : suc p ≡ 1 + p = omega arith in ap (λ k. cond (nat_lt k (suc n)) (Some k) None) e

first_or_further : (b : Bool) (o : Option ℕ) (p n : ℕ) → o ≡ cond (nat_lt p n) (Some p) None
    → (if b then Some 0 else option_map suc o) ≡ cond (nat_lt (cond (not b) (1 + p) 0) (suc n)) (Some (cond (not b) (1 + p) 0)) None
first_or_further true o p n e = ap (λ b. cond b (Some 0) None) (sym (lt-ltb 0 (suc n) (omega arith)))
first_or_further false o p n e = ap (option_map suc) e ∙ further p n

pub key_first : (key : List ℕ) (keys : List (Option (List ℕ))) → key_place key keys ≡ position (has_key key) keys
key_first key [] = refl
key_first key (None ∷ keys) = ap (option_map suc) (key_first key keys) ∙ further (position_or_len (has_key key) keys) (length keys)
key_first key (Some k ∷ keys) = first_or_further (bytes_eq k key) (key_place key keys) (position_or_len (has_key key) keys) (length keys) (key_first key keys)
