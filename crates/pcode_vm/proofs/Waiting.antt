-- How many calls stand.
use Rattle.std.proofs.Common.{◌≡◌, ℕ, suc, ◌<◌, Bool, true, false, List, [], ◌∷◌, refl, arith}
use Rattle.std.specs.Prelude.{nat_lt, length}
use Rattle.std.proofs.lemmas.Bool.{lt-ltb, ltb-true}
use Rattle.vba_meaning.specs.Memory.{Frame, rest}

-- fewer than 2000 calls stand
pub room_below : (fs : List Frame) → nat_lt (length (rest fs)) 1999 ≡ nat_lt (length fs) 2000
room_below [] = refl
room_below (f ∷ fs) = below (length fs) where
  both : (k : ℕ) (a b : Bool) → nat_lt k 1999 ≡ a → nat_lt (suc k) 2000 ≡ b → a ≡ b
  both k true true p q = refl
  both k false false p q = refl
  both k true false p q = let l : suc k < 2000 = omega (arith, ltb-true k 1999 p) in let e = lt-ltb (suc k) 2000 l in absurd cc
  both k false true p q = let l : k < 1999 = omega (arith, ltb-true (suc k) 2000 q) in let e = lt-ltb k 1999 l in absurd cc

  below : (k : ℕ) → nat_lt k 1999 ≡ nat_lt (suc k) 2000
  below k = both k (nat_lt k 1999) (nat_lt (suc k) 2000) refl refl
