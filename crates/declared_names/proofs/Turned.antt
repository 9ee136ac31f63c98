-- Texts that are compared the other way round.
use Rattle.std.proofs.Common.{◌≡◌, ℕ, ◌&&◌, nat_eq, bytes_eq, List, [], ◌∷◌, refl, ap, ◌∙◌, arith}

nat_eq_turned : (m n : ℕ) → nat_eq m n ≡ nat_eq n m
nat_eq_turned m n = grind arith

pub bytes_eq_turned : (xs ys : List ℕ) → bytes_eq xs ys ≡ bytes_eq ys xs
bytes_eq_turned [] [] = refl
bytes_eq_turned [] (y ∷ ys) = refl
bytes_eq_turned (x ∷ xs) [] = refl
bytes_eq_turned (x ∷ xs) (y ∷ ys) = ap (λ b. b && bytes_eq xs ys) (nat_eq_turned x y) ∙ ap (λ b. nat_eq y x && b) (bytes_eq_turned xs ys)
