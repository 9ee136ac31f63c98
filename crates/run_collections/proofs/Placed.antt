-- Lists with one more and one less.
use Rattle.std.proofs.Common.{◌≡◌, ℕ, zero, suc, ◌<◌, ◌≤◌, List, [], ◌∷◌, ◌++◌, length, map, refl, ap, arith}
use Rattle.std.specs.List.{insert, remove}
use Rattle.vba_meaning.specs.Collections.{put_at, without_at}

pub put_inside : {A : Type 0} (xs : List A) (i : ℕ) (x : A) → i < length xs → put_at i x xs ≡ insert xs i x
put_inside [] i x h = absurd (omega arith)
put_inside (y ∷ ys) zero x h = refl
put_inside (y ∷ ys) (suc i) x h = ap (λ zs. y ∷ zs) (put_inside ys i x (omega arith))

pub put_behind : {A : Type 0} (xs : List A) (i : ℕ) (x : A) → length xs ≤ i → put_at i x xs ≡ xs ++ x ∷ []
put_behind [] zero x h = refl
put_behind [] (suc i) x h = refl
put_behind (y ∷ ys) zero x h = absurd (omega arith)
put_behind (y ∷ ys) (suc i) x h = ap (λ zs. y ∷ zs) (put_behind ys i x (omega arith))

pub without_inside : {A : Type 0} (xs : List A) (i : ℕ) → i < length xs → without_at i xs ≡ remove xs i
without_inside [] i h = absurd (omega arith)
without_inside (y ∷ ys) zero h = refl
without_inside (y ∷ ys) (suc i) h = ap (λ zs. y ∷ zs) (without_inside ys i (omega arith))

pub without_none : {A : Type 0} (xs : List A) (i : ℕ) → length xs ≤ i → without_at i xs ≡ xs
without_none [] i h = refl
without_none (y ∷ ys) zero h = absurd (omega arith)
without_none (y ∷ ys) (suc i) h = ap (λ zs. y ∷ zs) (without_none ys i (omega arith))

pub put_mapped : {A B : Type 0} (f : A → B) (xs : List A) (i : ℕ) (x : A) → map f (put_at i x xs) ≡ put_at i (f x) (map f xs)
put_mapped f [] zero x = refl
put_mapped f [] (suc i) x = refl
put_mapped f (y ∷ ys) zero x = refl
put_mapped f (y ∷ ys) (suc i) x = ap (λ zs. f y ∷ zs) (put_mapped f ys i x)

pub without_mapped : {A B : Type 0} (f : A → B) (xs : List A) (i : ℕ) → map f (without_at i xs) ≡ without_at i (map f xs)
without_mapped f [] i = refl
without_mapped f (y ∷ ys) zero = refl
without_mapped f (y ∷ ys) (suc i) = ap (λ zs. f y ∷ zs) (without_mapped f ys i)
