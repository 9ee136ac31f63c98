-- Reference counts: how many references there are to each counted object, by its number.
use Rattle.std.specs.Prelude.{ℕ, zero, suc, ◌+◌, ◌-◌, List, [], ◌∷◌, slice_index}

-- the count of an object; where none is stored it is 0
abbrev pub count_of : List ℕ → ℕ → ℕ
count_of counts o = slice_index counts o

-- one reference more
abbrev pub raise : List ℕ → ℕ → List ℕ
raise [] zero = 1 ∷ []
raise [] (suc o) = 0 ∷ raise [] o
raise (k ∷ ks) zero = (k + 1) ∷ ks
raise (k ∷ ks) (suc o) = k ∷ raise ks o

-- one reference less
abbrev pub lower : List ℕ → ℕ → List ℕ
lower [] o = []
lower (k ∷ ks) zero = (k - 1) ∷ ks
lower (k ∷ ks) (suc o) = k ∷ lower ks o

-- the counts of these objects, each as often as it stands there
abbrev pub raise_all : List ℕ → List ℕ → List ℕ
raise_all counts [] = counts
raise_all counts (o ∷ os) = raise_all (raise counts o) os

abbrev pub lower_all : List ℕ → List ℕ → List ℕ
lower_all counts [] = counts
lower_all counts (o ∷ os) = lower_all (lower counts o) os
