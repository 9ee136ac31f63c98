-- Instructions at an address.
use Rattle.std.proofs.Common.{◌≡◌, ℕ, ◌+◌, List, [], ◌∷◌, ◌++◌, length, subst, arith, Some, refl}
use Rattle.std.specs.Prelude.{slice_get}
use Rattle.pcode.specs.Instructions.{Instr}
use Rattle.pcode.specs.Layout.{HasAt}

pub has_front : (code : List Instr) (pc : ℕ) (a b : List Instr) → HasAt code pc (a ++ b) → HasAt code pc a
has_front code pc [] b h = tt
has_front code pc (i ∷ a) b h = (h.0, has_front code (pc + 1) a b h.1)

pub has_back : (code : List Instr) (pc : ℕ) (a b : List Instr) → HasAt code pc (a ++ b) → HasAt code (pc + length a) b
has_back code pc [] b h = let e : pc ≡ pc + 0 = omega arith in subst (λ n. HasAt code n b) e h
has_back code pc (i ∷ a) b h =
    let e : pc + 1 + length a ≡ pc + length (i ∷ a) = omega arith in
    subst (λ n. HasAt code n b) e (has_back code (pc + 1) a b h.1)

-- the instructions from an address up to another
abbrev pub UpTo : List Instr → ℕ → List Instr → ℕ → Type 0
UpTo code pc [] to = pc ≡ to
UpTo code pc (i ∷ is) to = (slice_get code pc ≡ Some i) × UpTo code (pc + 1) is to

pub up_split : (code : List Instr) (pc : ℕ) (a b : List Instr) (to : ℕ) → UpTo code pc (a ++ b) to → (mid : ℕ) × UpTo code pc a mid × UpTo code mid b to
up_split code pc [] b to h = (pc, refl, h)
up_split code pc (i ∷ a) b to h = let r = up_split code (pc + 1) a b to h.1 in (r.0, (h.0, r.1), r.2)

pub up_to : (code : List Instr) (pc : ℕ) (is : List Instr) → HasAt code pc is → (to : ℕ) × UpTo code pc is to
up_to code pc [] h = (pc, refl)
up_to code pc (i ∷ is) h = let r = up_to code (pc + 1) is h.1 in (r.0, (h.0, r.1))
