-- Calls within uses of objects.
use Rattle.std.proofs.Common.{◌≡◌, ℕ, zero, suc, ◌-◌, List, ◌∷◌, length, Bool, true, false, refl, arith}
use Rattle.std.specs.Prelude.{nat_lt}
use Rattle.vba_values.specs.Val.{Val}
use Rattle.vba_meaning.specs.Memory.{Slot, error_here}
use Rattle.vba_meaning.specs.Meaning.{State}
use Rattle.vba_meaning.specs.Defaults.{Task, then_call}
use Rattle.pcode.specs.Instructions.{Code}
use Rattle.pcode.specs.Machine.{Back, Within, follows, raised, enters}

-- none may be made any more
pub follows_over : (code : Code) (place : Bool) (left pc : ℕ) (st : List Slot) (bs : List Back) (p : ℕ) (me : Val) (xs : List Slot) (ts : List Task) (s : State)
    → left ≡ 0 → follows code place left pc st bs (then_call p me xs ts) s ≡ raised (error_here 450 s.memory) bs s
follows_over code place left pc st bs p me xs ts s e = rw e refl

-- too many stand
pub follows_full : (code : Code) (place : Bool) (left pc : ℕ) (st : List Slot) (bs : List Back) (p : ℕ) (me : Val) (xs : List Slot) (ts : List Task) (s : State)
    → (left ≡ 0 → ⊥) → nat_lt (length s.memory.frames) 2000 ≡ false → follows code place left pc st bs (then_call p me xs ts) s ≡ raised (error_here 28 s.memory) bs s
follows_full code place zero pc st bs p me xs ts s n e = absurd (n refl)
follows_full code place (suc k) pc st bs p me xs ts s n e = rw e refl

-- there is room for one
pub follows_entered : (code : Code) (place : Bool) (left pc : ℕ) (st : List Slot) (b : Back) (bs bs' : List Back) (p : ℕ) (me : Val) (xs : List Slot) (ts : List Task) (s s' : State)
    → (left ≡ 0 → ⊥) → nat_lt (length s.memory.frames) 2000 ≡ true → b ≡ Within place (left - 1) ts pc st → bs' ≡ bs → s' ≡ s
    → follows code place left pc st bs (then_call p me xs ts) s ≡ enters code true p me xs (b ∷ bs') s'
follows_entered code place zero pc st b bs bs' p me xs ts s s' n e f g h = absurd (n refl)
follows_entered code place (suc k) pc st b bs bs' p me xs ts s s' n e f g h = let one : suc k - 1 ≡ k = omega arith in rw (e, f, one, g, h) refl
