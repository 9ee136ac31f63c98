-- Counted objects give way by their classes.
use Rattle.std.proofs.Common.{◌≡◌, ℕ, List, true, false, refl}
use Rattle.vba_values.specs.Val.{Val}
use Rattle.vba_meaning.specs.Memory.{Slot}
use Rattle.vba_meaning.specs.Meaning.{State}
use Rattle.vba_meaning.specs.Host.{is_counted}
use Rattle.vba_meaning.specs.Defaults.{counted_if_any, counted_operand}
use Rattle.pcode.specs.Instructions.{Code}
use Rattle.pcode.specs.Machine.{Back, gives_way, gives_way_if_any, uses}

pub gives_way_counted : (code : Code) (v : Val) (pc : ℕ) (st : List Slot) (bs : List Back) (s : State) → is_counted v ≡ true
    → gives_way code v pc st bs s ≡ uses code false (counted_operand code.declared v s.memory) pc st bs s
gives_way_counted code v pc st bs s e = rw e refl

pub gives_way_if_counted : (code : Code) (v : Val) (pc : ℕ) (st : List Slot) (bs : List Back) (s : State) → is_counted v ≡ true
    → gives_way_if_any code v pc st bs s ≡ uses code false (counted_if_any code.declared v s.memory) pc st bs s
gives_way_if_counted code v pc st bs s e = rw e refl
