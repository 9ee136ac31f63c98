-- The arguments of Err.Raise.
use Rattle.std.proofs.Common.{◌≡◌, ℕ, zero, suc, List, [], ◌∷◌, true, false, refl}
use Rattle.std.specs.Prelude.{map, slice_index_or}
use Rattle.vba_values.specs.Types as type
use Rattle.vba_values.specs.Val.{Val, empty, null, missing, boolean, whole, currency, text, object, array, udt}
use Rattle.vba_meaning.specs.Memory.{Memory, value}
use Rattle.vba_meaning.specs.Effects.{Fine, Bad-at, slot_value, slot_values}
use Rattle.vba_meaning.specs.Host.{number_given, text_given}
use Rattle.run_memory.specs.declared.frame.Slot.{Slot}
use Rattle.run_memory.specs.View.{slot_view}
use Rattle.run_host.specs.Members.{is_missing, plain_as}

pub argument_at : (xs : List Slot) (n : ℕ)
    → slice_index_or (slot_values (map slot_view xs)) n missing ≡ slot_value (slice_index_or (map slot_view xs) n (value missing))
argument_at [] n = refl
argument_at (x ∷ xs) zero = refl
argument_at (x ∷ xs) (suc n) = argument_at xs n

pub number_missing : (v : Val) (m : Memory) → is_missing v ≡ true → number_given v m ≡ Bad-at 449 m
number_missing missing m h = refl
number_missing empty m h = cc
number_missing null m h = cc
number_missing (boolean b) m h = cc
number_missing (whole k z) m h = cc
number_missing (currency n) m h = cc
number_missing (text t) m h = cc
number_missing (object o) m h = cc
number_missing (array b e i) m h = cc
number_missing (udt n f) m h = cc

pub number_coerced : (v : Val) (m : Memory) → is_missing v ≡ false → number_given v m ≡ plain_as type.long v m
number_coerced missing m h = cc
number_coerced empty m h = refl
number_coerced null m h = refl
number_coerced (boolean b) m h = refl
number_coerced (whole k z) m h = refl
number_coerced (currency n) m h = refl
number_coerced (text t) m h = refl
number_coerced (object o) m h = refl
number_coerced (array b e i) m h = refl
number_coerced (udt n f) m h = refl

pub text_missing : (v : Val) (m : Memory) → is_missing v ≡ true → text_given v m ≡ Fine missing m
text_missing missing m h = refl
text_missing empty m h = cc
text_missing null m h = cc
text_missing (boolean b) m h = cc
text_missing (whole k z) m h = cc
text_missing (currency n) m h = cc
text_missing (text t) m h = cc
text_missing (object o) m h = cc
text_missing (array b e i) m h = cc
text_missing (udt n f) m h = cc

pub text_coerced : (v : Val) (m : Memory) → is_missing v ≡ false → text_given v m ≡ plain_as type.text v m
text_coerced missing m h = cc
text_coerced empty m h = refl
text_coerced null m h = refl
text_coerced (boolean b) m h = refl
text_coerced (whole k z) m h = refl
text_coerced (currency n) m h = refl
text_coerced (text t) m h = refl
text_coerced (object o) m h = refl
text_coerced (array b e i) m h = refl
text_coerced (udt n f) m h = refl
