-- An item is added by the parts of its definition.
use Rattle.std.proofs.Common.{◌≡◌, ℕ, zero, suc, ◌<◌, ◌≤◌, true, false, List, [], ◌∷◌, length, map, get_or, refl, ap, ◌∙◌, arith}
use Rattle.std.specs.Prelude.{◌&&◌, Bool, Option, None, if◌then◌else◌, slice_index_or}
use Rattle.vba_values.specs.Types as type
use Rattle.vba_values.specs.Val.{Val, empty, null, missing, boolean, whole, currency, text, object, array, udt}
use Rattle.vba_values.specs.Coerce.{coerce_of}
use Rattle.vba_meaning.specs.Memory.{Memory}
use Rattle.vba_meaning.specs.Effects.{Effect, Fine, Bad-at, Out, Tell, answered, on_fine, plain, slot_value, slot_values}
use Rattle.vba_meaning.specs.Collections.{is_given, item_added, items_of, key_in, key_place, keys_of, new_key, new_place, place_of_item, unused_key}
use Rattle.run_memory.specs.declared.frame.Slot.{Slot}
use Rattle.run_memory.specs.View.{slot_view}
use Rattle.run_collections.specs.Parts.{added, folded_by, folded_key}
use Rattle.run_collections.proofs.Seen.{then_seen}

not_given : (v : Val) → is_given v ≡ false → v ≡ missing
not_given missing h = refl
not_given empty h = cc
not_given null h = cc
not_given (boolean b) h = cc
not_given (whole k z) h = cc
not_given (currency n) h = cc
not_given (text t) h = cc
not_given (object o) h = cc
not_given (array b e i) h = cc
not_given (udt n f) h = cc

pub argument_there : (xs : List Slot) (n : ℕ) (d : Slot) → n < length xs → slice_index_or (slot_values (map slot_view xs)) n missing ≡ slot_value (slot_view (get_or xs n d))
argument_there [] n d h = absurd (omega arith)
argument_there (x ∷ xs) zero d h = refl
argument_there (x ∷ xs) (suc n) d h = argument_there xs n d (omega arith)

pub argument_past : (xs : List Slot) (n : ℕ) → length xs ≤ n → slice_index_or (slot_values (map slot_view xs)) n missing ≡ missing
argument_past [] n h = refl
argument_past (x ∷ xs) zero h = absurd (omega arith)
argument_past (x ∷ xs) (suc n) h = argument_past xs n (omega arith)

-- ---- the key

keyed : (e : Effect Val) (g : List ℕ → Memory → Effect (Option (List ℕ)))
    → on_fine e (λ w m1. on_fine (answered (coerce_of w type.text) m1) (λ x m2. g (key_in x) m2)) ≡ on_fine (on_fine e (λ w m1. folded_by w m1)) g
keyed (Fine w m) g = then_seen (answered (coerce_of w type.text) m) key_in g
keyed (Bad-at n m) g = refl
keyed (Out w m) g = refl
keyed (Tell es e) g = ap (λ d. Tell es d) (keyed e g)

pub key_given : (o : ℕ) (v : Val) (m : Memory) → is_given v ≡ true
    → new_key o v m ≡ on_fine (folded_key v m) (λ key m1. unused_key key (key_place key (keys_of o m1)) m1)
key_given o missing m h = cc
key_given o empty m h = keyed (plain empty m) (λ key m1. unused_key key (key_place key (keys_of o m1)) m1)
key_given o null m h = keyed (plain null m) (λ key m1. unused_key key (key_place key (keys_of o m1)) m1)
key_given o (boolean b) m h = keyed (plain (boolean b) m) (λ key m1. unused_key key (key_place key (keys_of o m1)) m1)
key_given o (whole k z) m h = keyed (plain (whole k z) m) (λ key m1. unused_key key (key_place key (keys_of o m1)) m1)
key_given o (currency n) m h = keyed (plain (currency n) m) (λ key m1. unused_key key (key_place key (keys_of o m1)) m1)
key_given o (text t) m h = keyed (plain (text t) m) (λ key m1. unused_key key (key_place key (keys_of o m1)) m1)
key_given o (object r) m h = keyed (plain (object r) m) (λ key m1. unused_key key (key_place key (keys_of o m1)) m1)
key_given o (array b e i) m h = keyed (plain (array b e i) m) (λ key m1. unused_key key (key_place key (keys_of o m1)) m1)
key_given o (udt n f) m h = keyed (plain (udt n f) m) (λ key m1. unused_key key (key_place key (keys_of o m1)) m1)

pub no_key : (o : ℕ) (v : Val) (m : Memory) → is_given v ≡ false → new_key o v m ≡ Fine None m
no_key o v m h = ap (λ w. new_key o w m) (not_given v h)

-- ---- the place

pub place_before : (o : ℕ) (v w : Val) (m : Memory) → is_given v ≡ true → new_place o v w m ≡ place_of_item o v m
place_before o missing w m h = cc
place_before o empty w m h = refl
place_before o null w m h = refl
place_before o (boolean b) w m h = refl
place_before o (whole k z) w m h = refl
place_before o (currency n) w m h = refl
place_before o (text t) w m h = refl
place_before o (object r) w m h = refl
place_before o (array b e i) w m h = refl
place_before o (udt n f) w m h = refl

behind : (o : ℕ) (w : Val) (m : Memory) → is_given w ≡ true → new_place o missing w m ≡ on_fine (place_of_item o w m) (λ i m1. Fine (suc i) m1)
behind o missing m h = cc
behind o empty m h = refl
behind o null m h = refl
behind o (boolean b) m h = refl
behind o (whole k z) m h = refl
behind o (currency n) m h = refl
behind o (text t) m h = refl
behind o (object r) m h = refl
behind o (array b e i) m h = refl
behind o (udt n f) m h = refl

pub place_behind : (o : ℕ) (v w : Val) (m : Memory) → is_given v ≡ false → is_given w ≡ true → new_place o v w m ≡ on_fine (place_of_item o w m) (λ i m1. Fine (suc i) m1)
place_behind o v w m h k = ap (λ x. new_place o x w m) (not_given v h) ∙ behind o w m k

pub place_last : (o : ℕ) (v w : Val) (m : Memory) → is_given v ≡ false → is_given w ≡ false → new_place o v w m ≡ Fine (length (items_of o m)) m
place_last o v w m h k = ap (λ x. new_place o x w m) (not_given v h) ∙ ap (λ x. new_place o missing x m) (not_given w k)

-- ---- the item

by_places : (o : ℕ) (v key before after : Val) (m : Memory) → is_given v ≡ true
    → item_added o v key before after m ≡ (if is_given before && is_given after then Bad-at 5 m else added o v key before after m)
by_places o missing key before after m h = cc
by_places o empty key before after m h = refl
by_places o null key before after m h = refl
by_places o (boolean b) key before after m h = refl
by_places o (whole k z) key before after m h = refl
by_places o (currency n) key before after m h = refl
by_places o (text t) key before after m h = refl
by_places o (object r) key before after m h = refl
by_places o (array b e i) key before after m h = refl
by_places o (udt n f) key before after m h = refl

pub no_item : (o : ℕ) (v key before after : Val) (m : Memory) → is_given v ≡ false → item_added o v key before after m ≡ Bad-at 449 m
no_item o v key before after m h = ap (λ w. item_added o w key before after m) (not_given v h)

pub both_places : (o : ℕ) (v key before after : Val) (m : Memory) → is_given v ≡ true → (is_given before && is_given after) ≡ true
    → item_added o v key before after m ≡ Bad-at 5 m
both_places o v key before after m h k = by_places o v key before after m h ∙ ap (λ (b : Bool). if b then Bad-at 5 m else added o v key before after m) k

pub one_place : (o : ℕ) (v key before after : Val) (m : Memory) → is_given v ≡ true → (is_given before && is_given after) ≡ false
    → item_added o v key before after m ≡ added o v key before after m
one_place o v key before after m h k = by_places o v key before after m h ∙ ap (λ (b : Bool). if b then Bad-at 5 m else added o v key before after m) k
