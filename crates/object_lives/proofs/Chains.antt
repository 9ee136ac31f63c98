-- Effects one after another: what comes of each is a later memory, and what it gives refers to what the statement holds.
use Rattle.std.proofs.Common.{◌≡◌, ℕ, Bool, true, false, List, [], ◌++◌, Result, Ok, Err, sym, subst, append_assoc, append-nil}
use Rattle.std.specs.Prelude.{if◌then◌else◌}
use Rattle.vba_values.specs.declared.fault.Bad.{Bad}
use Rattle.vba_values.specs.declared.fault.Bad.TheVariants.{Raise, Outside}
use Rattle.vba_values.specs.Val.{Val}
use Rattle.vba_meaning.specs.Paths.{Path}
use Rattle.vba_meaning.specs.Memory.{Why, Slot, Memory, top}
use Rattle.vba_meaning.specs.Effects.{Event, Effect, Fine, Bad-at, Out, Tell, on_fine, answered}
use Rattle.vba_meaning.specs.Defaults.{Spot, Task, Next}
use Rattle.object_lives.proofs.Values.{in_then, Refers, OkIn}
use Rattle.object_lives.proofs.Held.{World, Values, PathIn, SlotIn, Slots, SpotIn, Tasks, NextIn, values_more, root_more, slot_more, slots_more, spot_more, tasks_more}
use Rattle.object_lives.proofs.Marks.{Silent, silent_marks}
use Rattle.object_lives.proofs.Near.{Near, near_same, near_ready, Stays, reach, wider, Ready, Later, later_same, later_then}

-- ---- what an effect gives

abbrev pub Any : {A : Type 0} → Memory → A → Type 0
Any m v = Unit {0}

abbrev pub Given : Memory → Val → Type 0
Given m v = Refers (top m).held v

abbrev pub GivenAll : Memory → List Val → Type 0
GivenAll m vs = Values (top m).held vs

abbrev pub GivenPath : Bool → Memory → Path → Type 0
GivenPath asks m q = PathIn (reach asks m) q

-- where a variable of the procedure is, or what a block keeps; and where a place leads on, which stays where that does
abbrev pub Staying : Bool → Memory → Path → Type 0
Staying asks m q = GivenPath asks m q × Stays asks m q

abbrev pub LeadsOn : Bool → Path → Memory → Path → Type 0
LeadsOn asks q m p = GivenPath asks m p × (Stays asks m q → Stays asks m p)

abbrev pub GivenSlot : Bool → Memory → Slot → Type 0
GivenSlot asks m x = SlotIn (reach asks m) x

abbrev pub GivenSlots : Bool → Memory → List Slot → Type 0
GivenSlots asks m xs = Slots (reach asks m) xs

abbrev pub GivenSpot : Bool → Memory → Spot → Type 0
GivenSpot asks m s = SpotIn (reach asks m) s

abbrev pub GivenTasks : Bool → Memory → List Task → Type 0
GivenTasks asks m ts = Tasks (reach asks m) ts

abbrev pub GivenNext : Bool → Memory → Next → Type 0
GivenNext asks m n = NextIn (reach asks m) n

-- ---- still held later

module _ {S : Type 0} {asks : Bool} {m m1 : Memory} (n : S → Near asks m m1) where
  pub still : (v : Val) → (S → Given m v) → S → Given m1 v
  still v h s = in_then (h s) (n s).held

  pub still_all : (vs : List Val) → (S → GivenAll m vs) → S → GivenAll m1 vs
  still_all vs h s = values_more (n s).held vs (h s)

  pub still_path : (q : Path) → (S → GivenPath asks m q) → S → GivenPath asks m1 q
  still_path q h s = root_more (wider (n s)) q.root (h s)

  pub still_slot : (x : Slot) → (S → GivenSlot asks m x) → S → GivenSlot asks m1 x
  still_slot x h s = slot_more (wider (n s)) x (h s)

  pub still_slots : (xs : List Slot) → (S → GivenSlots asks m xs) → S → GivenSlots asks m1 xs
  still_slots xs h s = slots_more (wider (n s)) xs (h s)

  pub still_spot : (x : Spot) → (S → GivenSpot asks m x) → S → GivenSpot asks m1 x
  still_spot x h s = spot_more (wider (n s)) x (h s)

  pub still_tasks : (ts : List Task) → (S → GivenTasks asks m ts) → S → GivenTasks asks m1 ts
  still_tasks ts h s = tasks_more (wider (n s)) ts (h s)

  pub still_ready : (S → Ready asks m) → S → Ready asks m1
  still_ready r s = near_ready (n s) (r s)

-- ---- effects

abbrev pub Comes : {A : Type 0} → World → (Memory → A → Type 0) → Memory → List Event → Effect A → Type 0
Comes Sure Q m es (Fine v m1) = Later Sure m es m1 × (Sure.sure → Q m1 v)
Comes Sure Q m es (Bad-at n m1) = Later Sure m es m1
Comes Sure Q m es (Out w m1) = Later Sure m es m1
Comes Sure Q m es (Tell hs e) = Comes Sure Q m (es ++ hs) e

pub record Safe {A : Type 0} (Sure : World) (Q : Memory → A → Type 0) (m : Memory) (e : Effect A) : Type 0 where
  pub law : Comes Sure Q m [] e

-- an effect that leaves the memory, and one that changes it
pub fine : {A : Type 0} {Sure : World} {Q : Memory → A → Type 0} {v : A} {m : Memory} → (Sure.sure → Q m v) → Safe Sure Q m (Fine v m)
fine {m = m} h = record { law = (later_same m, h) }

pub fine_in : {A : Type 0} {Sure : World} {Q : Memory → A → Type 0} {v : A} {m m1 : Memory} → Later Sure m [] m1 → (Sure.sure → Q m1 v) → Safe Sure Q m (Fine v m1)
fine_in l h = record { law = (l, h) }

pub done_in : {Sure : World} {m m1 : Memory} → Later Sure m [] m1 → Safe {A = Unit {0}} Sure Any m (Fine tt m1)
done_in l = record { law = (l, λ s. tt) }

pub bad : {A : Type 0} {Sure : World} {Q : Memory → A → Type 0} (n : ℕ) (m : Memory) → Safe Sure Q m (Bad-at n m)
bad n m = record { law = later_same m }

pub out : {A : Type 0} {Sure : World} {Q : Memory → A → Type 0} (w : Why) (m : Memory) → Safe Sure Q m (Out w m)
out w m = record { law = later_same m }

-- what is given matters less
weaker : {A : Type 0} (Sure : World) (Q R : Memory → A → Type 0) (m : Memory) (es : List Event) (e : Effect A) → ((m1 : Memory) (v : A) → Sure.sure → Q m1 v → R m1 v) → Comes Sure Q m es e → Comes Sure R m es e
weaker Sure Q R m es (Fine v m1) k h = (h.0, λ s. k m1 v s (h.1 s))
weaker Sure Q R m es (Bad-at n m1) k h = h
weaker Sure Q R m es (Out w m1) k h = h
weaker Sure Q R m es (Tell hs e) k h = weaker Sure Q R m (es ++ hs) e k h

pub giving : {A : Type 0} {Sure : World} {Q R : Memory → A → Type 0} {m : Memory} {e : Effect A} → Safe Sure Q m e → ((m1 : Memory) (v : A) → Sure.sure → Q m1 v → R m1 v) → Safe Sure R m e
giving {Sure = Sure} {Q = Q} {R = R} {m = m} {e = e} a k = record { law = weaker Sure Q R m [] e k a.law }

pub anyhow : {A : Type 0} {Sure : World} {Q : Memory → A → Type 0} {m : Memory} {e : Effect A} → Safe Sure Q m e → Safe Sure Any m e
anyhow a = giving a (λ m1 v s q. tt)

-- ---- one after another

with_nil : {A : Type 0} (Sure : World) (Q : Memory → A → Type 0) (m : Memory) (es : List Event) (e : Effect A) → Comes Sure Q m (es ++ []) e → Comes Sure Q m es e
with_nil Sure Q m es e h = subst (λ hs. Comes Sure Q m hs e) (let is : es ++ [] ≡ es = simp append-nil in is) h

moved : {A : Type 0} {Sure : World} (Q : Memory → A → Type 0) {m m1 : Memory} (es hs : List Event) → Later Sure m es m1 → (e : Effect A) → Comes Sure Q m1 hs e → Comes Sure Q m (es ++ hs) e
moved Q es hs l (Fine v m2) h = (later_then l h.0, h.1)
moved Q es hs l (Bad-at n m2) h = later_then l h
moved Q es hs l (Out w m2) h = later_then l h
moved {Sure = Sure} Q {m = m} es hs l (Tell ks e) h = subst (λ js. Comes Sure Q m js e) (sym (append_assoc es hs ks)) (moved Q es (hs ++ ks) l e h)

-- after a change of the memory
pub behind : {A : Type 0} {Sure : World} {Q : Memory → A → Type 0} {m m1 : Memory} {e : Effect A} → Later Sure m [] m1 → Safe Sure Q m1 e → Safe Sure Q m e
behind {Q = Q} {e = e} l a = record { law = moved Q [] [] l e a.law }

-- after events that tell of no object
pub telling : {A : Type 0} {Sure : World} {Q : Memory → A → Type 0} {m : Memory} {e : Effect A} (es : List Event) → Silent es → Safe Sure Q m e → Safe Sure Q m (Tell es e)
telling {Sure = Sure} {Q = Q} {m = m} {e = e} es q a =
    record { law = with_nil Sure Q m es e (moved Q es [] (record { marks = silent_marks m.objects q; near = λ s. near_same m }) e a.law) }

chained : {A B : Type 0} (Sure : World) (Q : Memory → A → Type 0) (R : Memory → B → Type 0) (f : A → Memory → Effect B) (m : Memory) (es : List Event) (e : Effect A) → Comes Sure Q m es e
    → ((v : A) (m1 : Memory) → (Sure.sure → Near Sure.asks m m1) → (Sure.sure → Q m1 v) → Safe Sure R m1 (f v m1)) → Comes Sure R m es (on_fine e f)
chained Sure Q R f m es (Fine v m1) a k = with_nil Sure R m es (f v m1) (moved R es [] a.0 (f v m1) (k v m1 a.0.near a.1).law)
chained Sure Q R f m es (Bad-at n m1) a k = a
chained Sure Q R f m es (Out w m1) a k = a
chained Sure Q R f m es (Tell hs e) a k = chained Sure Q R f m (es ++ hs) e a k

pub then_next : {A B : Type 0} {Sure : World} {Q : Memory → A → Type 0} {R : Memory → B → Type 0} {m : Memory} {e : Effect A} {f : A → Memory → Effect B} → Safe Sure Q m e
    → ((v : A) (m1 : Memory) → (Sure.sure → Near Sure.asks m m1) → (Sure.sure → Q m1 v) → Safe Sure R m1 (f v m1)) → Safe Sure R m (on_fine e f)
then_next {Sure = Sure} {Q = Q} {R = R} {m = m} {e = e} {f = f} a k = record { law = chained Sure Q R f m [] e a.law k }

-- where what comes behind reads the memory
pub then_safe : {A B : Type 0} {Sure : World} {Q : Memory → A → Type 0} {R : Memory → B → Type 0} {m : Memory} {e : Effect A} {f : A → Memory → Effect B} → (Sure.sure → Ready Sure.asks m) → Safe Sure Q m e
    → ((v : A) (m1 : Memory) → (Sure.sure → Ready Sure.asks m1) → (Sure.sure → Near Sure.asks m m1) → (Sure.sure → Q m1 v) → Safe Sure R m1 (f v m1)) → Safe Sure R m (on_fine e f)
then_safe r a k = then_next a (λ v m1 n q. k v m1 (λ s. near_ready (n s) (r s)) n q)

pub both : {A : Type 0} {Sure : World} {Q : Memory → A → Type 0} {m : Memory} {e f : Effect A} (b : Bool) → Safe Sure Q m e → Safe Sure Q m f → Safe Sure Q m (if b then e else f)
both true a c = a
both false a c = c

-- ---- answers of tables

pub answered_safe : {Sure : World} (r : Result Val Bad) (m : Memory) → (Sure.sure → OkIn (top m).held r) → Safe Sure Given m (answered r m)
answered_safe (Ok v) m h = fine h
answered_safe (Err (Raise n)) m h = bad n m
answered_safe (Err (Outside k)) m h = out _ m

pub answered_any : {A : Type 0} {Sure : World} (r : Result A Bad) (m : Memory) → Safe Sure Any m (answered r m)
answered_any (Ok v) m = fine (λ s. tt)
answered_any (Err (Raise n)) m = bad n m
answered_any (Err (Outside k)) m = out _ m
