-- What effects raise, one after another.
use Rattle.std.proofs.Common.{◌≡◌, ℕ, zero, suc, Bool, true, false, List, [], ◌∷◌, ◌++◌, Result, Ok, Err, refl, sym, ap, subst, arith, append-nil}
use Rattle.std.specs.Prelude.{slice_index_or, if◌then◌else◌}
use Rattle.vba_values.specs.declared.fault.Bad.{Bad}
use Rattle.vba_values.specs.declared.fault.Bad.TheVariants.{Raise, Outside}
use Rattle.vba_values.specs.Val.{Val}
use Rattle.vba_meaning.specs.Paths.{Path}
use Rattle.vba_meaning.specs.Memory.{Memory, Why, outside}
use Rattle.vba_meaning.specs.References.{objects_in, times}
use Rattle.vba_meaning.specs.Effects.{Event, Effect, Fine, Bad-at, Out, Tell, on_fine, answered}
use Rattle.vba_meaning.specs.Collections.{with_none}
use Rattle.object_counts.specs.Gains.{gains_behind, given_gains}
use Rattle.object_counts.proofs.Looks.{Grows, same, grown, IsThere}

-- in each memory to which an effect comes these references are there once more
abbrev pub Raises : {A : Type 0} → Memory → List ℕ → Effect A → Type 0
Raises m gs (Fine v m1) = Grows m gs m1
Raises m gs (Bad-at n m1) = Grows m gs m1
Raises m gs (Out w m1) = Grows m gs m1
Raises m gs (Tell es e) = Raises m gs e

pub record Law {A : Type 0} (m : Memory) (gs : List ℕ) (e : Effect A) : Type 0 where
  pub law : Raises m gs e

pub fine : {A : Type 0} {m m1 : Memory} {gs : List ℕ} (v : A) → Grows m gs m1 → Law m gs (Fine v m1)
fine v h = record { law = h }

pub bad : {A : Type 0} {m m1 : Memory} {gs : List ℕ} (n : ℕ) → Grows m gs m1 → Law {A = A} m gs (Bad-at n m1)
bad n h = record { law = h }

pub out : {A : Type 0} {m m1 : Memory} {gs : List ℕ} (w : Why) → Grows m gs m1 → Law {A = A} m gs (Out w m1)
out w h = record { law = h }

pub told : {A : Type 0} {m : Memory} {gs : List ℕ} {e : Effect A} (es : List Event) → Law m gs e → Law m gs (Tell es e)
told es a = record { law = a.law }

-- ---- one after another

pub with_nil : {m m1 : Memory} {gs : List ℕ} → Grows m gs m1 → Grows m (gs ++ []) m1
with_nil {gs = gs} h = record { ordered = h.ordered; more = λ k o. (let e : gs ++ [] ≡ gs = simp append-nil in omega (arith, h.more k o, ap (times o) e)) }

pub nil_with : {m m1 m2 : Memory} {gs : List ℕ} → Grows m gs m1 → Grows m1 [] m2 → Grows m gs m2
nil_with a b = record { ordered = λ h. b.ordered (a.ordered h); more = λ h o. omega (arith, a.more h o, b.more (a.ordered h) o) }

moved_raises : {A : Type 0} {m m1 : Memory} {gs : List ℕ} (hs : List ℕ) → Grows m gs m1 → (e : Effect A) → Raises m1 hs e → Raises m (gs ++ hs) e
moved_raises hs a (Fine v m2) h = grown a h
moved_raises hs a (Bad-at n m2) h = grown a h
moved_raises hs a (Out w m2) h = grown a h
moved_raises hs a (Tell es e) h = moved_raises hs a e h

-- behind what was raised before
pub moved : {A : Type 0} {m m1 : Memory} {gs hs : List ℕ} {e : Effect A} → Grows m gs m1 → Law m1 hs e → Law m (gs ++ hs) e
moved {hs = hs} {e = e} a h = record { law = moved_raises hs a e h.law }

still_raises : {A : Type 0} {m m1 : Memory} {gs : List ℕ} → Grows m gs m1 → (e : Effect A) → Raises m1 [] e → Raises m gs e
still_raises a (Fine v m2) h = nil_with a h
still_raises a (Bad-at n m2) h = nil_with a h
still_raises a (Out w m2) h = nil_with a h
still_raises a (Tell es e) h = still_raises a e h

chained : {A B : Type 0} (m : Memory) (gs : List ℕ) {h : A → Memory → List ℕ} {f : A → Memory → Effect B} (e : Effect A) → Raises m gs e → ((v : A) (m1 : Memory) → Law m1 (h v m1) (f v m1))
    → Raises m (gs ++ gains_behind e h) (on_fine e f)
chained m gs {h = h} {f = f} (Fine v m1) a k = moved_raises (h v m1) a (f v m1) (k v m1).law
chained m gs (Bad-at n m1) a k = with_nil a
chained m gs (Out w m1) a k = with_nil a
chained m gs (Tell es e) a k = chained m gs e a k

pub then_law : {A B : Type 0} {m : Memory} {gs : List ℕ} {h : A → Memory → List ℕ} {f : A → Memory → Effect B} {e : Effect A} → Law m gs e → ((v : A) (m1 : Memory) → Law m1 (h v m1) (f v m1))
    → Law m (gs ++ gains_behind e h) (on_fine e f)
then_law {m = m} {gs = gs} {e = e} a k = record { law = chained m gs e a.law k }

-- what comes behind raises nothing
chained_still : {A B : Type 0} (m : Memory) (gs : List ℕ) {f : A → Memory → Effect B} (e : Effect A) → Raises m gs e → ((v : A) (m1 : Memory) → Law m1 [] (f v m1)) → Raises m gs (on_fine e f)
chained_still m gs {f = f} (Fine v m1) a k = still_raises a (f v m1) (k v m1).law
chained_still m gs (Bad-at n m1) a k = a
chained_still m gs (Out w m1) a k = a
chained_still m gs (Tell es e) a k = chained_still m gs e a k

pub then_still : {A B : Type 0} {m : Memory} {gs : List ℕ} {f : A → Memory → Effect B} {e : Effect A} → Law m gs e → ((v : A) (m1 : Memory) → Law m1 [] (f v m1)) → Law m gs (on_fine e f)
then_still {m = m} {gs = gs} {e = e} a k = record { law = chained_still m gs e a.law k }

-- what comes before raises nothing
pub after_still : {A B : Type 0} {m : Memory} {h : A → Memory → List ℕ} {f : A → Memory → Effect B} {e : Effect A} → Law m [] e → ((v : A) (m1 : Memory) → Law m1 (h v m1) (f v m1))
    → Law m (gains_behind e h) (on_fine e f)
after_still a k = then_law a k

pub answered_law : {A : Type 0} (r : Result A Bad) (m : Memory) → Law m [] (answered r m)
answered_law (Ok v) m = fine v (same m)
answered_law (Err (Raise n)) m = bad n (same m)
answered_law (Err (Outside k)) m = out (outside k) (same m)

pub either : {A : Type 0} {m : Memory} {gs hs : List ℕ} {e f : Effect A} (b : Bool) → Law m gs e → Law m hs f → Law m (if b then gs else hs) (if b then e else f)
either true a c = a
either false a c = c

pub both : {A : Type 0} {m : Memory} {gs : List ℕ} {e f : Effect A} (b : Bool) → Law m gs e → Law m gs f → Law m gs (if b then e else f)
both true a c = a
both false a c = c

-- one of several
abbrev pub AllOf : {A : Type 0} → (A → Type 0) → List A → Type 0
AllOf P [] = Unit {0}
AllOf P (x ∷ xs) = P x × AllOf P xs

pub one_of : {A : Type 0} (P : A → Type 0) (xs : List A) (n : ℕ) (d : A) → AllOf P xs → P d → P (slice_index_or xs n d)
one_of P [] zero d h k = k
one_of P [] (suc n) d h k = k
one_of P (x ∷ xs) zero d h k = h.0
one_of P (x ∷ xs) (suc n) d h k = one_of P xs n d h.1 k

-- ---- effects whose value is held

abbrev pub GivesHeld : Memory → Effect Val → Type 0
GivesHeld m (Fine v m1) = Grows m (objects_in v) m1
GivesHeld m (Bad-at n m1) = Grows m [] m1
GivesHeld m (Out w m1) = Grows m [] m1
GivesHeld m (Tell es e) = GivesHeld m e

pub record Holds (m : Memory) (e : Effect Val) : Type 0 where
  pub law : GivesHeld m e

holds_raises : (m : Memory) (e : Effect Val) → GivesHeld m e → Raises m (given_gains e) e
holds_raises m (Fine v m1) h = h
holds_raises m (Bad-at n m1) h = h
holds_raises m (Out w m1) h = h
holds_raises m (Tell es e) h = holds_raises m e h

pub held_law : {m : Memory} {e : Effect Val} → Holds m e → Law m (given_gains e) e
held_law {m = m} {e = e} h = record { law = holds_raises m e h.law }

moved_holds : {m m1 : Memory} → Grows m [] m1 → (e : Effect Val) → GivesHeld m1 e → GivesHeld m e
moved_holds a (Fine v m2) h = grown a h
moved_holds a (Bad-at n m2) h = grown a h
moved_holds a (Out w m2) h = grown a h
moved_holds a (Tell es e) h = moved_holds a e h

chained_holds : {A : Type 0} (m : Memory) {f : A → Memory → Effect Val} (e : Effect A) → Raises m [] e → ((v : A) (m1 : Memory) → Holds m1 (f v m1)) → GivesHeld m (on_fine e f)
chained_holds m {f = f} (Fine v m1) a k = moved_holds a (f v m1) (k v m1).law
chained_holds m (Bad-at n m1) a k = a
chained_holds m (Out w m1) a k = a
chained_holds m (Tell es e) a k = chained_holds m e a k

pub then_holds : {A : Type 0} {m : Memory} {f : A → Memory → Effect Val} {e : Effect A} → Law m [] e → ((v : A) (m1 : Memory) → Holds m1 (f v m1)) → Holds m (on_fine e f)
then_holds {m = m} {e = e} a k = record { law = chained_holds m e a.law k }

-- ---- effects of whose value it is known what is raised

abbrev pub GivesBy : {A : Type 0} → (A → Memory → List ℕ) → Memory → Effect A → Type 0
GivesBy h m (Fine v m1) = Grows m (h v m1) m1
GivesBy h m (Bad-at n m1) = Grows m [] m1
GivesBy h m (Out w m1) = Grows m [] m1
GivesBy h m (Tell es e) = GivesBy h m e

pub record By {A : Type 0} (h : A → Memory → List ℕ) (m : Memory) (e : Effect A) : Type 0 where
  pub law : GivesBy h m e

by_raises : {A : Type 0} (h : A → Memory → List ℕ) (m : Memory) (e : Effect A) → GivesBy h m e → Raises m (gains_behind e h) e
by_raises h m (Fine v m1) a = a
by_raises h m (Bad-at n m1) a = a
by_raises h m (Out w m1) a = a
by_raises h m (Tell es e) a = by_raises h m e a

pub by_law : {A : Type 0} {h : A → Memory → List ℕ} {m : Memory} {e : Effect A} → By h m e → Law m (gains_behind e h) e
by_law {h = h} {m = m} {e = e} a = record { law = by_raises h m e a.law }

moved_by : {A : Type 0} (h : A → Memory → List ℕ) {m m1 : Memory} → Grows m [] m1 → (e : Effect A) → GivesBy h m1 e → GivesBy h m e
moved_by h a (Fine v m2) k = grown a k
moved_by h a (Bad-at n m2) k = grown a k
moved_by h a (Out w m2) k = grown a k
moved_by h a (Tell es e) k = moved_by h a e k

chained_by : {A B : Type 0} (h : B → Memory → List ℕ) (m : Memory) {f : A → Memory → Effect B} (e : Effect A) → Raises m [] e → ((v : A) (m1 : Memory) → By h m1 (f v m1)) → GivesBy h m (on_fine e f)
chained_by h m {f = f} (Fine v m1) a k = moved_by h a (f v m1) (k v m1).law
chained_by h m (Bad-at n m1) a k = a
chained_by h m (Out w m1) a k = a
chained_by h m (Tell es e) a k = chained_by h m e a k

pub then_by : {A B : Type 0} {h : B → Memory → List ℕ} {m : Memory} {f : A → Memory → Effect B} {e : Effect A} → Law m [] e → ((v : A) (m1 : Memory) → By h m1 (f v m1)) → By h m (on_fine e f)
then_by {h = h} {m = m} {e = e} a k = record { law = chained_by h m e a.law k }

pub both_by : {A : Type 0} {h : A → Memory → List ℕ} {m : Memory} {e f : Effect A} (b : Bool) → By h m e → By h m f → By h m (if b then e else f)
both_by true a c = a
both_by false a c = c

-- a value that is held, while no reference waits
held_by_none : (m : Memory) (e : Effect Val) → GivesHeld m e → GivesBy (λ (r : Val × ℕ) m1. objects_in r.0) m (with_none e)
held_by_none m (Fine v m1) h = h
held_by_none m (Bad-at n m1) h = h
held_by_none m (Out w m1) h = h
held_by_none m (Tell es e) h = held_by_none m e h

pub none_waits : {m : Memory} {e : Effect Val} → Holds m e → By (λ (r : Val × ℕ) m1. objects_in r.0) m (with_none e)
none_waits {m = m} {e = e} h = record { law = held_by_none m e h.law }

pub both_hold : {m : Memory} {e f : Effect Val} (b : Bool) → Holds m e → Holds m f → Holds m (if b then e else f)
both_hold true a c = a
both_hold false a c = c

-- ---- effects whose value refers to nothing

abbrev pub GivesBare : Memory → Effect Val → Type 0
GivesBare m (Fine v m1) = (objects_in v ≡ []) × Grows m [] m1
GivesBare m (Bad-at n m1) = Grows m [] m1
GivesBare m (Out w m1) = Grows m [] m1
GivesBare m (Tell es e) = GivesBare m e

pub record Bare (m : Memory) (e : Effect Val) : Type 0 where
  pub law : GivesBare m e

bare_gives : (m : Memory) (e : Effect Val) → GivesBare m e → GivesHeld m e
bare_gives m (Fine v m1) h = subst (λ gs. Grows m gs m1) (sym h.0) h.1
bare_gives m (Bad-at n m1) h = h
bare_gives m (Out w m1) h = h
bare_gives m (Tell es e) h = bare_gives m e h

pub bare_holds : {m : Memory} {e : Effect Val} → Bare m e → Holds m e
bare_holds {m = m} {e = e} h = record { law = bare_gives m e h.law }

bare_raises : (m : Memory) (e : Effect Val) → GivesBare m e → Raises m [] e
bare_raises m (Fine v m1) h = h.1
bare_raises m (Bad-at n m1) h = h
bare_raises m (Out w m1) h = h
bare_raises m (Tell es e) h = bare_raises m e h

pub bare_law : {m : Memory} {e : Effect Val} → Bare m e → Law m [] e
bare_law {m = m} {e = e} h = record { law = bare_raises m e h.law }

moved_bare : {m m1 : Memory} → Grows m [] m1 → (e : Effect Val) → GivesBare m1 e → GivesBare m e
moved_bare a (Fine v m2) h = (h.0, grown a h.1)
moved_bare a (Bad-at n m2) h = grown a h
moved_bare a (Out w m2) h = grown a h
moved_bare a (Tell es e) h = moved_bare a e h

chained_bare : {A : Type 0} (m : Memory) {f : A → Memory → Effect Val} (e : Effect A) → Raises m [] e → ((v : A) (m1 : Memory) → Bare m1 (f v m1)) → GivesBare m (on_fine e f)
chained_bare m {f = f} (Fine v m1) a k = moved_bare a (f v m1) (k v m1).law
chained_bare m (Bad-at n m1) a k = a
chained_bare m (Out w m1) a k = a
chained_bare m (Tell es e) a k = chained_bare m e a k

pub then_bare : {A : Type 0} {m : Memory} {f : A → Memory → Effect Val} {e : Effect A} → Law m [] e → ((v : A) (m1 : Memory) → Bare m1 (f v m1)) → Bare m (on_fine e f)
then_bare {m = m} {e = e} a k = record { law = chained_bare m e a.law k }

-- ---- effects that find the value at a place

abbrev pub GivesFound : Memory → Path → Effect Val → Type 0
GivesFound m p (Fine old m1) = IsThere m1 p old × Grows m [] m1
GivesFound m p (Bad-at n m1) = Grows m [] m1
GivesFound m p (Out w m1) = Grows m [] m1
GivesFound m p (Tell es e) = GivesFound m p e

pub record Finds (m : Memory) (p : Path) (e : Effect Val) : Type 0 where
  pub law : GivesFound m p e

found_raises : {B : Type 0} (m : Memory) (p : Path) {h : Val → Memory → List ℕ} {f : Val → Memory → Effect B} (e : Effect Val) → GivesFound m p e
    → ((old : Val) (m1 : Memory) → IsThere m1 p old → Law m1 (h old m1) (f old m1)) → Raises m (gains_behind e h) (on_fine e f)
found_raises m p {h = h} {f = f} (Fine old m1) is k = moved_raises (h old m1) is.1 (f old m1) (k old m1 is.0).law
found_raises m p (Bad-at n m1) is k = is
found_raises m p (Out w m1) is k = is
found_raises m p (Tell es e) is k = found_raises m p e is k

pub then_found : {B : Type 0} {m : Memory} {p : Path} {h : Val → Memory → List ℕ} {f : Val → Memory → Effect B} {e : Effect Val} → Finds m p e
    → ((old : Val) (m1 : Memory) → IsThere m1 p old → Law m1 (h old m1) (f old m1)) → Law m (gains_behind e h) (on_fine e f)
then_found {m = m} {p = p} {e = e} is k = record { law = found_raises m p e is.law k }

-- ---- effects that leave the memory as it is

abbrev pub GivesHere : {A : Type 0} → Memory → Effect A → Type 0
GivesHere m (Fine v m1) = m1 ≡ m
GivesHere m (Bad-at n m1) = m1 ≡ m
GivesHere m (Out w m1) = m1 ≡ m
GivesHere m (Tell es e) = ⊥

pub record Stays {A : Type 0} (m : Memory) (e : Effect A) : Type 0 where
  pub law : GivesHere m e

here_grows : {m m1 : Memory} → m1 ≡ m → Grows m [] m1
here_grows {m = m} e = subst (λ n. Grows m [] n) (sym e) (same m)

stays_raises : {A B : Type 0} (m : Memory) {h : A → Memory → List ℕ} {f : A → Memory → Effect B} (e : Effect A) → GivesHere m e → ((v : A) (m1 : Memory) → m1 ≡ m → Law m1 (h v m1) (f v m1))
    → Raises m (gains_behind e h) (on_fine e f)
stays_raises m {h = h} {f = f} (Fine v m1) is k = moved_raises (h v m1) (here_grows is) (f v m1) (k v m1 is).law
stays_raises m (Bad-at n m1) is k = here_grows is
stays_raises m (Out w m1) is k = here_grows is
stays_raises m (Tell es e) is k = absurd is

pub then_stays : {A B : Type 0} {m : Memory} {h : A → Memory → List ℕ} {f : A → Memory → Effect B} {e : Effect A} → Stays m e → ((v : A) (m1 : Memory) → m1 ≡ m → Law m1 (h v m1) (f v m1))
    → Law m (gains_behind e h) (on_fine e f)
then_stays {m = m} {e = e} is k = record { law = stays_raises m e is.law k }

both_here : {A B : Type 0} (m : Memory) {f : A → Memory → Effect B} (e : Effect A) → GivesHere m e → ((v : A) (m1 : Memory) → Stays m1 (f v m1)) → GivesHere m (on_fine e f)
both_here m {f = f} (Fine v m1) is k = subst (λ n. GivesHere n (f v m1)) is (k v m1).law
both_here m (Bad-at n m1) is k = is
both_here m (Out w m1) is k = is
both_here m (Tell es e) is k = absurd is

pub both_stay : {A B : Type 0} {m : Memory} {f : A → Memory → Effect B} {e : Effect A} → Stays m e → ((v : A) (m1 : Memory) → Stays m1 (f v m1)) → Stays m (on_fine e f)
both_stay {m = m} {e = e} is k = record { law = both_here m e is.law k }

answered_here : {A : Type 0} (r : Result A Bad) (m : Memory) → GivesHere m (answered r m)
answered_here (Ok v) m = refl
answered_here (Err (Raise n)) m = refl
answered_here (Err (Outside k)) m = refl

pub answered_stays : {A : Type 0} (r : Result A Bad) (m : Memory) → Stays m (answered r m)
answered_stays r m = record { law = answered_here r m }
