-- Effects one after another: each leads on by a row of changes, or leaves the memory as it was.
use Rattle.std.proofs.Common.{◌≡◌, ℕ, Bool, true, false, List, Result, Ok, Err, refl, sym, subst}
use Rattle.std.specs.Prelude.{if◌then◌else◌}
use Rattle.vba_values.specs.declared.fault.Bad.{Bad}
use Rattle.vba_values.specs.declared.fault.Bad.TheVariants.{Raise, Outside}
use Rattle.bound_project.specs.Project.{Declarations}
use Rattle.vba_meaning.specs.Memory.{Why, Memory}
use Rattle.vba_meaning.specs.Effects.{Event, Effect, Fine, Bad-at, Out, Tell, on_fine, answered}
use Rattle.memory_changes.specs.Changes.{Aside, Change, aside, Row, none, first}

-- ---- effects that leave the memory as it was

abbrev Stays : {A : Type 0} → Memory → Effect A → Type 0
Stays m (Fine v m1) = m1 ≡ m
Stays m (Bad-at n m1) = m1 ≡ m
Stays m (Out w m1) = m1 ≡ m
Stays m (Tell es e) = Stays m e

pub record Still {A : Type 0} (m : Memory) (e : Effect A) : Type 0 where
  pub law : Stays m e

pub still : {A : Type 0} {v : A} {m : Memory} → Still m (Fine v m)
still = record { law = refl }

pub still_bad : {A : Type 0} (n : ℕ) (m : Memory) → Still {A = A} m (Bad-at n m)
still_bad n m = record { law = refl }

pub still_out : {A : Type 0} (w : Why) (m : Memory) → Still {A = A} m (Out w m)
still_out w m = record { law = refl }

-- where the memory is the same
stays_on : {A B : Type 0} {m : Memory} (e : Effect A) (f : A → Memory → Effect B) → Stays m e → ((v : A) → Still m (f v m)) → Stays m (on_fine e f)
stays_on {m = m} (Fine v m1) f a k = subst (λ n. Stays m (f v n)) (sym a) (k v).law
stays_on (Bad-at n m1) f a k = a
stays_on (Out w m1) f a k = a
stays_on (Tell es e) f a k = stays_on e f a k

pub still_then : {A B : Type 0} {m : Memory} {e : Effect A} (f : A → Memory → Effect B) → Still m e → ((v : A) → Still m (f v m)) → Still m (on_fine e f)
still_then {e = e} f a k = record { law = stays_on e f a.law k }

-- the same, where what comes behind is still in any memory
stays_next : {A B : Type 0} (m : Memory) (e : Effect A) (f : A → Memory → Effect B) → Stays m e → ((v : A) (m1 : Memory) → Still m1 (f v m1)) → Stays m (on_fine e f)
stays_next m e f a k = stays_on e f a (λ v. k v m)

pub still_next : {A B : Type 0} {m : Memory} {e : Effect A} {f : A → Memory → Effect B} → Still m e → ((v : A) (m1 : Memory) → Still m1 (f v m1)) → Still m (on_fine e f)
still_next {m = m} {e = e} {f = f} a k = record { law = stays_next m e f a.law k }

pub still_if : {A : Type 0} {m : Memory} {e f : Effect A} (b : Bool) → Still m e → Still m f → Still m (if b then e else f)
still_if true a c = a
still_if false a c = c

pub still_answered : {A : Type 0} (r : Result A Bad) (m : Memory) → Still m (answered r m)
still_answered (Ok v) m = still
still_answered (Err (Raise n)) m = still_bad n m
still_answered (Err (Outside k)) m = still_out _ m

-- ---- rows

module _ (d : Declarations) where
  pub row_then : {m m1 m2 : Memory} → Row d m m1 → Row d m1 m2 → Row d m m2
  row_then (none m) b = b
  row_then (first m m1 m2 c r) b = first m m1 _ c (row_then r b)

  pub one : {m m1 : Memory} → Change d m m1 → Row d m m1
  one {m = m} {m1 = m1} c = first m m1 m1 c (none m1)

  pub away : {m m1 : Memory} → Aside m m1 → Row d m m1
  away {m1 = m1} a = one (aside m1 a)

  abbrev pub Comes : {A : Type 0} → Memory → Effect A → Type 0
  Comes m (Fine v m1) = Row d m m1
  Comes m (Bad-at n m1) = Row d m m1
  Comes m (Out w m1) = Row d m m1
  Comes m (Tell es e) = Comes m e

  pub record Rows {A : Type 0} (m : Memory) (e : Effect A) : Type 0 where
    pub law : Comes m e

  pub fine : {A : Type 0} {v : A} {m : Memory} → Rows m (Fine v m)
  fine {m = m} = record { law = none m }

  pub fine_in : {A : Type 0} {v : A} {m m1 : Memory} → Row d m m1 → Rows m (Fine v m1)
  fine_in r = record { law = r }

  pub bad : {A : Type 0} (n : ℕ) (m : Memory) → Rows {A = A} m (Bad-at n m)
  bad n m = record { law = none m }

  pub out : {A : Type 0} (w : Why) (m : Memory) → Rows {A = A} m (Out w m)
  out w m = record { law = none m }

  pub telling : {A : Type 0} {m : Memory} {e : Effect A} (es : List Event) → Rows m e → Rows m (Tell es e)
  telling es a = record { law = a.law }

  comes_behind : {A : Type 0} {m m1 : Memory} (e : Effect A) → Row d m m1 → Comes m1 e → Comes m e
  comes_behind (Fine v m2) r a = row_then r a
  comes_behind (Bad-at n m2) r a = row_then r a
  comes_behind (Out w m2) r a = row_then r a
  comes_behind (Tell es e) r a = comes_behind e r a

  -- after a change of the memory
  pub behind : {A : Type 0} {m m1 : Memory} {e : Effect A} → Row d m m1 → Rows m1 e → Rows m e
  behind {e = e} r a = record { law = comes_behind e r a.law }

  comes_on : {A B : Type 0} (m : Memory) (e : Effect A) (f : A → Memory → Effect B) → Comes m e → ((v : A) (m1 : Memory) → Rows m1 (f v m1)) → Comes m (on_fine e f)
  comes_on m (Fine v m1) f a k = comes_behind (f v m1) a (k v m1).law
  comes_on m (Bad-at n m1) f a k = a
  comes_on m (Out w m1) f a k = a
  comes_on m (Tell es e) f a k = comes_on m e f a k

  pub then_rows : {A B : Type 0} {m : Memory} {e : Effect A} {f : A → Memory → Effect B} → Rows m e → ((v : A) (m1 : Memory) → Rows m1 (f v m1)) → Rows m (on_fine e f)
  then_rows {m = m} {e = e} {f = f} a k = record { law = comes_on m e f a.law k }

  at_same : {m m1 : Memory} → m1 ≡ m → Row d m m1
  at_same {m = m} e = subst (λ n. Row d m n) (sym e) (none m)

  comes_still : {A : Type 0} (m : Memory) (e : Effect A) → Stays m e → Comes m e
  comes_still m (Fine v m1) a = at_same a
  comes_still m (Bad-at n m1) a = at_same a
  comes_still m (Out w m1) a = at_same a
  comes_still m (Tell es e) a = comes_still m e a

  pub of_still : {A : Type 0} {m : Memory} {e : Effect A} → Still m e → Rows m e
  of_still {m = m} {e = e} a = record { law = comes_still m e a.law }

  comes_same : {A B : Type 0} {m : Memory} (e : Effect A) (f : A → Memory → Effect B) → Stays m e → ((v : A) → Rows m (f v m)) → Comes m (on_fine e f)
  comes_same {m = m} (Fine v m1) f a k = subst (λ n. Comes m (f v n)) (sym a) (k v).law
  comes_same (Bad-at n m1) f a k = at_same a
  comes_same (Out w m1) f a k = at_same a
  comes_same (Tell es e) f a k = comes_same e f a k

  -- after an effect that leaves the memory as it was
  pub then_same : {A B : Type 0} {m : Memory} {e : Effect A} (f : A → Memory → Effect B) → Still m e → ((v : A) → Rows m (f v m)) → Rows m (on_fine e f)
  then_same {e = e} f a k = record { law = comes_same e f a.law k }

  pub both : {A : Type 0} {m : Memory} {e f : Effect A} (b : Bool) → Rows m e → Rows m f → Rows m (if b then e else f)
  both true a c = a
  both false a c = c
