-- Effects under other names, one after another.
use Rattle.std.proofs.Common.{◌≡◌, ℕ, Bool, true, false, List, Result, Ok, Err, refl, sym, subst}
use Rattle.std.specs.Prelude.{if◌then◌else◌}
use Rattle.vba_values.specs.declared.fault.Bad.{Bad}
use Rattle.vba_values.specs.declared.fault.Bad.TheVariants.{Raise, Outside}
use Rattle.vba_values.specs.Val.{Val}
use Rattle.vba_meaning.specs.Memory.{Why, Memory}
use Rattle.vba_meaning.specs.Effects.{Event, Effect, Fine, Bad-at, Out, Tell, on_fine, answered}
use Rattle.object_names.specs.Names.{value_named, events_named}
use Rattle.object_names.specs.Renamed.{Same}
use Rattle.object_names.proofs.NamedValues.{answer_named}

-- what no name changes
abbrev pub plainly : {A : Type 0} → A → A
plainly x = x

module _ (r : ℕ → ℕ) where
  -- what one effect gives is under the names what the other gives
  abbrev pub Alike : {A : Type 0} → (A → A) → Effect A → Effect A → Type 0
  Alike f (Fine v m) (Fine w n) = (w ≡ f v) × Same r m n
  Alike f (Bad-at k m) (Bad-at j n) = (j ≡ k) × Same r m n
  Alike f (Out x m) (Out y n) = (y ≡ x) × Same r m n
  Alike f (Tell es e) (Tell hs g) = (hs ≡ events_named r es) × Alike f e g
  Alike f e g = ⊥

  pub record Names {A : Type 0} (f : A → A) (e g : Effect A) : Type 0 where
    pub law : Alike f e g

  pub fine : {A : Type 0} {f : A → A} {v w : A} {m n : Memory} → w ≡ f v → Same r m n → Names f (Fine v m) (Fine w n)
  fine e k = record { law = (e, k) }

  pub bad : {A : Type 0} {f : A → A} {m n : Memory} (j : ℕ) → Same r m n → Names {A = A} f (Bad-at j m) (Bad-at j n)
  bad j k = record { law = (refl, k) }

  pub out : {A : Type 0} {f : A → A} {m n : Memory} (x : Why) → Same r m n → Names {A = A} f (Out x m) (Out x n)
  out x k = record { law = (refl, k) }

  pub telling : {A : Type 0} {f : A → A} {e g : Effect A} {es hs : List Event} → hs ≡ events_named r es → Names f e g → Names f (Tell es e) (Tell hs g)
  telling h a = record { law = (h, a.law) }

  alike_on : {A B : Type 0} (f : A → A) (h : B → B) (e g : Effect A) (x y : A → Memory → Effect B) → Alike f e g → ((v : A) (m n : Memory) → Same r m n → Names h (x v m) (y (f v) n)) → Alike h (on_fine e x) (on_fine g y)
  alike_on f h (Fine v m) (Fine w n) x y a k = subst (λ z. Alike h (x v m) (y z n)) (sym a.0) (k v m n a.1).law
  alike_on f h (Bad-at i m) (Bad-at j n) x y a k = a
  alike_on f h (Out i m) (Out j n) x y a k = a
  alike_on f h (Tell es e) (Tell hs g) x y a k = (a.0, alike_on f h e g x y a.1 k)
  alike_on f h e g x y a k = absurd a

  pub then_named : {A B : Type 0} {f : A → A} {h : B → B} {e g : Effect A} {x : A → Memory → Effect B} (y : A → Memory → Effect B) → Names f e g → ((v : A) (m n : Memory) → Same r m n → Names h (x v m) (y (f v) n)) → Names h (on_fine e x) (on_fine g y)
  then_named {f = f} {h = h} {e = e} {g = g} {x = x} y a k = record { law = alike_on f h e g x y a.law k }

  -- the same, by what it is that is given
  pub then_by : {A B : Type 0} {f : A → A} {h : B → B} {e g : Effect A} {x y : A → Memory → Effect B} → Names f e g → ((v w : A) (m n : Memory) → w ≡ f v → Same r m n → Names h (x v m) (y w n)) → Names h (on_fine e x) (on_fine g y)
  then_by {f = f} {h = h} {e = e} {g = g} {x = x} {y = y} a k = record { law = alike_on f h e g x y a.law (λ v m n s. k v (f v) m n refl s) }

  pub both : {A : Type 0} {f : A → A} {e g c d : Effect A} (b : Bool) → Names f e c → Names f g d → Names f (if b then e else g) (if b then c else d)
  both true x y = x
  both false x y = y

  -- a test that no name changes
  pub both_by : {A : Type 0} {f : A → A} {e g c d : Effect A} (a b : Bool) → b ≡ a → Names f e c → Names f g d → Names f (if a then e else g) (if b then c else d)
  both_by {f = f} {e = e} {g = g} {c = c} {d = d} a b s x y = subst (λ t. Names f (if a then e else g) (if t then c else d)) (sym s) (both a x y)

  -- ---- answers of tables

  by_answer : {m n : Memory} (x : Result Val Bad) → Same r m n → Names (λ v. value_named r v) (answered x m) (answered (answer_named r x) n)
  by_answer (Ok v) k = fine refl k
  by_answer (Err (Raise j)) k = bad j k
  by_answer (Err (Outside j)) k = out _ k

  pub answered_named : {m n : Memory} (x y : Result Val Bad) → y ≡ answer_named r x → Same r m n → Names (λ v. value_named r v) (answered x m) (answered y n)
  answered_named {m = m} {n = n} x y e k = subst (λ z. Names (λ v. value_named r v) (answered x m) (answered z n)) (sym e) (by_answer x k)

  by_same : {A : Type 0} {m n : Memory} (x : Result A Bad) → Same r m n → Names plainly (answered x m) (answered x n)
  by_same (Ok v) k = fine refl k
  by_same (Err (Raise j)) k = bad j k
  by_same (Err (Outside j)) k = out _ k

  pub answered_same : {A : Type 0} {m n : Memory} (x y : Result A Bad) → y ≡ x → Same r m n → Names plainly (answered x m) (answered y n)
  answered_same {m = m} {n = n} x y e k = subst (λ z. Names plainly (answered x m) (answered z n)) (sym e) (by_same x k)
