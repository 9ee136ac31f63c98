-- What is told goes before what comes behind.
use Rattle.std.proofs.Common.{◌≡◌, List, ◌++◌, refl, sym, subst, ap, ◌∙◌, append_assoc, append-nil}
use Rattle.std.specs.Prelude.{Result, Ok, Err, IsErrAnd}
use Rattle.vba_base.specs.declared.fault.OrMemory.{OrMemory}
use Rattle.vba_base.specs.declared.fault.OrMemory.TheVariants.{Fault, NoMemory}
use Rattle.vba_values.specs.declared.fault.Bad.{Bad}
use Rattle.vba_values.specs.declared.fault.Bad.TheVariants.{Raise, Outside}
use Rattle.vba_meaning.specs.Memory.{Memory}
use Rattle.vba_meaning.specs.Effects.{Event, Effect, Fine, Bad-at, Out, Tell, answered, on_fine}
use Rattle.vba_base.specs.Answer.{Fails}
use Rattle.run_memory.specs.Acts.{Acts, Refuses}
use Rattle.run_host.specs.Tells.{events_of, behind_events, TellsThen, RefusesTold, Tells}

-- an effect that tells nothing
pub quiet_fine : {A : Type 0} (es : List Event) (e : Effect A) (v : A) (m : Memory) → e ≡ Fine v m → TellsThen es es e (Fine v m)
quiet_fine es e v m is = record { told = rw is (sym (append-nil es)); behind = rw is refl }

pub quiet_bad : {A : Type 0} (es : List Event) (e : Effect A) (bad : Bad) (m : Memory) → e ≡ answered (Err bad) m
    → TellsThen es es e (answered (Err bad) m)
quiet_bad es e (Raise n) m is = record { told = rw is (sym (append-nil es)); behind = rw is refl }
quiet_bad es e (Outside k) m is = record { told = rw is (sym (append-nil es)); behind = rw is refl }

pub acts_tell : {X A : Type 0} (view : X → A) (r : Result X (OrMemory Bad)) (es : List Event) (m : Memory) (e : Effect A) → Acts view r m e
    → Tells view r es es m e
acts_tell view (Ok x) es m e is = quiet_fine es e (view x) m is
acts_tell view (Err NoMemory) es m e is = tt
acts_tell view (Err (Fault bad)) es m e is = quiet_bad es e bad m is

-- ---- one effect and then another

events_then : {A B : Type 0} (e : Effect A) (f : A → Memory → Effect B) (v : A) (m : Memory) → behind_events e ≡ Fine v m
    → events_of (on_fine e f) ≡ events_of e ++ events_of (f v m)
events_then (Fine w n) f v m is = cc
events_then (Bad-at k n) f v m is = cc
events_then (Out w n) f v m is = cc
events_then (Tell es e) f v m is = ap (λ fs. es ++ fs) (events_then e f v m is) ∙ sym (append_assoc es (events_of e) (events_of (f v m)))

behind_then : {A B : Type 0} (e : Effect A) (f : A → Memory → Effect B) (v : A) (m : Memory) → behind_events e ≡ Fine v m
    → behind_events (on_fine e f) ≡ behind_events (f v m)
behind_then (Fine w n) f v m is = cc
behind_then (Bad-at k n) f v m is = cc
behind_then (Out w n) f v m is = cc
behind_then (Tell es e) f v m is = behind_then e f v m is

pub then_all : {A B : Type 0} (old mid new : List Event) (e : Effect A) (f : A → Memory → Effect B) (v : A) (m : Memory) (d : Effect B)
    → TellsThen old mid e (Fine v m) → TellsThen mid new (f v m) d → TellsThen old new (on_fine e f) d
then_all old mid new e f v m d first last = record {
  told = last.told ∙ ap (λ es. es ++ events_of (f v m)) first.told ∙ append_assoc old (events_of e) (events_of (f v m)) ∙ ap (λ es. old ++ es) (sym
      (events_then e f v m first.behind));
  behind = behind_then e f v m first.behind ∙ last.behind;
}

pub then_tells : {X A B : Type 0} (view : X → B) (r : Result X (OrMemory Bad)) (old mid new : List Event) (e : Effect A) (f : A → Memory
    → Effect B) (v : A) (m n : Memory)
    → TellsThen old mid e (Fine v m) → Tells view r mid new n (f v m) → Tells view r old new n (on_fine e f)
then_tells view (Ok x) old mid new e f v m n first last = then_all old mid new e f v m (Fine (view x) n) first last
then_tells view (Err NoMemory) old mid new e f v m n first last = tt
then_tells view (Err (Fault bad)) old mid new e f v m n first last = then_all old mid new e f v m (answered (Err bad) n) first last

-- ---- what is refused goes through what would come behind

quiet_then : {A B : Type 0} (e : Effect A) (f : A → Memory → Effect B) (bad : Bad) (m : Memory) → behind_events e ≡ answered (Err bad) m
    → events_of (on_fine e f) ≡ events_of e
quiet_then (Fine v n) f (Raise k) m is = cc
quiet_then (Fine v n) f (Outside k) m is = cc
quiet_then (Bad-at k n) f bad m is = refl
quiet_then (Out w n) f bad m is = refl
quiet_then (Tell es e) f bad m is = ap (λ fs. es ++ fs) (quiet_then e f bad m is)

refused_behind : {A B : Type 0} (e : Effect A) (f : A → Memory → Effect B) (bad : Bad) (m : Memory) → behind_events e ≡ answered (Err bad) m
    → behind_events (on_fine e f) ≡ answered (Err bad) m
refused_behind (Fine v n) f (Raise k) m is = cc
refused_behind (Fine v n) f (Outside k) m is = cc
refused_behind (Bad-at j n) f (Raise k) m is = cc
refused_behind (Bad-at j n) f (Outside k) m is = cc
refused_behind (Out w n) f (Raise k) m is = cc
refused_behind (Out w n) f (Outside k) m is = cc
refused_behind (Tell es e) f bad m is = refused_behind e f bad m is

pub then_refused : {A B : Type 0} (fault : OrMemory Bad) (old new : List Event) (m : Memory) (e : Effect A) (f : A → Memory → Effect B)
    → RefusesTold fault old new m e → RefusesTold fault old new m (on_fine e f)
then_refused NoMemory old new m e f is = tt
then_refused (Fault bad) old new m e f is = record {
  told = is.told ∙ ap (λ es. old ++ es) (sym (quiet_then e f bad m is.behind));
  behind = refused_behind e f bad m is.behind;
}

-- the same where nothing was told before
pub fine_tells : {X A B : Type 0} (view : X → B) (r : Result X (OrMemory Bad)) (old new : List Event) (e : Effect A) (f : A → Memory
    → Effect B) (v : A) (m n : Memory)
    → e ≡ Fine v m → Tells view r old new n (f v m) → Tells view r old new n (on_fine e f)
fine_tells view r old new e f v m n is last = rw is last

pub refused_tells : {A B : Type 0} (fault : OrMemory Bad) (es : List Event) (m : Memory) (e : Effect A) (f : A → Memory → Effect B)
    → Refuses fault m e → RefusesTold fault es es m (on_fine e f)
refused_tells NoMemory es m e f is = tt
refused_tells (Fault bad) es m e f is = then_refused (Fault bad) es es m e f (quiet_bad es e bad m is)

pub failed_tells : {A B : Type 0} (fault : OrMemory Bad) (es : List Event) (m : Memory) (r : Result A Bad) (f : A → Memory → Effect B)
    → Fails fault r → RefusesTold fault es es m (on_fine (answered r m) f)
failed_tells NoMemory es m r f is = tt
failed_tells (Fault bad) es m r f is = refused_tells (Fault bad) es m (answered r m) f (ap (λ s. answered s m) is)

-- ---- what `?` hands on

pub tells_fault : {X A : Type 0} (view : X
    → A) (r : Result X (OrMemory Bad)) (fault : OrMemory Bad) (old new : List Event) (m : Memory) (e : Effect A)
    → IsErrAnd r (λ f. f ≡ fault) → RefusesTold fault old new m e → Tells view r old new m e
tells_fault view (Ok x) fault old new m e is refused = absurd is
tells_fault {A = A} view (Err f) fault old new m e is refused = subst (λ (g : OrMemory Bad). RefusesTold {A = A} g old new m e) (sym is) refused
