-- A use and what comes behind it: what is told, and what is refused.
use Rattle.std.proofs.Common.{◌≡◌, ℕ, zero, suc, ◌-◌, List, [], ◌∷◌, ◌++◌, map, refl, ap, sym, subst, ◌∙◌, arith, rules}
use Rattle.std.proofs.lemmas.List.{map-append, reverse-append}
use Rattle.std.specs.Prelude.{Result, Ok, Err, IsErrAnd, reverse}
use Rattle.vba_base.specs.declared.fault.OrMemory.{OrMemory}
use Rattle.vba_values.specs.declared.fault.Bad.{Bad}
use Rattle.vba_values.specs.declared.object.ObjRef.{ObjRef}
use Rattle.vba_values.specs.declared.value.Value.{the_lemmas}
use Rattle.vba_values.specs.declared.value.Value.TheVariants as value
use Rattle.vba_values.specs.Val.{Val, empty, object}
use Rattle.vba_values.specs.View.{view}
use Rattle.bound_project.specs.Project.{Declarations, Member}
use Rattle.vba_meaning.specs.Memory.{Memory}
use Rattle.vba_meaning.specs.Effects.{Event, Effect, Fine, on_fine}
use Rattle.vba_meaning.specs.Defaults.{Next, gives, index_by, write, let_item, set_item, after_use, leads_on, nothing_more, read_member, index_along, write_along, let_along, set_along, let_at}
use Rattle.vba_meaning.specs.Objects.{set_at}
use Rattle.run_memory.specs.Acts.{Acts, Refuses}
use Rattle.run_host.specs.Tells.{TellsThen, RefusesTold, Tells}
use Rattle.run_host.proofs.Telling.{acts_tell, fine_tells, quiet_fine, refused_tells, tells_fault, then_all, then_refused, then_tells}
use Rattle.run_defaults.specs.declared.task.Task.{Task}
use Rattle.run_defaults.specs.Parts.{index_pass, let_pass, set_pass, write_pass}
use Rattle.run_defaults.specs.View.{task_view, tasks_view}

-- what a use refuses is refused
pub use_refused : {X A B : Type 0} (view : X → B) (r : Result X (OrMemory Bad)) (fault : OrMemory Bad) (old new : List Event) (m : Memory) (e : Effect A) (f : A → Memory → Effect B)
    → IsErrAnd r (λ g. g ≡ fault) → RefusesTold fault old new m e → Tells view r old new m (on_fine e f)
use_refused view r fault old new m e f is refused = tells_fault view r fault old new m (on_fine e f) is (then_refused fault old new m e f refused)

-- what comes behind it goes on
pub use_then : {X A B : Type 0} (view : X → B) (r : Result X (OrMemory Bad)) (old mid new : List Event) (e : Effect A) (f : A → Memory → Effect B) (v : A) (m n : Memory)
    → TellsThen old mid e (Fine v m) → Tells view r mid new n (f v m) → Tells view r old new n (on_fine e f)
use_then view r old mid new e f v m n first last = then_tells view r old mid new e f v m n first last

-- the same of what tells nothing
pub use_acts : {X A B : Type 0} (view : X → B) (r : Result X (OrMemory Bad)) (old mid : List Event) (e : Effect A) (f : A → Memory → Effect B) (v : A) (m n : Memory)
    → TellsThen old mid e (Fine v m) → Acts view r n (f v m) → Tells view r old mid n (on_fine e f)
use_acts view r old mid e f v m n first last = then_tells view r old mid mid e f v m n first (acts_tell view r mid n (f v m) last)

-- what an effect that tells nothing refuses is refused
pub act_refused : {X A B : Type 0} (view : X → B) (r : Result X (OrMemory Bad)) (fault : OrMemory Bad) (es : List Event) (m : Memory) (e : Effect A) (f : A → Memory → Effect B)
    → IsErrAnd r (λ g. g ≡ fault) → Refuses fault m e → Tells view r es es m (on_fine e f)
act_refused view r fault es m e f is refused = tells_fault view r fault es es m (on_fine e f) is (refused_tells fault es m e f refused)

-- what comes behind it goes on
pub act_then : {X A B : Type 0} (view : X → B) (r : Result X (OrMemory Bad)) (old new : List Event) (e : Effect A) (f : A → Memory → Effect B) (v : A) (m n : Memory)
    → e ≡ Fine v m → Tells view r old new n (f v m) → Tells view r old new n (on_fine e f)
act_then view r old new e f v m n is last = fine_tells view r old new e f v m n is last

-- the same effect
pub use_same : {X A : Type 0} (view : X → A) (r : Result X (OrMemory Bad)) (old new : List Event) (m : Memory) (e f : Effect A) → e ≡ f → Tells view r old new m f → Tells view r old new m e
use_same view r old new m e f is last = subst (λ g. Tells view r old new m g) (sym is) last

-- the same effect of what tells nothing
pub act_same : {X A : Type 0} (view : X → A) (r : Result X (OrMemory Bad)) (m : Memory) (e f : Effect A) → e ≡ f → Acts view r m f → Acts view r m e
act_same view r m e f is last = subst (λ g. Acts view r m g) (sym is) last

-- what a use of Empty and of an object gives
pub view_empty : view value.Empty ≡ empty
view_empty = search (rules, the_lemmas)

pub view_object : (o : ObjRef) → view (value.Object o) ≡ object o
view_object o = search (rules, the_lemmas)

-- a use that is over
pub done_tells : (old new : List Event) (e : Effect (Unit {0})) (m : Memory) (v : Val) → v ≡ empty → TellsThen old new e (Fine tt m)
    → TellsThen old new (nothing_more e) (Fine (gives v) m)
done_tells old new e m v is first =
    rw is (then_all old new new e (λ u m1. Fine (gives empty) m1) tt m (Fine (gives empty) m) first (quiet_fine new (Fine (gives empty) m) (gives empty) m refl))

-- ---- where default members may still be passed

pub index_more : (d : Declarations) (n : ℕ) (vs : List Val) (w : Val) (x : Member) (m : Memory) → (n ≡ 0 → ⊥)
    → index_pass d n vs w x m ≡ after_use (read_member d w x m) (index_by (n - 1) vs) (λ u m1. index_along d (n - 1) vs u m1)
index_more d zero vs w x m h = absurd (h refl)
index_more d (suc k) vs w x m h = let e : suc k - 1 ≡ k = omega arith in rw e refl

pub write_more : (d : Declarations) (n : ℕ) (v w : Val) (x : Member) (m : Memory) → (n ≡ 0 → ⊥)
    → write_pass d n v w x m ≡ after_use (read_member d w x m) (write (n - 1) v) (λ u m1. write_along d (n - 1) v u m1)
write_more d zero v w x m h = absurd (h refl)
write_more d (suc k) v w x m h = let e : suc k - 1 ≡ k = omega arith in rw e refl

pub let_more : (d : Declarations) (n : ℕ) (vs : List Val) (v w : Val) (x : Member) (m : Memory) → (n ≡ 0 → ⊥)
    → let_pass d n vs v w x m ≡ leads_on d w vs (λ p m1. let_at d p v m1) (let_item (n - 1) vs v) (λ u m1. let_along d (n - 1) vs v u m1) x m
let_more d zero vs v w x m h = absurd (h refl)
let_more d (suc k) vs v w x m h = let e : suc k - 1 ≡ k = omega arith in rw e refl

pub set_more : (d : Declarations) (n : ℕ) (vs : List Val) (v w : Val) (x : Member) (m : Memory) → (n ≡ 0 → ⊥)
    → set_pass d n vs v w x m ≡ leads_on d w vs (λ p m1. nothing_more (set_at p v m1)) (set_item (n - 1) vs v) (λ u m1. set_along d (n - 1) vs v u m1) x m
set_more d zero vs v w x m h = absurd (h refl)
set_more d (suc k) vs v w x m h = let e : suc k - 1 ≡ k = omega arith in rw e refl

-- ---- lists of tasks

pub task_last : (ts : List Task) (t : Task) → tasks_view (ts ++ t ∷ []) ≡ task_view t ∷ tasks_view ts
task_last ts t = rw (reverse-append ts (t ∷ [])) refl

pub tasks_behind : (ts more : List Task) → tasks_view (ts ++ more) ≡ tasks_view more ++ tasks_view ts
tasks_behind ts more = rw (reverse-append ts more) (map-append task_view (reverse more) (reverse ts))

pub task_first : (ts : List Task) (t : Task) → tasks_view (t ∷ ts) ≡ tasks_view ts ++ task_view t ∷ []
task_first ts t = tasks_behind (t ∷ []) ts
