-- Moves of the machine under other names.
use Rattle.std.proofs.Common.{◌≡◌, ℕ, zero, suc, ◌+◌, Bool, true, false, List, [], ◌∷◌, length, map, Option, Some, None, refl, sym, ap, ◌∙◌, subst}
use Rattle.std.specs.Prelude.{nat_lt, if◌then◌else◌, slice_index, slice_index_or}
use Rattle.vba_values.specs.declared.object.ObjRef.TheVariants.{Nothing, Heap, Host}
use Rattle.vba_values.specs.Val.{Val, empty, boolean, object}
use Rattle.sheet_host.specs.declared.area.Area.{Area}
use Rattle.vba_events.specs.declared.linked.Linked.{Linked}
use Rattle.bound_project.specs.Expressions.{ByName}
use Rattle.bound_project.specs.Project.{Declarations}
use Rattle.vba_meaning.specs.Paths.{Path}
use Rattle.vba_meaning.specs.Memory.{Error, Ending, Stopped, Slot, value, path, Memory, received, error_here, top}
use Rattle.vba_meaning.specs.References.{held_by}
use Rattle.vba_meaning.specs.Effects.{Event, Raised, Effect, Fine, Bad-at, Out, Tell, slot_value, slot_values, lent}
use Rattle.vba_meaning.specs.Events.{sinks, due, sheet_of, target_of, change}
use Rattle.vba_meaning.specs.Host.{is_counted, is_raise}
use Rattle.bound_project.specs.Parameters.{parameters_of}
use Rattle.vba_meaning.specs.Defaults.{Task, Next, gives, then_call, is_instance, has_array, most_calls}
use Rattle.vba_meaning.specs.LateBound.{Use, lends_place, place_copied, late_called, host_arguments}
use Rattle.vba_meaning.specs.Meaning.{State, with_memory, turned}
use Rattle.pcode.specs.Instructions.{Code}
use Rattle.pcode.specs.Machine.{After, Goes-on, Back-to, Letting, Back, Caller, Within, Delivering, Move, Goes, Ends, Sticks, Tells, Turns, at, failing, letting, lets, lets_all, finishes, raises_then, raised, done_then, then_at, then_push, then_push_path, then_let_go, then_test, then_jump, then_branch, pops, pops_path, take_args, pushed, enters, enter_by, calls, calls_handler, delivers, tells_change, then_changes, then_changes_push, left_as, follows, resumes, uses, gives_way, gives_way_if_any, base_below, binds_place, places_along, uses_member, calls_late, initializes}
use Rattle.object_names.specs.Names.{value_named, values_named, path_named, slot_named, slots_named, tasks_named, next_named, link_named, after_named, backs_named, events_named}
use Rattle.object_names.specs.Renamed.{SameState, SameConfig, SameMove, Same}
use Rattle.object_names.proofs.Named.{plainly, Alike, Names}
use Rattle.object_names.proofs.NamedVariables.{plain_names}
use Rattle.object_names.proofs.NamedEffects.{top_same, unlent_same, lent_names}
use Rattle.object_names.proofs.NamedItems.{nth_map}
use Rattle.object_names.proofs.NamedLinks.{sinks_same, due_same}
use Rattle.object_names.proofs.NamedObjects.{path_to_named, error_given_names, object_member_names, member_called_names}
use Rattle.object_names.proofs.NamedUses.{Plain, instance_same, slot_values_named, counted_operand_names, counted_if_any_names, has_array_same, element_by_names, item_along_names, tasks_names}
use Rattle.object_names.proofs.NamedLate.{lends_same, place_copied_names, late_called_names, host_arguments_named}
use Rattle.object_names.proofs.NamedRest.{here_same, changed_same, depth_same, if_any_names, all_received, let_held_same, held_many, let_frame_same, frame_many, entered_same, lent_again_same, raise_over_same, no_change_same}

module _ (r : ℕ → ℕ) where
  abbrev nv : Val → Val
  nv v = value_named r v

  abbrev np : Path → Path
  np p = path_named r p

  abbrev ns : List Slot → List Slot
  ns xs = slots_named r xs

  abbrev nb : List Back → List Back
  nb bs = backs_named r bs

  abbrev nl : List Linked → List Linked
  nl ls = map (λ l. link_named r l) ls

  pub record Moves (a b : Move) : Type 0 where
    pub law : SameMove r a b

  -- ---- states

  pub with_same : {s t : State} {m n : Memory} → SameState r s t → Same r m n → SameState r (with_memory s m) (with_memory t n)
  with_same k h = record { memory = h; begun = k.begun }

  pub turned_same : {s t : State} → SameState r s t → SameState r (turned s) (turned t)
  turned_same k = record { memory = k.memory; begun = ap (λ j. j + 1) k.begun }

  -- ---- moves

  config_at : {s t : State} (pc : ℕ) (st : List Slot) (bs : List Back) → SameState r s t → SameConfig r (at pc st bs s) (at pc (ns st) (nb bs) t)
  config_at pc st bs k = record { mode = refl; stack = refl; backs = refl; state = k }

  pub goes_at : {s t : State} (pc : ℕ) (st : List Slot) (bs : List Back) → SameState r s t → Moves (Goes (at pc st bs s)) (Goes (at pc (ns st) (nb bs) t))
  goes_at pc st bs k = record { law = config_at pc st bs k }

  -- another stack, which is the one under the names
  pub goes_to : {s t : State} (pc : ℕ) (st rt : List Slot) (bs : List Back) → rt ≡ ns st → SameState r s t → Moves (Goes (at pc st bs s)) (Goes (at pc rt (nb bs) t))
  goes_to pc st rt bs e k = record { law = record { mode = refl; stack = e; backs = refl; state = k } }

  pub goes_letting : {s t : State} (j i : ℕ) (after : After) (bs : List Back) → i ≡ j → SameState r s t → Moves (Goes (letting j after bs s)) (Goes (letting i (after_named r after) (nb bs) t))
  goes_letting j i after bs e k = record { law = record { mode = ap (λ x. Letting x (after_named r after)) e; stack = refl; backs = refl; state = k } }

  pub goes_failing : {s t : State} (e : Error) (bs : List Back) → SameState r s t → Moves (Goes (failing e bs s)) (Goes (failing e (nb bs) t))
  goes_failing e bs k = record { law = record { mode = refl; stack = refl; backs = refl; state = k } }

  pub ends_with : {s t : State} (x y : Ending) → y ≡ x → SameState r s t → Moves (Ends x s) (Ends y t)
  ends_with x y e k = record { law = (e, k) }

  pub sticks : Moves Sticks Sticks
  sticks = record { law = tt }

  pub tells_both : {a b : Move} (es hs : List Event) → hs ≡ events_named r es → Moves a b → Moves (Tells es a) (Tells hs b)
  tells_both es hs e h = record { law = (e, h.law) }

  pub turns_both : {s t : State} {a b : Move} → SameState r s t → Moves a b → Moves (Turns s a) (Turns t b)
  turns_both k h = record { law = (k, h.law) }

  pub either : {a b c e : Move} (x : Bool) → Moves a c → Moves b e → Moves (if x then a else b) (if x then c else e)
  either true h j = h
  either false h j = j

  pub either_by : {a b c e : Move} (x y : Bool) → y ≡ x → Moves a c → Moves b e → Moves (if x then a else b) (if y then c else e)
  either_by {a = a} {b = b} {c = c} {e = e} x y q h j = subst (λ z. Moves (if x then a else b) (if z then c else e)) (sym q) (either x h j)

  raises_here : {s t : State} (e : Error) (go to : State → Move) → SameState r s t → ((s1 t1 : State) → SameState r s1 t1 → Moves (go s1) (to t1)) → Moves (raises_then e s go) (raises_then e t to)
  raises_here {s = s} {t = t} e go to k h = turns_both k (tells_both (Raised e.number ∷ []) (Raised e.number ∷ []) refl (h (turned s) (turned t) (turned_same k)))

  pub raises_names : {s t : State} (e f : Error) (go to : State → Move) → f ≡ e → SameState r s t → ((s1 t1 : State) → SameState r s1 t1 → Moves (go s1) (to t1)) → Moves (raises_then e s go) (raises_then f t to)
  raises_names {s = s} {t = t} e f go to q k h = subst (λ x. Moves (raises_then e s go) (raises_then x t to)) (sym q) (raises_here e go to k h)

  raised_here : {s t : State} (e : Error) (bs : List Back) → SameState r s t → Moves (raised e bs s) (raised e (nb bs) t)
  raised_here e bs k = raises_here e (λ s1. Goes (failing e bs s1)) (λ s1. Goes (failing e (nb bs) s1)) k (λ s1 t1 k1. goes_failing e bs k1)

  pub raised_names : {s t : State} (e f : Error) (bs : List Back) → f ≡ e → SameState r s t → Moves (raised e bs s) (raised f (nb bs) t)
  raised_names {s = s} {t = t} e f bs q k = subst (λ x. Moves (raised e bs s) (raised x (nb bs) t)) (sym q) (raised_here e bs k)

  -- ---- what is done in one go

  alike_done : {A : Type 0} (f : A → A) (e g : Effect A) (bs : List Back) (s t : State) (x y : A → State → Move) → Alike r f e g → SameState r s t → ((v : A) (s1 t1 : State) → SameState r s1 t1 → Moves (x v s1) (y (f v) t1))
      → SameMove r (done_then e bs s x) (done_then g (nb bs) t y)
  alike_done f (Fine v m) (Fine w n) bs s t x y a k h =
      subst (λ z. SameMove r (x v (with_memory s m)) (y z (with_memory t n))) (sym a.0) (h v (with_memory s m) (with_memory t n) (with_same k a.1)).law
  alike_done f (Bad-at i m) (Bad-at j n) bs s t x y a k h = (raised_names (error_here i m) (error_here j n) bs (ap (λ q. error_here q n) a.0 ∙ here_same r i a.1) (with_same k a.1)).law
  alike_done f (Out i m) (Out j n) bs s t x y a k h =
      (ap (λ z. Stopped z (top n).procedure (top n).statement) a.0 ∙ ap (λ q. Stopped i q.procedure q.statement) (top_same r a.1), with_same k a.1)
  alike_done f (Tell es e) (Tell hs g) bs s t x y a k h = (a.0, alike_done f e g bs s t x y a.1 k h)
  alike_done f e g bs s t x y a k h = absurd a

  pub done_names : {A : Type 0} {f : A → A} {e g : Effect A} (bs : List Back) {s t : State} {x : A → State → Move} (y : A → State → Move) → Names r f e g → SameState r s t → ((v : A) (s1 t1 : State) → SameState r s1 t1 → Moves (x v s1) (y (f v) t1))
      → Moves (done_then e bs s x) (done_then g (nb bs) t y)
  done_names {f = f} {e = e} {g = g} bs {s = s} {t = t} {x = x} y a k h = record { law = alike_done f e g bs s t x y a.law k h }

  -- what comes of it is pushed, or tested
  pub push_names : {e g : Effect Val} (pc : ℕ) (st : List Slot) (bs : List Back) {s t : State} → Names r nv e g → SameState r s t → Moves (done_then e bs s (then_push pc st bs)) (done_then g (nb bs) t (then_push pc (ns st) (nb bs)))
  push_names pc st bs a k = done_names bs {x = then_push pc st bs} (then_push pc (ns st) (nb bs)) a k (λ v s1 t1 k1. goes_at pc (value v ∷ st) bs k1)

  pub push_path_names : {e g : Effect Path} (pc : ℕ) (st : List Slot) (bs : List Back) {s t : State} → Names r np e g → SameState r s t → Moves (done_then e bs s (then_push_path pc st bs)) (done_then g (nb bs) t (then_push_path pc (ns st) (nb bs)))
  push_path_names pc st bs a k = done_names bs {x = then_push_path pc st bs} (then_push_path pc (ns st) (nb bs)) a k (λ q s1 t1 k1. goes_at pc (path q ∷ st) bs k1)

  pub at_names : {A : Type 0} {f : A → A} {e g : Effect A} (pc : ℕ) (st : List Slot) (bs : List Back) {s t : State} → Names r f e g → SameState r s t → Moves (done_then e bs s (then_at pc st bs)) (done_then g (nb bs) t (then_at pc (ns st) (nb bs)))
  at_names pc st bs a k = done_names bs {x = then_at pc st bs} (then_at pc (ns st) (nb bs)) a k (λ u s1 t1 k1. goes_at pc st bs k1)

  pub let_go_names : {e g : Effect ℕ} (pc : ℕ) (st : List Slot) (bs : List Back) {s t : State} → Names r plainly e g → SameState r s t → Moves (done_then e bs s (then_let_go pc st bs)) (done_then g (nb bs) t (then_let_go pc (ns st) (nb bs)))
  let_go_names pc st bs a k = done_names bs {x = then_let_go pc st bs} (then_let_go pc (ns st) (nb bs)) a k (λ j s1 t1 k1. goes_letting j j (Back-to pc st) bs refl k1)

  pub test_names : {e g : Effect Bool} (pc : ℕ) (st : List Slot) (bs : List Back) {s t : State} → Names r plainly e g → SameState r s t → Moves (done_then e bs s (then_test pc st bs)) (done_then g (nb bs) t (then_test pc (ns st) (nb bs)))
  test_names pc st bs a k = done_names bs {x = then_test pc st bs} (then_test pc (ns st) (nb bs)) a k (λ b s1 t1 k1. goes_at pc (value (boolean b) ∷ st) bs k1)

  pub lets_names : {s t : State} (after : After) (bs : List Back) → SameState r s t → Moves (lets after bs s) (lets (after_named r after) (nb bs) t)
  lets_names {s = s} {t = t} after bs k = goes_letting (length (top s.memory).held) (length (top t.memory).held) after bs (held_many r k.memory) (with_same k (let_held_same r k.memory))

  pub lets_all_names : {s t : State} (after : After) (bs : List Back) → SameState r s t → Moves (lets_all after bs s) (lets_all (after_named r after) (nb bs) t)
  lets_all_names {s = s} {t = t} after bs k = goes_letting (length (held_by (top s.memory))) (length (held_by (top t.memory))) after bs (frame_many r k.memory) (with_same k (let_frame_same r k.memory))

  pub finishes_names : {s t : State} (to : ℕ) (bs : List Back) → SameState r s t → Moves (finishes to bs s) (finishes to (nb bs) t)
  finishes_names to bs k = lets_names (Goes-on to) bs (with_same k (unlent_same r k.memory))

  pub jump_names : {e g : Effect Bool} (to pc : ℕ) (st : List Slot) (bs : List Back) {s t : State} → Names r plainly e g → SameState r s t → Moves (done_then e bs s (then_jump to pc st bs)) (done_then g (nb bs) t (then_jump to pc (ns st) (nb bs)))
  jump_names to pc st bs a k = done_names bs {x = then_jump to pc st bs} (then_jump to pc (ns st) (nb bs)) a k (λ b s1 t1 k1. either b (finishes_names to bs k1) (goes_at pc st bs k1))

  pub branch_names : {e g : Effect Bool} (to other : ℕ) (bs : List Back) {s t : State} → Names r plainly e g → SameState r s t → Moves (done_then e bs s (then_branch to other bs)) (done_then g (nb bs) t (then_branch to other (nb bs)))
  branch_names to other bs a k = done_names bs {x = then_branch to other bs} (then_branch to other (nb bs)) a k (λ b s1 t1 k1. finishes_names (if b then to else other) bs k1)

  -- ---- operands

  pub pops_names : (st : List Slot) {x : Val → List Slot → Move} (y : Val → List Slot → Move) → ((v : Val) (st1 : List Slot) → Moves (x v st1) (y (nv v) (ns st1))) → Moves (pops st x) (pops (ns st) y)
  pops_names [] y h = sticks
  pops_names (value v ∷ st) y h = h v st
  pops_names (path p ∷ st) y h = sticks

  pub pops_path_names : (st : List Slot) {x : Path → List Slot → Move} (y : Path → List Slot → Move) → ((p : Path) (st1 : List Slot) → Moves (x p st1) (y (np p) (ns st1))) → Moves (pops_path st x) (pops_path (ns st) y)
  pops_path_names [] y h = sticks
  pops_path_names (value v ∷ st) y h = sticks
  pops_path_names (path p ∷ st) y h = h p st

  takes_from : (j : ℕ) (st xs : List Slot) (x y : List Slot → List Slot → Move) → ((ys st1 : List Slot) → Moves (x ys st1) (y (ns ys) (ns st1))) → Moves (take_args j st xs x) (take_args j (ns st) (ns xs) y)
  takes_from zero st xs x y h = h xs st
  takes_from (suc j) [] xs x y h = sticks
  takes_from (suc j) (a ∷ st) xs x y h = takes_from j st (a ∷ xs) x y h

  pub takes_names : (j : ℕ) (st : List Slot) {x : List Slot → List Slot → Move} (y : List Slot → List Slot → Move) → ((ys st1 : List Slot) → Moves (x ys st1) (y (ns ys) (ns st1))) → Moves (take_args j st [] x) (take_args j (ns st) [] y)
  takes_names j st {x = x} y h = takes_from j st [] x y h

  pub pushed_named : (xs st : List Slot) → pushed (ns xs) (ns st) ≡ ns (pushed xs st)
  pushed_named [] st = refl
  pushed_named (x ∷ xs) st = pushed_named xs (x ∷ st)

  module _ (code : Code) (plainness : (p : ℕ) → Plain r (parameters_of code.declared p)) where
    abbrev d : Declarations
    d = code.declared

    -- ---- calls

    enters_names : {s t : State} (called : Bool) (p : ℕ) (me : Val) (xs : List Slot) (bs : List Back) → SameState r s t → Moves (enters code called p me xs bs s) (enters code called p (nv me) (ns xs) (nb bs) t)
    enters_names called p me xs bs k =
        let k1 = with_same k (entered_same r d called p me xs k.memory) in turns_both k1 (goes_at (slice_index code.starts p) [] bs (turned_same k1))

    pub enter_names : {s t : State} {a b : Move} (called : Bool) (p : ℕ) (me : Val) (xs : List Slot) (bs : List Back) → SameState r s t → Moves a b → Moves (enter_by code called p me xs bs s a) (enter_by code called p (nv me) (ns xs) (nb bs) t b)
    enter_names {s = s} {t = t} called p me xs bs k h =
        either_by (nat_lt (length s.memory.frames) 2000) (nat_lt (length t.memory.frames) 2000) (ap (λ j. nat_lt j 2000) (depth_same r k.memory)) (enters_names called p me xs bs k) h

    full_names : {s t : State} (bs : List Back) → SameState r s t → Moves (raised (error_here 28 s.memory) bs s) (raised (error_here 28 t.memory) (nb bs) t)
    full_names {s = s} {t = t} bs k = raised_names (error_here 28 s.memory) (error_here 28 t.memory) bs (here_same r 28 k.memory) k

    pub calls_names : {s t : State} (p : ℕ) (me : Val) (xs : List Slot) (pc : ℕ) (st : List Slot) (bs : List Back) → SameState r s t → Moves (calls code p me xs pc st bs s) (calls code p (nv me) (ns xs) pc (ns st) (nb bs) t)
    calls_names p me xs pc st bs k = enter_names true p me xs (Caller pc st ∷ bs) k (full_names bs k)

    -- ---- events

    handler_at : {s t : State} {a b : Move} (event : ℕ) (xs : List Slot) (l : Linked) (ls : List Linked) (o : Option ℕ) (pc : ℕ) (st : List Slot) (bs : List Back) → SameState r s t → Moves a b
        → Moves (calls_handler code event xs l ls o pc st bs s a) (calls_handler code event (ns xs) (link_named r l) (nl ls) o pc (ns st) (nb bs) t b)
    handler_at event xs l ls None pc st bs k h = h
    handler_at event xs l ls (Some p) pc st bs k h =
        let k1 = with_same k (lent_again_same r xs k.memory) in enter_names true p (object (Heap l.sink)) xs (Delivering event xs ls pc st ∷ bs) k1 (full_names bs k1)

    handler_to : {s t : State} {a b : Move} (event : ℕ) (xs : List Slot) (l : Linked) (ls : List Linked) (o q : Option ℕ) (pc : ℕ) (st : List Slot) (bs : List Back) → q ≡ o → SameState r s t → Moves a b
        → Moves (calls_handler code event xs l ls o pc st bs s a) (calls_handler code event (ns xs) (link_named r l) (nl ls) q pc (ns st) (nb bs) t b)
    handler_to {s = s} {t = t} {a = a} {b = b} event xs l ls o q pc st bs e k h =
        subst (λ x. Moves (calls_handler code event xs l ls o pc st bs s a) (calls_handler code event (ns xs) (link_named r l) (nl ls) x pc (ns st) (nb bs) t b)) (sym e) (handler_at event xs l ls o pc st bs k h)

    pub delivers_names : {s t : State} (event : ℕ) (xs : List Slot) (ls : List Linked) (pc : ℕ) (st : List Slot) (bs : List Back) → SameState r s t → Moves (delivers code event xs ls pc st bs s) (delivers code event (ns xs) (nl ls) pc (ns st) (nb bs) t)
    delivers_names event xs [] pc st bs k = goes_at pc st bs (with_same k (raise_over_same r xs k.memory))
    delivers_names {s = s} {t = t} event xs (l ∷ ls) pc st bs k =
        handler_to event xs l ls (due d event l s.memory) (due d event (link_named r l) t.memory) pc st bs (due_same r d event l k.memory) k (delivers_names event xs ls pc st bs k)

    pub delivers_to : {s t : State} (event : ℕ) (xs : List Slot) (ls hs : List Linked) (pc : ℕ) (st : List Slot) (bs : List Back) → hs ≡ nl ls → SameState r s t → Moves (delivers code event xs ls pc st bs s) (delivers code event (ns xs) hs pc (ns st) (nb bs) t)
    delivers_to {s = s} {t = t} event xs ls hs pc st bs e k = subst (λ x. Moves (delivers code event xs ls pc st bs s) (delivers code event (ns xs) x pc (ns st) (nb bs) t)) (sym e) (delivers_names event xs ls pc st bs k)

    change_at : {s t : State} (x : Option Area) (pc : ℕ) (st : List Slot) (bs : List Back) → SameState r s t → Moves (tells_change code x pc st bs s) (tells_change code x pc (ns st) (nb bs) t)
    change_at None pc st bs k = goes_at pc st bs k
    change_at {s = s} {t = t} (Some a) pc st bs k =
        delivers_to change (target_of a) (sinks (sheet_of a) s.memory) (sinks (sheet_of a) t.memory) pc st bs (sinks_same r (sheet_of a) k.memory) (with_same k (no_change_same r k.memory))

    pub change_names : {s t : State} (pc : ℕ) (st : List Slot) (bs : List Back) → SameState r s t → Moves (tells_change code s.memory.changed pc st bs s) (tells_change code t.memory.changed pc (ns st) (nb bs) t)
    change_names {s = s} {t = t} pc st bs k =
        subst (λ x. Moves (tells_change code s.memory.changed pc st bs s) (tells_change code x pc (ns st) (nb bs) t)) (sym (changed_same r k.memory)) (change_at s.memory.changed pc st bs k)

    change_to : {s t : State} (pc : ℕ) (st rt : List Slot) (bs : List Back) → rt ≡ ns st → SameState r s t → Moves (tells_change code s.memory.changed pc st bs s) (tells_change code t.memory.changed pc rt (nb bs) t)
    change_to {s = s} {t = t} pc st rt bs e k = subst (λ x. Moves (tells_change code s.memory.changed pc st bs s) (tells_change code t.memory.changed pc x (nb bs) t)) (sym e) (change_names pc st bs k)

    pub changes_names : {A : Type 0} {f : A → A} {e g : Effect A} (pc : ℕ) (st : List Slot) (bs : List Back) {s t : State} → Names r f e g → SameState r s t
        → Moves (done_then e bs s (then_changes code pc st bs)) (done_then g (nb bs) t (then_changes code pc (ns st) (nb bs)))
    changes_names pc st bs a k = done_names bs {x = then_changes code pc st bs} (then_changes code pc (ns st) (nb bs)) a k (λ u s1 t1 k1. change_names pc st bs k1)

    changes_push : {e g : Effect Val} (pc : ℕ) (st : List Slot) (bs : List Back) {s t : State} → Names r nv e g → SameState r s t
        → Moves (done_then e bs s (then_changes_push code pc st bs)) (done_then g (nb bs) t (then_changes_push code pc (ns st) (nb bs)))
    changes_push pc st bs a k = done_names bs {x = then_changes_push code pc st bs} (then_changes_push code pc (ns st) (nb bs)) a k (λ v s1 t1 k1. change_names pc (value v ∷ st) bs k1)

    -- ---- uses of objects

    left_named_as : (b : Bool) (v : Val) → left_as b (nv v) ≡ slot_named r (left_as b v)
    left_named_as true v = ap (λ q. path q) (path_to_named r v)
    left_named_as false v = refl

    follows_names : {s t : State} (b : Bool) (j : ℕ) (pc : ℕ) (st : List Slot) (bs : List Back) (x : Next) → SameState r s t → Moves (follows code b j pc st bs x s) (follows code b j pc (ns st) (nb bs) (next_named r x) t)
    follows_names b zero pc st bs (gives v) k = change_to pc (left_as b v ∷ st) (left_as b (nv v) ∷ ns st) bs (ap (λ y. y ∷ ns st) (left_named_as b v)) k
    follows_names b (suc j) pc st bs (gives v) k = change_to pc (left_as b v ∷ st) (left_as b (nv v) ∷ ns st) bs (ap (λ y. y ∷ ns st) (left_named_as b v)) k
    follows_names {s = s} {t = t} b zero pc st bs (then_call p me xs ts) k = raised_names (error_here 450 s.memory) (error_here 450 t.memory) bs (here_same r 450 k.memory) k
    follows_names b (suc j) pc st bs (then_call p me xs ts) k = enter_names true p me xs (Within b j ts pc st ∷ bs) k (full_names bs k)

    follows_after : {e g : Effect Next} (b : Bool) (j pc : ℕ) (st : List Slot) (bs : List Back) {s t : State} → Names r (λ x. next_named r x) e g → SameState r s t
        → Moves (done_then e bs s (follows code b j pc st bs)) (done_then g (nb bs) t (follows code b j pc (ns st) (nb bs)))
    follows_after b j pc st bs a k = done_names bs {x = follows code b j pc st bs} (follows code b j pc (ns st) (nb bs)) a k (λ x s1 t1 k1. follows_names b j pc st bs x k1)

    pub resumes_names : {s t : State} (b : Bool) (j : ℕ) (ts : List Task) (pc : ℕ) (st : List Slot) (bs : List Back) (v : Val) → SameState r s t → Moves (resumes code b j ts pc st bs v s) (resumes code b j (tasks_named r ts) pc (ns st) (nb bs) (nv v) t)
    resumes_names b j ts pc st bs v k = follows_after b j pc st bs (tasks_names r d plainness ts v k.memory) k

    pub uses_names : {e g : Effect Next} (b : Bool) (pc : ℕ) (st : List Slot) (bs : List Back) {s t : State} → Names r (λ x. next_named r x) e g → SameState r s t → Moves (uses code b e pc st bs s) (uses code b g pc (ns st) (nb bs) t)
    uses_names b pc st bs a k = follows_after b most_calls pc st bs a k

    counted_blind : (v : Val) → is_counted (nv v) ≡ is_counted v
    counted_blind (object Nothing) = refl
    counted_blind (object (Heap id)) = refl
    counted_blind (object (Host h)) = refl
    counted_blind v = refl

    pub gives_way_names : {s t : State} (v : Val) (pc : ℕ) (st : List Slot) (bs : List Back) → SameState r s t → Moves (gives_way code v pc st bs s) (gives_way code (nv v) pc (ns st) (nb bs) t)
    gives_way_names v pc st bs k =
        either_by (is_counted v) (is_counted (nv v)) (counted_blind v) (uses_names false pc st bs (counted_operand_names r d plainness v k.memory) k) (push_names pc st bs (plain_names r v k.memory) k)

    pub gives_way_if_names : {s t : State} (v : Val) (pc : ℕ) (st : List Slot) (bs : List Back) → SameState r s t → Moves (gives_way_if_any code v pc st bs s) (gives_way_if_any code (nv v) pc (ns st) (nb bs) t)
    gives_way_if_names v pc st bs k =
        either_by (is_counted v) (is_counted (nv v)) (counted_blind v) (uses_names false pc st bs (counted_if_any_names r d plainness v k.memory) k) (push_names pc st bs (if_any_names r v k.memory) k)

    slot_value_named : (x : Slot) → slot_value (slot_named r x) ≡ nv (slot_value x)
    slot_value_named (value v) = refl
    slot_value_named (path p) = refl

    pub base_named : (i : ℕ) (st : List Slot) → base_below i (ns st) ≡ nv (base_below i st)
    base_named i st = ap (λ x. slot_value x) (nth_map (slot_named r) st (suc i) (value empty)) ∙ slot_value_named (slice_index_or st (suc i) (value empty))

    binds_here : {s t : State} (aim : Use) (name : List ℕ) (by : ByName) (gs : List Bool) (i : ℕ) (base : Val) (q : Path) (pc : ℕ) (st : List Slot) (bs : List Back) → SameState r s t
        → Moves (if lends_place d aim name by gs i base q s.memory then done_then (lent q s.memory) bs s (then_at pc (path q ∷ st) bs) else uses code true (place_copied d aim name by gs i base q s.memory) pc st bs s)
        (if lends_place d aim name by gs i (nv base) (np q) t.memory then done_then (lent (np q) t.memory) (nb bs) t (then_at pc (path (np q) ∷ ns st) (nb bs)) else uses code true (place_copied d aim name by gs i (nv base) (np q) t.memory) pc (ns st) (nb bs) t)
    binds_here {s = s} {t = t} aim name by gs i base q pc st bs k =
        either_by (lends_place d aim name by gs i base q s.memory) (lends_place d aim name by gs i (nv base) (np q) t.memory) (lends_same r d aim name by gs i base q k.memory)
        (at_names pc (path q ∷ st) bs (lent_names r q k.memory) k) (uses_names true pc st bs (place_copied_names r d plainness aim name by gs i base q k.memory) k)

    pub binds_names : {s t : State} (aim : Use) (name : List ℕ) (by : ByName) (gs : List Bool) (i : ℕ) (q : Path) (pc : ℕ) (st : List Slot) (bs : List Back) → SameState r s t
        → Moves (binds_place code aim name by gs i q pc st bs s) (binds_place code aim name by gs i (np q) pc (ns st) (nb bs) t)
    binds_names {s = s} {t = t} aim name by gs i q pc st bs k =
        subst (λ b. Moves (binds_place code aim name by gs i q pc st bs s)
        (if lends_place d aim name by gs i b (np q) t.memory then done_then (lent (np q) t.memory) (nb bs) t (then_at pc (path (np q) ∷ ns st) (nb bs)) else uses code true (place_copied d aim name by gs i b (np q) t.memory) pc (ns st) (nb bs) t))
        (sym (base_named i st)) (binds_here aim name by gs i (base_below i st) q pc st bs k)

    places_here : {s t : State} (q : Path) (vs : List Val) (pc : ℕ) (st : List Slot) (bs : List Back) → SameState r s t → Moves (places_along code q vs pc st bs s) (places_along code (np q) (values_named r vs) pc (ns st) (nb bs) t)
    places_here {s = s} {t = t} q vs pc st bs k =
        either_by (has_array q s.memory) (has_array (np q) t.memory) (has_array_same r d plainness q k.memory) (push_path_names pc st bs (element_by_names r d plainness q vs k.memory) k) (uses_names true pc st bs (item_along_names r d plainness q vs k.memory) k)

    pub places_names : {s t : State} (q : Path) (xs : List Slot) (pc : ℕ) (st : List Slot) (bs : List Back) → SameState r s t → Moves (places_along code q (slot_values xs) pc st bs s) (places_along code (np q) (slot_values (ns xs)) pc (ns st) (nb bs) t)
    places_names {s = s} {t = t} q xs pc st bs k =
        subst (λ vs. Moves (places_along code q (slot_values xs) pc st bs s) (places_along code (np q) vs pc (ns st) (nb bs) t)) (sym (slot_values_named r xs)) (places_here q (slot_values xs) pc st bs k)

    raise_blind : (name : List ℕ) (v : Val) → is_raise name (nv v) ≡ is_raise name v
    raise_blind name (object Nothing) = refl
    raise_blind name (object (Heap id)) = refl
    raise_blind name (object (Host h)) = refl
    raise_blind name v = refl

    pub member_names : {s t : State} (name : List ℕ) (base begun : Val) (vs : List Val) (pc : ℕ) (st : List Slot) (bs : List Back) → SameState r s t
        → Moves (uses_member code name base begun vs pc st bs s) (uses_member code name (nv base) (nv begun) (values_named r vs) pc (ns st) (nb bs) t)
    member_names name base begun vs pc st bs k =
        either_by (is_raise name base) (is_raise name (nv base)) (raise_blind name base)
        (done_names bs {x = λ e s1. raised e bs s1} (λ e s1. raised e (nb bs) s1) (error_given_names r vs k.memory) k (λ e s1 t1 k1. raised_names e e bs refl k1))
        (either_by (is_counted base) (is_counted (nv base)) (counted_blind base)
        (done_names bs {x = λ a s1. then_let_go pc (value a.0 ∷ st) bs a.1 s1} (λ a s1. then_let_go pc (value a.0 ∷ ns st) (nb bs) a.1 s1) (object_member_names r name vs base k.memory) k
        (λ a s1 t1 k1. goes_letting a.1 a.1 (Back-to pc (value a.0 ∷ st)) bs refl k1))
        (changes_push pc st bs (member_called_names r d name vs base begun k.memory) k))

    member_to : {s t : State} (name : List ℕ) (base begun : Val) (vs ws : List Val) (pc : ℕ) (st : List Slot) (bs : List Back) → ws ≡ values_named r vs → SameState r s t
        → Moves (uses_member code name base begun vs pc st bs s) (uses_member code name (nv base) (nv begun) ws pc (ns st) (nb bs) t)
    member_to {s = s} {t = t} name base begun vs ws pc st bs e k = subst (λ us. Moves (uses_member code name base begun vs pc st bs s) (uses_member code name (nv base) (nv begun) us pc (ns st) (nb bs) t)) (sym e) (member_names name base begun vs pc st bs k)

    late_here : {s t : State} (name : List ℕ) (by : ByName) (gs : List Bool) (v w : Val) (xs : List Slot) (pc : ℕ) (st : List Slot) (bs : List Back) → SameState r s t
        → Moves (if is_instance v s.memory then uses code false (late_called d name by gs v w xs s.memory) pc st bs s else uses_member code name v w (host_arguments v name by xs) pc st bs s)
        (if is_instance (nv v) t.memory then uses code false (late_called d name by gs (nv v) (nv w) (ns xs) t.memory) pc (ns st) (nb bs) t else uses_member code name (nv v) (nv w) (host_arguments (nv v) name by (ns xs)) pc (ns st) (nb bs) t)
    late_here {s = s} {t = t} name by gs v w xs pc st bs k =
        either_by (is_instance v s.memory) (is_instance (nv v) t.memory) (instance_same r v k.memory) (uses_names false pc st bs (late_called_names r d plainness name by gs v w xs k.memory) k)
        (member_to name v w (host_arguments v name by xs) (host_arguments (nv v) name by (ns xs)) pc st bs (host_arguments_named r v name by xs) k)

    pub calls_late_names : {s t : State} (name : List ℕ) (by : ByName) (gs : List Bool) (v w : Val) (xs : List Slot) (pc : ℕ) (st : List Slot) (bs : List Back) → SameState r s t
        → Moves (calls_late code name by gs v w xs pc st bs s) (calls_late code name by gs (nv v) (nv w) (ns xs) pc (ns st) (nb bs) t)
    calls_late_names {s = s} {t = t} name by gs v w xs pc st bs k =
        subst (λ ys. Moves (calls_late code name by gs v w xs pc st bs s)
        (if is_instance (nv v) t.memory then uses code false (late_called d name by gs (nv v) (nv w) ys t.memory) pc (ns st) (nb bs) t else uses_member code name (nv v) (nv w) (host_arguments (nv v) name by ys) pc (ns st) (nb bs) t))
        (sym (all_received r xs)) (late_here name by gs v w (map received xs) pc st bs k)

    initializes_at : {s t : State} (o : Option ℕ) (v : Val) (pc : ℕ) (st : List Slot) (bs : List Back) → SameState r s t → Moves (initializes code o v pc st bs s) (initializes code o (nv v) pc (ns st) (nb bs) t)
    initializes_at None v pc st bs k = goes_at pc (value empty ∷ value v ∷ st) bs k
    initializes_at (Some p) v pc st bs k = calls_names p v [] pc (value v ∷ st) bs k

    pub initializes_names : {s t : State} (o q : Option ℕ) (v : Val) (pc : ℕ) (st : List Slot) (bs : List Back) → q ≡ o → SameState r s t → Moves (initializes code o v pc st bs s) (initializes code q (nv v) pc (ns st) (nb bs) t)
    initializes_names {s = s} {t = t} o q v pc st bs e k = subst (λ x. Moves (initializes code o v pc st bs s) (initializes code x (nv v) pc (ns st) (nb bs) t)) (sym e) (initializes_at o v pc st bs k)
