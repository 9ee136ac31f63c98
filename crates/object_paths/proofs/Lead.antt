-- What is held is there, so each path leads to an object that is.
use Rattle.std.proofs.Common.{◌≡◌, ℕ, zero, suc, ◌+◌, ◌<◌, Bool, true, false, List, [], ◌∷◌, ◌++◌, Option, Some, None, refl, sym, ap, subst, arith}
use Rattle.std.specs.Prelude.{◌==◌, if◌then◌else◌, slice_index_or}
use Rattle.std.proofs.lemmas.Bool.{eqb-true}
use Rattle.sheet_host.specs.Books.{Sheets}
use Rattle.bound_project.specs.Project.{Project}
use Rattle.bound_project.specs.Whole.{All, IsWhole}
use Rattle.vba_meaning.specs.Paths.{Root, in_frame, in_project, in_fields, in_block, in_object, in_item, Path}
use Rattle.vba_meaning.specs.Memory.{Slot, value, path, Kept, only, at_path, walk, Memory, Frame, Object, first_or, paths_in_slots, paths_kept, paths_held}
use Rattle.vba_meaning.specs.References.{objects_in, times, times_in_frames}
use Rattle.vba_meaning.specs.Defaults.{Spot, in_variable, by_let, in_range, in_member, Task, as_operand, no_object, give_way, walked, fit_to, index_by, write, let_item, set_item, put_in, read_made}
use Rattle.vba_meaning.specs.Meaning.{meaning}
use Rattle.pcode.specs.Layout.{code_of}
use Rattle.pcode.proofs.Sounds.{well_formed}
use Rattle.pcode.specs.Machine.{After, Goes-on, Decide, Return, Back-to, Pass, Close, Mode, At, Failing, Letting, Back, Caller, EndOf, Within, Delivering}
use Rattle.object_counts.specs.Counting.{Outcome, Running, Finished, Jammed, run_counted}
use Rattle.object_counts.proofs.Indexed.{times-append}
use Rattle.object_lives.specs.Lives.{IsThere, HasPlainDefaults}
use Rattle.object_lives.proofs.Held.{World, Asked, Reach, RootIn, Paths, Slots, SpotIn, TaskIn, Tasks, under}
use Rattle.object_lives.proofs.Near.{Has, Present, Ready, roots_of, reach_of, calleds, floor_of, stay_reach, BareSlots, BareKeeps, BareFrames, LentFrames}
use Rattle.object_lives.proofs.Places.{AfterIn, Rest, Calls, Standing}
use Rattle.object_lives.proofs.Meant.{counts_mean}
use Rattle.object_lives.proofs.Lived.{world, HoldsAt, run_holds}
use Rattle.object_paths.specs.Blocks.{BlocksKeepOwn}
use Rattle.object_paths.specs.Leads.{objects_of_root, LeadsThere, paths_in_spot, paths_in_task, paths_in_tasks, paths_in_after, paths_in_backs, paths_in_mode, AllLead, LeadAt}
use Rattle.object_paths.proofs.Kept.{project_keeps}

all_append : {A : Type 0} (P : A → Type 0) (xs ys : List A) → All P xs → All P ys → All P (xs ++ ys)
all_append P [] ys h k = k
all_append P (x ∷ xs) ys h k = (h.0, all_append P xs ys h.1 k)

-- ---- what frames refer to is there

-- what these frames refer to, the top one first
pub record AllRefer (m : Memory) (fs : List Frame) : Type 0 where
  pub there : (o : ℕ) → 0 < times_in_frames o fs → IsThere m o

pub refer_below : {m : Memory} (f : Frame) (fs : List Frame) → AllRefer m (f ∷ fs) → AllRefer m fs
refer_below f fs a = record { there = λ o lt. a.there o (omega (arith, lt)) }

pub present_there : (m : Memory) (o : ℕ) → Present m.objects o → IsThere m o
present_there m o h = by_object (slice_index_or m.objects o None) refl h where
  by_object : (x : Option Object) → slice_index_or m.objects o None ≡ x → Has x → IsThere m o
  by_object None e k = absurd k
  by_object (Some b) e k = (b, e)

pub ready_refer : (m : Memory) → Ready true m → AllRefer m m.frames
ready_refer m r = record { there = λ o lt. present_there m o (r.live o (omega (arith, lt))) }

one_object : (n o : ℕ) → 0 < times n (o ∷ []) → n ≡ o
one_object n o lt = by_test (n == o) refl lt where
  by_test : (b : Bool) → (n == o) ≡ b → 0 < (if b then 1 else 0) + 0 → n ≡ o
  by_test true e h = eqb-true n o e
  by_test false e h = absurd (omega (arith, h))

-- the roots are held somewhere, but for number 0
roots_there : (o : ℕ) (fs : List Frame) → 0 < times o (roots_of fs) → 0 < o → 0 < times_in_frames o fs
roots_there o [] lt k = absurd (omega (arith, one_object o 0 lt, k))
roots_there o (f ∷ fs) lt k = by_below (times o (roots_of fs)) refl (λ h. roots_there o fs h k) where
  by_below : (n : ℕ) → times o (roots_of fs) ≡ n → (0 < times o (roots_of fs) → 0 < times_in_frames o fs) → 0 < times_in_frames o (f ∷ fs)
  by_below zero e more = omega (arith, times-append o f.held (objects_in f.me ++ roots_of fs), times-append o (objects_in f.me) (roots_of fs), lt, e)
  by_below (suc n) e more = omega (arith, more (omega (arith, e)))

-- ---- where paths lead

pub record Live (m : Memory) (hs : Reach) : Type 0 where
  pub asks : hs.asks ≡ true
  pub held : (o : ℕ) → 0 < times o hs.held → IsThere m o
  pub roots : (o : ℕ) → 0 < times o hs.roots → 0 < o → IsThere m o

module _ {m : Memory} {hs : Reach} (a : Live m hs) where
  root_leads : (r : Root) → RootIn hs r → (o : ℕ) → 0 < times o (objects_of_root r) → 0 < o → IsThere m o
  root_leads (in_fields n i) h o lt k =
      let is : o ≡ n = one_object o n lt in
      a.roots o (subst (λ x. 0 < times x hs.roots) (sym is) (asked_for hs.asks a.asks h)) k
    where
      asked_for : (b : Bool) → b ≡ true → Asked b (0 < times n hs.roots) → 0 < times n hs.roots
      asked_for true e x = x
      asked_for false e x = absurd cc
  root_leads (in_object n) h o lt k = absurd (omega (arith, ap (times o) h, lt))
  root_leads (in_item v) h o lt k = a.held o (h.at o lt)
  root_leads (in_frame n x) h o lt k = absurd (omega (arith, lt))
  root_leads (in_project x) h o lt k = absurd (omega (arith, lt))
  root_leads (in_block n x) h o lt k = absurd (omega (arith, lt))

  paths_lead : (qs : List Path) → Paths hs qs → All (LeadsThere m) qs
  paths_lead [] h = tt
  paths_lead (q ∷ qs) h = (root_leads q.root h.0, paths_lead qs h.1)

  slots_lead : (xs : List Slot) → Slots hs xs → All (LeadsThere m) (paths_in_slots xs)
  slots_lead [] h = tt
  slots_lead (value v ∷ xs) h = slots_lead xs h.1
  slots_lead (path q ∷ xs) h = (root_leads q.root h.0, slots_lead xs h.1)

  bare_lead : (xs : List Slot) → BareSlots hs xs → All (LeadsThere m) (paths_in_slots xs)
  bare_lead [] h = tt
  bare_lead (value v ∷ xs) h = bare_lead xs h
  bare_lead (path q ∷ xs) h = (root_leads q.root h.0, bare_lead xs h.1)

  keeps_lead : (es : List (ℕ × Kept)) → BareKeeps hs es → All (LeadsThere m) (paths_kept es)
  keeps_lead [] h = tt
  keeps_lead ((i, only v) ∷ es) h = keeps_lead es h.1
  keeps_lead ((i, at_path q) ∷ es) h = (root_leads q.root h.0, keeps_lead es h.1)
  keeps_lead ((i, walk begun v k) ∷ es) h = keeps_lead es h.1

  spot_leads : (s : Spot) → SpotIn hs s → All (LeadsThere m) (paths_in_spot s)
  spot_leads (in_variable q) h = (root_leads q.root h, tt)
  spot_leads (by_let p self xs) h = slots_lead xs h.1
  spot_leads (in_range w) h = tt
  spot_leads (in_member name vs base begun) h = tt

  task_leads : (t : Task) → TaskIn hs t → All (LeadsThere m) (paths_in_task t)
  task_leads (put_in spot) h = spot_leads spot h
  task_leads (read_made q v) h = (root_leads q.root h.0, tt)
  task_leads as_operand h = tt
  task_leads no_object h = tt
  task_leads give_way h = tt
  task_leads walked h = tt
  task_leads (fit_to of) h = tt
  task_leads (index_by k vs) h = tt
  task_leads (write k v) h = tt
  task_leads (let_item k vs v) h = tt
  task_leads (set_item k vs v) h = tt

  tasks_lead : (ts : List Task) → Tasks hs ts → All (LeadsThere m) (paths_in_tasks ts)
  tasks_lead [] h = tt
  tasks_lead (t ∷ ts) h = all_append (LeadsThere m) (paths_in_task t) (paths_in_tasks ts) (task_leads t h.0) (tasks_lead ts h.1)

-- of the first frame, of its variables and of its blocks
held_in : (o : ℕ) (fs : List Frame) → 0 < times o (first_or fs).held → 0 < times_in_frames o fs
held_in o [] lt = lt
held_in o (f ∷ fs) lt = omega (arith, lt)

pub live_first : {m : Memory} (fs : List Frame) → AllRefer m fs → Live m (reach_of true fs)
live_first fs a = record {
  asks = refl;
  held = λ o lt. a.there o (held_in o fs lt);
  roots = λ o lt k. a.there o (roots_there o fs (first_roots o fs lt) k);
} where
  first_roots : (o : ℕ) (fs : List Frame) → 0 < times o (reach_of true fs).roots → 0 < times o (roots_of fs)
  first_roots o [] lt = lt
  first_roots o (f ∷ fs) lt = lt

pub live_slots : {m : Memory} (l : ℕ) (fs : List Frame) → AllRefer m fs → Live m (under true (roots_of fs) l)
live_slots l fs a = record { asks = refl; held = λ o lt. absurd (omega (arith, lt)); roots = λ o lt k. a.there o (roots_there o fs lt k) }

pub live_blocks : {m : Memory} (l : ℕ) (f : Frame) (fs : List Frame) → AllRefer m (f ∷ fs) → Live m (under true (objects_in f.me ++ roots_of fs) l)
live_blocks l f fs a = record {
  asks = refl;
  held = λ o lt. absurd (omega (arith, lt));
  roots = λ o lt k. a.there o (roots_there o (f ∷ fs) (omega (arith, times-append o f.held (objects_in f.me ++ roots_of fs), lt)) k);
}

-- all paths of frames
frames_lead : (m : Memory) (fs : List Frame) → AllRefer m fs → BareFrames true fs → LentFrames true fs → All (LeadsThere m) (paths_held fs)
frames_lead m [] a b l = tt
frames_lead m (f ∷ fs) a b l =
    all_append (LeadsThere m) (f.pending ++ paths_in_slots f.slots ++ paths_kept f.keeps) (paths_held fs)
    (all_append (LeadsThere m) (f.pending ++ paths_in_slots f.slots) (paths_kept f.keeps)
    (all_append (LeadsThere m) f.pending (paths_in_slots f.slots) (paths_lead (live_first (f ∷ fs) a) f.pending l.0)
    (bare_lead (live_slots (floor_of (f.called ∷ calleds fs)) fs (refer_below f fs a)) f.slots b.0.0))
    (keeps_lead (live_blocks (floor_of (f.called ∷ calleds fs)) f fs a) f.keeps b.0.1))
    (frames_lead m fs (refer_below f fs a) b.1 l.1)

memory_leads : (m : Memory) → Ready true m → AllLead m
memory_leads m r = frames_lead m m.frames (ready_refer m r) r.bare r.lent

-- ---- operands that wait

module _ (w : World) (on : w.asks ≡ true) where
  pub live_world : {m : Memory} (fs : List Frame) → AllRefer m fs → Live m (reach_of w.asks fs)
  live_world {m = m} fs a = subst (λ b. Live m (reach_of b fs)) (sym on) (live_first fs a)

  after_leads : {m : Memory} (fs : List Frame) (after : After) → AllRefer m fs → AfterIn w (reach_of w.asks fs) (stay_reach w.asks fs) after → All (LeadsThere m) (paths_in_after after)
  after_leads fs (Back-to pc st) a h = slots_lead (live_world fs a) st h.1
  after_leads fs (Goes-on pc) a h = tt
  after_leads fs (Decide e) a h = tt
  after_leads fs Return a h = tt
  after_leads fs (Pass e) a h = tt
  after_leads fs (Close vs g) a h = tt

  -- over the calls that stand
  rest_leads : {m : Memory} (fs : List Frame) (bs : List Back) (after : After) → AllRefer m fs → (Calls w fs bs → All (LeadsThere m) (paths_in_backs bs)) → Rest w after fs bs
      → All (LeadsThere m) (paths_in_after after) × All (LeadsThere m) (paths_in_backs bs)
  rest_leads fs bs (Back-to pc st) a k h = (after_leads fs (Back-to pc st) a h.2, k h.0)
  rest_leads fs bs (Goes-on pc) a k h = (tt, k h.0)
  rest_leads fs bs (Decide e) a k h = (tt, k h.0)
  rest_leads fs bs Return a k h = (tt, k h.0)
  rest_leads fs bs (Pass e) a k h = (tt, k h.0)
  rest_leads {m = m} fs bs (Close vs g) a k h = (tt, subst (λ cs. All (LeadsThere m) (paths_in_backs cs)) (sym h.1) tt)

  backs_lead : {m : Memory} (fs : List Frame) (bs : List Back) → AllRefer m fs → Calls w fs bs → All (LeadsThere m) (paths_in_backs bs)
  backs_lead fs [] a h = tt
  backs_lead [] (b ∷ bs) a h = absurd h
  backs_lead {m = m} (f ∷ fs) (Caller ret st ∷ bs) a h =
      let c = refer_below f fs a in
      all_append (LeadsThere m) (paths_in_slots st) (paths_in_backs bs) (slots_lead (live_world fs c) st h.1.1) (backs_lead fs bs c h.2)
  backs_lead {m = m} (f ∷ fs) (Within b k ts pc st ∷ bs) a h =
      let c = refer_below f fs a in
      all_append (LeadsThere m) (paths_in_tasks ts ++ paths_in_slots st) (paths_in_backs bs)
      (all_append (LeadsThere m) (paths_in_tasks ts) (paths_in_slots st) (tasks_lead (live_world fs c) ts h.1.1) (slots_lead (live_world fs c) st h.1.2)) (backs_lead fs bs c h.2)
  backs_lead {m = m} (f ∷ fs) (Delivering e xs ls ret st ∷ bs) a h =
      let c = refer_below f fs a in
      all_append (LeadsThere m) (paths_in_slots xs ++ paths_in_slots st) (paths_in_backs bs)
      (all_append (LeadsThere m) (paths_in_slots xs) (paths_in_slots st) (slots_lead (live_world fs c) xs h.1.1) (slots_lead (live_world fs c) st h.1.2)) (backs_lead fs bs c h.2)
  backs_lead {m = m} (f ∷ fs) (EndOf o k after ∷ bs) a h =
      let c = refer_below f fs a in
      let r = rest_leads fs bs after c (λ x. backs_lead fs bs c x) h.2 in
      all_append (LeadsThere m) (paths_in_after after) (paths_in_backs bs) r.0 r.1

  standing_leads : {m : Memory} (mode : Mode) (fs : List Frame) (st : List Slot) (bs : List Back) → AllRefer m fs → Standing w mode fs st bs
      → All (LeadsThere m) (paths_in_mode mode st) × All (LeadsThere m) (paths_in_backs bs)
  standing_leads (At pc) fs st bs a h = (slots_lead (live_world fs a) st h.0, backs_lead fs bs a h.1)
  standing_leads (Failing e) fs st bs a h = (tt, backs_lead fs bs a h)
  standing_leads (Letting k after) fs st bs a h = rest_leads fs bs after a (λ x. backs_lead fs bs a x) h

-- ---- runs

outcome_leads : (pr : Project) (r : Outcome) → HoldsAt true (code_of pr) r → LeadAt r
outcome_leads pr (Running counts c) h =
    let m : Memory = c.state.memory in
    let s = standing_leads (world true (code_of pr)) refl c.mode m.frames c.stack c.backs (ready_refer m h.1.ready) h.1.standing in
    all_append (LeadsThere m) (paths_held m.frames ++ paths_in_mode c.mode c.stack) (paths_in_backs c.backs)
    (all_append (LeadsThere m) (paths_held m.frames) (paths_in_mode c.mode c.stack) (memory_leads m h.1.ready) s.0) s.1
outcome_leads pr (Finished counts e s es) h = memory_leads s.memory h.1.ready
outcome_leads pr Jammed h = tt

pub run_leads : (pr : Project) (book : Sheets) (turns steps : ℕ) → IsWhole pr → HasPlainDefaults pr.declared → BlocksKeepOwn pr → LeadAt (run_counted (code_of pr) book turns steps)
run_leads pr book turns steps whole d k =
    outcome_leads pr (run_counted (code_of pr) book turns steps) (run_holds true (code_of pr) (well_formed pr whole) d (project_keeps pr k) turns book steps)

pub meant_leads : (pr : Project) (book : Sheets) (turns : ℕ) → IsWhole pr → HasPlainDefaults pr.declared → BlocksKeepOwn pr → AllLead (meaning pr book turns).state.memory
meant_leads pr book turns whole d k =
    let e = (counts_mean pr book turns).ends in
    subst (λ r. LeadAt r) e.1.ended (run_leads pr book turns e.0 whole d k)
