-- What a state names is there.
use Rattle.std.proofs.Common.{◌≡◌, ℕ, zero, suc, ◌<◌, ◌≤◌, Bool, true, false, List, [], ◌∷◌, ◌++◌, map, Option, Some, None, refl, sym, ap, ◌∙◌, subst, arith}
use Rattle.std.specs.Prelude.{slice_index_or}
use Rattle.sheet_host.specs.Books.{Sheets}
use Rattle.vba_values.specs.declared.object.ObjRef.TheVariants.{Nothing, Heap, Host}
use Rattle.vba_values.specs.Val.{Val, Vals, object, array, udt, no_vals, val}
use Rattle.bound_project.specs.Project.{Project}
use Rattle.bound_project.specs.Whole.{All, IsWhole}
use Rattle.vba_meaning.specs.Paths.{Root, in_frame, in_project, in_fields, in_block, in_object, in_item, Path}
use Rattle.vba_meaning.specs.Memory.{Slot, value, path, Typed, Loop, Kept, only, at_path, walk, Memory, Frame, Object, object_or}
use Rattle.vba_meaning.specs.References.{objects_in, objects_in_vals, objects_in_values, objects_in_slots, objects_kept, times, times_in_objects, looks}
use Rattle.vba_meaning.specs.Defaults.{Spot, in_variable, by_let, in_range, in_member, Task, as_operand, no_object, give_way, walked, fit_to, index_by, write, let_item, set_item, put_in, read_made}
use Rattle.pcode.specs.Layout.{code_of}
use Rattle.pcode.proofs.Sounds.{well_formed}
use Rattle.pcode.specs.Machine.{After, Goes-on, Decide, Return, Back-to, Pass, Close, Mode, At, Failing, Letting, Back, Caller, EndOf, Within, Delivering}
use Rattle.object_counts.specs.Counting.{Outcome, Running, Finished, Jammed, run_counted}
use Rattle.object_counts.proofs.Indexed.{times-append}
use Rattle.object_lives.specs.Lives.{HasPlainDefaults}
use Rattle.object_lives.proofs.Values.{In, Refers, own_time}
use Rattle.object_lives.proofs.Held.{World, Asked, Reach, RootIn, Paths, SlotIn, Slots, Values, SpotIn, TaskIn, Tasks}
use Rattle.object_lives.proofs.Near.{Ready, calleds, floor_of, BareSlots, BareKeeps, BareFrames, LentFrames, PlainLoops}
use Rattle.object_lives.proofs.Places.{Rest, Calls, Standing}
use Rattle.object_lives.proofs.Lived.{world, HoldsAt, run_holds}
use Rattle.object_paths.specs.Blocks.{BlocksKeepOwn}
use Rattle.object_paths.proofs.Kept.{project_keeps}
use Rattle.object_paths.proofs.Lead.{present_there, AllRefer, refer_below, ready_refer, Live, live_first, live_slots, live_blocks, live_world}
use Rattle.object_names.specs.Names.{value_named, items_named, values_named, root_named, path_named, slot_named, slots_named, kept_named, typed_named, loop_named, frame_named, spot_named, task_named, tasks_named, after_named}
use Rattle.ended_objects.specs.Alike.{Agree, MemoryAlike, BackAlike, ModeAlike, AlikeAt}

-- what blocks and loops keep, under names
abbrev keeps_named : (ℕ → ℕ) → List (ℕ × Kept) → List (ℕ × Kept)
keeps_named r es = map (λ e. (e.0, kept_named r e.1)) es

abbrev loops_named : (ℕ → ℕ) → List (ℕ × Loop) → List (ℕ × Loop)
loops_named r es = map (λ e. (e.0, loop_named r e.1)) es

module _ (r q : ℕ → ℕ) where
  -- both give these numbers the same name
  abbrev Both : List ℕ → Type 0
  Both os = (o : ℕ) → 0 < times o os → r o ≡ q o

  both_front : (xs ys : List ℕ) → Both (xs ++ ys) → Both xs
  both_front xs ys h o lt = h o (omega (arith, times-append o xs ys, lt))

  both_back : (xs ys : List ℕ) → Both (xs ++ ys) → Both ys
  both_back xs ys h o lt = h o (omega (arith, times-append o xs ys, lt))

  both_in : {xs ys : List ℕ} → In xs ys → Both ys → Both xs
  both_in i h o lt = h o (i.at o lt)

  both_none : Both []
  both_none o lt = absurd (omega (arith, lt))

  numbers_alike : (os : List ℕ) → Both os → map r os ≡ map q os
  numbers_alike [] h = refl
  numbers_alike (o ∷ os) h = ap (λ n. n ∷ map r os) (both_front (o ∷ []) os h o (own_time o)) ∙ ap (λ ns. q o ∷ ns) (numbers_alike os (both_back (o ∷ []) os h))

  mutual
    value_alike : (v : Val) → Both (objects_in v) → value_named r v ≡ value_named q v
    value_alike (object Nothing) h = refl
    value_alike (object (Heap id)) h = ap (λ n. object (Heap (record { 0 = n }))) (h id.0 (own_time id.0))
    value_alike (object (Host x)) h = refl
    value_alike (array bounds of items) h = ap (λ vs. array bounds of vs) (items_alike items h)
    value_alike (udt number fields) h = ap (λ vs. udt number vs) (items_alike fields h)
    value_alike v h = refl

    items_alike : (vs : Vals) → Both (objects_in_vals vs) → items_named r vs ≡ items_named q vs
    items_alike no_vals h = refl
    items_alike (val v vs) h =
        ap (λ w. val w (items_named r vs)) (value_alike v (both_front (objects_in v) (objects_in_vals vs) h)) ∙ ap (λ ws. val (value_named q v) ws) (items_alike vs (both_back (objects_in v) (objects_in_vals vs) h))

  values_alike : (vs : List Val) → Both (objects_in_values vs) → values_named r vs ≡ values_named q vs
  values_alike [] h = refl
  values_alike (v ∷ vs) h =
      ap (λ w. w ∷ values_named r vs) (value_alike v (both_front (objects_in v) (objects_in_values vs) h)) ∙ ap (λ ws. value_named q v ∷ ws) (values_alike vs (both_back (objects_in v) (objects_in_values vs) h))

  -- ---- what a frame holds and leads to

  record Named (hs : Reach) : Type 0 where
    asks : hs.asks ≡ true
    held : Both hs.held
    roots : Both hs.roots

  module _ {hs : Reach} (a : Named hs) where
    root_alike : (x : Root) → RootIn hs x → root_named r x ≡ root_named q x
    root_alike (in_frame k i) h = refl
    root_alike (in_project i) h = refl
    root_alike (in_fields o i) h = ap (λ n. in_fields n i) (a.roots o (asked_for hs.asks a.asks h)) where
      asked_for : (b : Bool) → b ≡ true → Asked b (0 < times o hs.roots) → 0 < times o hs.roots
      asked_for true e x = x
      asked_for false e x = absurd cc
    root_alike (in_block k i) h = refl
    root_alike (in_object Nothing) h = refl
    root_alike (in_object (Heap id)) h = absurd cc
    root_alike (in_object (Host x)) h = refl
    root_alike (in_item v) h = ap (λ w. in_item w) (value_alike v (both_in h a.held))

    path_alike : (p : Path) → RootIn hs p.root → path_named r p ≡ path_named q p
    path_alike p h = ap (λ x. record p { root = x }) (root_alike p.root h)

    paths_alike : (ps : List Path) → Paths hs ps → map (λ p. path_named r p) ps ≡ map (λ p. path_named q p) ps
    paths_alike [] h = refl
    paths_alike (p ∷ ps) h = ap (λ x. x ∷ map (λ p. path_named r p) ps) (path_alike p h.0) ∙ ap (λ xs. path_named q p ∷ xs) (paths_alike ps h.1)

    given_alike : (v : Val) → Refers hs.held v → value_named r v ≡ value_named q v
    given_alike v h = value_alike v (both_in h a.held)

    all_alike : (vs : List Val) → Values hs.held vs → values_named r vs ≡ values_named q vs
    all_alike [] h = refl
    all_alike (v ∷ vs) h = ap (λ w. w ∷ values_named r vs) (given_alike v h.0) ∙ ap (λ ws. value_named q v ∷ ws) (all_alike vs h.1)

    slot_alike : (x : Slot) → SlotIn hs x → slot_named r x ≡ slot_named q x
    slot_alike (value v) h = ap (λ w. value w) (given_alike v h)
    slot_alike (path p) h = ap (λ w. path w) (path_alike p h)

    slots_alike : (xs : List Slot) → Slots hs xs → slots_named r xs ≡ slots_named q xs
    slots_alike [] h = refl
    slots_alike (x ∷ xs) h = ap (λ y. y ∷ slots_named r xs) (slot_alike x h.0) ∙ ap (λ ys. slot_named q x ∷ ys) (slots_alike xs h.1)

    spot_alike : (s : Spot) → SpotIn hs s → spot_named r s ≡ spot_named q s
    spot_alike (in_variable p) h = ap (λ x. in_variable x) (path_alike p h)
    spot_alike (by_let p self xs) h = ap (λ w. by_let p w (slots_named r xs)) (given_alike self h.0) ∙ ap (λ ys. by_let p (value_named q self) ys) (slots_alike xs h.1)
    spot_alike (in_range w) h = ap (λ x. in_range x) (given_alike w h)
    spot_alike (in_member name vs base begun) h =
        ap (λ ws. in_member name ws (value_named r base) (value_named r begun)) (all_alike vs h.0) ∙ ap (λ w. in_member name (values_named q vs) w (value_named r begun)) (given_alike base h.1)
        ∙ ap (λ w. in_member name (values_named q vs) (value_named q base) w) (given_alike begun h.2)

    task_alike : (t : Task) → TaskIn hs t → task_named r t ≡ task_named q t
    task_alike as_operand h = refl
    task_alike no_object h = refl
    task_alike give_way h = refl
    task_alike walked h = refl
    task_alike (fit_to of) h = refl
    task_alike (index_by k vs) h = ap (λ ws. index_by k ws) (all_alike vs h)
    task_alike (write k v) h = ap (λ w. write k w) (given_alike v h)
    task_alike (let_item k vs v) h = ap (λ ws. let_item k ws (value_named r v)) (all_alike vs h.0) ∙ ap (λ w. let_item k (values_named q vs) w) (given_alike v h.1)
    task_alike (set_item k vs v) h = ap (λ ws. set_item k ws (value_named r v)) (all_alike vs h.0) ∙ ap (λ w. set_item k (values_named q vs) w) (given_alike v h.1)
    task_alike (put_in spot) h = ap (λ s. put_in s) (spot_alike spot h)
    task_alike (read_made p v) h = ap (λ x. read_made x (value_named r v)) (path_alike p h.0) ∙ ap (λ w. read_made (path_named q p) w) (given_alike v h.1)

    tasks_alike : (ts : List Task) → Tasks hs ts → tasks_named r ts ≡ tasks_named q ts
    tasks_alike [] h = refl
    tasks_alike (t ∷ ts) h = ap (λ x. x ∷ tasks_named r ts) (task_alike t h.0) ∙ ap (λ xs. task_named q t ∷ xs) (tasks_alike ts h.1)

    -- variables of a frame, and what its blocks keep: the values are counted
    variables_alike : (xs : List Slot) → Both (objects_in_slots xs) → BareSlots hs xs → slots_named r xs ≡ slots_named q xs
    variables_alike [] b h = refl
    variables_alike (value v ∷ xs) b h =
        ap (λ w. value w ∷ slots_named r xs) (value_alike v (both_front (objects_in v) (objects_in_slots xs) b)) ∙ ap (λ ys. value (value_named q v) ∷ ys) (variables_alike xs (both_back (objects_in v) (objects_in_slots xs) b) h)
    variables_alike (path p ∷ xs) b h = ap (λ x. path x ∷ slots_named r xs) (path_alike p h.0) ∙ ap (λ ys. path (path_named q p) ∷ ys) (variables_alike xs b h.1)

    keeps_alike : (es : List (ℕ × Kept)) → Both (objects_kept es) → BareKeeps hs es → keeps_named r es ≡ keeps_named q es
    keeps_alike [] b h = refl
    keeps_alike ((i, only v) ∷ es) b h =
        ap (λ w. (i, only w) ∷ keeps_named r es) (value_alike v (both_front (objects_in v) (objects_kept es) b))
        ∙ ap (λ ys. (i, only (value_named q v)) ∷ ys) (keeps_alike es (both_back (objects_in v) (objects_kept es) b) h.1)
    keeps_alike ((i, at_path p) ∷ es) b h = ap (λ x. (i, at_path x) ∷ keeps_named r es) (path_alike p h.0) ∙ ap (λ ys. (i, at_path (path_named q p)) ∷ ys) (keeps_alike es b h.1)
    keeps_alike ((i, walk begun v k) ∷ es) b h =
        ap (λ w. (i, walk begun w k) ∷ keeps_named r es) (value_alike v (both_front (objects_in v) (objects_kept es) b))
        ∙ ap (λ ys. (i, walk begun (value_named q v) k) ∷ ys) (keeps_alike es (both_back (objects_in v) (objects_kept es) b) h.1)

  typed_alike : (t : Typed) → In (objects_in t.value) [] → typed_named r t ≡ typed_named q t
  typed_alike t h = ap (λ v. record t { value = v }) (value_alike t.value (both_in h both_none))

  loops_alike : (es : List (ℕ × Loop)) → PlainLoops es → loops_named r es ≡ loops_named q es
  loops_alike [] h = refl
  loops_alike (e ∷ es) h =
      ap (λ t. (e.0, record e.1 { last = t; step = typed_named r e.1.step }) ∷ loops_named r es) (typed_alike e.1.last h.0.0)
      ∙ ap (λ t. (e.0, record e.1 { last = typed_named q e.1.last; step = t }) ∷ loops_named r es) (typed_alike e.1.step h.0.1)
      ∙ ap (λ ys. (e.0, loop_named q e.1) ∷ ys) (loops_alike es h.1)

  -- ---- memories

  module _ {m : Memory} (g : Agree r q m) where
    live_named : {hs : Reach} → Live m hs → Named hs
    live_named {hs = hs} a = record { asks = a.asks; held = λ o lt. g.there o (a.held o lt); roots = λ o lt. by_number o lt } where
      by_number : (o : ℕ) → 0 < times o hs.roots → r o ≡ q o
      by_number zero lt = g.nothing
      by_number (suc o) lt = g.there (suc o) (a.roots (suc o) lt (omega arith))

    frame_alike : (f : Frame) (fs : List Frame) → AllRefer m (f ∷ fs) → BareFrames true (f ∷ fs) → LentFrames true (f ∷ fs) → frame_named r f ≡ frame_named q f
    frame_alike f fs a b l =
        let slots = variables_alike (live_named (live_slots (floor_of (f.called ∷ calleds fs)) fs (refer_below f fs a))) f.slots (λ o lt. g.there o (a.there o (omega (arith, lt)))) b.0.0 in
        let pending = paths_alike (live_named (live_first (f ∷ fs) a)) f.pending l.0 in
        let loops = loops_alike f.loops b.0.2 in
        let keeps = keeps_alike (live_named (live_blocks (floor_of (f.called ∷ calleds fs)) f fs a)) f.keeps (λ o lt. g.there o (a.there o (omega (arith, lt)))) b.0.1 in
        let me = value_alike f.me (λ o lt. g.there o (a.there o (omega (arith, lt)))) in
        let held = numbers_alike f.held (λ o lt. g.there o (a.there o (omega (arith, lt)))) in
        ap (λ x. record (frame_named r f) { slots = x }) slots ∙ ap (λ x. record (frame_named r f) { slots = slots_named q f.slots; pending = x }) pending
        ∙ ap (λ x. record (frame_named r f) { slots = slots_named q f.slots; pending = map (λ p. path_named q p) f.pending; loops = x }) loops
        ∙ ap (λ x. record (frame_named q f) { keeps = x; me = value_named r f.me; held = map r f.held }) keeps ∙ ap (λ x. record (frame_named q f) { me = x; held = map r f.held }) me
        ∙ ap (λ x. record (frame_named q f) { held = x }) held

    frames_alike : (fs : List Frame) → AllRefer m fs → BareFrames true fs → LentFrames true fs → map (λ f. frame_named r f) fs ≡ map (λ f. frame_named q f) fs
    frames_alike [] a b l = refl
    frames_alike (f ∷ fs) a b l = ap (λ x. x ∷ map (λ f. frame_named r f) fs) (frame_alike f fs a b l) ∙ ap (λ xs. frame_named q f ∷ xs) (frames_alike fs (refer_below f fs a) b.1 l.1)

    -- what looking finds is there
    looked : Ready true m → (o : ℕ) → 0 < looks m o → r o ≡ q o
    looked h o lt = g.there o (present_there m o (h.live o lt))

    fields_looked : (bs : List (Option Object)) (o n : ℕ) (b : Object) → slice_index_or bs o None ≡ Some b → times n (objects_in_values b.fields) ≤ times_in_objects n bs
    fields_looked [] zero n b e = absurd cc
    fields_looked [] (suc o) n b e = absurd cc
    fields_looked (None ∷ bs) zero n b e = absurd cc
    fields_looked (Some c ∷ bs) zero n b e = omega (arith, ap (λ x. times n (objects_in_values (object_or x).fields)) e)
    fields_looked (None ∷ bs) (suc o) n b e = fields_looked bs o n b e
    fields_looked (Some c ∷ bs) (suc o) n b e = omega (arith, fields_looked bs o n b e)

    memory_alike : Ready true m → MemoryAlike r q m
    memory_alike h = record {
      memory = λ objects.
          ap (λ fs. record m { frames = fs; shared = values_named r m.shared; objects = objects; waiting = map r m.waiting }) (frames_alike m.frames (ready_refer m h) h.bare h.lent)
          ∙ ap (λ vs. record m { frames = map (λ f. frame_named q f) m.frames; shared = vs; objects = objects; waiting = map r m.waiting }) (values_alike m.shared (λ o lt. looked h o (omega (arith, lt))))
          ∙ ap (λ os. record m { frames = map (λ f. frame_named q f) m.frames; shared = values_named q m.shared; objects = objects; waiting = os }) (numbers_alike m.waiting (λ o lt. looked h o (omega (arith, lt))));
      each = λ o b e. ap (λ vs. record b { fields = vs }) (values_alike b.fields (λ n lt. looked h n (omega (arith, fields_looked m.objects o n b e, lt))));
    }

    -- ---- what waits

    module _ (w : World) (on : w.asks ≡ true) where
      -- over the calls that stand
      rest_alike : (fs : List Frame) (bs : List Back) (after : After) → AllRefer m fs → (Calls w fs bs → All (BackAlike r q) bs) → Rest w after fs bs → (after_named r after ≡ after_named q after) × All (BackAlike r q) bs
      rest_alike fs bs (Back-to pc st) a k h = (ap (λ x. Back-to pc x) (slots_alike (live_named (live_world w on fs a)) st h.2.1), k h.0)
      rest_alike fs bs (Goes-on pc) a k h = (refl, k h.0)
      rest_alike fs bs (Decide e) a k h = (refl, k h.0)
      rest_alike fs bs Return a k h = (refl, k h.0)
      rest_alike fs bs (Pass e) a k h = (refl, k h.0)
      rest_alike fs bs (Close vs n) a k h =
          (ap (λ ws. Close ws n) (values_alike vs (λ o lt. absurd (omega (arith, ap (times o) h.2, lt)))), subst (λ cs. All (BackAlike r q) cs) (sym h.1) tt)

      backs_alike : (fs : List Frame) (bs : List Back) → AllRefer m fs → Calls w fs bs → All (BackAlike r q) bs
      backs_alike fs [] a h = tt
      backs_alike [] (b ∷ bs) a h = absurd h
      backs_alike (f ∷ fs) (Caller ret st ∷ bs) a h =
          let c = refer_below f fs a in
          (ap (λ x. Caller ret x) (slots_alike (live_named (live_world w on fs c)) st h.1.1), backs_alike fs bs c h.2)
      backs_alike (f ∷ fs) (Within b k ts pc st ∷ bs) a h =
          let c = refer_below f fs a in
          let n = live_named (live_world w on fs c) in
          (ap (λ x. Within b k x pc (slots_named r st)) (tasks_alike n ts h.1.1) ∙ ap (λ x. Within b k (tasks_named q ts) pc x) (slots_alike n st h.1.2), backs_alike fs bs c h.2)
      backs_alike (f ∷ fs) (Delivering e xs ls ret st ∷ bs) a h =
          let c = refer_below f fs a in
          let n = live_named (live_world w on fs c) in
          ((slots_alike n xs h.1.1, slots_alike n st h.1.2), backs_alike fs bs c h.2)
      backs_alike (f ∷ fs) (EndOf o k after ∷ bs) a h =
          let c = refer_below f fs a in
          let x = rest_alike fs bs after c (λ y. backs_alike fs bs c y) h.2 in
          let own : 0 < times o (objects_in f.me) = subst (λ v. 0 < times o (objects_in v)) (sym h.1) (own_time o) in
          (ap (λ n. EndOf n k (after_named r after)) (g.there o (a.there o (omega (arith, own)))) ∙ ap (λ y. EndOf (q o) k y) x.0, x.1)

      standing_alike : (mode : Mode) (fs : List Frame) (st : List Slot) (bs : List Back) → AllRefer m fs → Standing w mode fs st bs → ModeAlike r q mode st × All (BackAlike r q) bs
      standing_alike (At pc) fs st bs a h = (slots_alike (live_named (live_world w on fs a)) st h.0, backs_alike fs bs a h.1)
      standing_alike (Failing e) fs st bs a h = (tt, backs_alike fs bs a h)
      standing_alike (Letting k after) fs st bs a h = rest_alike fs bs after a (λ x. backs_alike fs bs a x) h

-- ---- runs

outcome_alike : (pr : Project) (x : Outcome) → HoldsAt true (code_of pr) x → AlikeAt x
outcome_alike pr (Running counts c) h = λ r q g. (let s = standing r q g in (memory_alike r q g h.1.ready, s.0, s.1)) where
  standing : (r q : ℕ → ℕ) → Agree r q c.state.memory → ModeAlike r q c.mode c.stack × All (BackAlike r q) c.backs
  standing r q g = standing_alike r q g (world true (code_of pr)) refl c.mode c.state.memory.frames c.stack c.backs (ready_refer c.state.memory h.1.ready) h.1.standing
outcome_alike pr (Finished counts e s es) h = λ r q g. memory_alike r q g h.1.ready
outcome_alike pr Jammed h = tt

pub run_alike : (pr : Project) (book : Sheets) (turns steps : ℕ) → IsWhole pr → HasPlainDefaults pr.declared → BlocksKeepOwn pr → AlikeAt (run_counted (code_of pr) book turns steps)
run_alike pr book turns steps whole d k =
    outcome_alike pr (run_counted (code_of pr) book turns steps) (run_holds true (code_of pr) (well_formed pr whole) d (project_keeps pr k) turns book steps)
