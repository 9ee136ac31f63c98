-- Effects on values, variables and loops.
use Rattle.std.proofs.Common.{◌≡◌, ℕ, zero, suc, ◌+◌, ◌<◌, ◌≤◌, Bool, true, false, List, [], ◌∷◌, ◌++◌, length, Option, Some, None, Result, Ok, Err, ℤ, pos, refl, sym, ap, ◌∙◌, subst, arith}
use Rattle.std.specs.Prelude.{◌==◌, ◌-◌, ◌^◌, nat_lt, ◌&&◌, if◌then◌else◌, slice_get, slice_index_or}
use Rattle.std.proofs.lemmas.Bool.{eqb-true}
use Rattle.vba_values.specs.declared.fault.Bad.{Bad}
use Rattle.vba_values.specs.declared.fault.Bad.TheVariants.{Raise, Outside}
use Rattle.vba_values.specs.declared.fault.OutKind.TheVariants as limit
use Rattle.vba_values.specs.declared.object.ObjRef.{ObjRef}
use Rattle.vba_values.specs.declared.object.ObjRef.TheVariants.{Nothing, Heap, Host}
use Rattle.vba_values.specs.declared.object.HostRef.TheVariants as host
use Rattle.vba_values.specs.declared.types.OpKind.{OpKind}
use Rattle.vba_values.specs.declared.types.OpKind.TheVariants as op
use Rattle.vba_values.specs.declared.types.Compare.{Compare}
use Rattle.vba_values.specs.declared.types.Compare.TheVariants.{Binary}
use Rattle.vba_values.specs.declared.types.WholeKind.TheVariants as kind
use Rattle.vba_values.specs.Types.{Declared}
use Rattle.vba_values.specs.Types as type
use Rattle.vba_values.specs.Val.{Val, empty, null, boolean, whole, object}
use Rattle.vba_values.specs.Coerce.{coerce_of, to_boolean}
use Rattle.vba_values.specs.Operators.{binary_of, unary_of}
use Rattle.vba_values.specs.Objects.{compared_by_is}
use Rattle.arrays_udt.specs.declared.paths.PathStep.{PathStep}
use Rattle.arrays_udt.specs.Paths.{path_value}
use Rattle.sheet_host.specs.Reading.{area_value}
use Rattle.vba_lib.specs.declared.function.LibraryFunction.{LibraryFunction}
use Rattle.vba_lib.specs.declared.function.LibraryFunction.TheVariants as function
use Rattle.error_frames.specs.declared.frame.At.{At}
use Rattle.error_frames.specs.declared.frame.FrameErrors.{FrameErrors}
use Rattle.error_frames.specs.declared.frame.Policy.{Policy}
use Rattle.error_frames.specs.declared.frame.ResumeKind.{ResumeKind}
use Rattle.error_frames.specs.Resume as resumption
use Rattle.bound_project.specs.Expressions.{Storage, local, shared, own, Variable}
use Rattle.bound_project.specs.Project.{Declarations, Declaration, class_at, types_of, field_of, first_values}
use Rattle.vba_meaning.specs.Paths.{Root, in_frame, in_project, in_fields, in_block, in_object, in_item, Step, Path, plain_steps}
use Rattle.vba_meaning.specs.Memory.{Error, stop_said, outside, Slot, value, path, Loop, Kept, only, Memory, Frame, first_or, rest, top, with_top, found, without, object_at, object_or, Object, value_at, with_value, value_or_empty, path_or, path_of, is_locked, no_error}
use Rattle.vba_meaning.specs.References.{objects_in, objects_in_values, times, hold, displaced, replaced, kept_value}
use Rattle.vba_meaning.specs.Effects.{Printed, Fine, on_fine, done, answered, operated, operated_alone, is_collection, takes_object, set_reference, set_object, fitted, area_in, plain_reference, plain, as_told_by, is_true, condition, read_value, read_path, has_parts, replaceable_by, replaceable, assignable, is_with_events, renumbered, with_set_number, set_number_drawn, connected, stored, assigned, lent, unlent, shown_text, shown_by, show_value, printed, loop_off, looping, within, counted, loop_on, stepped, next_round, kept_at, keep, selected, fits, fits_between, gone_sub, returned_to, returned_sub, with_err, err_off, policy_on, handler_off, at_number, resumed_by, resumed, stop_here}
use Rattle.vba_meaning.specs.Arrays.{keeping}
use Rattle.vba_meaning.specs.Objects.{compared, typed_as, set_at, new_instance, made, own_object, object_there, field_in, made_for, stored_made}
use Rattle.vba_meaning.specs.Library.{library_answer, library_called, bound_in, bound_at, plain_if_any}
use Rattle.object_counts.specs.Balance.{InOrder}
use Rattle.object_counts.specs.Gains.{made_gains}
use Rattle.object_counts.proofs.Indexed.{times-append}
use Rattle.object_counts.proofs.Stored.{in_value, path_set}
use Rattle.object_counts.proofs.Looks.{Grows, in_one, IsVariable, IsThere, hold_grows, keeping_grows, over_grows, top_same, replaced_grows, written_looks}
use Rattle.object_counts.proofs.Leaving.{made_grows, renumbered_objects}
use Rattle.object_counts.proofs.Variables.{alike, top_err_grows}
use Rattle.object_lives.proofs.Values.{In, none_in, in_self, in_front, in_back, in_then, own_time, Refers, OkIn, coerced_in, operated_in, operated_alone_in, compared_plain, area_value_in, field_initial_free}
use Rattle.object_lives.proofs.LibraryValues.{library_in, bound_value_in}
use Rattle.object_lives.proofs.Held.{World, StaysIn, stays_in, Reach, under, Wider, bare_wider, Values, RootIn, PathIn, Paths, root_more, paths_more, values_in}
use Rattle.object_lives.proofs.Marks.{Marked, unmarked, kept_marked, made_events, made_marked}
use Rattle.object_lives.proofs.Near.{Has, Present, AllThere, Ready, Later, calleds, floor_of, roots_of, reach_of, reach, low, given_root, me_root, me_stays, own_floor, Like, like_same, BareSlots, BareKept, BareFrame, BareFrames, BareTop, PlainLoop, loops_without, block_reach, bare_first, bare_rest, bare_put, LentTop, present_set, set_present, present_more, more_present, present_last, held_there, top_live, there_written, old_written, bare_written, marked_written, top_written, called_written, me_written, pending_written, below_written}
use Rattle.object_lives.proofs.Chains.{Any, Given, GivenAll, GivenPath, Staying, still_path, Safe, fine, fine_in, done_in, bad, out, giving, anyhow, behind, telling, then_next, then_safe, both, answered_safe, answered_any}

-- ---- what stands in a memory is there

abbrev pub ThereIn : Memory → Option Val → Type 0
ThereIn m None = Unit {0}
ThereIn m (Some v) = AllThere m.objects (objects_in v)

-- inside of a value
pub part_within : (o : ℕ) (v : Val) (steps : List PathStep) (old : Val) → path_value v steps ≡ Some old → in_value o old ≤ in_value o v
part_within o v steps old e = omega (arith, path_set o v steps old empty e)

pub variable_there : {asks : Bool} (m : Memory) (p : Path) (v : Val) → Ready asks m → IsVariable p.root → value_at m p ≡ Some v → AllThere m.objects (objects_in v)
variable_there m p v r is e o lt = r.live o (omega (arith, written_looks o m p v empty r.ordered (record { variable = is; here = e }), lt))

there_from : {asks : Bool} (root : Root) (steps : List Step) (of : Declared) (bounded : Bool) (makes : Option ℕ) (m : Memory) (v : Val)
    → let p : Path = record { root = root; steps = steps; of = of; bounded = bounded; makes = makes } in Ready asks m → RootIn (reach asks m) root → value_at m p ≡ Some v → AllThere m.objects (objects_in v)
there_from (in_frame k x) steps of bounded makes m v r h e = variable_there m (record { root = in_frame k x; steps = steps; of = of; bounded = bounded; makes = makes }) v r (tt {0}) e
there_from (in_project x) steps of bounded makes m v r h e = variable_there m (record { root = in_project x; steps = steps; of = of; bounded = bounded; makes = makes }) v r (tt {0}) e
there_from (in_fields n i) steps of bounded makes m v r h e = variable_there m (record { root = in_fields n i; steps = steps; of = of; bounded = bounded; makes = makes }) v r (tt {0}) e
there_from (in_block k i) steps of bounded makes m v r h e = variable_there m (record { root = in_block k i; steps = steps; of = of; bounded = bounded; makes = makes }) v r (tt {0}) e
there_from (in_object n) steps of bounded makes m v r h e = λ o lt. absurd (omega (arith, part_within o (object n) (plain_steps steps) v e, ap (times o) h, lt))
there_from (in_item w) steps of bounded makes m v r h e = λ o lt. held_there r h o (omega (arith, part_within o w (plain_steps steps) v e, lt))

pub value_there : {asks : Bool} (m : Memory) (p : Path) (x : Option Val) → value_at m p ≡ x → Ready asks m → PathIn (reach asks m) p → ThereIn m x
value_there m p None e r h = tt
value_there m p (Some v) e r h = there_from p.root p.steps p.of p.bounded p.makes m v r h e

pub kept_there : {asks : Bool} (i : ℕ) (m : Memory) → Ready asks m → AllThere m.objects (objects_in (kept_at i m))
kept_there i m r o lt =
    let m1 : Memory = displaced (kept_at i m) (with_top m (record (top m) { keeps = without (top m).keeps i })) in
    r.live o (omega (arith, (over_grows i m).more r.ordered o, top_live o m1, times-append o (objects_in (kept_at i m)) (top m).held, lt))

pub own_there : {asks : Bool} (m : Memory) → Ready asks m → AllThere m.objects (objects_in (top m).me)
own_there m r o lt = r.live o (omega (arith, top_live o m, lt))

-- what variables begin with refers to nothing
pub first_free : (d : Declarations) (xs : List Declaration) → objects_in_values (first_values d xs) ≡ []
first_free d [] = refl
first_free d (x ∷ xs) = ap (λ os. os ++ objects_in_values (first_values d xs)) (field_initial_free (types_of d) (field_of x)) ∙ first_free d xs

-- an object has variables whose Sets are numbered
has_numbers : (x : Option Object) (i : ℕ) → is_with_events i (object_or x).set_numbers ≡ true → Has x
has_numbers None i e = absurd cc
has_numbers (Some b) i e = tt

module _ (Sure : World) where
  -- ---- changes of the running frame

  top_bare : (m : Memory) (f : Frame) → (top m).called ≡ f.called → BareTop Sure.asks m f → BareFrames Sure.asks m.frames → BareFrames Sure.asks (with_top m f).frames
  top_bare m f c b r = (subst (λ t. BareFrame Sure.asks (roots_of (rest m.frames)) (floor_of (t ∷ calleds (rest m.frames))) f) c b, bare_rest Sure.asks m.frames r)

  -- it lends what it lent
  abbrev pub Lends : Memory → Frame → Type 0
  Lends m f = Sure.sure → Wider (reach Sure.asks m) (reach Sure.asks (with_top m f)) → LentTop Sure.asks m → LentTop Sure.asks (with_top m f)

  pub top_later : (m : Memory) (f : Frame) (came : List ℕ) → Grows m came (with_top m f) → (Sure.sure → AllThere m.objects came) → In (top m).held f.held → (Sure.sure → BareTop Sure.asks m (top m) → BareTop Sure.asks m f) → (top m).called ≡ f.called → (top m).me ≡ f.me → Lends m f
      → Later Sure m [] (with_top m f)
  top_later m f came g h i b c me l = record {
    marks = unmarked m.objects;
    near = λ s. record { came = came; grows = g; came_there = h s; there = λ o p. p; fresh = λ o p n. absurd (n p); held = i; called = c; me = me; below = like_same (low m) (rest m.frames); bare = λ k. top_bare m f c (b s (bare_first Sure.asks m.frames k)) k; lent = l s };
  }

  -- where looking sees no difference
  pub unseen : (m : Memory) (f : Frame) → (InOrder (top m).keeps → InOrder f.keeps) → ((o : ℕ) → in_one o f ≡ in_one o (top m)) → In (top m).held f.held → (Sure.sure → BareTop Sure.asks m (top m) → BareTop Sure.asks m f) → (top m).called ≡ f.called → (top m).me ≡ f.me → Lends m f
      → Later Sure m [] (with_top m f)
  unseen m f k e i b c me l = record {
    marks = unmarked m.objects;
    near = λ s. record { came = []; grows = top_same m f k e; came_there = λ o lt. absurd (omega (arith, lt)); there = λ o p. p; fresh = λ o p n. absurd (n p); held = i; called = c; me = me; below = like_same (low m) (rest m.frames); bare = λ r. top_bare m f c (b s (bare_first Sure.asks m.frames r)) r; lent = l s };
  }

  pub hold_later : (v : Val) (m : Memory) → (Sure.sure → AllThere m.objects (objects_in v)) → Later Sure m [] (hold v m)
  hold_later v m h = top_later m (record (top m) { held = (top m).held ++ objects_in v }) (objects_in v) (hold_grows v m) h (in_front (top m).held (objects_in v)) (λ s b. b) refl refl (λ s a k. paths_more a (top m).pending k)

  -- ---- values

  pub operated_safe : (o : OpKind) (compare : Compare) (l r : Declared) (a b : Val) (m : Memory) → Safe Sure Given m (operated o compare l r a b m)
  operated_safe o compare l r a b m = answered_safe (binary_of o a l b r compare) m (λ s. operated_in (top m).held o a l b r compare)

  pub operated_alone_safe : (o : OpKind) (of : Declared) (v : Val) (m : Memory) → Safe Sure Given m (operated_alone o of v m)
  operated_alone_safe o of v m = answered_safe (unary_of o v of) m (λ s. operated_alone_in (top m).held o v of)

  -- an answer that refers to these
  answered_by : {Q : Memory → Val → Type 0} {xs : List ℕ} (x : Result Val Bad) (m : Memory) → OkIn xs x → ((w : Val) → Sure.sure → Refers xs w → Q m w) → Safe Sure Q m (answered x m)
  answered_by (Ok w) m i k = fine (λ s. k w s i)
  answered_by (Err (Raise n)) m i k = bad n m
  answered_by (Err (Outside n)) m i k = out _ m

  -- what a value becomes refers to what it does
  pub coerced_by : {Q : Memory → Val → Type 0} (of : Declared) (v : Val) (m : Memory) → ((w : Val) → Sure.sure → Refers (objects_in v) w → Q m w) → Safe Sure Q m (answered (coerce_of v of) m)
  coerced_by of v m k = answered_by {xs = objects_in v} (coerce_of v of) m (coerced_in v of) k

  reference_by : {Q : Memory → Val → Type 0} (of : Declared) (o : ObjRef) (m : Memory) → ((w : Val) → Sure.sure → Refers (objects_in (object o)) w → Q m w) → Safe Sure Q m (set_reference of o m)
  reference_by of Nothing m k = fine (λ s. k (object Nothing) s (in_self (objects_in (object Nothing))))
  reference_by of o m k = both (takes_object of o m) (fine (λ s. k (object o) s (in_self (objects_in (object o))))) (bad 13 m)

  pub set_object_by : {Q : Memory → Val → Type 0} (of : Declared) (v : Val) (m : Memory) → ((w : Val) → Sure.sure → Refers (objects_in v) w → Q m w) → Safe Sure Q m (set_object of v m)
  set_object_by of (object o) m k = reference_by of o m k
  set_object_by of v m k = bad 424 m

  pub fitted_by : {Q : Memory → Val → Type 0} (of : Declared) (v : Val) (m : Memory) → ((w : Val) → Sure.sure → Refers (objects_in v) w → Q m w) → Safe Sure Q m (fitted of v m)
  fitted_by type.object v m k = set_object_by type.object v m k
  fitted_by (type.class c) v m k = set_object_by (type.class c) v m k
  fitted_by type.collection v m k = set_object_by type.collection v m k
  fitted_by type.worksheet v m k = set_object_by type.worksheet v m k
  fitted_by type.range v m k = set_object_by type.range v m k
  fitted_by of v m k = coerced_by of v m k

  pub coerced_safe : (of : Declared) (v : Val) (m : Memory) → (Sure.sure → Given m v) → Safe Sure Given m (answered (coerce_of v of) m)
  coerced_safe of v m h = coerced_by of v m (λ w s i. in_then i (h s))

  pub set_object_safe : (of : Declared) (v : Val) (m : Memory) → (Sure.sure → Given m v) → Safe Sure Given m (set_object of v m)
  set_object_safe of v m h = set_object_by of v m (λ w s i. in_then i (h s))

  pub fitted_safe : (of : Declared) (v : Val) (m : Memory) → (Sure.sure → Given m v) → Safe Sure Given m (fitted of v m)
  fitted_safe of v m h = fitted_by of v m (λ w s i. in_then i (h s))

  plain_of : {Q : Memory → Val → Type 0} (o : ObjRef) (m : Memory) → ((w : Val) → Sure.sure → Refers [] w → Q m w) → Safe Sure Q m (plain_reference o m)
  plain_of Nothing m k = bad 91 m
  plain_of (Host host.ErrObject) m k = fine (λ s. k _ s (none_in []))
  plain_of (Host (host.Area s t l r c)) m k = answered_by {xs = []} (area_value m.book (area_in s t l r c)) m (area_value_in [] m.book (area_in s t l r c)) k
  plain_of (Host host.Sheets) m k = bad 449 m
  plain_of (Heap id) m k = both (is_collection (Heap id) m) (bad 449 m) (bad 438 m)
  plain_of o m k = bad 438 m

  pub plain_by : {Q : Memory → Val → Type 0} (v : Val) (m : Memory) → ((w : Val) → Sure.sure → Refers (objects_in v) w → Q m w) → Safe Sure Q m (plain v m)
  plain_by (object o) m k = plain_of o m (λ w s i. k w s (in_then i (none_in (objects_in (object o)))))
  plain_by v m k = fine (λ s. k v s (in_self (objects_in v)))

  pub plain_safe : (v : Val) (m : Memory) → (Sure.sure → Given m v) → Safe Sure Given m (plain v m)
  plain_safe v m h = plain_by v m (λ w s i. in_then i (h s))

  pub plain_any : (v : Val) (m : Memory) → Safe Sure Any m (plain v m)
  plain_any v m = plain_by v m (λ w s i. tt)

  pub plain_if_any_safe : (v : Val) (m : Memory) → (Sure.sure → Given m v) → Safe Sure Given m (plain_if_any v m)
  plain_if_any_safe (object (Host host.ErrObject)) m h = fine (λ s. none_in (top m).held)
  plain_if_any_safe (object (Host (host.Area s t l r c))) m h = answered_safe (area_value m.book (area_in s t l r c)) m (λ s1. area_value_in (top m).held m.book (area_in s t l r c))
  plain_if_any_safe v m h = fine h

  pub condition_safe : (sense : Bool) (v : Val) (m : Memory) → Safe Sure Any m (condition sense v m)
  condition_safe sense (boolean b) m = fine (λ s. tt)
  condition_safe sense null m = fine (λ s. tt)
  condition_safe sense v m = then_next (answered_any (to_boolean v) m) (λ b m1 n q. fine {v = as_told_by sense (is_true b)} (λ s. tt))

  pub compared_safe : (v w : Val) (m : Memory) → Safe Sure Given m (compared v w m)
  compared_safe v w m = then_next (answered_any (compared_by_is v w) m) (λ b m1 n q. fine (λ s. none_in (top m1).held))

  pub typed_as_safe : (of : Declared) (v : Val) (m : Memory) → Safe Sure Given m (typed_as of v m)
  typed_as_safe of (object Nothing) m = bad 91 m
  typed_as_safe of (object o) m = fine (λ s. none_in (top m).held)
  typed_as_safe of v m = bad 424 m

  pub object_there_safe : (v : Val) (m : Memory) → (Sure.sure → Given m v) → Safe Sure Given m (object_there v m)
  object_there_safe (object Nothing) m h = bad 91 m
  object_there_safe (object o) m h = fine h
  object_there_safe v m h = bad 424 m

  pub field_in_safe : (i : ℕ) (of : Declared) (bounded : Bool) (v : Val) (m : Memory) → (Sure.sure → Given m v) → Safe Sure (GivenPath Sure.asks) m (field_in i of bounded v m)
  field_in_safe i of bounded (object Nothing) m h = bad 91 m
  field_in_safe i of bounded (object (Heap id)) m h = fine (λ s. given_root Sure.asks m (object (Heap id)) (h s))
  field_in_safe i of bounded (object o) m h = bad 438 m
  field_in_safe i of bounded v m h = bad 424 m

  shown_safe : (r : Result (List ℕ) Bad) (m : Memory) → Safe Sure Given m (shown_by r m)
  shown_safe (Ok units) m = fine (λ s. none_in (top m).held)
  shown_safe (Err e) m = answered_safe (Err e) m (λ s. tt)

  pub show_value_safe : (v : Val) (m : Memory) → Safe Sure Given m (show_value v m)
  show_value_safe v m = shown_safe (shown_text v) m

  -- ---- values that are held

  pub read_value_safe : (x : Option Val) (m : Memory) → (Sure.sure → ThereIn m x) → Safe Sure Given m (read_value x m)
  read_value_safe None m h = bad 9 m
  read_value_safe (Some v) m h = fine_in (hold_later v m h) (λ s. in_back (top m).held (objects_in v))

  pub read_path_safe : (p : Path) (m : Memory) → (Sure.sure → Ready Sure.asks m) → (Sure.sure → GivenPath Sure.asks m p) → Safe Sure Given m (read_path p m)
  read_path_safe p m r h = read_value_safe (value_at m p) m (λ s. value_there m p (value_at m p) refl (r s) (h s))

  pub own_object_safe : (m : Memory) → (Sure.sure → Ready Sure.asks m) → Safe Sure Given m (own_object m)
  own_object_safe m r = fine_in (hold_later (top m).me m (λ s. own_there m (r s))) (λ s. in_back (top m).held (objects_in (top m).me))

  pub selected_safe : (i : ℕ) (m : Memory) → (Sure.sure → Ready Sure.asks m) → Safe Sure Given m (selected i m)
  selected_safe i m r = fine_in (hold_later (kept_at i m) m (λ s. kept_there i m (r s))) (λ s. in_back (top m).held (objects_in (kept_at i m)))

  -- a block keeps something, and what it kept before is held
  pub keeping_later : (i : ℕ) (k : Kept) (m : Memory) → (Sure.sure → AllThere m.objects (objects_in (kept_value k))) → (Sure.sure → BareKept (block_reach Sure.asks m) k) → Later Sure m [] (keeping i k m)
  keeping_later i k m h b = record {
    marks = unmarked m.objects;
    near = λ s. record {
      came = objects_in (kept_value k);
      grows = keeping_grows i k m;
      came_there = h s;
      there = λ o p. p;
      fresh = λ o p n. absurd (n p);
      held = in_back (objects_in (kept_at i m)) (top m).held;
      called = refl;
      me = refl;
      below = like_same (low m) (rest m.frames);
      bare = λ g. (let f = bare_first Sure.asks m.frames g in ((f.0, bare_put (block_reach Sure.asks m) i k (top m).keeps (b s) f.1, f.2), bare_rest Sure.asks m.frames g));
      lent = λ a g. paths_more a (top m).pending g;
    };
  }

  pub keep_safe : (i : ℕ) (v : Val) (m : Memory) → (Sure.sure → Ready Sure.asks m) → (Sure.sure → Given m v) → Safe Sure Any m (keep i v m)
  keep_safe i v m r h = done_in (keeping_later i (only v) m (λ s. held_there (r s) (h s)) (λ s. tt))

  -- ---- stores

  found_by : (p : Path) (m : Memory) (x : Option Val) → value_at m p ≡ x → IsVariable p.root → Safe Sure (λ m1 old. IsThere m1 p old) m (replaceable_by p x m)
  found_by p m None e is = bad 9 m
  found_by p m (Some old) e is = both (has_parts old && is_locked m p) (bad 10 m) (fine (λ s. record { variable = is; here = e }))

  found_here : (root : Root) (steps : List Step) (of : Declared) (bounded : Bool) (makes : Option ℕ) (m : Memory) → IsVariable root
      → let p : Path = record { root = root; steps = steps; of = of; bounded = bounded; makes = makes } in Safe Sure (λ m1 old. IsThere m1 p old) m (replaceable_by p (value_at m p) m)
  found_here root steps of bounded makes m is =
      let p : Path = record { root = root; steps = steps; of = of; bounded = bounded; makes = makes } in found_by p m (value_at m p) refl is

  found_from : (root : Root) (steps : List Step) (of : Declared) (bounded : Bool) (makes : Option ℕ) (m : Memory)
      → let p : Path = record { root = root; steps = steps; of = of; bounded = bounded; makes = makes } in Safe Sure (λ m1 old. IsThere m1 p old) m (replaceable p m)
  found_from (in_frame k x) steps of bounded makes m = found_here (in_frame k x) steps of bounded makes m tt
  found_from (in_project x) steps of bounded makes m = found_here (in_project x) steps of bounded makes m tt
  found_from (in_fields n i) steps of bounded makes m = found_here (in_fields n i) steps of bounded makes m tt
  found_from (in_block k i) steps of bounded makes m = found_here (in_block k i) steps of bounded makes m tt
  found_from (in_object o) steps of bounded makes m = bad 438 m
  found_from (in_item v) steps of bounded makes m = bad 438 m

  pub replaceable_safe : (p : Path) (m : Memory) → Safe Sure (λ m1 old. IsThere m1 p old) m (replaceable p m)
  replaceable_safe p m = found_from p.root p.steps p.of p.bounded p.makes m

  pub assignable_safe : (p : Path) (m : Memory) → Safe Sure (λ m1 old. IsThere m1 p old) m (assignable p m)
  assignable_safe p m = then_next (replaceable_safe p m) (λ old m1 n there. both p.bounded (bad 10 m1) (fine there))

  -- a value is stored, and what stood there is held
  pub replaced_later : (m : Memory) (p : Path) (old w : Val) → (Sure.sure → GivenPath Sure.asks m p) → (Sure.sure → IsThere m p old) → (Sure.sure → AllThere m.objects (objects_in w)) → Later Sure m [] (replaced p w m)
  replaced_later m p old w i there h =
      let gone = value_or_empty (value_at m p) in
      let m1 : Memory = with_value m p w in
      record {
        marks = marked_written m p w;
        near = λ s. record {
          came = objects_in w;
          grows = replaced_grows m p old w (there s);
          came_there = λ o lt. there_written m p w o (h s o lt);
          there = λ o k. there_written m p w o k;
          fresh = λ o k n. absurd (n (old_written m p w o k));
          held = record { at = λ o lt. omega (arith, times-append o (objects_in gone) (top m1).held, ap (times o) (top_written Sure.asks m p w (i s)), lt) };
          called = called_written Sure.asks m p w (i s);
          me = me_written Sure.asks m p w (i s);
          below = below_written Sure.asks m p w (i s);
          bare = λ g. (let b = bare_written Sure.asks m p w g in (bare_first Sure.asks m1.frames b, bare_rest Sure.asks m1.frames b));
          lent = λ a g. subst (λ qs. Paths (reach Sure.asks (replaced p w m)) qs) (pending_written Sure.asks m p w (i s)) (paths_more a (top m).pending g);
        };
      }

  numbered_later : (n i : ℕ) (number : Option ℕ) (next : ℕ) (m : Memory) → Present m.objects n → Later Sure m [] (record (with_set_number n i number m) { next_set = next })
  numbered_later n i number next m is =
      let b = record (object_at m n) { set_numbers = renumbered i number (object_at m n).set_numbers } in
      record {
        marks = kept_marked m.objects n b refl refl;
        near = λ s. record {
          came = [];
          grows = record { ordered = λ h. h; more = λ h o. omega (arith, renumbered_objects o m.objects n i number) };
          came_there = λ o lt. absurd (omega (arith, lt));
          there = λ o h. present_set m.objects n b o h;
          fresh = λ o h k. absurd (k (set_present m.objects n b o is h));
          held = in_self (top m).held;
          called = refl;
          me = refl;
          below = like_same (low m) (rest m.frames);
          bare = λ h. h;
          lent = λ a h. h;
        };
      }

  set_number_safe : (n i : ℕ) (w : Val) (m : Memory) → Present m.objects n → Safe Sure Any m (set_number_drawn n i w m)
  set_number_safe n i (object Nothing) m is = done_in (numbered_later n i None m.next_set m is)
  set_number_safe n i w m is = both (nat_lt m.next_set (2 ^ 64 - 1)) (done_in (numbered_later n i (Some m.next_set) (m.next_set + 1) m is)) (out (outside limit.Links) m)

  numbered_safe : (n i : ℕ) (w : Val) (m : Memory) (b : Bool) → is_with_events i (object_at m n).set_numbers ≡ b → Safe Sure Any m (if b then set_number_drawn n i w m else done m)
  numbered_safe n i w m true e = set_number_safe n i w m (has_numbers (slice_index_or m.objects n None) i e)
  numbered_safe n i w m false e = fine (λ s. tt)

  connected_from : (root : Root) (steps : List Step) (of : Declared) (bounded : Bool) (makes : Option ℕ) (w : Val) (m : Memory)
      → let p : Path = record { root = root; steps = steps; of = of; bounded = bounded; makes = makes } in Safe Sure Any m (connected p w m)
  connected_from (in_fields n i) steps of bounded makes w m = numbered_safe n i w m (is_with_events i (object_at m n).set_numbers) refl
  connected_from (in_frame k x) steps of bounded makes w m = fine (λ s. tt)
  connected_from (in_project x) steps of bounded makes w m = fine (λ s. tt)
  connected_from (in_block k i) steps of bounded makes w m = fine (λ s. tt)
  connected_from (in_object o) steps of bounded makes w m = fine (λ s. tt)
  connected_from (in_item v) steps of bounded makes w m = fine (λ s. tt)

  -- what is there can be stored
  pub stored_there_safe : (p : Path) (w : Val) (m : Memory) → (Sure.sure → GivenPath Sure.asks m p) → (Sure.sure → AllThere m.objects (objects_in w)) → Safe Sure Any m (stored p w m)
  stored_there_safe p w m i h =
      then_next (assignable_safe p m) (λ old m1 n there.
      behind (replaced_later m1 p old w (still_path n p i) there (λ s o lt. (n s).there o (h s o lt))) (connected_from p.root p.steps p.of p.bounded p.makes w (replaced p w m1)))

  pub stored_safe : (p : Path) (w : Val) (m : Memory) → (Sure.sure → Ready Sure.asks m) → (Sure.sure → GivenPath Sure.asks m p) → (Sure.sure → Given m w) → Safe Sure Any m (stored p w m)
  stored_safe p w m r i h = stored_there_safe p w m i (λ s. held_there (r s) (h s))

  pub assigned_safe : (p : Path) (v : Val) (m : Memory) → (Sure.sure → Ready Sure.asks m) → (Sure.sure → GivenPath Sure.asks m p) → (Sure.sure → Given m v) → Safe Sure Any m (assigned p v m)
  assigned_safe p v m r i h = then_safe r (coerced_safe p.of v m h) (λ w m1 r1 n q. stored_safe p w m1 r1 (still_path n p i) q)

  pub set_at_safe : (p : Path) (v : Val) (m : Memory) → (Sure.sure → Ready Sure.asks m) → (Sure.sure → GivenPath Sure.asks m p) → (Sure.sure → Given m v) → Safe Sure Any m (set_at p v m)
  set_at_safe p v m r i h = then_safe r (set_object_safe p.of v m h) (λ w m1 r1 n q. stored_safe p w m1 r1 (still_path n p i) q)

  -- ---- For

  slot_path : (hs : Reach) (os : List ℕ) (xs : List Slot) (i : ℕ) (q : Path) → In os hs.roots → BareSlots (under hs.asks os hs.floor) xs → PathIn hs q → PathIn hs (path_or (slice_get xs i) q)
  slot_path hs os [] i q j h k = k
  slot_path hs os (value v ∷ xs) zero q j h k = k
  slot_path hs os (path p ∷ xs) zero q j h k = root_more (bare_wider os hs j) p.root h.0
  slot_path hs os (value v ∷ xs) (suc i) q j h k = slot_path hs os xs i q j h k
  slot_path hs os (path p ∷ xs) (suc i) q j h k = slot_path hs os xs i q j h.1 k

  below_roots : (m : Memory) → In (roots_of (rest m.frames)) (reach Sure.asks m).roots
  below_roots m = in_then (in_back (objects_in (top m).me) (roots_of (rest m.frames))) (in_back (top m).held (objects_in (top m).me ++ roots_of (rest m.frames)))

  slot_stays : (hs : Reach) (xs : List Slot) (i : ℕ) (q : Path) → BareSlots hs xs → StaysIn hs q.root → StaysIn hs (path_or (slice_get xs i) q).root
  slot_stays hs [] i q h k = k
  slot_stays hs (value v ∷ xs) zero q h k = k
  slot_stays hs (path p ∷ xs) zero q h k = stays_in hs p.root h.0
  slot_stays hs (value v ∷ xs) (suc i) q h k = slot_stays hs xs i q h k
  slot_stays hs (path p ∷ xs) (suc i) q h k = slot_stays hs xs i q h.1 k

  -- among the roots that stay
  slots_stay : (b : Bool) (os ps : List ℕ) (l : ℕ) (xs : List Slot) → BareSlots (under b ps l) xs → BareSlots (under b (os ++ ps) l) xs
  slots_stay b os ps l [] h = tt
  slots_stay b os ps l (value v ∷ xs) h = slots_stay b os ps l xs h
  slots_stay b os ps l (path p ∷ xs) h = (root_more (bare_wider ps (under b (os ++ ps) l) (in_back os ps)) p.root h.0, slots_stay b os ps l xs h.1)

  path_from : (m : Memory) (storage : Storage) (of : Declared) (bounded : Bool) → (Sure.sure → Ready Sure.asks m) → Sure.sure → Staying Sure.asks m (path_of m (record { storage = storage; of = of; bounded = bounded }))
  path_from m (local i) of bounded r s =
      (let b = (bare_first Sure.asks m.frames (r s).bare).0 in (
        slot_path (reach Sure.asks m) (roots_of (rest m.frames)) (top m).slots i _ (below_roots m) b (own_floor m),
        slot_stays (block_reach Sure.asks m) (top m).slots i _ (slots_stay Sure.asks (objects_in (top m).me) (roots_of (rest m.frames)) (low m) (top m).slots b) tt,
      ))
  path_from m (shared i) of bounded r s = (tt, tt)
  path_from m (own i) of bounded r s = (me_root Sure.asks m, me_stays Sure.asks m)

  -- where a variable is
  pub path_of_stays : (m : Memory) (x : Variable) → (Sure.sure → Ready Sure.asks m) → Sure.sure → Staying Sure.asks m (path_of m x)
  path_of_stays m x r s = path_from m x.storage x.of x.bounded r s

  pub path_of_in : (m : Memory) (x : Variable) → (Sure.sure → Ready Sure.asks m) → Sure.sure → GivenPath Sure.asks m (path_of m x)
  path_of_in m x r s = (path_of_stays m x r s).0

  tested_safe : (o : OpKind) (compare : Compare) (l r : Declared) (a b : Val) (m : Memory) → Safe Sure Any m (on_fine (operated o compare l r a b m) (λ b m1. Fine (is_true b) m1))
  tested_safe o compare l r a b m = then_next (operated_safe o compare l r a b m) (λ c m1 n q. fine (λ s. tt))

  -- where a table has an answer
  answered_holds : {P : Type 0} (x : Result Val Bad) (m : Memory) → ((v : Val) → x ≡ Ok v → P) → Safe Sure (λ m1 v. P) m (answered x m)
  answered_holds (Ok v) m h = fine (λ s. h v refl)
  answered_holds (Err (Raise n)) m h = bad n m
  answered_holds (Err (Outside n)) m h = out _ m

  ordered_safe : {P : Type 0} (o : OpKind) (compare : Compare) (l r : Declared) (a b : Val) (m : Memory) → ((v : Val) → binary_of o a l b r compare ≡ Ok v → P) → Safe Sure (λ m1 c. P) m (on_fine (operated o compare l r a b m) (λ b m1. Fine (is_true b) m1))
  ordered_safe o compare l r a b m h = then_next (answered_holds (binary_of o a l b r compare) m h) (λ c m1 n q. fine q)

  -- what a counter is compared with refers to nothing, and neither does the step
  within_safe : (of : Declared) (v : Val) (l : Loop) (m : Memory) → Safe Sure (λ m1 b. PlainLoop l) m (within of v l m)
  within_safe of v l m =
      then_next (ordered_safe op.Lt l.compare l.step.of type.integer l.step.value (whole kind.Integer (pos 0)) m (λ w e. (compared_plain op.Lt l.compare l.step.value l.step.of (whole kind.Integer (pos 0)) type.integer w e).0))
      (λ down m1 n q. by_way down m1 q)
    where
      by_way : (down : Bool) (m1 : Memory) → (Sure.sure → Refers [] l.step.value) → Safe Sure (λ m2 b. PlainLoop l) m1 (on_fine (operated (if down then op.Ge else op.Le) l.compare of l.last.of v l.last.value m1) (λ b m2. Fine (is_true b) m2))
      by_way true m1 q = giving (ordered_safe op.Ge l.compare of l.last.of v l.last.value m1 (λ w e. (compared_plain op.Ge l.compare v of l.last.value l.last.of w e).1)) (λ m2 b s p. (p, q s))
      by_way false m1 q = giving (ordered_safe op.Le l.compare of l.last.of v l.last.value m1 (λ w e. (compared_plain op.Le l.compare v of l.last.value l.last.of w e).1)) (λ m2 b s p. (p, q s))

  counted_safe : (x : Variable) (v : Val) (l : Loop) (m : Memory) → (Sure.sure → Ready Sure.asks m) → (Sure.sure → Given m v) → Safe Sure (λ m1 b. PlainLoop l) m (counted x v l m)
  counted_safe x v l m r h =
      then_safe r (assigned_safe (path_of m x) v m r (path_of_in m x r) h) (λ u m1 r1 n q.
      then_safe r1 (read_path_safe (path_of m1 x) m1 r1 (path_of_in m1 x r1)) (λ w m2 r2 n2 q2. within_safe x.of w l m2))

  looping_later : (i : ℕ) (l : Loop) (m : Memory) → (Sure.sure → PlainLoop l) → Later Sure m [] (looping i l m)
  looping_later i l m h =
      unseen m (record (top m) { loops = (i, l) ∷ (top m).loops }) (λ k. k) (λ o. refl) (in_self (top m).held) (λ s b. (b.0, b.1, (h s, b.2))) refl refl (λ s a k. paths_more a (top m).pending k)

  pub loop_on_safe : (x : Variable) (i : ℕ) (compare : Compare) (t u : Declared) (start end by : Val) (m : Memory) → (Sure.sure → Ready Sure.asks m) → (Sure.sure → Given m start) → Safe Sure Any m (loop_on x i compare t u start end by m)
  loop_on_safe x i compare t u start end by m r h =
      let l : Loop = record { last = record { value = end; of = t }; step = record { value = by; of = u }; compare = compare } in
      then_safe r (counted_safe x start l m r h) (λ on m1 r1 n q. fine_in (looping_later i l m1 q) (λ s. tt))

  stepped_safe : (l : Option Loop) (x : Variable) (m : Memory) → (Sure.sure → Ready Sure.asks m) → Safe Sure Any m (stepped l x m)
  stepped_safe None x m r = bad 92 m
  stepped_safe (Some l) x m r =
      then_safe r (read_path_safe (path_of m x) m r (path_of_in m x r)) (λ v m1 r1 n1 q1.
      then_safe r1 (plain_safe v m1 q1) (λ a m2 r2 n2 q2.
      then_safe r2 (operated_safe op.Add l.compare x.of l.step.of a l.step.value m2) (λ w m3 r3 n3 q3. anyhow (counted_safe x w l m3 r3 q3))))

  pub next_round_safe : (x : Variable) (i : ℕ) (m : Memory) → (Sure.sure → Ready Sure.asks m) → Safe Sure Any m (next_round x i m)
  next_round_safe x i m r = stepped_safe (found (top m).loops i) x m r

  pub loop_off_safe : (i : ℕ) (m : Memory) → Safe Sure Any m (loop_off i m)
  loop_off_safe i m =
      done_in (unseen m (record (top m) { loops = without (top m).loops i }) (λ h. h) (λ o. refl) (in_self (top m).held) (λ s b. (b.0, b.1, loops_without i (top m).loops b.2)) refl refl (λ s a k. paths_more a (top m).pending k))

  -- ---- Case

  pub fits_safe : (o : OpKind) (compare : Compare) (of test : Declared) (v x : Val) (m : Memory) → Safe Sure Any m (fits o compare of test v x m)
  fits_safe o compare of test v x m = tested_safe o compare of test v x m

  pub fits_between_safe : (compare : Compare) (of low high : Declared) (v a b : Val) (m : Memory) → Safe Sure Any m (fits_between compare of low high v a b m)
  fits_between_safe compare of low high v a b m =
      then_next (operated_safe op.Ge compare of low v a m) (λ p m1 n q. then_next (operated_safe op.Le compare of high v b m1) (λ p2 m2 n2 q2. fine (λ s. tt)))

  -- ---- calls, printing, GoSub, errors

  pub lent_safe : (p : Path) (m : Memory) → (Sure.sure → GivenPath Sure.asks m p) → Safe Sure Any m (lent p m)
  lent_safe p m h =
      done_in (unseen m (record (top m) { pending = p ∷ (top m).pending }) (λ h. h) (λ o. refl) (in_self (top m).held) (λ s b. b) refl refl (λ s a k. (root_more a p.root (h s), paths_more a (top m).pending k)))

  pub unlent_later : (m : Memory) → Later Sure m [] (unlent m)
  unlent_later m = unseen m (record (top m) { pending = [] }) (λ h. h) (λ o. refl) (in_self (top m).held) (λ s b. b) refl refl (λ s a k. tt)

  -- what is outside of frames and objects
  pub outside_later : {m m1 : Memory} → Grows m [] m1 → m1.objects ≡ m.objects → m1.frames ≡ m.frames → Later Sure m [] m1
  outside_later {m = m} {m1 = m1} g e f = record {
    marks = subst (λ bs. Marked m.objects [] bs) (sym e) (unmarked m.objects);
    near = λ s. record {
      came = [];
      grows = g;
      came_there = λ o lt. absurd (omega (arith, lt));
      there = λ o h. subst (λ bs. Present bs o) (sym e) h;
      fresh = λ o h n. absurd (n (subst (λ bs. Present bs o) e h));
      held = subst (λ fs. In (top m).held (first_or fs).held) (sym f) (in_self (top m).held);
      called = ap (λ fs. (first_or fs).called) (sym f);
      me = ap (λ fs. (first_or fs).me) (sym f);
      below = subst (λ fs. Like (low m) (rest m.frames) (rest fs)) (sym f) (like_same (low m) (rest m.frames));
      bare = λ h. subst (λ fs. BareFrames Sure.asks fs) (sym f) h;
      lent = λ a h. subst (λ fs. Paths (reach_of Sure.asks fs) (first_or fs).pending) (sym f) h;
    };
  }

  pub printed_safe : (ends : Bool) (xs : List Slot) (m : Memory) → Safe Sure Any m (printed ends xs m)
  printed_safe ends xs m = telling (Printed _ ends ∷ []) (record { no_end = λ f o. refl; none_made = λ f o. refl }) (done_in (outside_later (alike (λ h. h) (λ o. refl)) refl refl))

  pub gone_sub_safe : (i : ℕ) (m : Memory) → Safe Sure Any m (gone_sub i m)
  gone_sub_safe i m = done_in (unseen m (record (top m) { returns = i ∷ (top m).returns }) (λ h. h) (λ o. refl) (in_self (top m).held) (λ s b. b) refl refl (λ s a k. paths_more a (top m).pending k))

  returned_to_safe : (is : List ℕ) (m : Memory) → Safe Sure Any m (returned_to is m)
  returned_to_safe [] m = bad 3 m
  returned_to_safe (i ∷ is) m = fine_in (unseen m (record (top m) { returns = is }) (λ h. h) (λ o. refl) (in_self (top m).held) (λ s b. b) refl refl (λ s a k. paths_more a (top m).pending k)) (λ s. tt)

  pub returned_sub_safe : (m : Memory) → Safe Sure Any m (returned_sub m)
  returned_sub_safe m = returned_to_safe (top m).returns m

  -- Err and what the frame does with errors
  pub errors_later : (e : Error) (b : FrameErrors) (m : Memory) → Later Sure m [] (with_err e (with_top m (record (top m) { errors = b })))
  errors_later e b m = record {
    marks = unmarked m.objects;
    near = λ s. record {
      came = [];
      grows = top_err_grows e m (record (top m) { errors = b }) (λ h. h) (λ o. refl);
      came_there = λ o lt. absurd (omega (arith, lt));
      there = λ o h. h;
      fresh = λ o h n. absurd (n h);
      held = in_self (top m).held;
      called = refl;
      me = refl;
      below = like_same (low m) (rest m.frames);
      bare = λ h. (bare_first Sure.asks m.frames h, bare_rest Sure.asks m.frames h);
      lent = λ a h. paths_more a (top m).pending h;
    };
  }

  pub err_off_safe : (m : Memory) → Safe Sure Any m (err_off m)
  err_off_safe m = done_in (outside_later (alike (λ h. h) (λ o. refl)) refl refl)

  pub policy_on_safe : (b : Policy) (m : Memory) → Safe Sure Any m (policy_on b m)
  policy_on_safe b m = done_in (errors_later no_error (record (top m).errors { policy = b }) m)

  pub handler_off_safe : (m : Memory) → Safe Sure Any m (handler_off m)
  handler_off_safe m = done_in (errors_later no_error (resumption.ended (top m).errors) m)

  resumed_by_safe : (x : Result At Bad) (m : Memory) → Safe Sure Any m (resumed_by x m)
  resumed_by_safe (Ok i) m = fine_in (errors_later no_error (resumption.after_resume (top m).errors) m) (λ s. tt)
  resumed_by_safe (Err e) m = then_next {A = Unit {0}} (answered_any (Err e) m) (λ u m1 n q. fine (λ s. tt))

  pub resumed_safe : (k : ResumeKind) (next : ℕ) (m : Memory) → Safe Sure Any m (resumed k next m)
  resumed_safe k next m = resumed_by_safe (resumption.answer (top m).errors.active (top m).errors.failed k (at_number next)) m

  pub stop_here_safe : (m : Memory) → Safe Sure Any m (stop_here m)
  stop_here_safe m = out stop_said m

  -- ---- functions of the library

  answer_in : (d : Declarations) (f : LibraryFunction) (text_form : Bool) (compare : Compare) (base : ℤ) (vs : List Val) (m : Memory) → Values (top m).held vs → OkIn (top m).held (library_answer d f text_form compare base vs m)
  answer_in d function.TypeName text_form compare base (v ∷ []) m h = none_in (top m).held
  answer_in d f text_form compare base vs m h = library_in (top m).held f text_form vs compare base (values_in (top m).held vs h)

  pub library_safe : (d : Declarations) (f : LibraryFunction) (text_form : Bool) (compare : Compare) (base : ℤ) (vs : List Val) (m : Memory) → (Sure.sure → Ready Sure.asks m) → (Sure.sure → GivenAll m vs)
      → Safe Sure Given m (library_called d f text_form compare base vs m)
  library_safe d f text_form compare base vs m r h =
      then_safe r (answered_safe (library_answer d f text_form compare base vs m) m (λ s. answer_in d f text_form compare base vs m (h s))) (λ v m1 r1 n q.
      read_value_safe (Some v) m1 (λ s. held_there (r1 s) (q s)))

  bound_in_safe : (upper : Bool) (z : ℤ) (x : Option Val) (m : Memory) → Safe Sure Given m (bound_in upper z x m)
  bound_in_safe upper z None m = bad 9 m
  bound_in_safe upper z (Some v) m = answered_safe _ m (λ s. bound_value_in (top m).held upper v z Binary)

  pub bound_at_safe : (upper : Bool) (z : ℤ) (p : Path) (m : Memory) → Safe Sure Given m (bound_at upper z p m)
  bound_at_safe upper z p m = bound_in_safe upper z (value_at m p) m

  -- ---- objects that are made

  -- its number alone came, and its fields refer to nothing yet
  made_there : (d : Declarations) (c : ℕ) (m : Memory) → AllThere (m.objects ++ Some (new_instance d c) ∷ []) (made_gains d c m)
  made_there d c m o lt =
      let n : ℕ = length m.objects in
      let fields = objects_in_values (new_instance d c).fields in
      by_test (o == n) refl (omega (arith, times-append o fields (n ∷ []), ap (times o) (first_free d (class_at d c).fields), lt)) where
        by_test : (b : Bool) → (o == length m.objects) ≡ b → 0 < (if b then 1 else 0) → Present (m.objects ++ Some (new_instance d c) ∷ []) o
        by_test true e h = subst (λ k. Present (m.objects ++ Some (new_instance d c) ∷ []) k) (sym (eqb-true o (length m.objects) e)) (present_last m.objects (new_instance d c))
        by_test false e h = absurd (omega (arith, h))

  made_later : (d : Declarations) (c : ℕ) (m : Memory)
      → Later Sure m (made_events c (length m.objects)) (hold (object (Heap (record { 0 = length m.objects }))) (record m { objects = m.objects ++ Some (new_instance d c) ∷ [] }))
  made_later d c m = record {
    marks = made_marked d c m.objects;
    near = λ s. record {
      came = made_gains d c m;
      grows = made_grows d c m;
      came_there = made_there d c m;
      there = λ o h. present_more m.objects (new_instance d c) o h;
      fresh = λ o h n. subst (λ k. 0 < times k ((top m).held ++ length m.objects ∷ [])) (sym (more_present m.objects (new_instance d c) o h n))
          (omega (arith, times-append (length m.objects) (top m).held (length m.objects ∷ []), own_time (length m.objects)));
      held = in_front (top m).held (length m.objects ∷ []);
      called = refl;
      me = refl;
      below = like_same (low m) (rest m.frames);
      bare = λ g. (bare_first Sure.asks m.frames g, bare_rest Sure.asks m.frames g);
      lent = λ a h. paths_more a (top m).pending h;
    };
  }

  pub made_safe : (d : Declarations) (c : ℕ) (m : Memory) → Safe Sure Given m (made d c m)
  made_safe d zero m = record { law = (made_later d zero m, λ s. in_back (top m).held (length m.objects ∷ [])) }
  made_safe d (suc c) m = record { law = (made_later d (suc c) m, λ s. in_back (top m).held (length m.objects ∷ [])) }

  made_from : (d : Declarations) (root : Root) (steps : List Step) (of : Declared) (bounded : Bool) (makes : Option ℕ) (m : Memory) (x : Option Val)
      → let q : Path = record { root = root; steps = steps; of = of; bounded = bounded; makes = makes } in value_at m q ≡ x → Safe Sure Given m (made_for d q m)
  made_from d root steps of bounded (Some c) m (Some (object Nothing)) e = rw e (made_safe d c m)
  made_from d root steps of bounded (Some c) m x e = rw e (fine (λ s. none_in (top m).held))
  made_from d root steps of bounded None m x e = fine (λ s. none_in (top m).held)

  pub made_for_safe : (d : Declarations) (q : Path) (m : Memory) → Safe Sure Given m (made_for d q m)
  made_for_safe d q m = made_from d q.root q.steps q.of q.bounded q.makes m (value_at m q) refl

  pub stored_made_safe : (q : Path) (v : Val) (m : Memory) → (Sure.sure → Ready Sure.asks m) → (Sure.sure → GivenPath Sure.asks m q) → (Sure.sure → Given m v) → Safe Sure Any m (stored_made q v m)
  stored_made_safe q empty m r i h = fine (λ s. tt)
  stored_made_safe q v m r i h = stored_safe q v m r i h
