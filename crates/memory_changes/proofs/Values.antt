-- Effects on values, variables, loops and errors.
use Rattle.std.proofs.Common.{◌≡◌, ℕ, zero, suc, Bool, true, false, List, [], ◌∷◌, ◌++◌, length, Option, Some, None, Result, Ok, Err, ℤ, pos, refl}
use Rattle.std.specs.Prelude.{◌-◌, ◌^◌, nat_lt, ◌&&◌, if◌then◌else◌}
use Rattle.vba_values.specs.declared.fault.Bad.{Bad}
use Rattle.vba_values.specs.declared.fault.OutKind.TheVariants as limit
use Rattle.vba_values.specs.declared.object.ObjRef.{ObjRef}
use Rattle.vba_values.specs.declared.object.ObjRef.TheVariants.{Nothing, Heap, Host}
use Rattle.vba_values.specs.declared.object.HostRef.TheVariants as host
use Rattle.vba_values.specs.declared.types.OpKind.{OpKind}
use Rattle.vba_values.specs.declared.types.OpKind.TheVariants as op
use Rattle.vba_values.specs.declared.types.Compare.{Compare}
use Rattle.vba_values.specs.declared.types.WholeKind.TheVariants as kind
use Rattle.vba_values.specs.Types.{Declared}
use Rattle.vba_values.specs.Types as type
use Rattle.vba_values.specs.Val.{Val, empty, null, boolean, whole, object}
use Rattle.vba_values.specs.Coerce.{coerce_of, to_boolean}
use Rattle.vba_values.specs.Operators.{binary_of, unary_of}
use Rattle.vba_values.specs.Objects.{compared_by_is}
use Rattle.sheet_host.specs.Reading.{area_value}
use Rattle.vba_lib.specs.declared.function.LibraryFunction.{LibraryFunction}
use Rattle.error_frames.specs.declared.frame.At.{At}
use Rattle.error_frames.specs.declared.frame.FrameErrors.{FrameErrors}
use Rattle.error_frames.specs.declared.frame.Policy.{Policy}
use Rattle.error_frames.specs.declared.frame.ResumeKind.{ResumeKind}
use Rattle.error_frames.specs.Resume as resumption
use Rattle.bound_project.specs.Expressions.{Variable}
use Rattle.bound_project.specs.Project.{Declarations}
use Rattle.vba_meaning.specs.Paths.{Root, in_frame, in_project, in_fields, in_block, in_object, in_item, Step, Path}
use Rattle.vba_meaning.specs.Memory.{Error, stop_said, outside, Slot, Loop, only, Memory, top, with_top, found, object_at, value_at, path_of, is_locked, no_error}
use Rattle.vba_meaning.specs.References.{hold, replaced}
use Rattle.vba_meaning.specs.Effects.{Printed, Fine, on_fine, done, operated, operated_alone, is_collection, takes_object, set_reference, set_object, fitted, area_in, plain_reference, plain, as_told_by, is_true, condition, read_value, read_path, has_parts, replaceable_by, replaceable, assignable, is_with_events, set_number_drawn, connected, stored, assigned, lent, shown_text, shown_by, show_value, printed, loop_off, within, counted, loop_on, stepped, next_round, kept_at, keep, selected, fits, fits_between, gone_sub, returned_to, returned_sub, with_err, err_off, policy_on, handler_off, at_number, resumed_by, resumed, stop_here}
use Rattle.vba_meaning.specs.Objects.{compared, typed_as, set_at, new_instance, made, own_object, object_there, field_in, made_for, stored_made}
use Rattle.vba_meaning.specs.Library.{library_answer, library_called, bound_in, bound_at, plain_if_any}
use Rattle.memory_changes.specs.Changes.{Aside, Row, connects, disconnects, makes as makes_object, lends, keeps}
use Rattle.memory_changes.proofs.Rows.{Still, still, still_bad, still_then, still_next, still_if, still_answered, row_then, one, away, Rows, fine, fine_in, bad, out, telling, behind, then_rows, of_still, then_same, both}
use Rattle.memory_changes.proofs.Stores.{paths_top, beside, hold_row, displaced_row, replaced_row}

-- ---- values

pub operated_still : (o : OpKind) (compare : Compare) (l r : Declared) (a b : Val) (m : Memory) → Still m (operated o compare l r a b m)
operated_still o compare l r a b m = still_answered (binary_of o a l b r compare) m

pub operated_alone_still : (o : OpKind) (of : Declared) (v : Val) (m : Memory) → Still m (operated_alone o of v m)
operated_alone_still o of v m = still_answered (unary_of o v of) m

reference_still : (of : Declared) (o : ObjRef) (m : Memory) → Still m (set_reference of o m)
reference_still of Nothing m = still
reference_still of o m = still_if (takes_object of o m) still (still_bad 13 m)

pub set_object_still : (of : Declared) (v : Val) (m : Memory) → Still m (set_object of v m)
set_object_still of (object o) m = reference_still of o m
set_object_still of v m = still_bad 424 m

pub fitted_still : (of : Declared) (v : Val) (m : Memory) → Still m (fitted of v m)
fitted_still type.object v m = set_object_still type.object v m
fitted_still (type.class c) v m = set_object_still (type.class c) v m
fitted_still type.collection v m = set_object_still type.collection v m
fitted_still type.worksheet v m = set_object_still type.worksheet v m
fitted_still type.range v m = set_object_still type.range v m
fitted_still of v m = still_answered (coerce_of v of) m

plain_of_still : (o : ObjRef) (m : Memory) → Still m (plain_reference o m)
plain_of_still Nothing m = still_bad 91 m
plain_of_still (Host host.ErrObject) m = still
plain_of_still (Host (host.Area s t l r c)) m = still_answered (area_value m.book (area_in s t l r c)) m
plain_of_still (Host host.Sheets) m = still_bad 449 m
plain_of_still (Heap id) m = still_if (is_collection (Heap id) m) (still_bad 449 m) (still_bad 438 m)
plain_of_still o m = still_bad 438 m

pub plain_still : (v : Val) (m : Memory) → Still m (plain v m)
plain_still (object o) m = plain_of_still o m
plain_still v m = still

pub plain_if_any_still : (v : Val) (m : Memory) → Still m (plain_if_any v m)
plain_if_any_still (object (Host host.ErrObject)) m = still
plain_if_any_still (object (Host (host.Area s t l r c))) m = still_answered (area_value m.book (area_in s t l r c)) m
plain_if_any_still v m = still

pub condition_still : (sense : Bool) (v : Val) (m : Memory) → Still m (condition sense v m)
condition_still sense (boolean b) m = still
condition_still sense null m = still
condition_still sense v m = still_next (still_answered (to_boolean v) m) (λ b m1. still {v = as_told_by sense (is_true b)})

pub compared_still : (v w : Val) (m : Memory) → Still m (compared v w m)
compared_still v w m = still_then _ (still_answered (compared_by_is v w) m) (λ b. still)

pub typed_as_still : (of : Declared) (v : Val) (m : Memory) → Still m (typed_as of v m)
typed_as_still of (object Nothing) m = still_bad 91 m
typed_as_still of (object o) m = still
typed_as_still of v m = still_bad 424 m

pub object_there_still : (v : Val) (m : Memory) → Still m (object_there v m)
object_there_still (object Nothing) m = still_bad 91 m
object_there_still (object o) m = still
object_there_still v m = still_bad 424 m

pub field_in_still : (i : ℕ) (of : Declared) (bounded : Bool) (v : Val) (m : Memory) → Still m (field_in i of bounded v m)
field_in_still i of bounded (object Nothing) m = still_bad 91 m
field_in_still i of bounded (object (Heap id)) m = still
field_in_still i of bounded (object o) m = still_bad 438 m
field_in_still i of bounded v m = still_bad 424 m

shown_still : (r : Result (List ℕ) Bad) (m : Memory) → Still m (shown_by r m)
shown_still (Ok units) m = still
shown_still (Err e) m = still_answered (Err e) m

pub show_value_still : (v : Val) (m : Memory) → Still m (show_value v m)
show_value_still v m = shown_still (shown_text v) m

tested_still : (o : OpKind) (compare : Compare) (l r : Declared) (a b : Val) (m : Memory) → Still m (on_fine (operated o compare l r a b m) (λ b m1. Fine (is_true b) m1))
tested_still o compare l r a b m = still_then _ (operated_still o compare l r a b m) (λ c. still)

pub fits_still : (o : OpKind) (compare : Compare) (of test : Declared) (v x : Val) (m : Memory) → Still m (fits o compare of test v x m)
fits_still o compare of test v x m = tested_still o compare of test v x m

pub fits_between_still : (compare : Compare) (of low high : Declared) (v a b : Val) (m : Memory) → Still m (fits_between compare of low high v a b m)
fits_between_still compare of low high v a b m =
    still_then _ (operated_still op.Ge compare of low v a m) (λ p. still_then _ (operated_still op.Le compare of high v b m) (λ q. still))

within_still : (of : Declared) (v : Val) (l : Loop) (m : Memory) → Still m (within of v l m)
within_still of v l m =
    still_then _ (tested_still op.Lt l.compare l.step.of type.integer l.step.value (whole kind.Integer (pos 0)) m) (λ down.
    tested_still (if down then op.Ge else op.Le) l.compare of l.last.of v l.last.value m)

bound_in_still : (upper : Bool) (z : ℤ) (x : Option Val) (m : Memory) → Still m (bound_in upper z x m)
bound_in_still upper z None m = still_bad 9 m
bound_in_still upper z (Some v) m = still_answered _ m

pub bound_at_still : (upper : Bool) (z : ℤ) (p : Path) (m : Memory) → Still m (bound_at upper z p m)
bound_at_still upper z p m = bound_in_still upper z (value_at m p) m

-- ---- what may be replaced

found_still : (p : Path) (x : Option Val) (m : Memory) → Still m (replaceable_by p x m)
found_still p None m = still_bad 9 m
found_still p (Some old) m = still_if (has_parts old && is_locked m p) (still_bad 10 m) still

replaceable_from : (root : Root) (steps : List Step) (of : Declared) (bounded : Bool) (makes : Option ℕ) (m : Memory)
    → let p : Path = record { root = root; steps = steps; of = of; bounded = bounded; makes = makes } in Still m (replaceable p m)
replaceable_from (in_frame k x) steps of bounded makes m = found_still _ _ m
replaceable_from (in_project x) steps of bounded makes m = found_still _ _ m
replaceable_from (in_fields n i) steps of bounded makes m = found_still _ _ m
replaceable_from (in_block k i) steps of bounded makes m = found_still _ _ m
replaceable_from (in_object o) steps of bounded makes m = still_bad 438 m
replaceable_from (in_item v) steps of bounded makes m = still_bad 438 m

pub replaceable_still : (p : Path) (m : Memory) → Still m (replaceable p m)
replaceable_still p m = replaceable_from p.root p.steps p.of p.bounded p.makes m

pub assignable_still : (p : Path) (m : Memory) → Still m (assignable p m)
assignable_still p m = still_then _ (replaceable_still p m) (λ old. still_if p.bounded (still_bad 10 m) still)

module _ (d : Declarations) where
  -- ---- changes of the running frame that lead to no other place

  pub frame_row : {m m1 : Memory} → Aside m m1 → Row d m m1
  frame_row a = away d a

  -- ---- values that are held

  pub read_value_rows : (x : Option Val) (m : Memory) → Rows d m (read_value x m)
  read_value_rows None m = bad d 9 m
  read_value_rows (Some v) m = fine_in d (hold_row d v m)

  pub read_path_rows : (p : Path) (m : Memory) → Rows d m (read_path p m)
  read_path_rows p m = read_value_rows (value_at m p) m

  pub own_object_rows : (m : Memory) → Rows d m (own_object m)
  own_object_rows m = fine_in d (hold_row d (top m).me m)

  pub selected_rows : (i : ℕ) (m : Memory) → Rows d m (selected i m)
  selected_rows i m = fine_in d (hold_row d (kept_at i m) m)

  -- a block keeps something, and what it kept before is held
  pub keep_rows : (i : ℕ) (v : Val) (m : Memory) → Rows d m (keep i v m)
  keep_rows i v m = fine_in d (row_then d (one d (keeps i (only v))) (displaced_row d (kept_at i m) _))

  -- ---- stores

  set_number_rows : (n i : ℕ) (w : Val) (m : Memory) → is_with_events i (object_at m n).set_numbers ≡ true → Rows d m (set_number_drawn n i w m)
  set_number_rows n i (object Nothing) m is = fine_in d (one d (disconnects n i is))
  set_number_rows n i w m is = both d (nat_lt m.next_set (2 ^ 64 - 1)) (fine_in d (one d (connects n i is))) (out d (outside limit.Links) m)

  numbered_rows : (n i : ℕ) (w : Val) (m : Memory) (b : Bool) → is_with_events i (object_at m n).set_numbers ≡ b → Rows d m (if b then set_number_drawn n i w m else done m)
  numbered_rows n i w m true e = set_number_rows n i w m e
  numbered_rows n i w m false e = fine d

  connected_from : (root : Root) (steps : List Step) (of : Declared) (bounded : Bool) (makes : Option ℕ) (w : Val) (m : Memory)
      → let p : Path = record { root = root; steps = steps; of = of; bounded = bounded; makes = makes } in Rows d m (connected p w m)
  connected_from (in_fields n i) steps of bounded makes w m = numbered_rows n i w m (is_with_events i (object_at m n).set_numbers) refl
  connected_from (in_frame k x) steps of bounded makes w m = fine d
  connected_from (in_project x) steps of bounded makes w m = fine d
  connected_from (in_block k i) steps of bounded makes w m = fine d
  connected_from (in_object o) steps of bounded makes w m = fine d
  connected_from (in_item v) steps of bounded makes w m = fine d

  pub stored_rows : (p : Path) (w : Val) (m : Memory) → Rows d m (stored p w m)
  stored_rows p w m = then_same d _ (assignable_still p m) (λ old. behind d (replaced_row d m p w) (connected_from p.root p.steps p.of p.bounded p.makes w (replaced p w m)))

  pub assigned_rows : (p : Path) (v : Val) (m : Memory) → Rows d m (assigned p v m)
  assigned_rows p v m = then_same d _ (still_answered (coerce_of v p.of) m) (λ w. stored_rows p w m)

  pub set_at_rows : (p : Path) (v : Val) (m : Memory) → Rows d m (set_at p v m)
  set_at_rows p v m = then_same d _ (set_object_still p.of v m) (λ w. stored_rows p w m)

  -- ---- For

  counted_rows : (x : Variable) (v : Val) (l : Loop) (m : Memory) → Rows d m (counted x v l m)
  counted_rows x v l m =
      then_rows d (assigned_rows (path_of m x) v m) (λ u m1. then_rows d (read_path_rows (path_of m1 x) m1) (λ w m2. of_still d (within_still x.of w l m2)))

  pub loop_on_rows : (x : Variable) (i : ℕ) (compare : Compare) (t u : Declared) (start end by : Val) (m : Memory) → Rows d m (loop_on x i compare t u start end by m)
  loop_on_rows x i compare t u start end by m =
      let l : Loop = record { last = record { value = end; of = t }; step = record { value = by; of = u }; compare = compare } in
      then_rows d (counted_rows x start l m) (λ on m1. fine_in d (away d (record { objects = refl; next_set = refl; paths = paths_top m1.frames })))

  stepped_rows : (l : Option Loop) (x : Variable) (m : Memory) → Rows d m (stepped l x m)
  stepped_rows None x m = bad d 92 m
  stepped_rows (Some l) x m =
      then_rows d (read_path_rows (path_of m x) m) (λ v m1.
      then_same d _ (plain_still v m1) (λ a.
      then_same d _ (operated_still op.Add l.compare x.of l.step.of a l.step.value m1) (λ w. counted_rows x w l m1)))

  pub next_round_rows : (x : Variable) (i : ℕ) (m : Memory) → Rows d m (next_round x i m)
  next_round_rows x i m = stepped_rows (found (top m).loops i) x m

  pub loop_off_rows : (i : ℕ) (m : Memory) → Rows d m (loop_off i m)
  loop_off_rows i m = fine_in d (away d (record { objects = refl; next_set = refl; paths = paths_top m.frames }))

  -- ---- calls, printing, GoSub, errors

  pub lent_rows : (p : Path) (m : Memory) → Rows d m (lent p m)
  lent_rows p m = fine_in d (one d (lends p))

  pub printed_rows : (ends : Bool) (xs : List Slot) (m : Memory) → Rows d m (printed ends xs m)
  printed_rows ends xs m = telling d (Printed _ ends ∷ []) (fine_in d (away d (beside refl refl refl)))

  pub gone_sub_rows : (i : ℕ) (m : Memory) → Rows d m (gone_sub i m)
  gone_sub_rows i m = fine_in d (away d (record { objects = refl; next_set = refl; paths = paths_top m.frames }))

  returned_to_rows : (is : List ℕ) (m : Memory) → Rows d m (returned_to is m)
  returned_to_rows [] m = bad d 3 m
  returned_to_rows (i ∷ is) m = fine_in d (away d (record { objects = refl; next_set = refl; paths = paths_top m.frames }))

  pub returned_sub_rows : (m : Memory) → Rows d m (returned_sub m)
  returned_sub_rows m = returned_to_rows (top m).returns m

  -- Err and what the frame does with errors
  pub errors_row : (e : Error) (b : FrameErrors) (m : Memory) → Row d m (with_err e (with_top m (record (top m) { errors = b })))
  errors_row e b m = away d (record { objects = refl; next_set = refl; paths = paths_top m.frames })

  pub err_off_rows : (m : Memory) → Rows d m (err_off m)
  err_off_rows m = fine_in d (away d (beside refl refl refl))

  pub policy_on_rows : (b : Policy) (m : Memory) → Rows d m (policy_on b m)
  policy_on_rows b m = fine_in d (errors_row no_error (record (top m).errors { policy = b }) m)

  pub handler_off_rows : (m : Memory) → Rows d m (handler_off m)
  handler_off_rows m = fine_in d (errors_row no_error (resumption.ended (top m).errors) m)

  resumed_by_rows : (x : Result At Bad) (m : Memory) → Rows d m (resumed_by x m)
  resumed_by_rows (Ok i) m = fine_in d (errors_row no_error (resumption.after_resume (top m).errors) m)
  resumed_by_rows (Err e) m = then_same d {A = Unit {0}} _ (still_answered (Err e) m) (λ u. fine d)

  pub resumed_rows : (k : ResumeKind) (next : ℕ) (m : Memory) → Rows d m (resumed k next m)
  resumed_rows k next m = resumed_by_rows (resumption.answer (top m).errors.active (top m).errors.failed k (at_number next)) m

  pub stop_here_rows : (m : Memory) → Rows d m (stop_here m)
  stop_here_rows m = out d stop_said m

  -- ---- functions of the library

  pub library_rows : (f : LibraryFunction) (text_form : Bool) (compare : Compare) (base : ℤ) (vs : List Val) (m : Memory) → Rows d m (library_called d f text_form compare base vs m)
  library_rows f text_form compare base vs m = then_same d _ (still_answered (library_answer d f text_form compare base vs m) m) (λ v. read_value_rows (Some v) m)

  -- ---- objects that are made

  made_row : (c : ℕ) (m : Memory) → Row d m (hold (object (Heap (record { 0 = length m.objects }))) (record m { objects = m.objects ++ Some (new_instance d c) ∷ [] }))
  made_row c m = row_then d (one d (makes_object c)) (hold_row d (object (Heap (record { 0 = length m.objects }))) (record m { objects = m.objects ++ Some (new_instance d c) ∷ [] }))

  pub made_rows : (c : ℕ) (m : Memory) → Rows d m (made d c m)
  made_rows zero m = fine_in d (made_row zero m)
  made_rows (suc c) m = telling d _ (fine_in d (made_row (suc c) m))

  made_from : (root : Root) (steps : List Step) (of : Declared) (bounded : Bool) (makes : Option ℕ) (m : Memory) (x : Option Val)
      → let q : Path = record { root = root; steps = steps; of = of; bounded = bounded; makes = makes } in value_at m q ≡ x → Rows d m (made_for d q m)
  made_from root steps of bounded (Some c) m (Some (object Nothing)) e = rw e (made_rows c m)
  made_from root steps of bounded (Some c) m x e = rw e (fine d)
  made_from root steps of bounded None m x e = fine d

  pub made_for_rows : (q : Path) (m : Memory) → Rows d m (made_for d q m)
  made_for_rows q m = made_from q.root q.steps q.of q.bounded q.makes m (value_at m q) refl

  pub stored_made_rows : (q : Path) (v : Val) (m : Memory) → Rows d m (stored_made q v m)
  stored_made_rows q empty m = fine d
  stored_made_rows q v m = stored_rows q v m
