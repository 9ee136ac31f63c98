-- What effects on values, variables and loops raise.
use Rattle.std.proofs.Common.{◌≡◌, ℕ, zero, suc, Bool, true, false, List, [], ◌∷◌, length, Option, Some, None, Result, Ok, Err, ℤ, pos, refl, arith}
use Rattle.std.specs.Prelude.{◌+◌, ◌-◌, ◌^◌, nat_lt, ◌&&◌, if◌then◌else◌}
use Rattle.vba_values.specs.declared.fault.Bad.{Bad}
use Rattle.vba_values.specs.declared.fault.OutKind.TheVariants as limit
use Rattle.vba_values.specs.declared.object.ObjRef.{ObjRef}
use Rattle.vba_values.specs.declared.object.ObjRef.TheVariants.{Nothing, Heap, Host}
use Rattle.vba_values.specs.declared.object.HostRef.TheVariants as host
use Rattle.vba_values.specs.declared.types.OpKind.{OpKind}
use Rattle.vba_values.specs.declared.types.OpKind.TheVariants as op
use Rattle.vba_values.specs.declared.types.Compare.{Compare}
use Rattle.vba_values.specs.declared.types.WholeKind.TheVariants as kind
use Rattle.vba_values.specs.Types.{Declared}
use Rattle.vba_values.specs.Types as type
use Rattle.vba_values.specs.Val.{Val, empty, null, boolean, whole, text, object}
use Rattle.vba_values.specs.Coerce.{coerce_of, to_boolean}
use Rattle.vba_values.specs.Operators.{binary_of, unary_of}
use Rattle.vba_values.specs.Objects.{compared_by_is}
use Rattle.sheet_host.specs.Reading.{area_value}
use Rattle.vba_lib.specs.declared.function.LibraryFunction.{LibraryFunction}
use Rattle.error_frames.specs.declared.frame.At.{At}
use Rattle.error_frames.specs.declared.frame.Policy.{Policy}
use Rattle.error_frames.specs.declared.frame.ResumeKind.{ResumeKind}
use Rattle.error_frames.specs.Resume as resumption
use Rattle.bound_project.specs.Expressions.{Variable}
use Rattle.bound_project.specs.Project.{Declarations}
use Rattle.vba_meaning.specs.Paths.{Root, in_frame, in_project, in_fields, in_block, in_object, in_item, Step, Path}
use Rattle.vba_meaning.specs.Memory.{Error, stop_said, outside, object_at, Slot, Loop, only, Memory, Frame, top, with_top, found, without, value_at, path_of, is_locked, no_error}
use Rattle.vba_meaning.specs.References.{objects_in, looks}
use Rattle.vba_meaning.specs.Effects.{Effect, Fine, Bad-at, Out, Tell, on_fine, operated, operated_alone, is_collection, takes_object, set_reference, set_object, fitted, area_in, plain_reference, plain, as_told_by, is_true, condition, read_value, read_path, has_parts, replaceable_by, replaceable, assignable, is_with_events, with_set_number, set_number_drawn, connected, stored, assigned, lent, unlent, shown_text, shown_by, show_value, printed, loop_off, looping, within, counted, loop_on, stepped, next_round, kept_at, keep, selected, fits, fits_between, gone_sub, returned_to, returned_sub, with_err, err_off, policy_on, handler_off, at_number, resumed_by, resumed, stop_here}
use Rattle.vba_meaning.specs.Objects.{compared, typed_as, set_at, told_made, made, own_object, object_there, field_in, made_for, stored_made}
use Rattle.vba_meaning.specs.Library.{library_answer, library_called, bound_in, bound_at, plain_if_any}
use Rattle.object_counts.specs.Gains.{given_gains, stored_gains, assigned_gains, set_at_gains, counted_gains, stepped_gains, next_round_gains, made_gains, made_for_gains, stored_made_gains}
use Rattle.object_counts.specs.Balance.{InOrder, FramesInOrder}
use Rattle.object_counts.proofs.Looks.{Grows, same, in_one, top_same, hold_grows, keeping_grows, IsVariable, replaced_grows}
use Rattle.object_counts.proofs.Leaving.{made_grows, renumbered_objects}
use Rattle.object_counts.proofs.Chains.{Law, fine, bad, out, told, nil_with, then_law, then_still, after_still, answered_law, both, Holds, held_law, then_holds, Finds, GivesFound, then_found}

-- ---- values

pub operated_law : (o : OpKind) (compare : Compare) (l r : Declared) (a b : Val) (m : Memory) → Law m [] (operated o compare l r a b m)
operated_law o compare l r a b m = answered_law (binary_of o a l b r compare) m

pub operated_alone_law : (o : OpKind) (of : Declared) (v : Val) (m : Memory) → Law m [] (operated_alone o of v m)
operated_alone_law o of v m = answered_law (unary_of o v of) m

reference_law : (of : Declared) (o : ObjRef) (m : Memory) → Law m [] (set_reference of o m)
reference_law of Nothing m = fine (object Nothing) (same m)
reference_law of o m = both (takes_object of o m) (fine (object o) (same m)) (bad 13 (same m))

pub set_object_law : (of : Declared) (v : Val) (m : Memory) → Law m [] (set_object of v m)
set_object_law of (object o) m = reference_law of o m
set_object_law of v m = bad 424 (same m)

pub fitted_law : (of : Declared) (v : Val) (m : Memory) → Law m [] (fitted of v m)
fitted_law type.object v m = set_object_law type.object v m
fitted_law (type.class c) v m = set_object_law (type.class c) v m
fitted_law type.collection v m = set_object_law type.collection v m
fitted_law type.worksheet v m = set_object_law type.worksheet v m
fitted_law type.range v m = set_object_law type.range v m
fitted_law of v m = answered_law (coerce_of v of) m

plain_of : (o : ObjRef) (m : Memory) → Law m [] (plain_reference o m)
plain_of Nothing m = bad 91 (same m)
plain_of (Host host.ErrObject) m = fine _ (same m)
plain_of (Host (host.Area s t l r c)) m = answered_law (area_value m.book (area_in s t l r c)) m
plain_of (Host host.Sheets) m = bad 449 (same m)
plain_of (Heap id) m = both (is_collection (Heap id) m) (bad 449 (same m)) (bad 438 (same m))
plain_of o m = bad 438 (same m)

pub plain_law : (v : Val) (m : Memory) → Law m [] (plain v m)
plain_law (object o) m = plain_of o m
plain_law v m = fine v (same m)

pub plain_if_any_law : (v : Val) (m : Memory) → Law m [] (plain_if_any v m)
plain_if_any_law (object (Host host.ErrObject)) m = fine _ (same m)
plain_if_any_law (object (Host (host.Area s t l r c))) m = answered_law (area_value m.book (area_in s t l r c)) m
plain_if_any_law v m = fine v (same m)

pub condition_law : (sense : Bool) (v : Val) (m : Memory) → Law m [] (condition sense v m)
condition_law sense (boolean b) m = fine (as_told_by sense b) (same m)
condition_law sense null m = fine (as_told_by sense false) (same m)
condition_law sense v m = then_still (answered_law (to_boolean v) m) (λ b m1. fine (as_told_by sense (is_true b)) (same m1))

pub compared_law : (v w : Val) (m : Memory) → Law m [] (compared v w m)
compared_law v w m = then_still (answered_law (compared_by_is v w) m) (λ b m1. fine (boolean b) (same m1))

pub typed_as_law : (of : Declared) (v : Val) (m : Memory) → Law m [] (typed_as of v m)
typed_as_law of (object Nothing) m = bad 91 (same m)
typed_as_law of (object o) m = fine _ (same m)
typed_as_law of v m = bad 424 (same m)

pub object_there_law : (v : Val) (m : Memory) → Law m [] (object_there v m)
object_there_law (object Nothing) m = bad 91 (same m)
object_there_law (object o) m = fine (object o) (same m)
object_there_law v m = bad 424 (same m)

pub field_in_law : (i : ℕ) (of : Declared) (bounded : Bool) (v : Val) (m : Memory) → Law m [] (field_in i of bounded v m)
field_in_law i of bounded (object Nothing) m = bad 91 (same m)
field_in_law i of bounded (object (Heap id)) m = fine _ (same m)
field_in_law i of bounded (object o) m = bad 438 (same m)
field_in_law i of bounded v m = bad 424 (same m)

shown_law : (r : Result (List ℕ) Bad) (m : Memory) → Law m [] (shown_by r m)
shown_law (Ok units) m = fine (text units) (same m)
shown_law (Err e) m = answered_law (Err e) m

pub show_value_law : (v : Val) (m : Memory) → Law m [] (show_value v m)
show_value_law v m = shown_law (shown_text v) m

-- ---- values that are held

pub read_value_holds : (x : Option Val) (m : Memory) → Holds m (read_value x m)
read_value_holds None m = record { law = same m }
read_value_holds (Some v) m = record { law = hold_grows v m }

pub read_path_law : (p : Path) (m : Memory) → Law m (given_gains (read_path p m)) (read_path p m)
read_path_law p m = held_law (read_value_holds (value_at m p) m)

pub own_object_law : (m : Memory) → Law m (given_gains (own_object m)) (own_object m)
own_object_law m = fine _ (hold_grows (top m).me m)

pub selected_law : (i : ℕ) (m : Memory) → Law m (given_gains (selected i m)) (selected i m)
selected_law i m = fine _ (hold_grows (kept_at i m) m)

pub keep_law : (i : ℕ) (v : Val) (m : Memory) → Law m (objects_in v) (keep i v m)
keep_law i v m = fine tt (keeping_grows i (only v) m)

-- ---- stores

found_by : (p : Path) (m : Memory) (x : Option Val) → value_at m p ≡ x → IsVariable p.root → GivesFound m p (replaceable_by p x m)
found_by p m None e is = same m
found_by p m (Some old) e is = by_test (has_parts old && is_locked m p) where
  by_test : (b : Bool) → GivesFound m p (if b then Bad-at 10 m else Fine old m)
  by_test true = same m
  by_test false = (record { variable = is; here = e }, same m)

found_here : (r : Root) (steps : List Step) (of : Declared) (bounded : Bool) (makes : Option ℕ) (m : Memory) → IsVariable r
    → let p : Path = record { root = r; steps = steps; of = of; bounded = bounded; makes = makes } in GivesFound m p (replaceable_by p (value_at m p) m)
found_here r steps of bounded makes m is =
    let p : Path = record { root = r; steps = steps; of = of; bounded = bounded; makes = makes } in found_by p m (value_at m p) refl is

found_from : (r : Root) (steps : List Step) (of : Declared) (bounded : Bool) (makes : Option ℕ) (m : Memory)
    → let p : Path = record { root = r; steps = steps; of = of; bounded = bounded; makes = makes } in GivesFound m p (replaceable p m)
found_from (in_frame k x) steps of bounded makes m = found_here (in_frame k x) steps of bounded makes m tt
found_from (in_project x) steps of bounded makes m = found_here (in_project x) steps of bounded makes m tt
found_from (in_fields n i) steps of bounded makes m = found_here (in_fields n i) steps of bounded makes m tt
found_from (in_block k i) steps of bounded makes m = found_here (in_block k i) steps of bounded makes m tt
found_from (in_object o) steps of bounded makes m = same m
found_from (in_item v) steps of bounded makes m = same m

pub replaceable_finds : (p : Path) (m : Memory) → Finds m p (replaceable p m)
replaceable_finds p m = record { law = found_from p.root p.steps p.of p.bounded p.makes m }

unbounded : (p : Path) (m : Memory) (b : Bool) (e : Effect Val) → GivesFound m p e → GivesFound m p (on_fine e (λ old m1. if b then Bad-at 10 m1 else Fine old m1))
unbounded p m true (Fine old m1) h = h.1
unbounded p m false (Fine old m1) h = h
unbounded p m b (Bad-at n m1) h = h
unbounded p m b (Out w m1) h = h
unbounded p m b (Tell es e) h = unbounded p m b e h

pub assignable_finds : (p : Path) (m : Memory) → Finds m p (assignable p m)
assignable_finds p m = record { law = unbounded p m p.bounded (replaceable p m) (replaceable_finds p m).law }

-- a set number refers to nothing
numbered_grows : (n i : ℕ) (number : Option ℕ) (next : ℕ) (m : Memory) → Grows m [] (record (with_set_number n i number m) { next_set = next })
numbered_grows n i number next m = record { ordered = λ h. h; more = λ h o. omega (arith, renumbered_objects o m.objects n i number) }

set_number_law : (n i : ℕ) (w : Val) (m : Memory) → Law m [] (set_number_drawn n i w m)
set_number_law n i (object Nothing) m = fine tt (numbered_grows n i None m.next_set m)
set_number_law n i w m = both (nat_lt m.next_set (2 ^ 64 - 1)) (fine tt (numbered_grows n i (Some m.next_set) (m.next_set + 1) m)) (out (outside limit.Links) (same m))

connected_from : (r : Root) (steps : List Step) (of : Declared) (bounded : Bool) (makes : Option ℕ) (w : Val) (m : Memory)
    → let p : Path = record { root = r; steps = steps; of = of; bounded = bounded; makes = makes } in Law m [] (connected p w m)
connected_from (in_fields n i) steps of bounded makes w m = both (is_with_events i (object_at m n).set_numbers) (set_number_law n i w m) (fine tt (same m))
connected_from (in_frame k x) steps of bounded makes w m = fine tt (same m)
connected_from (in_project x) steps of bounded makes w m = fine tt (same m)
connected_from (in_block k i) steps of bounded makes w m = fine tt (same m)
connected_from (in_object o) steps of bounded makes w m = fine tt (same m)
connected_from (in_item v) steps of bounded makes w m = fine tt (same m)

pub stored_law : (p : Path) (w : Val) (m : Memory) → Law m (stored_gains p w m) (stored p w m)
stored_law p w m =
    then_found (assignable_finds p m) (λ old m1 there. then_still {A = Unit {0}} {f = λ u m2. connected p w m2} (fine tt (replaced_grows m1 p old w there)) (λ u m2. connected_from p.root p.steps p.of p.bounded p.makes w m2))

pub assigned_law : (p : Path) (v : Val) (m : Memory) → Law m (assigned_gains p v m) (assigned p v m)
assigned_law p v m = after_still (answered_law (coerce_of v p.of) m) (λ w m1. stored_law p w m1)

pub set_at_law : (p : Path) (v : Val) (m : Memory) → Law m (set_at_gains p v m) (set_at p v m)
set_at_law p v m = after_still (set_object_law p.of v m) (λ w m1. stored_law p w m1)

-- ---- For

within_law : (of : Declared) (v : Val) (l : Loop) (m : Memory) → Law m [] (within of v l m)
within_law of v l m =
    then_still (then_still (operated_law op.Lt l.compare l.step.of type.integer l.step.value (whole kind.Integer (pos 0)) m) (λ b m1. fine (is_true b) (same m1))) (λ down m1.
    then_still (operated_law (if down then op.Ge else op.Le) l.compare of l.last.of v l.last.value m1) (λ b m2. fine (is_true b) (same m2)))

counted_law : (x : Variable) (v : Val) (l : Loop) (m : Memory) → Law m (counted_gains x v m) (counted x v l m)
counted_law x v l m = then_law (assigned_law (path_of m x) v m) (λ u m1. then_still (read_path_law (path_of m1 x) m1) (λ w m2. within_law x.of w l m2))

looping_grows : (i : ℕ) (l : Loop) (m : Memory) → Grows m [] (looping i l m)
looping_grows i l m = top_same m (record (top m) { loops = (i, l) ∷ (top m).loops }) (λ h. h) (λ o. refl)

pub loop_on_law : (x : Variable) (i : ℕ) (compare : Compare) (t u : Declared) (start end by : Val) (m : Memory) → Law m (counted_gains x start m) (loop_on x i compare t u start end by m)
loop_on_law x i compare t u start end by m =
    let l : Loop = record { last = record { value = end; of = t }; step = record { value = by; of = u }; compare = compare } in
    then_still (counted_law x start l m) (λ on m1. fine on (looping_grows i l m1))

stepped_law : (l : Option Loop) (x : Variable) (m : Memory) → Law m (stepped_gains l x m) (stepped l x m)
stepped_law None x m = bad 92 (same m)
stepped_law (Some l) x m =
    then_law (read_path_law (path_of m x) m) (λ v m1. after_still (plain_law v m1) (λ a m2.
    after_still (operated_law op.Add l.compare x.of l.step.of a l.step.value m2) (λ w m3. counted_law x w l m3)))

pub next_round_law : (x : Variable) (i : ℕ) (m : Memory) → Law m (next_round_gains x i m) (next_round x i m)
next_round_law x i m = stepped_law (found (top m).loops i) x m

pub loop_off_law : (i : ℕ) (m : Memory) → Law m [] (loop_off i m)
loop_off_law i m = fine tt (top_same m (record (top m) { loops = without (top m).loops i }) (λ h. h) (λ o. refl))

-- ---- Case

pub fits_law : (o : OpKind) (compare : Compare) (of test : Declared) (v x : Val) (m : Memory) → Law m [] (fits o compare of test v x m)
fits_law o compare of test v x m = then_still (operated_law o compare of test v x m) (λ b m1. fine (is_true b) (same m1))

pub fits_between_law : (compare : Compare) (of low high : Declared) (v a b : Val) (m : Memory) → Law m [] (fits_between compare of low high v a b m)
fits_between_law compare of low high v a b m =
    then_still (operated_law op.Ge compare of low v a m) (λ p m1. then_still (operated_law op.Le compare of high v b m1) (λ q m2. fine (is_true p && is_true q) (same m2)))

-- ---- what looking doesn't see

pub alike : {m m1 : Memory} → (FramesInOrder m.frames → FramesInOrder m1.frames) → ((o : ℕ) → looks m1 o ≡ looks m o) → Grows m [] m1
alike k e = record { ordered = k; more = λ h o. omega (arith, e o) }

err_grows : (e : Error) (m : Memory) → Grows m [] (with_err e m)
err_grows e m = alike (λ h. h) (λ o. refl)

pub top_err_grows : (e : Error) (m : Memory) (f : Frame) → (InOrder (top m).keeps → InOrder f.keeps) → ((o : ℕ) → in_one o f ≡ in_one o (top m)) → Grows m [] (with_err e (with_top m f))
top_err_grows e m f k h = nil_with (top_same m f k h) (err_grows e (with_top m f))

pub lent_law : (p : Path) (m : Memory) → Law m [] (lent p m)
lent_law p m = fine tt (top_same m (record (top m) { pending = p ∷ (top m).pending }) (λ h. h) (λ o. refl))

pub unlent_grows : (m : Memory) → Grows m [] (unlent m)
unlent_grows m = top_same m (record (top m) { pending = [] }) (λ h. h) (λ o. refl)

pub printed_law : (ends : Bool) (xs : List Slot) (m : Memory) → Law m [] (printed ends xs m)
printed_law ends xs m = told _ (fine tt (alike (λ h. h) (λ o. refl)))

pub gone_sub_law : (i : ℕ) (m : Memory) → Law m [] (gone_sub i m)
gone_sub_law i m = fine tt (top_same m (record (top m) { returns = i ∷ (top m).returns }) (λ h. h) (λ o. refl))

returned_to_law : (is : List ℕ) (m : Memory) → Law m [] (returned_to is m)
returned_to_law [] m = bad 3 (same m)
returned_to_law (i ∷ is) m = fine i (top_same m (record (top m) { returns = is }) (λ h. h) (λ o. refl))

pub returned_sub_law : (m : Memory) → Law m [] (returned_sub m)
returned_sub_law m = returned_to_law (top m).returns m

pub err_off_law : (m : Memory) → Law m [] (err_off m)
err_off_law m = fine tt (err_grows no_error m)

pub policy_on_law : (b : Policy) (m : Memory) → Law m [] (policy_on b m)
policy_on_law b m = fine tt (top_err_grows no_error m (record (top m) { errors = record (top m).errors { policy = b } }) (λ h. h) (λ o. refl))

pub handler_off_law : (m : Memory) → Law m [] (handler_off m)
handler_off_law m = fine tt (top_err_grows no_error m (record (top m) { errors = resumption.ended (top m).errors }) (λ h. h) (λ o. refl))

resumed_by_law : (r : Result At Bad) (m : Memory) → Law m [] (resumed_by r m)
resumed_by_law (Ok i) m = fine i.0 (top_err_grows no_error m (record (top m) { errors = resumption.after_resume (top m).errors }) (λ h. h) (λ o. refl))
resumed_by_law (Err e) m = then_still (answered_law (Err e) m) (λ (u : Unit {0}) m1. fine 0 (same m1))

pub resumed_law : (k : ResumeKind) (next : ℕ) (m : Memory) → Law m [] (resumed k next m)
resumed_law k next m = resumed_by_law (resumption.answer (top m).errors.active (top m).errors.failed k (at_number next)) m

pub stop_here_law : (m : Memory) → Law m [] (stop_here m)
stop_here_law m = out stop_said (same m)

-- ---- functions of the library

pub library_law : (d : Declarations) (f : LibraryFunction) (text_form : Bool) (compare : Compare) (base : ℤ) (vs : List Val) (m : Memory)
    → Law m (given_gains (library_called d f text_form compare base vs m)) (library_called d f text_form compare base vs m)
library_law d f text_form compare base vs m = held_law (then_holds (answered_law (library_answer d f text_form compare base vs m) m) (λ v m1. read_value_holds (Some v) m1))

bound_in_law : (upper : Bool) (z : ℤ) (x : Option Val) (m : Memory) → Law m [] (bound_in upper z x m)
bound_in_law upper z None m = bad 9 (same m)
bound_in_law upper z (Some v) m = answered_law _ m

pub bound_at_law : (upper : Bool) (z : ℤ) (p : Path) (m : Memory) → Law m [] (bound_at upper z p m)
bound_at_law upper z p m = bound_in_law upper z (value_at m p) m

-- ---- objects that are made

told_made_law : {m : Memory} {gs : List ℕ} {e : Effect Val} (c n : ℕ) → Law m gs e → Law m gs (told_made c n e)
told_made_law zero n a = a
told_made_law (suc c) n a = told _ a

pub made_law : (d : Declarations) (c : ℕ) (m : Memory) → Law m (made_gains d c m) (made d c m)
made_law d c m = told_made_law c (length m.objects) (fine _ (made_grows d c m))

made_from : (d : Declarations) (r : Root) (steps : List Step) (of : Declared) (bounded : Bool) (makes : Option ℕ) (m : Memory) (x : Option Val)
    → let q : Path = record { root = r; steps = steps; of = of; bounded = bounded; makes = makes } in value_at m q ≡ x → Law m (made_for_gains d q m) (made_for d q m)
made_from d r steps of bounded (Some c) m (Some (object Nothing)) e = rw e (made_law d c m)
made_from d r steps of bounded (Some c) m x e = rw e (fine empty (same m))
made_from d r steps of bounded None m x e = fine empty (same m)

pub made_for_law : (d : Declarations) (q : Path) (m : Memory) → Law m (made_for_gains d q m) (made_for d q m)
made_for_law d q m = made_from d q.root q.steps q.of q.bounded q.makes m (value_at m q) refl

pub stored_made_law : (q : Path) (v : Val) (m : Memory) → Law m (stored_made_gains q v m) (stored_made q v m)
stored_made_law q empty m = fine tt (same m)
stored_made_law q v m = stored_law q v m
