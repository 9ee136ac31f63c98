-- Each step of the machine does the same under other names.
use Rattle.std.proofs.Common.{◌≡◌, ℕ, zero, suc, ◌+◌, false, List, [], ◌∷◌, length, map, Option, Some, None, refl, sym, ap, ◌∙◌, subst}
use Rattle.std.specs.Prelude.{slice_get, slice_index_or}
use Rattle.vba_values.specs.declared.object.ObjRef.TheVariants.{Heap, Host}
use Rattle.vba_values.specs.Val.{Val, empty, object}
use Rattle.error_frames.specs.declared.frame.ResumeKind.TheVariants as kind
use Rattle.error_frames.specs.declared.frame.Taken.{Taken}
use Rattle.error_frames.specs.declared.frame.Taken.TheVariants as taken
use Rattle.bound_project.specs.Project.{Declarations, class_at, first_values}
use Rattle.vba_meaning.specs.Paths.{Path, field_path}
use Rattle.vba_meaning.specs.Memory.{Error, Ended, Faulted, Slot, value, path, Memory, Object, top, frame_left, result, path_of, received, error_here, object_at}
use Rattle.vba_meaning.specs.Memory as memory
use Rattle.vba_meaning.specs.References.{objects_in, objects_in_values, is_last, next_waiting}
use Rattle.vba_meaning.specs.Effects.{Term, Effect, slot_values, packed, reordered, raised_by, err_of, taken_by, failed_statement}
use Rattle.vba_meaning.specs.Events.{source_of, sinks}
use Rattle.vba_meaning.specs.Objects.{initialize_of, made_at}
use Rattle.vba_meaning.specs.Host.{path_to, item_by, place_at, member_assigned, item_assigned}
use Rattle.vba_meaning.specs.ByName.{in_parameter_order}
use Rattle.vba_meaning.specs.Arrays.{redimmed}
use Rattle.vba_meaning.specs.Library.{library_called}
use Rattle.bound_project.specs.Parameters.{parameters_of}
use Rattle.vba_meaning.specs.Defaults.{index_along, most_passed}
use Rattle.vba_meaning.specs.LateBound.{value_bound, let_element, element_set, late_let, late_set}
use Rattle.vba_meaning.specs.Meaning.{State}
use Rattle.pcode.specs.Instructions as instr
use Rattle.pcode.specs.Instructions.{Instr, Begin, Push, LoadErr, PathOf, ReadThrough, ElementOf, ElementIn, FieldOf, Dot, Index, PartOf, Operate, OperateAlone, PlainIfAny, Enumerate, PushHost, FirstSheet, MemberThere, MemberOf, NamedThere, NamedOf, PushThis, New, ObjectThere, FieldIn, AsNew, MakeThere, StoreMade, FindLate, BindValue, BindPlace, CallLate, LetLate, SetLate, ItemAlong, WriteThrough, LetElement, SetElement, ElementAlong, LateField, PlaceOf, IsType, Library, BoundAt, Fit, FitObject, Drop, Lend, Pack, Reorder, Lift, Call, CallOf, Store, SetAt, StoreDefault, StoreMember, StoreItem, SetMember, RaiseEvent, ShowText, Show, Throw, LoopOff, LoopOn, NextRound, EachOff, EachOn, NextItem, Keep, Selected, IfFits, IfBetween, Redim, EraseAt, KeepPath, DropKept, PutReturn, TakeReturn, SetPolicy, HandlerOff, ErrOff, Again, Behind, Resumes, Finish, Branch, Halt, StopHere, Leave, Code, next_statement, entry_of}
use Rattle.pcode.specs.Machine.{After, Goes-on, Decide, Return, Back-to, Pass, Close, Mode, At, Failing, Letting, Back, Caller, EndOf, Within, Delivering, Config, Goes, Ends, at, done_then, pushed, uses_member, initializes, then_statement, base_below, looking, act, finished_by, terminates_by, ends_by, lets_one_by, closing, returned_by, passed_on, next_by, takes, decides, comes_by, go_on_by, step}
use Rattle.object_names.specs.Names.{reference_named, value_named, values_named, path_named, slots_named, object_named, after_named, mode_named, backs_named}
use Rattle.object_names.specs.Renamed.{SameState, SameConfig, Same}
use Rattle.object_names.proofs.Named.{plainly, Names}
use Rattle.object_names.proofs.NamedVariables.{path_of_same, object_at_same, operated_names, operated_alone_names, set_object_names, fitted_names, compared_names, typed_as_names, object_there_names, field_in_names, read_path_names, set_at_names, fits_names, hold_same}
use Rattle.object_names.proofs.NamedEffects.{top_same, unlent_same, loop_on_names, next_round_names, loop_off_names, keep_names, selected_names, lent_names, printed_names, gone_sub_names, returned_sub_names}
use Rattle.object_names.proofs.NamedArrays.{part_of_names, redimmed_names, erased_names, keep_path_names, block_over_names, dot_at_names, each_off_names, each_begun_names, each_next_names}
use Rattle.object_names.proofs.NamedHosts.{first_sheet_names, item_names}
use Rattle.object_names.proofs.NamedLooks.{last_same}
use Rattle.object_names.proofs.NamedLinks.{sinks_same}
use Rattle.object_names.proofs.NamedMembers.{written_default_names, library_names, bound_at_names}
use Rattle.object_names.proofs.NamedObjects.{first_plain, made_names, own_object_names, made_for_names, stored_made_names, raised_same, path_to_named, place_at_names, member_there_names, named_there_names, member_assigned_names, assigned_at_names, item_assigned_names, member_not_set_names}
use Rattle.object_names.proofs.NamedUses.{Plain, slot_values_named, packed_named, index_along_names, write_along_names, enumerator_names}
use Rattle.object_names.proofs.NamedLate.{in_order_named, late_there_names, value_bound_names, let_element_names, element_set_names, late_let_names, late_set_names}
use Rattle.object_names.proofs.NamedRest.{here_same, procedure_same, err_is, failed_same, taken_same, me_same, err_named, condition_names, show_names, between_names, policy_names, handler_names, err_off_names, resumed_names, stop_names, with_taken_same, at_statement_same, public_names, all_received, reordered_named, result_same, frame_left_same, left_same, next_same, taken_off_same, as_told_same, fields_many, gone_same, old_many, closed_same}
use Rattle.object_names.proofs.NamedMoves.{Moves, with_same, turned_same, goes_at, goes_to, goes_letting, goes_failing, ends_with, sticks, tells_both, turns_both, either, either_by, raises_names, raised_names, done_names, push_names, push_path_names, at_names, let_go_names, test_names, lets_names, lets_all_names, finishes_names, jump_names, branch_names, pops_names, pops_path_names, takes_names, pushed_named, enter_names, calls_names, delivers_names, delivers_to, changes_names, resumes_names, uses_names, gives_way_names, gives_way_if_names, base_named, binds_names, places_names, member_names, calls_late_names, initializes_names}

module _ (r : ℕ → ℕ) (code : Code) (plainness : (p : ℕ) → Plain r (parameters_of code.declared p)) where
  abbrev nv : Val → Val
  nv v = value_named r v

  abbrev np : Path → Path
  np p = path_named r p

  abbrev ns : List Slot → List Slot
  ns xs = slots_named r xs

  abbrev nb : List Back → List Back
  nb bs = backs_named r bs

  abbrev d : Declarations
  d = code.declared

  -- ---- operands of instructions

  -- what a function of values does with the values of slots
  of_slots : {A : Type 0} {f : A → A} (x y : List Val → Effect A) (xs : List Slot) → ((vs : List Val) → Names r f (x vs) (y (values_named r vs))) → Names r f (x (slot_values xs)) (y (slot_values (ns xs)))
  of_slots {f = f} x y xs h = subst (λ vs. Names r f (x (slot_values xs)) (y vs)) (sym (slot_values_named r xs)) (h (slot_values xs))

  of_received : {A : Type 0} {f : A → A} (x y : List Slot → Effect A) (xs : List Slot) → ((zs : List Slot) → Names r f (x zs) (y (ns zs))) → Names r f (x (map received xs)) (y (map received (ns xs)))
  of_received {f = f} x y xs h = subst (λ zs. Names r f (x (map received xs)) (y zs)) (sym (all_received r xs)) (h (map received xs))

  of_base : {A : Type 0} {f : A → A} (x y : Val → Effect A) (i : ℕ) (st : List Slot) → ((v : Val) → Names r f (x v) (y (nv v))) → Names r f (x (base_below i st)) (y (base_below i (ns st)))
  of_base {f = f} x y i st h = subst (λ v. Names r f (x (base_below i st)) (y v)) (sym (base_named r code plainness i st)) (h (base_below i st))

  initialize_blind : (q : Path) (v : Val) → initialize_of d (np q) (nv v) ≡ initialize_of d q v
  initialize_blind q empty = refl
  initialize_blind q (object o) = refl
  initialize_blind q v = refl

  statement_names : {e g : Effect ℕ} (p : ℕ) (bs : List Back) {s t : State} → Names r plainly e g → SameState r s t → Moves r (done_then e bs s (then_statement code p bs)) (done_then g (nb bs) t (then_statement code p (nb bs)))
  statement_names p bs a k = done_names r bs {x = then_statement code p bs} (then_statement code p (nb bs)) a k (λ i s1 t1 k1. finishes_names r (entry_of code p i) bs k1)

  source_named : (v : Val) → source_of (nv v) ≡ reference_named r (source_of v)
  source_named (object o) = refl
  source_named v = refl

  member_slots : {s t : State} (name : List ℕ) (v w : Val) (vs ws : List Val) (pc : ℕ) (st : List Slot) (bs : List Back) → ws ≡ values_named r vs → SameState r s t
      → Moves r (uses_member code name v w vs pc st bs s) (uses_member code name (nv v) (nv w) ws pc (ns st) (nb bs) t)
  member_slots {s = s} {t = t} name v w vs ws pc st bs e k =
      subst (λ us. Moves r (uses_member code name v w vs pc st bs s) (uses_member code name (nv v) (nv w) us pc (ns st) (nb bs) t)) (sym e)
      (member_names r code plainness name v w vs pc st bs k)

  -- ---- one instruction

  pub act_names : {s t : State} (x : Option Instr) (pc : ℕ) (st : List Slot) (bs : List Back) → ((v : Val) → x ≡ Some (Push v) → nv v ≡ v) → SameState r s t → Moves r (act looking code x pc st bs s) (act looking code x pc (ns st) (nb bs) t)
  act_names None pc st bs h k = sticks r
  act_names (Some (Begin i)) pc st bs h k = turns_both r k (goes_at r (pc + 1) st bs (with_same r (turned_same r k) (at_statement_same r i k.memory)))
  act_names (Some (Push v)) pc st bs h k = goes_to r (pc + 1) (value v ∷ st) (value v ∷ ns st) bs (ap (λ w. value w ∷ ns st) (sym (h v refl))) k
  act_names {s = s} {t = t} (Some (LoadErr member)) pc st bs h k =
      goes_to r (pc + 1) (value (err_of d member s.memory.err) ∷ st) (value (err_of d member t.memory.err) ∷ ns st) bs (ap (λ w. value w ∷ ns st) (ap (λ e. err_of d member e) (err_is r k.memory) ∙ sym (err_named r d member s.memory.err))) k
  act_names {s = s} {t = t} (Some (PathOf x)) pc st bs h k = goes_to r (pc + 1) (path (path_of s.memory x) ∷ st) (path (path_of t.memory x) ∷ ns st) bs (ap (λ q. path q ∷ ns st) (path_of_same r x k.memory)) k
  act_names (Some ReadThrough) pc st bs h k = pops_path_names r st _ (λ q st1. push_names r (pc + 1) st1 bs (read_path_names r q k.memory) k)
  act_names {s = s} {t = t} (Some (ElementOf j)) pc st bs h k =
      pops_path_names r st _ (λ q st1. takes_names r j st1 _ (λ xs st2. push_path_names r (pc + 1) st2 bs (of_slots (λ vs. place_at q vs s.memory) (λ vs. place_at (np q) vs t.memory) xs (λ vs. place_at_names r q vs k.memory)) k))
  act_names {s = s} {t = t} (Some (ElementIn j)) pc st bs h k =
      takes_names r j st _ (λ xs st1. pops_path_names r st1 _ (λ q st2. push_path_names r (pc + 1) st2 bs (of_slots (λ vs. place_at q vs s.memory) (λ vs. place_at (np q) vs t.memory) xs (λ vs. place_at_names r q vs k.memory)) k))
  act_names (Some (FieldOf i of bounded)) pc st bs h k = pops_path_names r st _ (λ q st1. goes_at r (pc + 1) (path (field_path q i of bounded) ∷ st1) bs k)
  act_names (Some (Dot i)) pc st bs h k = push_path_names r (pc + 1) st bs (dot_at_names r i k.memory) k
  act_names {s = s} {t = t} (Some (Index j)) pc st bs h k =
      takes_names r j st _ (λ xs st1. pops_names r st1 _ (λ v st2. push_names r (pc + 1) st2 bs (of_slots (λ vs. item_by v vs s.memory) (λ vs. item_by (nv v) vs t.memory) xs (λ vs. item_names r v vs k.memory)) k))
  act_names (Some (PartOf i)) pc st bs h k = pops_names r st _ (λ v st1. push_names r (pc + 1) st1 bs (part_of_names r i v k.memory) k)
  act_names (Some (Operate o compare l u)) pc st bs h k = pops_names r st _ (λ w st1. pops_names r st1 _ (λ v st2. push_names r (pc + 1) st2 bs (operated_names r o compare l u v w k.memory) k))
  act_names (Some (OperateAlone o of)) pc st bs h k = pops_names r st _ (λ v st1. push_names r (pc + 1) st1 bs (operated_alone_names r o of v k.memory) k)
  act_names (Some instr.Plain) pc st bs h k = pops_names r st _ (λ v st1. gives_way_names r code plainness v (pc + 1) st1 bs k)
  act_names (Some (PushHost reference)) pc st bs h k = goes_at r (pc + 1) (value (object (Host reference)) ∷ st) bs k
  act_names (Some FirstSheet) pc st bs h k = push_names r (pc + 1) st bs (first_sheet_names r k.memory) k
  act_names (Some (MemberThere name j)) pc st bs h k = pops_names r st _ (λ v st1. push_names r (pc + 1) (value v ∷ st1) bs (member_there_names r d name j v k.memory) k)
  act_names (Some (MemberOf name j)) pc st bs h k =
      takes_names r j st _ (λ xs st1. pops_names r st1 _ (λ w st2. pops_names r st2 _ (λ v st3. member_slots name v w (slot_values xs) (slot_values (ns xs)) (pc + 1) st3 bs (slot_values_named r xs) k)))
  act_names (Some (NamedThere name how j)) pc st bs h k = pops_names r st _ (λ v st1. push_names r (pc + 1) (value v ∷ st1) bs (named_there_names r name how j v k.memory) k)
  act_names (Some (NamedOf name how j)) pc st bs h k =
      takes_names r j st _ (λ xs st1. pops_names r st1 _ (λ w st2. pops_names r st2 _ (λ v st3.
      member_slots name v w (in_parameter_order v name how (slot_values xs)) (in_parameter_order (nv v) name how (slot_values (ns xs))) (pc + 1) st3 bs
      (ap (λ vs. in_parameter_order (nv v) name how vs) (slot_values_named r xs) ∙ in_order_named r v name how (slot_values xs)) k)))
  act_names {s = s} {t = t} (Some (StoreMember name j)) pc st bs h k =
      takes_names r j st _ (λ xs st1. pops_names r st1 _ (λ x st2. pops_names r st2 _ (λ w st3. pops_names r st3 _ (λ v st4.
      changes_names r code plainness (pc + 1) st4 bs (of_slots (λ vs. member_assigned d name vs w x v s.memory) (λ vs. member_assigned d name vs (nv w) (nv x) (nv v) t.memory) xs (λ vs. member_assigned_names r d name vs w x v k.memory)) k))))
  act_names (Some PlainIfAny) pc st bs h k = pops_names r st _ (λ v st1. gives_way_if_names r code plainness v (pc + 1) st1 bs k)
  act_names {s = s} {t = t} (Some (Library f text_form compare base j)) pc st bs h k =
      takes_names r j st _ (λ xs st1. push_names r (pc + 1) st1 bs
      (of_slots (λ vs. library_called d f text_form compare base vs s.memory) (λ vs. library_called d f text_form compare base vs t.memory) xs (λ vs. library_names r d f text_form compare base vs k.memory)) k)
  act_names (Some (BoundAt upper z)) pc st bs h k = pops_path_names r st _ (λ q st1. push_names r (pc + 1) st1 bs (bound_at_names r upper z q k.memory) k)
  act_names (Some PushThis) pc st bs h k = push_names r (pc + 1) st bs (own_object_names r k.memory) k
  act_names (Some (New c)) pc st bs h k =
      done_names r bs {x = λ v s1. initializes code (class_at d c).initialize v (pc + 1) st bs s1} (λ v s1. initializes code (class_at d c).initialize v (pc + 1) (ns st) (nb bs) s1) (made_names r d c k.memory) k
      (λ v s1 t1 k1. initializes_names r code plainness (class_at d c).initialize (class_at d c).initialize v (pc + 1) st bs refl k1)
  act_names (Some ObjectThere) pc st bs h k = pops_names r st _ (λ v st1. push_names r (pc + 1) st1 bs (object_there_names r v k.memory) k)
  act_names (Some (FieldIn i of bounded)) pc st bs h k = pops_names r st _ (λ v st1. push_path_names r (pc + 1) st1 bs (field_in_names r i of bounded v k.memory) k)
  act_names (Some (AsNew c)) pc st bs h k = pops_path_names r st _ (λ q st1. goes_at r (pc + 1) (path (made_at c q) ∷ st1) bs k)
  act_names (Some MakeThere) pc st bs h k =
      pops_path_names r st _ (λ q st1. done_names r bs {x = λ v s1. initializes code (initialize_of d q v) v (pc + 1) (path q ∷ st1) bs s1} (λ v s1. initializes code (initialize_of d (np q) v) v (pc + 1) (path (np q) ∷ ns st1) (nb bs) s1)
      (made_for_names r d q k.memory) k (λ v s1 t1 k1. initializes_names r code plainness (initialize_of d q v) (initialize_of d (np q) (nv v)) v (pc + 1) (path q ∷ st1) bs (initialize_blind q v) k1))
  act_names (Some StoreMade) pc st bs h k = pops_names r st _ (λ v st1. pops_path_names r st1 _ (λ q st2. at_names r (pc + 1) (path q ∷ st2) bs (stored_made_names r q v k.memory) k))
  act_names (Some (FindLate aim name how gs)) pc st bs h k = pops_names r st _ (λ v st1. uses_names r code plainness false (pc + 1) (value v ∷ st1) bs (late_there_names r d plainness aim name how gs v k.memory) k)
  act_names {s = s} {t = t} (Some (BindValue aim name how gs i)) pc st bs h k =
      pops_names r st _ (λ v st1. uses_names r code plainness false (pc + 1) st1 bs
      (of_base (λ b. value_bound d aim name how gs i b v s.memory) (λ b. value_bound d aim name how gs i b (nv v) t.memory) i st1 (λ b. value_bound_names r d plainness aim name how gs i b v k.memory)) k)
  act_names (Some (BindPlace aim name how gs i)) pc st bs h k = pops_path_names r st _ (λ q st1. binds_names r code plainness aim name how gs i q (pc + 1) st1 bs k)
  act_names (Some (CallLate name how gs)) pc st bs h k =
      takes_names r (length gs) st _ (λ xs st1. pops_names r st1 _ (λ w st2. pops_names r st2 _ (λ v st3. calls_late_names r code plainness name how gs v w xs (pc + 1) st3 bs k)))
  act_names {s = s} {t = t} (Some (LetLate name how gs)) pc st bs h k =
      takes_names r (length gs) st _ (λ xs st1. pops_names r st1 _ (λ x st2. pops_names r st2 _ (λ w st3. pops_names r st3 _ (λ v st4. uses_names r code plainness false (pc + 1) st4 bs
      (of_received (λ zs. late_let d name how gs w x zs v s.memory) (λ zs. late_let d name how gs (nv w) (nv x) zs (nv v) t.memory) xs (λ zs. late_let_names r d plainness name how gs w x zs v k.memory)) k))))
  act_names {s = s} {t = t} (Some (SetLate name how gs)) pc st bs h k =
      takes_names r (length gs) st _ (λ xs st1. pops_names r st1 _ (λ x st2. pops_names r st2 _ (λ w st3. pops_names r st3 _ (λ v st4. uses_names r code plainness false (pc + 1) st4 bs
      (of_received (λ zs. late_set d name how gs w x zs v s.memory) (λ zs. late_set d name how gs (nv w) (nv x) zs (nv v) t.memory) xs (λ zs. late_set_names r d plainness name how gs w x zs v k.memory)) k))))
  act_names {s = s} {t = t} (Some (ItemAlong j)) pc st bs h k =
      takes_names r j st _ (λ xs st1. pops_names r st1 _ (λ v st2. uses_names r code plainness false (pc + 1) st2 bs
      (of_slots (λ vs. index_along d most_passed vs v s.memory) (λ vs. index_along d most_passed vs (nv v) t.memory) xs (λ vs. index_along_names r d plainness most_passed vs v k.memory)) k))
  act_names (Some WriteThrough) pc st bs h k = pops_names r st _ (λ w st1. pops_names r st1 _ (λ v st2. uses_names r code plainness false (pc + 1) st2 bs (write_along_names r d plainness most_passed v w k.memory) k))
  act_names {s = s} {t = t} (Some (LetElement j)) pc st bs h k =
      takes_names r j st _ (λ xs st1. pops_path_names r st1 _ (λ q st2. pops_names r st2 _ (λ v st3. uses_names r code plainness false (pc + 1) st3 bs
      (of_slots (λ vs. let_element d q vs v s.memory) (λ vs. let_element d (np q) vs (nv v) t.memory) xs (λ vs. let_element_names r d plainness q vs v k.memory)) k)))
  act_names {s = s} {t = t} (Some (SetElement j)) pc st bs h k =
      takes_names r j st _ (λ xs st1. pops_path_names r st1 _ (λ q st2. pops_names r st2 _ (λ v st3. uses_names r code plainness false (pc + 1) st3 bs
      (of_slots (λ vs. element_set d q vs v s.memory) (λ vs. element_set d (np q) vs (nv v) t.memory) xs (λ vs. element_set_names r d plainness q vs v k.memory)) k)))
  act_names (Some (ElementAlong j)) pc st bs h k = takes_names r j st _ (λ xs st1. pops_path_names r st1 _ (λ q st2. places_names r code plainness q xs (pc + 1) st2 bs k))
  act_names (Some (LateField name)) pc st bs h k = pops_names r st _ (λ v st1. push_path_names r (pc + 1) st1 bs (public_names r d name v k.memory) k)
  act_names (Some Enumerate) pc st bs h k = pops_names r st _ (λ v st1. uses_names r code plainness false (pc + 1) st1 bs (enumerator_names r d plainness v k.memory) k)
  act_names (Some PlaceOf) pc st bs h k = pops_names r st _ (λ v st1. goes_to r (pc + 1) (path (path_to v) ∷ st1) (path (path_to (nv v)) ∷ ns st1) bs (ap (λ q. path q ∷ ns st1) (path_to_named r v)) k)
  act_names (Some instr.Same) pc st bs h k = pops_names r st _ (λ w st1. pops_names r st1 _ (λ v st2. push_names r (pc + 1) st2 bs (compared_names r v w k.memory) k))
  act_names (Some (IsType of)) pc st bs h k = pops_names r st _ (λ v st1. push_names r (pc + 1) st1 bs (typed_as_names r of v k.memory) k)
  act_names (Some (FitObject of)) pc st bs h k = pops_names r st _ (λ v st1. push_names r (pc + 1) st1 bs (set_object_names r of v k.memory) k)
  act_names (Some (Fit of)) pc st bs h k = pops_names r st _ (λ v st1. push_names r (pc + 1) st1 bs (fitted_names r of v k.memory) k)
  act_names (Some Drop) pc st bs h k = pops_names r st _ (λ v st1. goes_at r (pc + 1) st1 bs k)
  act_names (Some Lend) pc st bs h k = pops_path_names r st _ (λ q st1. at_names r (pc + 1) (path q ∷ st1) bs (lent_names r q k.memory) k)
  act_names (Some (Pack j)) pc st bs h k = takes_names r j st _ (λ xs st1. goes_to r (pc + 1) (value (packed xs) ∷ st1) (value (packed (ns xs)) ∷ ns st1) bs (ap (λ v. value v ∷ ns st1) (packed_named r xs)) k)
  act_names (Some (Reorder order j)) pc st bs h k =
      takes_names r j st _ (λ xs st1. goes_to r (pc + 1) (pushed (reordered order xs) st1) (pushed (reordered order (ns xs)) (ns st1)) bs (ap (λ ys. pushed ys (ns st1)) (reordered_named r order xs) ∙ pushed_named r (reordered order xs) st1) k)
  act_names (Some (Lift j)) pc st bs h k =
      takes_names r j st _ (λ xs st1. pops_names r st1 _ (λ v st2. goes_to r (pc + 1) (value v ∷ pushed xs st2) (value (nv v) ∷ pushed (ns xs) (ns st2)) bs (ap (λ ys. value (nv v) ∷ ys) (pushed_named r xs st2)) k))
  act_names (Some (Call p j)) pc st bs h k = takes_names r j st _ (λ xs st1. calls_names r code plainness p empty xs (pc + 1) st1 bs k)
  act_names (Some (CallOf p j)) pc st bs h k = takes_names r j st _ (λ xs st1. pops_names r st1 _ (λ v st2. calls_names r code plainness p v xs (pc + 1) st2 bs k))
  act_names (Some Store) pc st bs h k = pops_path_names r st _ (λ q st1. pops_names r st1 _ (λ v st2. changes_names r code plainness (pc + 1) st2 bs (assigned_at_names r q v k.memory) k))
  act_names (Some SetAt) pc st bs h k = pops_path_names r st _ (λ q st1. pops_names r st1 _ (λ v st2. at_names r (pc + 1) st2 bs (set_at_names r q v k.memory) k))
  act_names (Some StoreDefault) pc st bs h k = pops_names r st _ (λ w st1. pops_names r st1 _ (λ v st2. changes_names r code plainness (pc + 1) st2 bs (written_default_names r w v k.memory) k))
  act_names {s = s} {t = t} (Some (StoreItem j)) pc st bs h k =
      takes_names r j st _ (λ xs st1. pops_names r st1 _ (λ w st2. pops_names r st2 _ (λ v st3. changes_names r code plainness (pc + 1) st3 bs
      (of_slots (λ vs. item_assigned w vs v s.memory) (λ vs. item_assigned (nv w) vs (nv v) t.memory) xs (λ vs. item_assigned_names r w vs v k.memory)) k)))
  act_names (Some SetMember) pc st bs h k = pops_names r st _ (λ w st1. pops_names r st1 _ (λ v st2. at_names r (pc + 1) st2 bs (member_not_set_names r w k.memory) k))
  act_names {s = s} {t = t} (Some (RaiseEvent e j)) pc st bs h k =
      takes_names r j st _ (λ xs st1. delivers_to r code plainness e xs (sinks (source_of (top s.memory).me) s.memory) (sinks (source_of (top t.memory).me) t.memory) (pc + 1) st1 bs
      (ap (λ v. sinks (source_of v) t.memory) (me_same r k.memory) ∙ ap (λ o. sinks o t.memory) (source_named (top s.memory).me) ∙ sinks_same r (source_of (top s.memory).me) k.memory) k)
  act_names (Some ShowText) pc st bs h k = pops_names r st _ (λ v st1. push_names r (pc + 1) st1 bs (show_names r v k.memory) k)
  act_names (Some (Show ends j)) pc st bs h k = takes_names r j st _ (λ xs st1. at_names r (pc + 1) st1 bs (printed_names r ends xs k.memory) k)
  act_names {s = s} {t = t} (Some (Throw j)) pc st bs h k = takes_names r j st _ (λ xs st1. raised_names r (raised_by xs s.memory) (raised_by (ns xs) t.memory) bs (raised_same r xs k.memory) k)
  act_names (Some (LoopOff i)) pc st bs h k = at_names r (pc + 1) st bs (loop_off_names r i k.memory) k
  act_names (Some (LoopOn x i compare a u)) pc st bs h k =
      pops_names r st _ (λ step st1. pops_names r st1 _ (λ end st2. pops_names r st2 _ (λ start st3. test_names r (pc + 1) st3 bs (loop_on_names r x i compare a u start end step k.memory) k)))
  act_names (Some (NextRound x i)) pc st bs h k = test_names r (pc + 1) st bs (next_round_names r x i k.memory) k
  act_names (Some (EachOff i)) pc st bs h k = at_names r (pc + 1) st bs (each_off_names r i k.memory) k
  act_names (Some (EachOn i)) pc st bs h k = pops_names r st _ (λ v st1. let_go_names r (pc + 1) st1 bs (each_begun_names r i v k.memory) k)
  act_names (Some (NextItem x i)) pc st bs h k = test_names r (pc + 1) st bs (each_next_names r x i k.memory) k
  act_names (Some (Keep i)) pc st bs h k = pops_names r st _ (λ v st1. at_names r (pc + 1) st1 bs (keep_names r i v k.memory) k)
  act_names (Some (Selected i)) pc st bs h k = push_names r (pc + 1) st bs (selected_names r i k.memory) k
  act_names (Some (IfFits o compare of a to)) pc st bs h k = pops_names r st _ (λ w st1. pops_names r st1 _ (λ v st2. jump_names r to (pc + 1) st2 bs (fits_names r o compare of a v w k.memory) k))
  act_names (Some (IfBetween compare of a u to)) pc st bs h k =
      pops_names r st _ (λ y st1. pops_names r st1 _ (λ x st2. pops_names r st2 _ (λ v st3. jump_names r to (pc + 1) st3 bs (between_names r compare of a u v x y k.memory) k)))
  act_names {s = s} {t = t} (Some (Redim preserve of j)) pc st bs h k =
      takes_names r j st _ (λ xs st1. pops_path_names r st1 _ (λ q st2. let_go_names r (pc + 1) st2 bs
      (of_slots (λ vs. redimmed d preserve of q vs s.memory) (λ vs. redimmed d preserve of (np q) vs t.memory) xs (λ vs. redimmed_names r d preserve of q vs k.memory)) k))
  act_names (Some EraseAt) pc st bs h k = pops_path_names r st _ (λ q st1. let_go_names r (pc + 1) st1 bs (erased_names r d q k.memory) k)
  act_names (Some (KeepPath i)) pc st bs h k = pops_path_names r st _ (λ q st1. at_names r (pc + 1) st1 bs (keep_path_names r i q k.memory) k)
  act_names (Some (DropKept i)) pc st bs h k = at_names r (pc + 1) st bs (block_over_names r i k.memory) k
  act_names (Some (PutReturn i)) pc st bs h k = at_names r (pc + 1) st bs (gone_sub_names r i k.memory) k
  act_names (Some (TakeReturn p)) pc st bs h k = statement_names p bs (returned_sub_names r k.memory) k
  act_names (Some (SetPolicy b)) pc st bs h k = at_names r (pc + 1) st bs (policy_names r b k.memory) k
  act_names (Some HandlerOff) pc st bs h k = at_names r (pc + 1) st bs (handler_names r k.memory) k
  act_names (Some ErrOff) pc st bs h k = at_names r (pc + 1) st bs (err_off_names r k.memory) k
  act_names (Some (Again p)) pc st bs h k = statement_names p bs (resumed_names r kind.Again 0 0 refl k.memory) k
  act_names {s = s} {t = t} (Some (Behind p)) pc st bs h k =
      statement_names p bs (resumed_names r kind.Next (next_statement code p (failed_statement s.memory)) (next_statement code p (failed_statement t.memory)) (ap (λ i. next_statement code p i) (failed_same r k.memory)) k.memory) k
  act_names (Some (Resumes p to)) pc st bs h k = statement_names p bs (resumed_names r (kind.Label (record { 0 = to })) 0 0 refl k.memory) k
  act_names (Some (Finish to)) pc st bs h k = finishes_names r to bs k
  act_names (Some (Branch sense to other)) pc st bs h k = pops_names r st _ (λ v st1. branch_names r to other bs (condition_names r sense v k.memory) k)
  act_names (Some Halt) pc st bs h k = ends_with r Ended Ended refl k
  act_names (Some StopHere) pc st bs h k = at_names r {f = plainly} (pc + 1) st bs (stop_names r k.memory) k
  act_names (Some Leave) pc st bs h k = lets_all_names r Return bs k

  -- ---- letting go

  finished_names : {s t : State} (o j : ℕ) (after : After) (bs : List Back) → SameState r s t → Moves r (finished_by looking o j after bs s) (finished_by looking (r o) j (after_named r after) (nb bs) t)
  finished_names {s = s} {t = t} o j after bs k =
      either_by r (is_last s.memory o) (is_last t.memory (r o)) (last_same r o k.memory)
      (goes_letting r (length (objects_in_values (object_at s.memory o).fields) + j) (length (objects_in_values (object_at t.memory (r o)).fields) + j) after bs (ap (λ i. i + j) (fields_many r o k.memory)) (with_same r k (gone_same r o k.memory)))
      (goes_letting r j j after bs refl k)

  terminates_names : {s t : State} (p : Option ℕ) (o j : ℕ) (after : After) (bs : List Back) → SameState r s t → Moves r (terminates_by looking code p o j after bs s) (terminates_by looking code p (r o) j (after_named r after) (nb bs) t)
  terminates_names None o j after bs k = finished_names o j after bs k
  terminates_names {s = s} {t = t} (Some p) o j after bs k =
      enter_names r code plainness false p (object (Heap (record { 0 = o }))) [] (EndOf o j after ∷ bs) k
      (raises_names r (error_here 28 s.memory) (error_here 28 t.memory) (λ s1. Ends (Faulted (error_here 28 s.memory)) s1) (λ s1. Ends (Faulted (error_here 28 t.memory)) s1) (here_same r 28 k.memory) k
      (λ s1 t1 k1. ends_with r (Faulted (error_here 28 s.memory)) (Faulted (error_here 28 t.memory)) (ap (λ e. Faulted e) (here_same r 28 k.memory)) k1))

  ends_here : {s t : State} (b : Object) (o j : ℕ) (after : After) (bs : List Back) → SameState r s t → Moves r (ends_by looking code b o j after bs s) (ends_by looking code (object_named r b) (r o) j (after_named r after) (nb bs) t)
  ends_here b o j after bs k =
      either r b.told (finished_names o j after bs k) (tells_both r (Term b.class o ∷ []) (Term b.class (r o) ∷ []) refl (terminates_names (class_at d b.class).terminate o j after bs k))

  ends_to : {s t : State} (b c : Object) (o j : ℕ) (after : After) (bs : List Back) → c ≡ object_named r b → SameState r s t → Moves r (ends_by looking code b o j after bs s) (ends_by looking code c (r o) j (after_named r after) (nb bs) t)
  ends_to {s = s} {t = t} b c o j after bs e k = subst (λ x. Moves r (ends_by looking code b o j after bs s) (ends_by looking code x (r o) j (after_named r after) (nb bs) t)) (sym e) (ends_here b o j after bs k)

  one_here : {s t : State} (o j : ℕ) (after : After) (bs : List Back) → SameState r s t → Moves r (lets_one_by looking code o j after bs s) (lets_one_by looking code (r o) j (after_named r after) (nb bs) t)
  one_here {s = s} {t = t} o j after bs k =
      either_by r (is_last s.memory o) (is_last t.memory (r o)) (last_same r o k.memory)
      (turns_both r k (ends_to (object_at s.memory o) (object_at t.memory (r o)) o j after bs (object_at_same r o k.memory) (with_same r (turned_same r k) (as_told_same r o k.memory))))
      (goes_letting r j j after bs refl k)

  one_names : {s t : State} (o p j : ℕ) (after : After) (bs : List Back) → p ≡ r o → SameState r s t → Moves r (lets_one_by looking code o j after bs s) (lets_one_by looking code p j (after_named r after) (nb bs) t)
  one_names {s = s} {t = t} o p j after bs e k = subst (λ x. Moves r (lets_one_by looking code o j after bs s) (lets_one_by looking code x j (after_named r after) (nb bs) t)) (sym e) (one_here o j after bs k)

  -- ---- frames that are left

  closing_names : {s t : State} (vs : List Val) (g : ℕ) → SameState r s t → Moves r (closing vs g s) (closing (values_named r vs) g t)
  closing_names [] g k = ends_with r Ended Ended refl k
  closing_names {s = s} {t = t} (v ∷ vs) g k =
      goes_letting r (length (objects_in (slice_index_or s.memory.shared g empty))) (length (objects_in (slice_index_or t.memory.shared g empty))) (Close vs (g + 1)) [] (old_many r g k.memory) (with_same r k (closed_same r g v k.memory))

  returned_names : {s t : State} (bs : List Back) (v : Val) → SameState r s t → Moves r (returned_by looking code bs v s) (returned_by looking code (nb bs) (nv v) t)
  returned_names {s = s} {t = t} [] v k =
      subst (λ vs. Moves r (closing (first_values d d.shared) 0 s) (closing vs 0 t)) (first_plain r d d.shared) (closing_names (first_values d d.shared) 0 k)
  returned_names (Caller ret st ∷ bs) v k = goes_at r ret (value v ∷ st) bs (with_same r k (hold_same r v k.memory))
  returned_names (EndOf o j after ∷ bs) v k = finished_names o j after bs k
  returned_names (Within b j ts pc st ∷ bs) v k = resumes_names r code plainness b j ts pc st bs v (with_same r k (hold_same r v k.memory))
  returned_names (Delivering e xs ls ret st ∷ bs) v k = delivers_names r code plainness e xs ls ret st bs (with_same r k (hold_same r v k.memory))

  returned_to : {s t : State} (bs : List Back) (v w : Val) → w ≡ nv v → SameState r s t → Moves r (returned_by looking code bs v s) (returned_by looking code (nb bs) w t)
  returned_to {s = s} {t = t} bs v w e k = subst (λ x. Moves r (returned_by looking code bs v s) (returned_by looking code (nb bs) x t)) (sym e) (returned_names bs v k)

  passed_names : {s t : State} (bs : List Back) (e : Error) → SameState r s t → Moves r (passed_on bs e s) (passed_on (nb bs) e t)
  passed_names [] e k = ends_with r (Faulted e) (Faulted e) refl k
  passed_names (Caller ret st ∷ bs) e k = goes_failing r e bs k
  passed_names (EndOf o j after ∷ bs) e k = ends_with r (Faulted e) (Faulted e) refl k
  passed_names (Within b j ts pc st ∷ bs) e k = goes_failing r e bs k
  passed_names (Delivering event xs ls ret st ∷ bs) e k = goes_failing r e bs k

  next_by_same : {m n : Memory} → Same r m n → next_by code n ≡ next_by code m
  next_by_same k = ap (λ f. next_statement code f.procedure (memory.number_or f.statement)) (top_same r k)

  goes_entry : {s t : State} (p q i : ℕ) (bs : List Back) → q ≡ p → SameState r s t → Moves r (Goes (at (entry_of code p i) [] bs s)) (Goes (at (entry_of code q i) [] (nb bs) t))
  goes_entry {s = s} {t = t} p q i bs e k = subst (λ x. Moves r (Goes (at (entry_of code p i) [] bs s)) (Goes (at (entry_of code x i) [] (nb bs) t))) (sym e) (goes_at r (entry_of code p i) [] bs k)

  takes_taken : {s t : State} (e : Error) (x : Taken) (bs : List Back) → SameState r s t → Moves r (takes code e x bs s) (takes code e x (nb bs) t)
  takes_taken {s = s} {t = t} e (taken.Next to) bs k = goes_entry (top s.memory).procedure (top t.memory).procedure to.0 bs (procedure_same r k.memory) (with_same r k (with_taken_same r e (taken.Next to) k.memory))
  takes_taken {s = s} {t = t} e (taken.Handler to) bs k = goes_entry (top s.memory).procedure (top t.memory).procedure to.0 bs (procedure_same r k.memory) (with_same r k (with_taken_same r e (taken.Handler to) k.memory))
  takes_taken e taken.PassOn bs k = lets_all_names r (Pass e) bs k

  decides_names : {s t : State} (e : Error) (bs : List Back) → SameState r s t → Moves r (decides code e bs s) (decides code e (nb bs) t)
  decides_names {s = s} {t = t} e bs k =
      subst (λ x. Moves r (decides code e bs s) (takes code e x (nb bs) t)) (sym (ap (λ i. taken_by i t.memory) (next_by_same k.memory) ∙ taken_same r (next_by code s.memory) k.memory)) (takes_taken e (taken_by (next_by code s.memory) s.memory) bs k)

  comes_names : {s t : State} (after : After) (bs : List Back) → SameState r s t → Moves r (comes_by looking code after bs s) (comes_by looking code (after_named r after) (nb bs) t)
  comes_names (Goes-on pc) bs k = goes_at r pc [] bs k
  comes_names (Decide e) bs k = decides_names e bs k
  comes_names (Back-to pc st) bs k = goes_at r pc st bs k
  comes_names {s = s} {t = t} Return bs k = returned_to bs (result s.memory) (result t.memory) (result_same r k.memory) (with_same r k (frame_left_same r k.memory))
  comes_names (Pass e) bs k = passed_names bs e (with_same r k (left_same r k.memory))
  comes_names (Close vs g) bs k = closing_names vs g k

  -- ---- one step

  module _ (constants : (pc : ℕ) (v : Val) → slice_get code.instrs pc ≡ Some (Push v) → nv v ≡ v) where
    on_names : {s t : State} (mode : Mode) (st : List Slot) (bs : List Back) → SameState r s t → Moves r (go_on_by looking code mode st bs s) (go_on_by looking code (mode_named r mode) (ns st) (nb bs) t)
    on_names (At pc) st bs k = act_names (slice_get code.instrs pc) pc st bs (λ v e. constants pc v e) k
    on_names (Failing e) st bs k = lets_names r (Decide e) bs (with_same r k (unlent_same r k.memory))
    on_names (Letting zero after) st bs k = comes_names after bs k
    on_names {s = s} {t = t} (Letting (suc j) after) st bs k =
        one_names (next_waiting s.memory.waiting) (next_waiting t.memory.waiting) j after bs (next_same r k.memory) (with_same r k (taken_off_same r k.memory))

    pub step_names : (c e : Config) → SameConfig r c e → Moves r (step code c) (step code e)
    step_names c e k =
        subst (λ mode. Moves r (step code c) (go_on_by looking code mode e.stack e.backs e.state)) (sym k.mode)
        (subst (λ st. Moves r (step code c) (go_on_by looking code (mode_named r c.mode) st e.backs e.state)) (sym k.stack)
        (subst (λ bs. Moves r (step code c) (go_on_by looking code (mode_named r c.mode) (ns c.stack) bs e.state)) (sym k.backs) (on_names c.mode c.stack c.backs k.state)))
