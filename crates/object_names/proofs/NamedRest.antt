-- The rest of what steps do under other names: errors, arguments, calls, references that are let go, objects that end.
use Rattle.std.proofs.Common.{◌≡◌, ℕ, Bool, true, false, List, [], ◌∷◌, ◌++◌, length, map, Option, Some, None, Result, Ok, Err, pos, refl, sym, ap, ◌∙◌, subst}
use Rattle.std.specs.Prelude.{◌&&◌, if◌then◌else◌, slice_get, slice_index_or, slice_set}
use Rattle.std.proofs.lemmas.List.{map-append, length-map}
use Rattle.vba_values.specs.declared.fault.Bad.{Bad}
use Rattle.vba_values.specs.declared.fault.Bad.TheVariants.{Raise, Outside}
use Rattle.vba_values.specs.declared.object.HostRef.TheVariants as host
use Rattle.vba_values.specs.declared.object.ObjRef.TheVariants.{Nothing, Heap, Host}
use Rattle.vba_values.specs.declared.types.Compare.{Compare}
use Rattle.vba_values.specs.declared.types.OpKind.TheVariants as op
use Rattle.vba_values.specs.declared.types.WholeKind.TheVariants as kind
use Rattle.vba_values.specs.Types.{Declared}
use Rattle.vba_values.specs.Coerce.{to_boolean}
use Rattle.vba_values.specs.Val.{Val, empty, missing, null, whole, currency, boolean, text, object}
use Rattle.sheet_host.specs.Reading.{area_value}
use Rattle.error_frames.specs.declared.frame.At.{At}
use Rattle.error_frames.specs.declared.frame.Policy.{Policy}
use Rattle.error_frames.specs.declared.frame.ResumeKind.{ResumeKind}
use Rattle.error_frames.specs.declared.frame.Taken.{Taken}
use Rattle.error_frames.specs.Decision.{decision, after_take}
use Rattle.error_frames.specs.Resume as resumption
use Rattle.bound_project.specs.Expressions.{ErrMember, err_number, err_source, err_description}
use Rattle.bound_project.specs.Project.{Declarations, Member, is_variable, is_procedure, is_property, Procedure, procedure_at, first_value, first_values, types_of, field_of}
use Rattle.vba_meaning.specs.Paths.{Root, in_frame, in_project, in_fields, in_block, in_object, in_item, Step, Path}
use Rattle.vba_meaning.specs.Memory.{Error, Slot, value, path, Kept, Frame, no_frame, Object, Memory, top, rest, without_paths, calling, received, own_slots, entered, result, value_or_empty, value_in, frame_left, at_statement, error_here, no_error, number_or, paths_in_slots, object_at, with_object}
use Rattle.vba_meaning.specs.References.{objects_in, objects_in_slot, objects_in_slots, objects_kept, kept_value, objects_in_values, next_waiting, taken_off, let_held, held_by, without_values, but_result, emptied, let_frame, as_told, gone, closed}
use Rattle.vba_meaning.specs.Effects.{Fine, on_fine, answered, as_told_by, is_true, condition, shown_text, shown_by, show_value, fits_between, err_of, err_off, policy_on, handler_off, failed_or, failed_statement, resumed_by, resumed, taken_by, with_taken, at_number, stop_here, reordered, area_in}
use Rattle.vba_meaning.specs.Events.{lent_again, raise_over, no_change}
use Rattle.vba_meaning.specs.Library.{plain_if_any}
use Rattle.vba_meaning.specs.Defaults.{is_instance, class_of_value}
use Rattle.vba_meaning.specs.LateBound.{member_named, variable_named, public_variable}
use Rattle.vba_meaning.specs.Meaning.{left}
use Rattle.object_lives.proofs.Values.{area_value_in, field_initial_free}
use Rattle.object_names.specs.Names.{value_named, values_named, path_named, slot_named, slots_named, kept_named, frame_named, under}
use Rattle.object_names.specs.Renamed.{Fit, Same}
use Rattle.object_names.proofs.NamedValues.{free_named, free_answer, text_blind, boolean_blind, objects_named, objects_values_named}
use Rattle.object_names.proofs.Matched.{matches_put, keyed_gone}
use Rattle.object_names.proofs.NamedMemory.{set_named, rest_map, same_by, item_value_named, value_of_kept_named, object_at_named, object_put}
use Rattle.object_names.proofs.Named.{plainly, Names, fine, bad, out, then_named, answered_named, answered_same}
use Rattle.object_names.proofs.NamedVariables.{book_same, object_at_same, operated_names, true_blind}
use Rattle.object_names.proofs.NamedEffects.{top_same, top_by, hold_to, err_same}
use Rattle.object_names.proofs.NamedArrays.{waits_to}
use Rattle.object_names.proofs.NamedItems.{nth_map}
use Rattle.object_names.proofs.NamedObjects.{first_plain}
use Rattle.object_names.proofs.NamedUses.{instance_same, class_value_same, variable_same}

module _ (r : ℕ → ℕ) where
  abbrev nv : Val → Val
  nv v = value_named r v

  abbrev np : Path → Path
  np p = path_named r p

  -- ---- what is the same

  abbrev error_at : ℕ → Frame → Error
  error_at j f = record { number = pos j; source = None; description = None; procedure = f.procedure; statement = f.statement }

  pub here_same : {m n : Memory} (j : ℕ) → Same r m n → error_here j n ≡ error_here j m
  here_same j k = ap (λ f. error_at j f) (top_same r k)

  pub procedure_same : {m n : Memory} → Same r m n → (top n).procedure ≡ (top m).procedure
  procedure_same k = ap (λ f. f.procedure) (top_same r k)

  pub statement_same : {m n : Memory} → Same r m n → (top n).statement ≡ (top m).statement
  statement_same k = ap (λ f. f.statement) (top_same r k)

  pub err_is : {m n : Memory} → Same r m n → n.err ≡ m.err
  err_is k = ap (λ x. x.err) k.is

  pub changed_same : {m n : Memory} → Same r m n → n.changed ≡ m.changed
  changed_same k = ap (λ x. x.changed) k.is

  pub failed_same : {m n : Memory} → Same r m n → failed_statement n ≡ failed_statement m
  failed_same k = ap (λ f. failed_or f.errors.failed) (top_same r k)

  pub taken_same : {m n : Memory} (next : ℕ) → Same r m n → taken_by next n ≡ taken_by next m
  taken_same next k = ap (λ f. decision f.errors.policy f.errors.active (at_number next)) (top_same r k)

  pub me_same : {m n : Memory} → Same r m n → (top n).me ≡ nv (top m).me
  me_same k = ap (λ f. f.me) (top_same r k)

  pub depth_same : {m n : Memory} → Same r m n → length n.frames ≡ length m.frames
  depth_same {m = m} k = ap (λ x. length x.frames) k.is ∙ length-map m.frames (λ f. frame_named r f)

  pub err_named : (d : Declarations) (x : ErrMember) (e : Error) → nv (err_of d x e) ≡ err_of d x e
  err_named d err_number e = refl
  err_named d err_source e = refl
  err_named d err_description e = refl

  -- ---- tests and texts

  by_boolean : {m n : Memory} (sense : Bool) (v : Val) → Same r m n
      → Names r plainly (on_fine (answered (to_boolean v) m) (λ b m1. Fine (as_told_by sense (is_true b)) m1)) (on_fine (answered (to_boolean (nv v)) n) (λ b m1. Fine (as_told_by sense (is_true b)) m1))
  by_boolean sense v k = then_named r _ (answered_same r (to_boolean v) (to_boolean (nv v)) (boolean_blind r v) k) (λ b m1 n1 k1. fine r refl k1)

  pub condition_names : {m n : Memory} (sense : Bool) (v : Val) → Same r m n → Names r plainly (condition sense v m) (condition sense (nv v) n)
  condition_names sense (boolean b) k = fine r refl k
  condition_names sense null k = fine r refl k
  condition_names sense (object o) k = by_boolean sense (object o) k
  condition_names sense v k = by_boolean sense v k

  shown_blind : (v : Val) → shown_text (nv v) ≡ shown_text v
  shown_blind null = refl
  shown_blind (whole j z) = refl
  shown_blind (currency count) = refl
  shown_blind (object o) = text_blind r (object o)
  shown_blind v = text_blind r v

  by_text : {m n : Memory} (x : Result (List ℕ) Bad) → Same r m n → Names r nv (shown_by x m) (shown_by x n)
  by_text (Ok units) k = fine r {v = text units} refl k
  by_text (Err (Raise j)) k = bad r j k
  by_text (Err (Outside j)) k = out r _ k

  pub show_names : {m n : Memory} (v : Val) → Same r m n → Names r nv (show_value v m) (show_value (nv v) n)
  show_names {m = m} {n = n} v k = subst (λ x. Names r nv (shown_by (shown_text v) m) (shown_by x n)) (sym (shown_blind v)) (by_text (shown_text v) k)

  pub between_names : {m n : Memory} (compare : Compare) (of low high : Declared) (v a b : Val) → Same r m n → Names r plainly (fits_between compare of low high v a b m) (fits_between compare of low high (nv v) (nv a) (nv b) n)
  between_names compare of low high v a b k =
      then_named r _ (operated_names r op.Ge compare of low v a k) (λ p m1 n1 k1.
      then_named r _ (operated_names r op.Le compare of high v b k1) (λ q m2 n2 k2. fine r (ap (λ t. t && is_true (nv q)) (true_blind r p) ∙ ap (λ t. is_true p && t) (true_blind r q)) k2))

  -- ---- errors

  pub policy_names : {m n : Memory} (b : Policy) → Same r m n → Names r plainly (policy_on b m) (policy_on b n)
  policy_names b k = fine r refl (err_same r no_error (top_by r (λ f. record f { errors = record f.errors { policy = b } }) (λ f. record f { errors = record f.errors { policy = b } }) (λ f. refl) k))

  pub handler_names : {m n : Memory} → Same r m n → Names r plainly (handler_off m) (handler_off n)
  handler_names k = fine r refl (err_same r no_error (top_by r (λ f. record f { errors = resumption.ended f.errors }) (λ f. record f { errors = resumption.ended f.errors }) (λ f. refl) k))

  pub err_off_names : {m n : Memory} → Same r m n → Names r plainly (err_off m) (err_off n)
  err_off_names k = fine r refl (err_same r no_error k)

  by_resume : {m n : Memory} (x : Result At Bad) → Same r m n → Names r plainly (resumed_by x m) (resumed_by x n)
  by_resume (Ok i) k = fine r refl (err_same r no_error (top_by r (λ f. record f { errors = resumption.after_resume f.errors }) (λ f. record f { errors = resumption.after_resume f.errors }) (λ f. refl) k))
  by_resume (Err (Raise j)) k = bad r j k
  by_resume (Err (Outside j)) k = out r _ k

  pub resumed_names : {m n : Memory} (how : ResumeKind) (next other : ℕ) → other ≡ next → Same r m n → Names r plainly (resumed how next m) (resumed how other n)
  resumed_names {m = m} {n = n} how next other e k =
      let is : resumption.answer (top n).errors.active (top n).errors.failed how (at_number other) ≡ resumption.answer (top m).errors.active (top m).errors.failed how (at_number next)
      = ap (λ f. resumption.answer f.errors.active f.errors.failed how (at_number other)) (top_same r k) ∙ ap (λ i. resumption.answer (top m).errors.active (top m).errors.failed how (at_number i)) e in
      subst (λ x. Names r plainly (resumed how next m) (resumed_by x n)) (sym is) (by_resume (resumption.answer (top m).errors.active (top m).errors.failed how (at_number next)) k)

  pub stop_names : {m n : Memory} → Same r m n → Names r plainly (stop_here m) (stop_here n)
  stop_names k = out r _ k

  pub with_taken_same : {m n : Memory} (e : Error) (t : Taken) → Same r m n → Same r (with_taken e t m) (with_taken e t n)
  with_taken_same e t k =
      err_same r e (top_by r (λ f. record f { errors = after_take f.errors (at_number (number_or f.statement)) t }) (λ f. record f { errors = after_take f.errors (at_number (number_or f.statement)) t }) (λ f. refl) k)

  pub at_statement_same : {m n : Memory} (i : ℕ) → Same r m n → Same r (at_statement m i) (at_statement n i)
  at_statement_same i k = top_by r (λ f. record f { statement = Some i }) (λ f. record f { statement = Some i }) (λ f. refl) k

  -- ---- objects that give way, and places of variables of objects

  pub if_any_names : {m n : Memory} (v : Val) → Same r m n → Names r nv (plain_if_any v m) (plain_if_any (nv v) n)
  if_any_names (object Nothing) k = fine r {v = object Nothing} refl k
  if_any_names (object (Heap id)) k = fine r {v = object (Heap id)} refl k
  if_any_names {m = m} (object (Host host.ErrObject)) k = fine r {v = whole kind.Long m.err.number} (ap (λ x. whole kind.Long x.err.number) k.is) k
  if_any_names {m = m} {n = n} (object (Host (host.Area s t l rows c))) k =
      answered_named r (area_value m.book (area_in s t l rows c)) (area_value n.book (area_in s t l rows c))
      (ap (λ b. area_value b (area_in s t l rows c)) (book_same r k) ∙ sym (free_answer r (area_value m.book (area_in s t l rows c)) (area_value_in [] m.book (area_in s t l rows c)))) k
  if_any_names (object (Host h)) k = fine r {v = object (Host h)} refl k
  if_any_names v k = fine r refl k

  by_member : {m n : Memory} (d : Declarations) (v : Val) (x : Option Member) → Same r m n → Names r np (variable_named d v x m) (variable_named d (nv v) x n)
  by_member d v None k = bad r 438 k
  by_member d v (Some (is_variable i makes)) k = fine r (variable_same r d v i makes k) k
  by_member d v (Some (is_procedure p)) k = bad r 438 k
  by_member d v (Some (is_property reads lets sets)) k = bad r 438 k

  by_object : {m n : Memory} (d : Declarations) (name : List ℕ) (v : Val) → Same r m n
      → Names r np (variable_named d v (if is_instance v m then member_named (class_of_value d v m).members name else None) m)
      (variable_named d (nv v) (if is_instance (nv v) n then member_named (class_of_value d (nv v) n).members name else None) n)
  by_object {m = m} {n = n} d name v k =
      let is : (if is_instance (nv v) n then member_named (class_of_value d (nv v) n).members name else None) ≡ (if is_instance v m then member_named (class_of_value d v m).members name else None)
      = ap (λ b. if b then member_named (class_of_value d (nv v) n).members name else None) (instance_same r v k) ∙ ap (λ c. if is_instance v m then member_named c.members name else None) (class_value_same r d v k) in
      subst (λ x. Names r np (variable_named d v (if is_instance v m then member_named (class_of_value d v m).members name else None) m) (variable_named d (nv v) x n)) (sym is)
      (by_member d v (if is_instance v m then member_named (class_of_value d v m).members name else None) k)

  pub public_names : {m n : Memory} (d : Declarations) (name : List ℕ) (v : Val) → Same r m n → Names r np (public_variable d name v m) (public_variable d name (nv v) n)
  public_names d name (object Nothing) k = bad r 91 k
  public_names d name (object (Heap id)) k = by_object d name (object (Heap id)) k
  public_names d name (object (Host h)) k = by_object d name (object (Host h)) k
  public_names d name v k = bad r 424 k

  -- ---- arguments

  received_at : (root : Root) (steps : List Step) (of : Declared) (bounded : Bool) (makes : Option ℕ)
      → let q : Path = record { root = root; steps = steps; of = of; bounded = bounded; makes = makes } in received (path (np q)) ≡ slot_named r (received (path q))
  received_at (in_frame j x) steps of bounded makes = refl
  received_at (in_project x) steps of bounded makes = refl
  received_at (in_fields o i) steps of bounded makes = refl
  received_at (in_block j i) steps of bounded makes = refl
  received_at (in_object o) steps of bounded makes = refl
  received_at (in_item v) steps of bounded makes = ap (λ w. value w) (item_value_named r v steps)

  received_named : (x : Slot) → received (slot_named r x) ≡ slot_named r (received x)
  received_named (value v) = refl
  received_named (path q) = received_at q.root q.steps q.of q.bounded q.makes

  pub all_received : (xs : List Slot) → map received (slots_named r xs) ≡ slots_named r (map received xs)
  all_received [] = refl
  all_received (x ∷ xs) = ap (λ y. y ∷ map received (slots_named r xs)) (received_named x) ∙ ap (λ ys. slot_named r (received x) ∷ ys) (all_received xs)

  pub reordered_named : (order : List ℕ) (xs : List Slot) → reordered order (slots_named r xs) ≡ slots_named r (reordered order xs)
  reordered_named [] xs = refl
  reordered_named (i ∷ order) xs = ap (λ y. y ∷ reordered order (slots_named r xs)) (nth_map (slot_named r) xs i (value missing)) ∙ ap (λ ys. slot_named r (slice_index_or xs i (value missing)) ∷ ys) (reordered_named order xs)

  paths_named : (xs : List Slot) → paths_in_slots (slots_named r xs) ≡ map np (paths_in_slots xs)
  paths_named [] = refl
  paths_named (value v ∷ xs) = paths_named xs
  paths_named (path p ∷ xs) = ap (λ ps. np p ∷ ps) (paths_named xs)

  without_named_paths : (xs : List Slot) (ps : List Path) → without_paths (slots_named r xs) (map np ps) ≡ map np (without_paths xs ps)
  without_named_paths [] ps = refl
  without_named_paths (value v ∷ xs) ps = without_named_paths xs ps
  without_named_paths (path p ∷ xs) ps = ap (λ qs. without_paths (slots_named r xs) qs) (rest_map np ps) ∙ without_named_paths xs (rest ps)

  pub lent_again_same : {m n : Memory} (xs : List Slot) → Same r m n → Same r (lent_again xs m) (lent_again (slots_named r xs) n)
  lent_again_same xs k =
      top_by r (λ f. record f { pending = paths_in_slots xs ++ f.pending }) (λ f. record f { pending = paths_in_slots (slots_named r xs) ++ f.pending })
      (λ f. ap (λ ps. record (frame_named r f) { pending = ps }) (ap (λ ps. ps ++ map np f.pending) (paths_named xs) ∙ sym (map-append np (paths_in_slots xs) f.pending))) k

  pub raise_over_same : {m n : Memory} (xs : List Slot) → Same r m n → Same r (raise_over xs m) (raise_over (slots_named r xs) n)
  raise_over_same xs k =
      top_by r (λ f. record f { pending = without_paths xs f.pending }) (λ f. record f { pending = without_paths (slots_named r xs) f.pending }) (λ f. ap (λ ps. record (frame_named r f) { pending = ps }) (without_named_paths xs f.pending)) k

  pub no_change_same : {m n : Memory} → Same r m n → Same r (no_change m) (no_change n)
  no_change_same k = same_by r no_change no_change (λ cs. refl) refl refl k

  -- ---- calls

  calling_named : (xs : List Slot) (fs : List Frame) → calling (slots_named r xs) (map (λ f. frame_named r f) fs) ≡ map (λ f. frame_named r f) (calling xs fs)
  calling_named xs [] = refl
  calling_named xs (f ∷ fs) = ap (λ ps. record (frame_named r f) { pending = ps } ∷ map (λ f. frame_named r f) fs) (without_named_paths xs f.pending)

  of_values : (vs : List Val) → slots_named r (map (λ v. value v) vs) ≡ map (λ v. value v) (values_named r vs)
  of_values [] = refl
  of_values (v ∷ vs) = ap (λ xs. value (nv v) ∷ xs) (of_values vs)

  own_plain : (d : Declarations) (p : Procedure) → slots_named r (own_slots d p) ≡ own_slots d p
  own_plain d p =
      ap (λ w. value w ∷ slots_named r (map (λ v. value v) (first_values d p.locals))) (free_named r (first_value d p.result) (field_initial_free (types_of d) (field_of p.result)))
      ∙ ap (λ xs. value (first_value d p.result) ∷ xs) (of_values (first_values d p.locals) ∙ ap (λ vs. map (λ v. value v) vs) (first_plain r d p.locals))

  slots_entered : (d : Declarations) (p : Procedure) (xs : List Slot) → own_slots d p ++ map received (slots_named r xs) ≡ slots_named r (own_slots d p ++ map received xs)
  slots_entered d p xs =
      ap (λ ys. own_slots d p ++ ys) (all_received xs) ∙ ap (λ ys. ys ++ slots_named r (map received xs)) (sym (own_plain d p)) ∙ sym (map-append (λ x. slot_named r x) (own_slots d p) (map received xs))

  pub entered_same : {m n : Memory} (d : Declarations) (called : Bool) (p : ℕ) (me : Val) (xs : List Slot) → Same r m n → Same r (entered d called p me xs m) (entered d called p (nv me) (slots_named r xs) n)
  entered_same {m = m} d called p me xs k =
      same_by r (λ x. entered d called p me xs x) (λ x. entered d called p (nv me) (slots_named r xs) x)
      (λ cs. ap (λ ys. record (under r m cs) { frames = record no_frame { called = called; procedure = p; me = nv me; slots = ys } ∷ calling (slots_named r xs) (map (λ f. frame_named r f) m.frames) }) (slots_entered d (procedure_at d p) xs)
      ∙ ap (λ fs. record (under r m cs) { frames = record no_frame { called = called; procedure = p; me = nv me; slots = slots_named r (own_slots d (procedure_at d p) ++ map received xs) } ∷ fs }) (calling_named xs m.frames)) refl refl k

  result_of : (xs : List Slot) → value_or_empty (value_in (slice_get (slots_named r xs) 0)) ≡ nv (value_or_empty (value_in (slice_get xs 0)))
  result_of [] = refl
  result_of (value v ∷ xs) = refl
  result_of (path p ∷ xs) = refl

  pub result_same : {m n : Memory} → Same r m n → result n ≡ nv (result m)
  result_same {m = m} k = ap (λ f. value_or_empty (value_in (slice_get f.slots 0))) (top_same r k) ∙ result_of (top m).slots

  pub frame_left_same : {m n : Memory} → Same r m n → Same r (frame_left m) (frame_left n)
  frame_left_same {m = m} k = same_by r frame_left frame_left (λ cs. ap (λ fs. record (under r m cs) { frames = fs }) (rest_map (λ f. frame_named r f) m.frames)) refl refl k

  pub left_same : {m n : Memory} → Same r m n → Same r (left m) (left n)
  left_same {m = m} {n = n} k = hold_to r (result m) (result n) (result_same k) (frame_left_same k)

  -- ---- references that are let go

  pub held_many : {m n : Memory} → Same r m n → length (top n).held ≡ length (top m).held
  held_many {m = m} k = ap (λ f. length f.held) (top_same r k) ∙ length-map (top m).held r

  pub let_held_same : {m n : Memory} → Same r m n → Same r (let_held m) (let_held n)
  let_held_same {m = m} {n = n} k =
      waits_to r (top m).held (top n).held (ap (λ f. f.held) (top_same r k)) (top_by r (λ f. record f { held = [] }) (λ f. record f { held = [] }) (λ f. refl) k)

  kept_refers : (es : List (ℕ × Kept)) → objects_kept (map (λ e. (e.0, kept_named r e.1)) es) ≡ map r (objects_kept es)
  kept_refers [] = refl
  kept_refers (e ∷ es) =
      ap (λ v. objects_in v ++ objects_kept (map (λ e. (e.0, kept_named r e.1)) es)) (value_of_kept_named r e.1) ∙ ap (λ os. os ++ objects_kept (map (λ e. (e.0, kept_named r e.1)) es)) (objects_named r (kept_value e.1))
      ∙ ap (λ os. map r (objects_in (kept_value e.1)) ++ os) (kept_refers es) ∙ sym (map-append r (objects_in (kept_value e.1)) (objects_kept es))

  slot_refers : (x : Slot) → objects_in_slot (slot_named r x) ≡ map r (objects_in_slot x)
  slot_refers (value v) = objects_named r v
  slot_refers (path p) = refl

  slots_refer : (xs : List Slot) → objects_in_slots (slots_named r xs) ≡ map r (objects_in_slots xs)
  slots_refer [] = refl
  slots_refer (x ∷ xs) =
      ap (λ os. os ++ objects_in_slots (slots_named r xs)) (slot_refers x) ∙ ap (λ os. map r (objects_in_slot x) ++ os) (slots_refer xs) ∙ sym (map-append r (objects_in_slot x) (objects_in_slots xs))

  frame_refers : (f : Frame) → held_by (frame_named r f) ≡ map r (held_by f)
  frame_refers f = by_called f.called where
    variables : Bool → Frame → List ℕ
    variables b g = if b then objects_in_slots (rest g.slots) ++ objects_in g.me else objects_in_slots g.slots

    variables_named : (b : Bool) → (if b then objects_in_slots (rest (slots_named r f.slots)) ++ objects_in (nv f.me) else objects_in_slots (slots_named r f.slots))
        ≡ map r (if b then objects_in_slots (rest f.slots) ++ objects_in f.me else objects_in_slots f.slots)
    variables_named true =
        ap (λ xs. objects_in_slots xs ++ objects_in (nv f.me)) (rest_map (λ x. slot_named r x) f.slots) ∙ ap (λ os. os ++ objects_in (nv f.me)) (slots_refer (rest f.slots))
        ∙ ap (λ os. map r (objects_in_slots (rest f.slots)) ++ os) (objects_named r f.me) ∙ sym (map-append r (objects_in_slots (rest f.slots)) (objects_in f.me))
    variables_named false = slots_refer f.slots

    by_called : (b : Bool) → map r f.held ++ (objects_kept (map (λ e. (e.0, kept_named r e.1)) f.keeps) ++ (if b then objects_in_slots (rest (slots_named r f.slots)) ++ objects_in (nv f.me) else objects_in_slots (slots_named r f.slots)))
        ≡ map r (f.held ++ (objects_kept f.keeps ++ (if b then objects_in_slots (rest f.slots) ++ objects_in f.me else objects_in_slots f.slots)))
    by_called b =
        let os : List ℕ = if b then objects_in_slots (rest f.slots) ++ objects_in f.me else objects_in_slots f.slots in
        ap (λ ps. map r f.held ++ (objects_kept (map (λ e. (e.0, kept_named r e.1)) f.keeps) ++ ps)) (variables_named b) ∙ ap (λ ps. map r f.held ++ (ps ++ map r os)) (kept_refers f.keeps)
        ∙ ap (λ ps. map r f.held ++ ps) (sym (map-append r (objects_kept f.keeps) os)) ∙ sym (map-append r f.held (objects_kept f.keeps ++ os))

  bare_named : (xs : List Slot) → without_values (slots_named r xs) ≡ slots_named r (without_values xs)
  bare_named [] = refl
  bare_named (value v ∷ xs) = ap (λ ys. value empty ∷ ys) (bare_named xs)
  bare_named (path p ∷ xs) = ap (λ ys. path (np p) ∷ ys) (bare_named xs)

  but_named : (xs : List Slot) → but_result (slots_named r xs) ≡ slots_named r (but_result xs)
  but_named [] = refl
  but_named (x ∷ xs) = ap (λ ys. slot_named r x ∷ ys) (bare_named xs)

  emptied_named : (f : Frame) → emptied (frame_named r f) ≡ frame_named r (emptied f)
  emptied_named f = by_called f.called where
    by_called : (b : Bool) → record (frame_named r f) { slots = if b then but_result (slots_named r f.slots) else without_values (slots_named r f.slots); me = if b then empty else nv f.me; keeps = []; held = [] }
        ≡ frame_named r (record f { slots = if b then but_result f.slots else without_values f.slots; me = if b then empty else f.me; keeps = []; held = [] })
    by_called true = ap (λ xs. record (frame_named r f) { slots = xs; me = empty; keeps = []; held = [] }) (but_named f.slots)
    by_called false = ap (λ xs. record (frame_named r f) { slots = xs; keeps = []; held = [] }) (bare_named f.slots)

  frame_held : {m n : Memory} → Same r m n → held_by (top n) ≡ map r (held_by (top m))
  frame_held {m = m} k = ap (λ f. held_by f) (top_same r k) ∙ frame_refers (top m)

  pub frame_many : {m n : Memory} → Same r m n → length (held_by (top n)) ≡ length (held_by (top m))
  frame_many {m = m} k = ap (λ os. length os) (frame_held k) ∙ length-map (held_by (top m)) r

  pub let_frame_same : {m n : Memory} → Same r m n → Same r (let_frame m) (let_frame n)
  let_frame_same {m = m} {n = n} k = waits_to r (held_by (top m)) (held_by (top n)) (frame_held k) (top_by r (λ f. emptied f) (λ f. emptied f) (λ f. emptied_named f) k)

  next_of : (os : List ℕ) → r 0 ≡ 0 → next_waiting (map r os) ≡ r (next_waiting os)
  next_of [] e = sym e
  next_of (o ∷ os) e = refl

  pub next_same : {m n : Memory} → Same r m n → next_waiting n.waiting ≡ r (next_waiting m.waiting)
  next_same {m = m} k = ap (λ x. next_waiting x.waiting) k.is ∙ next_of m.waiting k.fit.matches.first

  pub taken_off_same : {m n : Memory} → Same r m n → Same r (taken_off m) (taken_off n)
  taken_off_same {m = m} k = same_by r taken_off taken_off (λ cs. ap (λ os. record (under r m cs) { waiting = os }) (rest_map r m.waiting)) refl refl k

  -- ---- objects that end

  told_here : (m : Memory) (cs : List (Option Object)) (o : ℕ) → Fit r m cs → Same r (as_told o m) (as_told (r o) (under r m cs))
  told_here m cs o k =
      object_put r m cs k o (record (object_at m o) { told = true }) (record (object_at (under r m cs) (r o)) { told = true }) (ap {A = Object} (λ b. record b { told = true }) (object_at_named r m cs k.matches o)) refl

  pub as_told_same : {m n : Memory} (o : ℕ) → Same r m n → Same r (as_told o m) (as_told (r o) n)
  as_told_same {m = m} o k = subst (λ y. Same r (as_told o m) (as_told (r o) y)) (sym k.is) (told_here m k.objects o k.fit)

  none_here : (m : Memory) (cs : List (Option Object)) (o : ℕ) → Fit r m cs → Same r (with_object m o None) (with_object (under r m cs) (r o) None)
  none_here m cs o k = record { objects = slice_set cs (r o) None; is = refl; fit = record { matches = matches_put r o None k.matches; keyed = keyed_gone o k.keyed } }

  none_same : {m n : Memory} (o : ℕ) → Same r m n → Same r (with_object m o None) (with_object n (r o) None)
  none_same {m = m} o k = subst (λ y. Same r (with_object m o None) (with_object y (r o) None)) (sym k.is) (none_here m k.objects o k.fit)

  pub fields_same : {m n : Memory} (o : ℕ) → Same r m n → objects_in_values (object_at n (r o)).fields ≡ map r (objects_in_values (object_at m o).fields)
  fields_same {m = m} o k = ap (λ b. objects_in_values b.fields) (object_at_same r o k) ∙ objects_values_named r (object_at m o).fields

  pub fields_many : {m n : Memory} (o : ℕ) → Same r m n → length (objects_in_values (object_at n (r o)).fields) ≡ length (objects_in_values (object_at m o).fields)
  fields_many {m = m} o k = ap (λ os. length os) (fields_same o k) ∙ length-map (objects_in_values (object_at m o).fields) r

  pub gone_same : {m n : Memory} (o : ℕ) → Same r m n → Same r (gone o m) (gone (r o) n)
  gone_same {m = m} {n = n} o k = waits_to r (objects_in_values (object_at m o).fields) (objects_in_values (object_at n (r o)).fields) (fields_same o k) (none_same o k)

  old_same : {m n : Memory} (g : ℕ) → Same r m n → objects_in (slice_index_or n.shared g empty) ≡ map r (objects_in (slice_index_or m.shared g empty))
  old_same {m = m} g k = ap (λ x. objects_in (slice_index_or x.shared g empty)) k.is ∙ ap (λ v. objects_in v) (nth_map nv m.shared g empty) ∙ objects_named r (slice_index_or m.shared g empty)

  pub old_many : {m n : Memory} (g : ℕ) → Same r m n → length (objects_in (slice_index_or n.shared g empty)) ≡ length (objects_in (slice_index_or m.shared g empty))
  old_many {m = m} g k = ap (λ os. length os) (old_same g k) ∙ length-map (objects_in (slice_index_or m.shared g empty)) r

  pub closed_same : {m n : Memory} (g : ℕ) (v : Val) → Same r m n → Same r (closed g v m) (closed g (nv v) n)
  closed_same {m = m} {n = n} g v k =
      waits_to r (objects_in (slice_index_or m.shared g empty)) (objects_in (slice_index_or n.shared g empty)) (old_same g k)
      (same_by r (λ x. record x { shared = slice_set x.shared g v }) (λ x. record x { shared = slice_set x.shared g (nv v) }) (λ cs. ap (λ vs. record (under r m cs) { shared = vs }) (set_named (λ w. nv w) m.shared g v)) refl refl k)
