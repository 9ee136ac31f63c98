-- A memory under other names: what stands in it, and what is changed.
use Rattle.std.proofs.Common.{◌≡◌, ℕ, zero, suc, Bool, true, false, List, [], ◌∷◌, ◌++◌, length, map, Option, Some, None, refl, sym, ap, ◌∙◌, subst}
use Rattle.std.specs.Prelude.{◌==◌, ◌&&◌, ◌||◌, not, nat_lt, if◌then◌else◌, option_map, slice_get, slice_index_or, slice_set}
use Rattle.std.proofs.lemmas.List.{map-append, length-map}
use Rattle.std.proofs.lemmas.Option.{slice_get-map}
use Rattle.vba_values.specs.declared.object.ObjRef.{ObjRef}
use Rattle.vba_values.specs.declared.object.ObjRef.TheVariants.{Nothing, Heap, Host}
use Rattle.vba_values.specs.Types.{Declared}
use Rattle.vba_values.specs.Types as type
use Rattle.vba_values.specs.Val.{Val, object, array, udt}
use Rattle.arrays_udt.specs.declared.paths.PathStep.{PathStep}
use Rattle.arrays_udt.specs.Paths.{path_value, with_path}
use Rattle.bound_project.specs.Expressions.{Storage, local, shared, own, Variable}
use Rattle.bound_project.specs.Project.{Declarations, class_at, no_declaration}
use Rattle.vba_meaning.specs.Paths.{Root, in_frame, in_project, in_fields, in_block, in_object, in_item, Step, Path, plain_steps, same_root, leads_through, is_below, any_below}
use Rattle.vba_meaning.specs.Memory.{Slot, value, path, Kept, only, at_path, walk, Object, Frame, Memory, first_or, rest, top, with_top, frame_at, with_slot, value_in, found, without, put, with_kept, value_kept, object_or, object_at, with_object, with_field, root_value, with_root, inner_or_none, value_at, written, with_value, number_of, path_or, path_of, paths_in_slots, paths_kept, paths_held, is_locked, value_or_empty, value_in_item}
use Rattle.vba_meaning.specs.References.{objects_in, hold, displaced, waits, kept_value}
use Rattle.vba_meaning.specs.Effects.{class_of, is_collection, takes_object, kept_or, kept_at}
use Rattle.vba_meaning.specs.Defaults.{is_instance, class_of_value, variable_in, variable_of}
use Rattle.object_names.specs.Names.{reference_named, value_named, root_named, path_named, slot_named, slots_named, kept_named, frame_named, object_named, under}
use Rattle.object_names.specs.Renamed.{Matches, Suits, Fit, Same, at_number}
use Rattle.object_names.proofs.NamedValues.{equal_named, path_value_named, with_path_named, objects_named}
use Rattle.object_names.proofs.Matched.{keyed_put, matches_put}

-- ---- lists of what has a number

pub found_named : {A B : Type 0} (f : A → B) (es : List (ℕ × A)) (i : ℕ) → found (map (λ e. (e.0, f e.1)) es) i ≡ option_map f (found es i)
found_named f [] i = refl
found_named f (e ∷ es) i = by_test (e.0 == i) (found_named f es i) where
  by_test : (b : Bool) → found (map (λ e. (e.0, f e.1)) es) i ≡ option_map f (found es i) → (if b then Some (f e.1) else found (map (λ e. (e.0, f e.1)) es) i) ≡ option_map f (if b then Some e.1 else found es i)
  by_test true h = refl
  by_test false h = h

pub without_named : {A B : Type 0} (f : A → B) (es : List (ℕ × A)) (i : ℕ) → without (map (λ e. (e.0, f e.1)) es) i ≡ map (λ e. (e.0, f e.1)) (without es i)
without_named f [] i = refl
without_named {A = A} {B = B} f (e ∷ es) i = by_test (e.0 == i) (without_named f es i) where
  by_test : (b : Bool) → without (map (λ e. (e.0, f e.1)) es) i ≡ map (λ e. (e.0, f e.1)) (without es i)
      → (if b then without (map (λ e. (e.0, f e.1)) es) i else (e.0, f e.1) ∷ without (map (λ e. (e.0, f e.1)) es) i) ≡ map (λ e. (e.0, f e.1)) (if b then without es i else e ∷ without es i)
  by_test true h = h
  by_test false h = ap (λ ds. (e.0, f e.1) ∷ ds) h

pub put_named : {A B : Type 0} (f : A → B) (i : ℕ) (x : A) (es : List (ℕ × A)) → put i (f x) (map (λ e. (e.0, f e.1)) es) ≡ map (λ e. (e.0, f e.1)) (put i x es)
put_named f i x [] = refl
put_named f i x (e ∷ es) = by_tests (e.0 == i) (nat_lt i e.0) (put_named f i x es) where
  by_tests : (b c : Bool) → put i (f x) (map (λ e. (e.0, f e.1)) es) ≡ map (λ e. (e.0, f e.1)) (put i x es)
      → (if b then (i, f x) ∷ map (λ e. (e.0, f e.1)) es else if c then (i, f x) ∷ (e.0, f e.1) ∷ map (λ e. (e.0, f e.1)) es else (e.0, f e.1) ∷ put i (f x) (map (λ e. (e.0, f e.1)) es))
      ≡ map (λ e. (e.0, f e.1)) (if b then (i, x) ∷ es else if c then (i, x) ∷ e ∷ es else e ∷ put i x es)
  by_tests true c h = refl
  by_tests false true h = refl
  by_tests false false h = ap (λ ds. (e.0, f e.1) ∷ ds) h

pub set_named : {A B : Type 0} (f : A → B) (xs : List A) (i : ℕ) (x : A) → slice_set (map f xs) i (f x) ≡ map f (slice_set xs i x)
set_named f [] zero x = refl
set_named f [] (suc i) x = refl
set_named f (y ∷ ys) zero x = refl
set_named f (y ∷ ys) (suc i) x = ap (λ zs. f y ∷ zs) (set_named f ys i x)

pub rest_map : {A B : Type 0} (f : A → B) (xs : List A) → rest (map f xs) ≡ map f (rest xs)
rest_map f [] = refl
rest_map f (x ∷ xs) = refl

module _ (r : ℕ → ℕ) where
  -- ---- frames

  pub first_named : (fs : List Frame) → first_or (map (λ f. frame_named r f) fs) ≡ frame_named r (first_or fs)
  first_named [] = refl
  first_named (f ∷ fs) = refl

  pub top_named : (m : Memory) (cs : List (Option Object)) → top (under r m cs) ≡ frame_named r (top m)
  top_named m cs = first_named m.frames

  frame_at_named : (fs : List Frame) (k : ℕ) → frame_at (map (λ f. frame_named r f) fs) k ≡ frame_named r (frame_at fs k)
  frame_at_named [] k = refl
  frame_at_named (f ∷ fs) k = ap (λ n. if n == k then frame_named r f else frame_at (map (λ f. frame_named r f) fs) k) (length-map fs (λ f. frame_named r f)) ∙ by_test (length fs == k) (frame_at_named fs k) where
    by_test : (b : Bool) → frame_at (map (λ f. frame_named r f) fs) k ≡ frame_named r (frame_at fs k)
        → (if b then frame_named r f else frame_at (map (λ f. frame_named r f) fs) k) ≡ frame_named r (if b then f else frame_at fs k)
    by_test true h = refl
    by_test false h = h

  with_slot_named : (fs : List Frame) (k x : ℕ) (v : Val) → with_slot (map (λ f. frame_named r f) fs) k x (value (value_named r v)) ≡ map (λ f. frame_named r f) (with_slot fs k x (value v))
  with_slot_named [] k x v = refl
  with_slot_named (f ∷ fs) k x v =
      ap (λ n. if n == k then record (frame_named r f) { slots = slice_set (slots_named r f.slots) x (value (value_named r v)) } ∷ map (λ f. frame_named r f) fs else frame_named r f ∷ with_slot (map (λ f. frame_named r f) fs) k x (value (value_named r v)))
      (length-map fs (λ f. frame_named r f)) ∙ by_test (length fs == k) (with_slot_named fs k x v)
    where
      by_test : (b : Bool) → with_slot (map (λ f. frame_named r f) fs) k x (value (value_named r v)) ≡ map (λ f. frame_named r f) (with_slot fs k x (value v))
          → (if b then record (frame_named r f) { slots = slice_set (slots_named r f.slots) x (value (value_named r v)) } ∷ map (λ f. frame_named r f) fs else frame_named r f ∷ with_slot (map (λ f. frame_named r f) fs) k x (value (value_named r v)))
          ≡ map (λ f. frame_named r f) (if b then record f { slots = slice_set f.slots x (value v) } ∷ fs else f ∷ with_slot fs k x (value v))
      by_test true h = ap (λ xs. record (frame_named r f) { slots = xs } ∷ map (λ f. frame_named r f) fs) (set_named (λ y. slot_named r y) f.slots x (value v))
      by_test false h = ap (λ gs. frame_named r f ∷ gs) h

  with_kept_named : (fs : List Frame) (k i : ℕ) (v : Val) → with_kept (map (λ f. frame_named r f) fs) k i (only (value_named r v)) ≡ map (λ f. frame_named r f) (with_kept fs k i (only v))
  with_kept_named [] k i v = refl
  with_kept_named (f ∷ fs) k i v =
      ap (λ n. if n == k then record (frame_named r f) { keeps = put i (only (value_named r v)) (frame_named r f).keeps } ∷ map (λ f. frame_named r f) fs else frame_named r f ∷ with_kept (map (λ f. frame_named r f) fs) k i (only (value_named r v)))
      (length-map fs (λ f. frame_named r f)) ∙ by_test (length fs == k) (with_kept_named fs k i v)
    where
      by_test : (b : Bool) → with_kept (map (λ f. frame_named r f) fs) k i (only (value_named r v)) ≡ map (λ f. frame_named r f) (with_kept fs k i (only v))
          → (if b then record (frame_named r f) { keeps = put i (only (value_named r v)) (frame_named r f).keeps } ∷ map (λ f. frame_named r f) fs else frame_named r f ∷ with_kept (map (λ f. frame_named r f) fs) k i (only (value_named r v)))
          ≡ map (λ f. frame_named r f) (if b then record f { keeps = put i (only v) f.keeps } ∷ fs else f ∷ with_kept fs k i (only v))
      by_test true h = ap (λ es. record (frame_named r f) { keeps = es } ∷ map (λ f. frame_named r f) fs) (put_named (λ y. kept_named r y) i (only v) f.keeps)
      by_test false h = ap (λ gs. frame_named r f ∷ gs) h

  -- ---- changes of the running frame

  -- the running frame becomes what it becomes under the names
  pub top_with : (m : Memory) (cs : List (Option Object)) (g h : Frame → Frame) → ((t : Frame) → h (frame_named r t) ≡ frame_named r (g t)) → with_top (under r m cs) (h (top (under r m cs))) ≡ under r (with_top m (g (top m))) cs
  top_with m cs g h e =
      ap (λ f. record (under r m cs) { frames = f ∷ rest (map (λ f. frame_named r f) m.frames) }) (ap h (top_named m cs) ∙ e (top m))
      ∙ ap (λ fs. record (under r m cs) { frames = frame_named r (g (top m)) ∷ fs }) (rest_map (λ f. frame_named r f) m.frames)

  pub hold_named : (v : Val) (m : Memory) (cs : List (Option Object)) → hold (value_named r v) (under r m cs) ≡ under r (hold v m) cs
  hold_named v m cs = top_with m cs (λ t. record t { held = t.held ++ objects_in v }) (λ t. record t { held = t.held ++ objects_in (value_named r v) })
      (λ t. ap (λ os. record (frame_named r t) { held = os }) (ap (λ os. map r t.held ++ os) (objects_named r v) ∙ sym (map-append r t.held (objects_in v))))

  pub displaced_named : (v : Val) (m : Memory) (cs : List (Option Object)) → displaced (value_named r v) (under r m cs) ≡ under r (displaced v m) cs
  displaced_named v m cs = top_with m cs (λ t. record t { held = objects_in v ++ t.held }) (λ t. record t { held = objects_in (value_named r v) ++ t.held })
      (λ t. ap (λ os. record (frame_named r t) { held = os }) (ap (λ os. os ++ map r t.held) (objects_named r v) ∙ sym (map-append r (objects_in v) t.held)))

  pub waits_named : (os : List ℕ) (m : Memory) (cs : List (Option Object)) → waits (map r os) (under r m cs) ≡ under r (waits os m) cs
  waits_named os m cs = ap (λ ps. record (under r m cs) { waiting = ps }) (sym (map-append r os m.waiting))

  -- a change that leaves objects as they are
  pub same_by : {m m' : Memory} (g h : Memory → Memory) → ((cs : List (Option Object)) → h (under r m cs) ≡ under r (g m) cs) → (g m).objects ≡ m.objects → (g m).next_set ≡ m.next_set → Same r m m' → Same r (g m) (h m')
  same_by {m = m} g h e o n k = record {
    objects = k.objects;
    is = ap h k.is ∙ e k.objects;
    fit = subst (λ bs. Suits r bs (g m).next_set k.objects) (sym o) (subst (λ j. Suits r m.objects j k.objects) (sym n) k.fit);
  }

  pub same_here : {m : Memory} {cs : List (Option Object)} → Fit r m cs → Same r m (under r m cs)
  same_here {cs = cs} k = record { objects = cs; is = refl; fit = k }

  -- ---- what stands there

  slot_value_named : (x : Option Slot) → value_in (option_map (λ y. slot_named r y) x) ≡ option_map (λ v. value_named r v) (value_in x)
  slot_value_named None = refl
  slot_value_named (Some (value v)) = refl
  slot_value_named (Some (path p)) = refl

  kept_value_named : (x : Option Kept) → value_kept (option_map (λ y. kept_named r y) x) ≡ option_map (λ v. value_named r v) (value_kept x)
  kept_value_named None = refl
  kept_value_named (Some (only v)) = refl
  kept_value_named (Some (at_path p)) = refl
  kept_value_named (Some (walk begun v k)) = refl

  object_or_named : (x : Option Object) → object_or (option_map (λ b. object_named r b) x) ≡ object_named r (object_or x)
  object_or_named None = refl
  object_or_named (Some b) = refl

  pub inner_named : (x : Option Val) (steps : List PathStep) → inner_or_none (option_map (λ v. value_named r v) x) steps ≡ option_map (λ v. value_named r v) (inner_or_none x steps)
  inner_named None steps = refl
  inner_named (Some v) steps = path_value_named r v steps

  pub or_empty_named : (x : Option Val) → value_or_empty (option_map (λ v. value_named r v) x) ≡ value_named r (value_or_empty x)
  or_empty_named None = refl
  or_empty_named (Some v) = refl

  pub item_value_named : (v : Val) (steps : List Step) → value_in_item (value_named r v) steps ≡ value_named r (value_in_item v steps)
  item_value_named v steps = ap (λ x. value_or_empty x) (path_value_named r v (plain_steps steps)) ∙ or_empty_named (path_value v (plain_steps steps))

  pub kept_or_named : (x : Option Kept) → kept_or (option_map (λ y. kept_named r y) x) ≡ kept_named r (kept_or x)
  kept_or_named None = refl
  kept_or_named (Some k) = refl

  pub value_of_kept_named : (k : Kept) → kept_value (kept_named r k) ≡ value_named r (kept_value k)
  value_of_kept_named (only v) = refl
  value_of_kept_named (at_path p) = refl
  value_of_kept_named (walk begun v k) = refl

  pub found_kept_named : (m : Memory) (cs : List (Option Object)) (i : ℕ) → found (top (under r m cs)).keeps i ≡ option_map (λ y. kept_named r y) (found (top m).keeps i)
  found_kept_named m cs i = ap (λ f. found f.keeps i) (top_named m cs) ∙ found_named (λ y. kept_named r y) (top m).keeps i

  pub kept_at_named : (m : Memory) (cs : List (Option Object)) (i : ℕ) → kept_at i (under r m cs) ≡ value_named r (kept_at i m)
  kept_at_named m cs i =
      ap (λ x. kept_value (kept_or x)) (found_kept_named m cs i) ∙ ap (λ k. kept_value k) (kept_or_named (found (top m).keeps i)) ∙ value_of_kept_named (kept_or (found (top m).keeps i))

  module _ (m : Memory) (cs : List (Option Object)) (k : Matches r m.objects cs) where
    pub object_at_named : (o : ℕ) → object_at (under r m cs) (r o) ≡ object_named r (object_at m o)
    object_at_named o = ap (λ x. object_or x) (k.same o) ∙ object_or_named (at_number m.objects o)

    pub root_value_named : (p : Root) → root_value (under r m cs) (root_named r p) ≡ option_map (λ v. value_named r v) (root_value m p)
    root_value_named (in_frame j x) =
        ap (λ f. value_in (slice_get f.slots x)) (frame_at_named m.frames j) ∙ ap (λ y. value_in y) (slice_get-map (λ y. slot_named r y) (frame_at m.frames j).slots x) ∙ slot_value_named (slice_get (frame_at m.frames j).slots x)
    root_value_named (in_project x) = slice_get-map (λ v. value_named r v) m.shared x
    root_value_named (in_fields o i) = ap (λ b. slice_get b.fields i) (object_at_named o) ∙ slice_get-map (λ v. value_named r v) (object_at m o).fields i
    root_value_named (in_block j i) =
        ap (λ f. value_kept (found f.keeps i)) (frame_at_named m.frames j) ∙ ap (λ y. value_kept y) (found_named (λ y. kept_named r y) (frame_at m.frames j).keeps i) ∙ kept_value_named (found (frame_at m.frames j).keeps i)
    root_value_named (in_object o) = refl
    root_value_named (in_item v) = refl

    pub value_at_named : (p : Path) → value_at (under r m cs) (path_named r p) ≡ option_map (λ v. value_named r v) (value_at m p)
    value_at_named p = ap (λ x. inner_or_none x (plain_steps p.steps)) (root_value_named p.root) ∙ inner_named (root_value m p.root) (plain_steps p.steps)

    pub number_named : (v : Val) → number_of (value_named r v) ≡ r (number_of v)
    number_named (object Nothing) = sym k.first
    number_named (object (Heap id)) = refl
    number_named (object (Host h)) = sym k.first
    number_named v = sym k.first

    path_or_named : (x : Option Slot) (q : Path) → path_or (option_map (λ y. slot_named r y) x) (path_named r q) ≡ path_named r (path_or x q)
    path_or_named None q = refl
    path_or_named (Some (value v)) q = refl
    path_or_named (Some (path p)) q = refl

    pub depth_named : length (rest (under r m cs).frames) ≡ length (rest m.frames)
    depth_named = ap (λ fs. length fs) (rest_map (λ f. frame_named r f) m.frames) ∙ length-map (rest m.frames) (λ f. frame_named r f)

    path_by_named : (storage : Storage) (of : Declared) (bounded : Bool) → let x : Variable = record { storage = storage; of = of; bounded = bounded } in path_of (under r m cs) x ≡ path_named r (path_of m x)
    path_by_named (local i) of bounded =
        ap (λ f. path_or (slice_get f.slots i) (record { root = in_frame (length (rest (map (λ f. frame_named r f) m.frames))) i; steps = []; of = of; bounded = bounded; makes = None })) (top_named m cs)
        ∙ ap (λ n. path_or (slice_get (slots_named r (top m).slots) i) (record { root = in_frame n i; steps = []; of = of; bounded = bounded; makes = None })) depth_named
        ∙ ap (λ x. path_or x (record { root = in_frame (length (rest m.frames)) i; steps = []; of = of; bounded = bounded; makes = None })) (slice_get-map (λ y. slot_named r y) (top m).slots i)
        ∙ path_or_named (slice_get (top m).slots i) (record { root = in_frame (length (rest m.frames)) i; steps = []; of = of; bounded = bounded; makes = None })
    path_by_named (shared i) of bounded = refl
    path_by_named (own i) of bounded =
        ap (λ f. record { root = in_fields (number_of f.me) i; steps = []; of = of; bounded = bounded; makes = None }) (top_named m cs)
        ∙ ap (λ n. record { root = in_fields n i; steps = []; of = of; bounded = bounded; makes = None }) (number_named (top m).me)

    pub path_of_named : (x : Variable) → path_of (under r m cs) x ≡ path_named r (path_of m x)
    path_of_named x = path_by_named x.storage x.of x.bounded

    -- ---- classes of objects

    pub class_named : (o : ObjRef) → class_of (reference_named r o) (under r m cs) ≡ class_of o m
    class_named Nothing = refl
    class_named (Heap id) = ap (λ b. b.class) (object_at_named id.0)
    class_named (Host h) = refl

    pub collection_named : (o : ObjRef) → is_collection (reference_named r o) (under r m cs) ≡ is_collection o m
    collection_named Nothing = refl
    collection_named (Heap id) = ap (λ c. c == 0) (class_named (Heap id))
    collection_named (Host h) = refl

    pub takes_named : (of : Declared) (o : ObjRef) → takes_object of (reference_named r o) (under r m cs) ≡ takes_object of o m
    takes_named (type.class c) Nothing = refl
    takes_named (type.class c) (Heap id) = ap (λ n. n == c) (class_named (Heap id))
    takes_named (type.class c) (Host h) = refl
    takes_named type.collection o = collection_named o
    takes_named type.worksheet Nothing = refl
    takes_named type.worksheet (Heap id) = refl
    takes_named type.worksheet (Host h) = refl
    takes_named type.range Nothing = refl
    takes_named type.range (Heap id) = refl
    takes_named type.range (Host h) = refl
    takes_named of o = refl

    pub instance_named : (v : Val) → is_instance (value_named r v) (under r m cs) ≡ is_instance v m
    instance_named (object Nothing) = refl
    instance_named (object (Heap id)) = ap (λ b. not b) (collection_named (Heap id))
    instance_named (object (Host h)) = refl
    instance_named v = refl

    pub class_value_named : (d : Declarations) (v : Val) → class_of_value d (value_named r v) (under r m cs) ≡ class_of_value d v m
    class_value_named d (object o) = ap (λ c. class_at d c) (class_named o)
    class_value_named d (array bounds of items) = refl
    class_value_named d (udt number fields) = refl
    class_value_named d v = refl

    pub variable_named : (d : Declarations) (v : Val) (i : ℕ) (makes : Option ℕ) → variable_of d (value_named r v) i makes (under r m cs) ≡ path_named r (variable_of d v i makes m)
    variable_named d v i makes =
        ap (λ c. variable_in (number_of (value_named r v)) i makes (slice_index_or c.fields i no_declaration)) (class_value_named d v)
        ∙ ap (λ n. variable_in n i makes (slice_index_or (class_of_value d v m).fields i no_declaration)) (number_named v)

    -- ---- places that are locked

    same_root_named : (p q : Root) → same_root (root_named r p) (root_named r q) ≡ same_root p q
    same_root_named (in_frame a x) (in_frame b y) = refl
    same_root_named (in_frame a x) (in_project y) = refl
    same_root_named (in_frame a x) (in_fields o i) = refl
    same_root_named (in_frame a x) (in_block b i) = refl
    same_root_named (in_frame a x) (in_object o) = refl
    same_root_named (in_frame a x) (in_item v) = refl
    same_root_named (in_project x) (in_frame b y) = refl
    same_root_named (in_project x) (in_project y) = refl
    same_root_named (in_project x) (in_fields o i) = refl
    same_root_named (in_project x) (in_block b i) = refl
    same_root_named (in_project x) (in_object o) = refl
    same_root_named (in_project x) (in_item v) = refl
    same_root_named (in_fields n j) (in_frame b y) = refl
    same_root_named (in_fields n j) (in_project y) = refl
    same_root_named (in_fields n j) (in_fields o i) = ap (λ b. b && j == i) (equal_named r k.once n o)
    same_root_named (in_fields n j) (in_block b i) = refl
    same_root_named (in_fields n j) (in_object o) = refl
    same_root_named (in_fields n j) (in_item v) = refl
    same_root_named (in_block a j) (in_frame b y) = refl
    same_root_named (in_block a j) (in_project y) = refl
    same_root_named (in_block a j) (in_fields o i) = refl
    same_root_named (in_block a j) (in_block b i) = refl
    same_root_named (in_block a j) (in_object o) = refl
    same_root_named (in_block a j) (in_item v) = refl
    same_root_named (in_object n) (in_frame b y) = refl
    same_root_named (in_object n) (in_project y) = refl
    same_root_named (in_object n) (in_fields o i) = refl
    same_root_named (in_object n) (in_block b i) = refl
    same_root_named (in_object n) (in_object o) = refl
    same_root_named (in_object n) (in_item v) = refl
    same_root_named (in_item w) (in_frame b y) = refl
    same_root_named (in_item w) (in_project y) = refl
    same_root_named (in_item w) (in_fields o i) = refl
    same_root_named (in_item w) (in_block b i) = refl
    same_root_named (in_item w) (in_object o) = refl
    same_root_named (in_item w) (in_item v) = refl

    below_named : (p q : Path) → is_below (path_named r p) (path_named r q) ≡ is_below p q
    below_named p q = ap (λ b. b && leads_through p.steps q.steps) (same_root_named p.root q.root)

    any_below_named : (ps : List Path) (q : Path) → any_below (map (λ p. path_named r p) ps) (path_named r q) ≡ any_below ps q
    any_below_named [] q = refl
    any_below_named (p ∷ ps) q = ap (λ b. b || any_below (map (λ p. path_named r p) ps) (path_named r q)) (below_named p q) ∙ ap (λ b. is_below p q || b) (any_below_named ps q)

    pub in_slots_named : (xs : List Slot) → paths_in_slots (slots_named r xs) ≡ map (λ p. path_named r p) (paths_in_slots xs)
    in_slots_named [] = refl
    in_slots_named (value v ∷ xs) = in_slots_named xs
    in_slots_named (path p ∷ xs) = ap (λ ps. path_named r p ∷ ps) (in_slots_named xs)

    in_keeps_named : (es : List (ℕ × Kept)) → paths_kept (map (λ e. (e.0, kept_named r e.1)) es) ≡ map (λ p. path_named r p) (paths_kept es)
    in_keeps_named [] = refl
    in_keeps_named (e ∷ es) = by_kept e.0 e.1 (in_keeps_named es) where
      by_kept : (i : ℕ) (k : Kept) → paths_kept (map (λ e. (e.0, kept_named r e.1)) es) ≡ map (λ p. path_named r p) (paths_kept es)
          → paths_kept ((i, kept_named r k) ∷ map (λ e. (e.0, kept_named r e.1)) es) ≡ map (λ p. path_named r p) (paths_kept ((i, k) ∷ es))
      by_kept i (only v) h = h
      by_kept i (at_path p) h = ap (λ ps. path_named r p ∷ ps) h
      by_kept i (walk begun v n) h = h

    held_named : (fs : List Frame) → paths_held (map (λ f. frame_named r f) fs) ≡ map (λ p. path_named r p) (paths_held fs)
    held_named [] = refl
    held_named (f ∷ fs) =
        ap (λ ps. map (λ p. path_named r p) f.pending ++ ps ++ paths_kept (map (λ e. (e.0, kept_named r e.1)) f.keeps) ++ paths_held (map (λ f. frame_named r f) fs)) (in_slots_named f.slots)
        ∙ ap (λ ps. map (λ p. path_named r p) f.pending ++ map (λ p. path_named r p) (paths_in_slots f.slots) ++ ps ++ paths_held (map (λ f. frame_named r f) fs)) (in_keeps_named f.keeps)
        ∙ ap (λ ps. map (λ p. path_named r p) f.pending ++ map (λ p. path_named r p) (paths_in_slots f.slots) ++ map (λ p. path_named r p) (paths_kept f.keeps) ++ ps) (held_named fs)
        ∙ ap (λ ps. ps ++ map (λ p. path_named r p) (paths_kept f.keeps) ++ map (λ p. path_named r p) (paths_held fs)) (sym (map-append (λ p. path_named r p) f.pending (paths_in_slots f.slots)))
        ∙ ap (λ ps. ps ++ map (λ p. path_named r p) (paths_held fs)) (sym (map-append (λ p. path_named r p) (f.pending ++ paths_in_slots f.slots) (paths_kept f.keeps)))
        ∙ sym (map-append (λ p. path_named r p) (f.pending ++ paths_in_slots f.slots ++ paths_kept f.keeps) (paths_held fs))

    pub locked_named : (p : Path) → is_locked (under r m cs) (path_named r p) ≡ is_locked m p
    locked_named p = ap (λ ps. any_below ps (path_named r p)) (held_named m.frames) ∙ any_below_named (paths_held m.frames) p

  -- ---- a place is written

  module _ (m : Memory) (cs : List (Option Object)) (k : Fit r m cs) where
    -- another object is put where one was; its numbers of Sets are the same
    pub object_put : (o : ℕ) (b b' : Object) → b' ≡ object_named r b → b.set_numbers ≡ (object_at m o).set_numbers → Same r (with_object m o (Some b)) (with_object (under r m cs) (r o) (Some b'))
    object_put o b b' e n = record {
      objects = slice_set cs (r o) (Some (object_named r b));
      is = ap (λ c. with_object (under r m cs) (r o) (Some c)) e;
      fit = record { matches = matches_put r o (Some b) k.matches; keyed = keyed_put o (Some b) n k.keyed };
    }

    with_root_named : (p : Root) (v : Val) → Same r (with_root m p v) (with_root (under r m cs) (root_named r p) (value_named r v))
    with_root_named (in_frame j x) v = record { objects = cs; is = ap (λ fs. record (under r m cs) { frames = fs }) (with_slot_named m.frames j x v); fit = k }
    with_root_named (in_project x) v = record { objects = cs; is = ap (λ vs. record (under r m cs) { shared = vs }) (set_named (λ w. value_named r w) m.shared x v); fit = k }
    with_root_named (in_fields o i) v =
        object_put o (with_field (object_at m o) i v) (with_field (object_at (under r m cs) (r o)) i (value_named r v))
        (ap (λ b. with_field b i (value_named r v)) (object_at_named m cs k.matches o) ∙ ap (λ vs. record (object_named r (object_at m o)) { fields = vs }) (set_named (λ w. value_named r w) (object_at m o).fields i v)) refl
    with_root_named (in_block j i) v = record { objects = cs; is = ap (λ fs. record (under r m cs) { frames = fs }) (with_kept_named m.frames j i v); fit = k }
    with_root_named (in_object o) v = same_here k
    with_root_named (in_item w) v = same_here k

    written_named : (p : Path) (x : Option Val) (v : Val) → Same r (written m p x v) (written (under r m cs) (path_named r p) (option_map (λ w. value_named r w) x) (value_named r v))
    written_named p None v = same_here k
    written_named p (Some old) v =
        subst (λ w. Same r (with_root m p.root (with_path old (plain_steps p.steps) v)) (with_root (under r m cs) (root_named r p.root) w)) (sym (with_path_named r old (plain_steps p.steps) v))
        (with_root_named p.root (with_path old (plain_steps p.steps) v))

    pub with_value_named : (p : Path) (v : Val) → Same r (with_value m p v) (with_value (under r m cs) (path_named r p) (value_named r v))
    with_value_named p v = subst (λ x. Same r (with_value m p v) (written (under r m cs) (path_named r p) x (value_named r v))) (sym (root_value_named m cs k.matches p.root)) (written_named p (root_value m p.root) v)
