-- Effects on arrays, blocks and For Each.
use Rattle.std.proofs.Common.{◌≡◌, ℕ, suc, ◌+◌, ◌<◌, Bool, true, false, List, [], ◌∷◌, ◌++◌, length, Option, Some, None, Result, Ok, Err, refl, sym, ap, ◌∙◌, subst, arith}
use Rattle.std.specs.Prelude.{slice_get, nat_lt, ◌*◌, ◌/◌, ◌%◌, if◌then◌else◌}
use Rattle.vba_values.specs.declared.fault.Bad.{Bad}
use Rattle.vba_values.specs.declared.fault.Bad.TheVariants.{Raise, Outside}
use Rattle.vba_values.specs.declared.object.ObjRef.{ObjRef}
use Rattle.vba_values.specs.declared.object.ObjRef.TheVariants.{Nothing, Heap, Host}
use Rattle.vba_values.specs.declared.object.HostRef.TheVariants as host
use Rattle.vba_values.specs.declared.value.Bound.{Bound}
use Rattle.vba_values.specs.Types.{Declared}
use Rattle.vba_values.specs.Types as type
use Rattle.vba_values.specs.Val.{Val, Vals, object, array, no_vals}
use Rattle.vba_values.specs.Coerce.{coerce_of, is_same_type}
use Rattle.arrays_udt.specs.declared.paths.PathStep.TheVariants.{Field, Element}
use Rattle.arrays_udt.specs.Shapes.{offset_of, shape_of}
use Rattle.arrays_udt.specs.Resize.{item_at, can_resize}
use Rattle.arrays_udt.specs.Fresh.{initial}
use Rattle.arrays_udt.specs.Paths.{path_value}
use Rattle.bound_project.specs.Expressions.{Variable}
use Rattle.bound_project.specs.Project.{Declarations, types_of}
use Rattle.vba_meaning.specs.Paths.{Root, in_frame, in_project, in_fields, in_block, in_object, in_item, Step, Path, plain_steps}
use Rattle.vba_meaning.specs.Memory.{Kept, only, at_path, walk, Memory, rest, top, found, put, inner_or_none, value_at, with_value, value_or_empty, value_in_item, path_of, object_at}
use Rattle.vba_meaning.specs.References.{objects_in, objects_in_vals, times, waits, kept_value}
use Rattle.vba_meaning.specs.Effects.{Fine, is_collection, answered, kept_or, kept_at, area_in, range_value}
use Rattle.vba_meaning.specs.Arrays.{numbers, offset_at, indexed_object, element_in, indexed, part_of, bounds_of, element_type, new_array, resized_array, preserved, redim_value, redimmed, erased_value, erased, keep_path, block_over, place_kept, dot_at, walking, not_walking, each_off, walkable, each_begun, item_stored, next_item, item_of, each_by, each_next}
use Rattle.object_counts.proofs.Stored.{in_value}
use Rattle.object_counts.proofs.Looks.{over_grows, still_walking, walking_grows, IsThere, exchanged_grows}
use Rattle.object_lives.proofs.Values.{In, none_in, in_self, in_back, Refers, filled_in, resized_in, initial_in, item_in}
use Rattle.object_lives.proofs.Held.{World, StaysIn, stays_in, bare_wider, RootIn, Paths, root_more, paths_more}
use Rattle.object_lives.proofs.Marks.{unmarked}
use Rattle.object_lives.proofs.Near.{AllThere, none_there, Ready, near_ready, Later, later_same, low, roots_of, reach, own_floor, like_same, BareFound, block_reach, Stays, bare_first, bare_rest, bare_put, bare_without, bare_found, held_there, there_written, old_written, bare_written, marked_written, top_written, called_written, me_written, pending_written, below_written}
use Rattle.object_lives.proofs.Chains.{Any, Given, GivenPath, Staying, LeadsOn, still, still_path, Safe, fine, fine_in, done_in, bad, out, giving, behind, then_next, then_safe, both, answered_any}
use Rattle.object_lives.proofs.Variables.{ThereIn, part_within, variable_there, kept_there, top_later, fitted_by, read_value_safe, keeping_later, replaceable_safe, assignable_safe, stored_there_safe, path_of_in}

-- what is inside of a value that is held
part_there : {asks : Bool} (m : Memory) (v : Val) (x : Option Val) (f : Val → Option Val) → ((w : Val) → f v ≡ Some w → (o : ℕ) → 0 < in_value o w → 0 < in_value o v) → f v ≡ x → Ready asks m → Refers (top m).held v → ThereIn m x
part_there m v None f k e r h = tt
part_there m v (Some w) f k e r h = λ o lt. held_there r h o (k w e o lt)

-- what stands at the place still does
still_there : {m m1 : Memory} {p : Path} {old : Val} → m1 ≡ m → IsThere m p old → IsThere m1 p old
still_there {p = p} {old = old} e there = subst (λ n. IsThere n p old) (sym e) there

-- inside an item of a Collection
pub item_inside : (o : ℕ) (v : Val) (steps : List Step) → 0 < in_value o (value_in_item v steps) → 0 < in_value o v
item_inside o v steps lt = by_value (path_value v (plain_steps steps)) refl lt where
  by_value : (x : Option Val) → path_value v (plain_steps steps) ≡ x → 0 < in_value o (value_or_empty x) → 0 < in_value o v
  by_value None e h = absurd (omega (arith, h))
  by_value (Some w) e h = omega (arith, part_within o v (plain_steps steps) w e, h)

-- an item of what is walked is there
pub field_there : {asks : Bool} (n k : ℕ) (m : Memory) (x : Option Val) → slice_get (object_at m n).fields k ≡ x → Ready asks m → ThereIn m x
field_there n k m None e r = tt
field_there n k m (Some w) e r =
    variable_there m (record { root = in_fields n k; steps = []; of = type.variant; bounded = false; makes = None }) w r tt (ap (λ x. inner_or_none x []) e)

element_there : (v : Val) (k : ℕ) (m : Memory) (x : Option Val) → path_value v (Element k ∷ []) ≡ x → AllThere m.objects (objects_in v) → ThereIn m x
element_there v k m None e h = tt
element_there v k m (Some w) e h = λ o lt. h o (omega (arith, part_within o v (Element k ∷ []) w e, lt))

none_of : (b : Bool) (v : Val) (m : Memory) → objects_in v ≡ [] → ThereIn m (if b then Some v else None)
none_of true v m e = λ o lt. absurd (omega (arith, ap (times o) e, lt))
none_of false v m e = tt

item_there : {asks : Bool} (v : Val) (k : ℕ) (m : Memory) → Ready asks m → AllThere m.objects (objects_in v) → ThereIn m (item_of v k m)
item_there (object (Host host.Sheets)) k m r h = none_of (nat_lt k (length m.book)) (object (Host (host.Sheet (suc k)))) m refl
item_there (object (Host (host.Area s t l rows c))) k m r h = none_of (nat_lt k (rows * c)) (range_value (area_in s (t + k / c) (l + k % c) 1 1)) m refl
item_there (object (Heap id)) k m r h = field_there id.0 k m (slice_get (object_at m id.0).fields k) refl r
item_there v k m r h = element_there v k m (path_value v (Element k ∷ [])) refl h

module _ (Sure : World) where
  -- ---- elements and fields

  pub numbers_safe : (vs : List Val) (m : Memory) → Safe Sure Any m (numbers vs m)
  numbers_safe [] m = fine (λ s. tt)
  numbers_safe (v ∷ vs) m =
      then_next (answered_any (coerce_of v type.long) m) (λ w m1 n1 q1. then_next (numbers_safe vs m1) (λ zs m2 n2 q2. fine (λ s. tt)))

  pub offset_safe : (bounds : List Bound) (vs : List Val) (m : Memory) → Safe Sure Any m (offset_at bounds vs m)
  offset_safe bounds vs m = then_next (numbers_safe vs m) (λ zs m1 n1 q1. answered_any (offset_of bounds zs) m1)

  pub indexed_object_safe : {A : Type 0} {Q : Memory → A → Type 0} (o : ObjRef) (m : Memory) → Safe Sure Q m (indexed_object o m)
  indexed_object_safe Nothing m = bad 91 m
  indexed_object_safe (Host host.ErrObject) m = bad 450 m
  indexed_object_safe o m = bad 438 m

  pub element_in_safe : (p : Path) (x : Option Val) (vs : List Val) (m : Memory) → (Sure.sure → GivenPath Sure.asks m p) → Safe Sure (LeadsOn Sure.asks p) m (element_in p x vs m)
  element_in_safe p None vs m h = then_next (numbers_safe vs m) (λ zs m1 n1 q1. bad 9 m1)
  element_in_safe p (Some (array bounds of items)) vs m h = then_next (offset_safe bounds vs m) (λ k m1 n1 q1. fine (λ s. (still_path n1 p h s, λ g. g)))
  element_in_safe p (Some (object o)) vs m h = indexed_object_safe o m
  element_in_safe p (Some v) vs m h = bad 450 m

  pub indexed_safe : (v : Val) (vs : List Val) (m : Memory) → (Sure.sure → Ready Sure.asks m) → (Sure.sure → Given m v) → Safe Sure Given m (indexed v vs m)
  indexed_safe (array bounds of items) vs m r h =
      then_safe r (offset_safe bounds vs m) (λ k m1 r1 n1 q1. read_value_safe Sure (Some (item_at items k)) m1 (λ s. held_there (r1 s) (item_in items k (still n1 (array bounds of items) h s))))
  indexed_safe (object o) vs m r h = indexed_object_safe o m
  indexed_safe v vs m r h = bad 450 m

  pub part_of_safe : (i : ℕ) (v : Val) (m : Memory) → (Sure.sure → Ready Sure.asks m) → (Sure.sure → Given m v) → Safe Sure Given m (part_of i v m)
  part_of_safe i v m r h =
      read_value_safe Sure (path_value v (Field i ∷ [])) m (λ s. part_there m v (path_value v (Field i ∷ [])) (λ w. path_value w (Field i ∷ []))
      (λ w e o lt. omega (arith, part_within o v (Field i ∷ []) w e, lt)) refl (r s) (h s))

  -- ---- ReDim and Erase

  answered_here : {A : Type 0} (x : Result A Bad) (m : Memory) → Safe Sure (λ m1 v. m1 ≡ m) m (answered x m)
  answered_here (Ok v) m = fine (λ s. refl)
  answered_here (Err (Raise n)) m = bad n m
  answered_here (Err (Outside k)) m = out _ m

  element_type_safe : (of : Declared) (t : Option Declared) (m : Memory) → Safe Sure (λ m1 v. m1 ≡ m) m (element_type of t m)
  element_type_safe (type.array_of of) None m = fine (λ s. refl)
  element_type_safe (type.array_of of) (Some t) m = both (is_same_type of t) (fine (λ s. refl)) (bad 13 m)
  element_type_safe type.variant None m = fine (λ s. refl)
  element_type_safe type.variant (Some t) m = fine (λ s. refl)
  element_type_safe other t m = bad 13 m

  -- a new array refers to what these did, and the memory is as it was
  abbrev Made : Memory → List ℕ → Memory → Val → Type 0
  Made m xs m1 v = (m1 ≡ m) × In (objects_in v) xs

  resized_safe : (d : Declarations) (shape bounds : List Bound) (of : Declared) (items : Vals) (m : Memory) → Safe Sure (Made m (objects_in_vals items)) m (resized_array d shape bounds of items m)
  resized_safe d shape [] of items m = fine (λ s. (refl, filled_in shape of (initial (types_of d) of) (initial_in (objects_in_vals items) (types_of d) of)))
  resized_safe d shape (b ∷ bs) of items m =
      both (can_resize shape (array (b ∷ bs) of items))
      (fine (λ s. (refl, resized_in shape (initial (types_of d) of) (array (b ∷ bs) of items) (initial_in (objects_in_vals items) (types_of d) of) (in_self (objects_in_vals items))))) (bad 9 m)

  preserved_safe : (d : Declarations) (t : Option Declared) (shape : List Bound) (v : Val) (m : Memory) → Safe Sure (Made m (objects_in v)) m (preserved d t shape v m)
  preserved_safe d t shape (array bounds of items) m =
      then_next (element_type_safe (type.array_of of) t m) (λ u m1 n1 e1. giving (resized_safe d shape bounds of items m1) (λ m2 v s q. (q.0 ∙ e1 s, q.1)))
  preserved_safe d t shape v m = bad 13 m

  redim_value_safe : (d : Declarations) (preserve : Bool) (t : Option Declared) (shape : List Bound) (p : Path) (old : Val) (m : Memory)
      → Safe Sure (Made m (objects_in old)) m (redim_value d preserve t shape p old m)
  redim_value_safe d preserve t shape p old m =
      both preserve (preserved_safe d t shape old m)
      (then_next (element_type_safe p.of t m) (λ of m1 n1 e1. fine (λ s. (e1 s, filled_in shape of (initial (types_of d) of) (initial_in (objects_in old) (types_of d) of)))))

  -- a value is stored, and what stood there waits
  exchanged_later : (p : Path) (old w : Val) (m : Memory) → (Sure.sure → GivenPath Sure.asks m p) → (Sure.sure → IsThere m p old) → (Sure.sure → AllThere m.objects (objects_in w)) → Later Sure m [] (waits (objects_in old) (with_value m p w))
  exchanged_later p old w m i there h = record {
    marks = marked_written m p w;
    near = λ s. record {
      came = objects_in w;
      grows = exchanged_grows m p old w (there s);
      came_there = λ o lt. there_written m p w o (h s o lt);
      there = λ o k. there_written m p w o k;
      fresh = λ o k n. absurd (n (old_written m p w o k));
      held = record { at = λ o lt. omega (arith, ap (times o) (top_written Sure.asks m p w (i s)), lt) };
      called = called_written Sure.asks m p w (i s);
      me = me_written Sure.asks m p w (i s);
      below = below_written Sure.asks m p w (i s);
      bare = λ g. bare_written Sure.asks m p w g;
      lent = λ a g. subst (λ qs. Paths (reach Sure.asks (with_value m p w)) qs) (pending_written Sure.asks m p w (i s)) (paths_more a (top m).pending g);
    };
  }

  pub redimmed_safe : (d : Declarations) (preserve : Bool) (t : Option Declared) (p : Path) (vs : List Val) (m : Memory) → (Sure.sure → Ready Sure.asks m) → (Sure.sure → GivenPath Sure.asks m p) → Safe Sure Any m (redimmed d preserve t p vs m)
  redimmed_safe d preserve t p vs m r i =
      then_safe r (numbers_safe vs m) (λ zs m1 r1 n1 q1.
      then_safe r1 (assignable_safe Sure p m1) (λ old m2 r2 n2 there.
      then_safe r2 (answered_here (shape_of (bounds_of zs)) m2) (λ shape m3 r3 n3 e3.
      then_safe r3 (redim_value_safe d preserve t shape p old m3) (λ v m4 r4 n4 q4.
      (let is : Sure.sure → IsThere m4 p old = λ s. still_there (q4 s).0 (still_there (e3 s) (there s)) in
      fine_in (exchanged_later p old v m4 (still_path n4 p (still_path n3 p (still_path n2 p (still_path n1 p i)))) is (λ s o lt. variable_there m4 p old (r4 s) (is s).variable (is s).here o ((q4 s).1.at o lt))) (λ s. tt))))))

  -- an array without elements, or with new ones
  emptied_in : (d : Declarations) (b : Bool) (bounds : List Bound) (of : Declared) → Refers [] (if b then new_array d bounds of else array [] of no_vals)
  emptied_in d true bounds of = filled_in bounds of (initial (types_of d) of) (initial_in [] (types_of d) of)
  emptied_in d false bounds of = none_in []

  erased_value_safe : (d : Declarations) (bounded : Bool) (x : Option Val) (m : Memory) → Safe Sure (λ m1 v. Refers [] v) m (erased_value d bounded x m)
  erased_value_safe d bounded None m = bad 9 m
  erased_value_safe d bounded (Some (array bounds of items)) m = fine (λ s. emptied_in d bounded bounds of)
  erased_value_safe d bounded (Some v) m = bad 13 m

  pub erased_safe : (d : Declarations) (p : Path) (m : Memory) → (Sure.sure → GivenPath Sure.asks m p) → Safe Sure Any m (erased d p m)
  erased_safe d p m i =
      then_next (erased_value_safe d p.bounded (value_at m p) m) (λ v m1 n1 q1.
      then_next (replaceable_safe Sure p m1) (λ old m2 n2 there.
      fine_in (exchanged_later p old v m2 (still_path n2 p (still_path n1 p i)) there (λ s o lt. absurd (omega (arith, (q1 s).at o lt)))) (λ s. tt)))

  -- ---- With

  kept_from : (i : ℕ) (root : Root) (steps : List Step) (of : Declared) (bounded : Bool) (makes : Option ℕ) (m : Memory)
      → let p : Path = record { root = root; steps = steps; of = of; bounded = bounded; makes = makes } in (Sure.sure → Ready Sure.asks m) → (Sure.sure → RootIn (reach Sure.asks m) root) → (Sure.sure → StaysIn (block_reach Sure.asks m) root) → Safe Sure Any m (keep_path i p m)
  kept_from i (in_item v) steps of bounded makes m r h g =
      done_in (keeping_later Sure i (only (value_in_item v steps)) m (λ s o lt. held_there (r s) (h s) o (item_inside o v steps lt)) (λ s. tt))
  kept_from i (in_object n) steps of bounded makes m r h g = done_in (keeping_later Sure i (at_path _) m (λ s. none_there m.objects) h)
  kept_from i (in_frame k x) steps of bounded makes m r h g = done_in (keeping_later Sure i (at_path _) m (λ s. none_there m.objects) h)
  kept_from i (in_project x) steps of bounded makes m r h g = done_in (keeping_later Sure i (at_path _) m (λ s. none_there m.objects) (λ s. tt))
  kept_from i (in_fields n f) steps of bounded makes m r h g = done_in (keeping_later Sure i (at_path _) m (λ s. none_there m.objects) g)
  kept_from i (in_block k j) steps of bounded makes m r h g = done_in (keeping_later Sure i (at_path _) m (λ s. none_there m.objects) h)

  pub keep_path_safe : (i : ℕ) (p : Path) (m : Memory) → (Sure.sure → Ready Sure.asks m) → (Sure.sure → GivenPath Sure.asks m p) → (Sure.sure → Stays Sure.asks m p) → Safe Sure Any m (keep_path i p m)
  keep_path_safe i p m r h g = kept_from i p.root p.steps p.of p.bounded p.makes m r h g

  pub block_over_safe : (i : ℕ) (m : Memory) → Safe Sure Any m (block_over i m)
  block_over_safe i m = done_in (record {
    marks = unmarked m.objects;
    near = λ s. record {
      came = [];
      grows = over_grows i m;
      came_there = none_there m.objects;
      there = λ o h. h;
      fresh = λ o h n. absurd (n h);
      held = in_back (objects_in (kept_at i m)) (top m).held;
      called = refl;
      me = refl;
      below = like_same (low m) (rest m.frames);
      bare = λ g. (let f = bare_first Sure.asks m.frames g in ((f.0, bare_without (block_reach Sure.asks m) i (top m).keeps f.1, f.2), bare_rest Sure.asks m.frames g));
      lent = λ a g. paths_more a (top m).pending g;
    };
  })

  place_kept_safe : (i : ℕ) (x : Option Kept) (m : Memory) → (Sure.sure → BareFound (block_reach Sure.asks m) x) → Safe Sure (Staying Sure.asks) m (place_kept i x m)
  place_kept_safe i None m b = bad 91 m
  place_kept_safe i (Some (only v)) m b = fine (λ s. (own_floor m, tt))
  place_kept_safe i (Some (at_path p)) m b =
      fine (λ s. (root_more (bare_wider (objects_in (top m).me ++ roots_of (rest m.frames)) (reach Sure.asks m) (in_back (top m).held (objects_in (top m).me ++ roots_of (rest m.frames)))) p.root (b s), stays_in (block_reach Sure.asks m) p.root (b s)))
  place_kept_safe i (Some (walk begun v k)) m b = bad 91 m

  pub dot_at_safe : (i : ℕ) (m : Memory) → (Sure.sure → Ready Sure.asks m) → Safe Sure (Staying Sure.asks) m (dot_at i m)
  dot_at_safe i m r = place_kept_safe i (found (top m).keeps i) m (λ s. bare_found (block_reach Sure.asks m) i (top m).keeps (bare_first Sure.asks m.frames (r s).bare).1)

  -- ---- For Each

  -- a loop goes on over what it walks
  walking_on : (i : ℕ) (begun b : Bool) (v : Val) (n k : ℕ) (m : Memory) → found (top m).keeps i ≡ Some (walk b v n) → Later Sure m [] (walking i begun v k m)
  walking_on i begun b v n k m e =
      top_later Sure m (record (top m) { keeps = put i (walk begun v k) (top m).keeps }) [] (still_walking i begun b v n k m e) (λ s. none_there m.objects) (in_self (top m).held)
      (λ s f. (f.0, bare_put (block_reach Sure.asks m) i (walk begun v k) (top m).keeps tt f.1, f.2)) refl refl (λ s a g. paths_more a (top m).pending g)

  not_walking_later : (i : ℕ) (x : Option Kept) (m : Memory) → found (top m).keeps i ≡ x → Later Sure m [] (not_walking i x m)
  not_walking_later i None m e = later_same m
  not_walking_later i (Some (only v)) m e = later_same m
  not_walking_later i (Some (at_path p)) m e = later_same m
  not_walking_later i (Some (walk begun v k)) m e = walking_on i false begun v k k m e

  pub each_off_safe : (i : ℕ) (m : Memory) → Safe Sure Any m (each_off i m)
  each_off_safe i m = done_in (not_walking_later i (found (top m).keeps i) m refl)

  walkable_safe : (v : Val) (m : Memory) → Safe Sure Any m (walkable v m)
  walkable_safe (array bounds of items) m = fine (λ s. tt)
  walkable_safe (object Nothing) m = bad 91 m
  walkable_safe (object (Host host.Sheets)) m = fine (λ s. tt)
  walkable_safe (object (Host (host.Area s t l r c))) m = fine (λ s1. tt)
  walkable_safe (object (Heap id)) m = both (is_collection (Heap id) m) (fine (λ s. tt)) (bad 438 m)
  walkable_safe (object o) m = bad 438 m
  walkable_safe v m = bad 13 m

  pub each_begun_safe : (i : ℕ) (v : Val) (m : Memory) → (Sure.sure → Ready Sure.asks m) → (Sure.sure → Given m v) → Safe Sure Any m (each_begun i v m)
  each_begun_safe i v m r h =
      then_safe r (walkable_safe v m) (λ u m1 r1 n1 q1. fine_in (record {
        marks = unmarked m1.objects;
        near = λ s. record {
          came = objects_in v;
          grows = walking_grows i v m1;
          came_there = held_there (r1 s) (still n1 v h s);
          there = λ o k. k;
          fresh = λ o k n. absurd (n k);
          held = in_self (top m1).held;
          called = refl;
          me = refl;
          below = like_same (low m1) (rest m1.frames);
          bare = λ g. (let f = bare_first Sure.asks m1.frames g in ((f.0, bare_put (block_reach Sure.asks m1) i (walk true v 0) (top m1).keeps tt f.1, f.2), bare_rest Sure.asks m1.frames g));
          lent = λ a g. paths_more a (top m1).pending g;
        };
      }) (λ s. tt))

  item_stored_safe : (x : Variable) (w : Val) (m : Memory) → (Sure.sure → Ready Sure.asks m) → (Sure.sure → AllThere m.objects (objects_in w)) → Safe Sure Any m (item_stored x w m)
  item_stored_safe x w m r h =
      then_next {Q = λ m1 u. Refers (objects_in w) u} (fitted_by Sure (path_of m x).of w m (λ u s i. i)) (λ u m1 n1 q1.
      stored_there_safe Sure (path_of m1 x) u m1 (path_of_in Sure m1 x (λ s. near_ready (n1 s) (r s))) (λ s o lt. (n1 s).there o (h s o ((q1 s).at o lt))))

  next_item_safe : (x : Variable) (i : ℕ) (v : Val) (k : ℕ) (y : Option Val) (m : Memory) → found (top m).keeps i ≡ Some (walk true v k) → (Sure.sure → Ready Sure.asks m) → (Sure.sure → ThereIn m y) → Safe Sure Any m (next_item x i v k y m)
  next_item_safe x i v k None m e r h = then_next {f = λ u m1. Fine false m1} (block_over_safe i m) (λ u m1 n1 q1. fine {v = false} (λ s. tt {0}))
  next_item_safe x i v k (Some w) m e r h =
      let l = walking_on i true true v k (suc k) m e in
      behind l (then_next (item_stored_safe x w (walking i true v (suc k) m) (λ s. near_ready (l.near s) (r s)) h) (λ u m2 n2 q2. fine (λ s. tt)))

  each_by_safe : (x : Variable) (i : ℕ) (y : Option Kept) (m : Memory) → found (top m).keeps i ≡ y → (Sure.sure → Ready Sure.asks m) → Safe Sure Any m (each_by x i y m)
  each_by_safe x i (Some (walk true v k)) m e r =
      next_item_safe x i v k (item_of v k m) m e r (λ s. item_there v k m (r s) (subst (λ w. AllThere m.objects (objects_in w)) (ap (λ y. kept_value (kept_or y)) e) (kept_there i m (r s))))
  each_by_safe x i other m e r = bad 92 m

  pub each_next_safe : (x : Variable) (i : ℕ) (m : Memory) → (Sure.sure → Ready Sure.asks m) → Safe Sure Any m (each_next x i m)
  each_next_safe x i m r = each_by_safe x i (found (top m).keeps i) m refl r
