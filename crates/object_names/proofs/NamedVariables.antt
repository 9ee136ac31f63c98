-- Effects on values, variables, loops and errors under other names.
use Rattle.std.proofs.Common.{◌≡◌, ℕ, ◌+◌, Bool, List, [], Option, Some, None, pos, refl, sym, ap, ◌∙◌, subst}
use Rattle.std.specs.Prelude.{◌-◌, ◌^◌, nat_lt, ◌&&◌, if◌then◌else◌, option_map, slice_set}
use Rattle.vba_values.specs.declared.fault.OutKind.TheVariants as limit
use Rattle.vba_values.specs.declared.object.ObjRef.{ObjRef}
use Rattle.vba_values.specs.declared.object.ObjRef.TheVariants.{Nothing, Heap, Host}
use Rattle.vba_values.specs.declared.object.HostRef.TheVariants as host
use Rattle.vba_values.specs.declared.types.OpKind.{OpKind}
use Rattle.vba_values.specs.declared.types.OpKind.TheVariants as op
use Rattle.vba_values.specs.declared.types.Compare.{Compare}
use Rattle.vba_values.specs.declared.types.WholeKind.TheVariants as kind
use Rattle.vba_values.specs.Types.{Declared}
use Rattle.vba_values.specs.Types as type
use Rattle.vba_values.specs.Val.{Val, boolean, whole, object, array, udt}
use Rattle.vba_values.specs.Coerce.{coerce_of}
use Rattle.vba_values.specs.Operators.{binary_of, unary_of}
use Rattle.vba_values.specs.Objects.{compared_by_is}
use Rattle.sheet_host.specs.Reading.{area_value}
use Rattle.bound_project.specs.Expressions.{Variable}
use Rattle.vba_meaning.specs.Paths.{Root, in_frame, in_project, in_fields, in_block, in_object, in_item, Step, Path}
use Rattle.vba_meaning.specs.Memory.{outside, Loop, Object, Memory, object_at, with_object, value_at, with_value, value_or_empty, path_of, is_locked}
use Rattle.vba_meaning.specs.References.{hold, displaced, replaced}
use Rattle.vba_meaning.specs.Effects.{Fine, Out, on_fine, done, answered, operated, operated_alone, is_collection, takes_object, set_reference, set_object, fitted, area_in, plain_reference, plain, is_true, read_value, read_path, has_parts, replaceable_by, replaceable, assignable, is_with_events, renumbered, with_set_number, set_number_drawn, connected, stored, assigned, within, fits}
use Rattle.vba_meaning.specs.Objects.{compared, typed_as, set_at, object_there, field_in}
use Rattle.object_lives.proofs.Values.{area_value_in}
use Rattle.object_names.specs.Names.{reference_named, value_named, path_named, loop_named, object_named, under}
use Rattle.object_names.specs.Renamed.{Fit, Same}
use Rattle.object_names.proofs.NamedValues.{free_answer, coerce_named, binary_named, unary_named, compared_blind}
use Rattle.object_names.proofs.Matched.{matches_put, keyed_numbered, keyed_unset}
use Rattle.object_names.proofs.NamedMemory.{hold_named, displaced_named, same_by, or_empty_named, object_at_named, value_at_named, path_of_named, collection_named, takes_named, locked_named, with_value_named}
use Rattle.object_names.proofs.Named.{plainly, Names, fine, bad, out, then_named, both, both_by, answered_named, answered_same}

module _ (r : ℕ → ℕ) where
  abbrev nv : Val → Val
  nv v = value_named r v

  abbrev np : Path → Path
  np p = path_named r p

  -- ---- what stands in both memories

  pub book_same : {m n : Memory} → Same r m n → n.book ≡ m.book
  book_same k = ap (λ x. x.book) k.is

  next_same : {m n : Memory} → Same r m n → n.next_set ≡ m.next_set
  next_same k = ap (λ x. x.next_set) k.is

  pub value_at_same : {m n : Memory} (p : Path) → Same r m n → value_at n (np p) ≡ option_map (λ v. value_named r v) (value_at m p)
  value_at_same {m = m} p k = ap (λ x. value_at x (np p)) k.is ∙ value_at_named r m k.objects k.fit.matches p

  pub path_of_same : {m n : Memory} (x : Variable) → Same r m n → path_of n x ≡ np (path_of m x)
  path_of_same {m = m} x k = ap (λ y. path_of y x) k.is ∙ path_of_named r m k.objects k.fit.matches x

  pub object_at_same : {m n : Memory} (o : ℕ) → Same r m n → object_at n (r o) ≡ object_named r (object_at m o)
  object_at_same {m = m} o k = ap (λ y. object_at y (r o)) k.is ∙ object_at_named r m k.objects k.fit.matches o

  pub collection_same : {m n : Memory} (o : ObjRef) → Same r m n → is_collection (reference_named r o) n ≡ is_collection o m
  collection_same {m = m} o k = ap (λ y. is_collection (reference_named r o) y) k.is ∙ collection_named r m k.objects k.fit.matches o

  takes_same : {m n : Memory} (of : Declared) (o : ObjRef) → Same r m n → takes_object of (reference_named r o) n ≡ takes_object of o m
  takes_same {m = m} of o k = ap (λ y. takes_object of (reference_named r o) y) k.is ∙ takes_named r m k.objects k.fit.matches of o

  locked_same : {m n : Memory} (p : Path) → Same r m n → is_locked n (np p) ≡ is_locked m p
  locked_same {m = m} p k = ap (λ y. is_locked y (np p)) k.is ∙ locked_named r m k.objects k.fit.matches p

  -- ---- changes of both

  pub hold_same : {m n : Memory} (v : Val) → Same r m n → Same r (hold v m) (hold (nv v) n)
  hold_same {m = m} v k = same_by r (hold v) (hold (nv v)) (hold_named r v m) refl refl k

  pub displaced_same : {m n : Memory} (v : Val) → Same r m n → Same r (displaced v m) (displaced (nv v) n)
  displaced_same {m = m} v k = same_by r (displaced v) (displaced (nv v)) (displaced_named r v m) refl refl k

  pub with_value_same : {m n : Memory} (p : Path) (v : Val) → Same r m n → Same r (with_value m p v) (with_value n (np p) (nv v))
  with_value_same {m = m} p v k = subst (λ y. Same r (with_value m p v) (with_value y (np p) (nv v))) (sym k.is) (with_value_named r m k.objects k.fit p v)

  pub replaced_same : {m n : Memory} (p : Path) (v : Val) → Same r m n → Same r (replaced p v m) (replaced (np p) (nv v) n)
  replaced_same {m = m} {n = n} p v k =
      let old : nv (value_or_empty (value_at m p)) ≡ value_or_empty (value_at n (np p)) = sym (or_empty_named r (value_at m p)) ∙ ap (λ x. value_or_empty x) (sym (value_at_same p k)) in
      subst (λ w. Same r (replaced p v m) (displaced w (with_value n (np p) (nv v)))) old (displaced_same (value_or_empty (value_at m p)) (with_value_same p v k))

  -- ---- values

  pub operated_names : {m n : Memory} (o : OpKind) (compare : Compare) (l s : Declared) (a b : Val) → Same r m n → Names r nv (operated o compare l s a b m) (operated o compare l s (nv a) (nv b) n)
  operated_names o compare l s a b k = answered_named r (binary_of o a l b s compare) _ (binary_named r o a l b s compare) k

  pub operated_alone_names : {m n : Memory} (o : OpKind) (of : Declared) (v : Val) → Same r m n → Names r nv (operated_alone o of v m) (operated_alone o of (nv v) n)
  operated_alone_names o of v k = answered_named r (unary_of o v of) _ (unary_named r o v of) k

  pub coerced_names : {m n : Memory} (of : Declared) (v : Val) → Same r m n → Names r nv (answered (coerce_of v of) m) (answered (coerce_of (nv v) of) n)
  coerced_names of v k = answered_named r (coerce_of v of) _ (coerce_named r v of) k

  reference_names : {m n : Memory} (of : Declared) (o : ObjRef) → Same r m n → Names r nv (set_reference of o m) (set_reference of (reference_named r o) n)
  reference_names of Nothing k = fine r refl k
  reference_names {m = m} {n = n} of (Heap id) k = both_by r (takes_object of (Heap id) m) _ (takes_same of (Heap id) k) (fine r refl k) (bad r 13 k)
  reference_names {m = m} {n = n} of (Host h) k = both_by r (takes_object of (Host h) m) _ (takes_same of (Host h) k) (fine r refl k) (bad r 13 k)

  pub set_object_names : {m n : Memory} (of : Declared) (v : Val) → Same r m n → Names r nv (set_object of v m) (set_object of (nv v) n)
  set_object_names of (object o) k = reference_names of o k
  set_object_names of v k = bad r 424 k

  pub fitted_names : {m n : Memory} (of : Declared) (v : Val) → Same r m n → Names r nv (fitted of v m) (fitted of (nv v) n)
  fitted_names type.object v k = set_object_names type.object v k
  fitted_names (type.class c) v k = set_object_names (type.class c) v k
  fitted_names type.collection v k = set_object_names type.collection v k
  fitted_names type.worksheet v k = set_object_names type.worksheet v k
  fitted_names type.range v k = set_object_names type.range v k
  fitted_names of v k = coerced_names of v k

  plain_of_names : {m n : Memory} (o : ObjRef) → Same r m n → Names r nv (plain_reference o m) (plain_reference (reference_named r o) n)
  plain_of_names Nothing k = bad r 91 k
  plain_of_names (Host host.ErrObject) k = fine r (ap (λ x. whole kind.Long x.err.number) k.is) k
  plain_of_names {m = m} {n = n} (Host (host.Area s t l rows c)) k =
      answered_named r (area_value m.book (area_in s t l rows c)) (area_value n.book (area_in s t l rows c))
      (ap (λ b. area_value b (area_in s t l rows c)) (book_same k) ∙ sym (free_answer r (area_value m.book (area_in s t l rows c)) (area_value_in [] m.book (area_in s t l rows c)))) k
  plain_of_names (Host host.Sheets) k = bad r 449 k
  plain_of_names {m = m} (Heap id) k = both_by r (is_collection (Heap id) m) _ (collection_same (Heap id) k) (bad r 449 k) (bad r 438 k)
  plain_of_names (Host h) k = bad r 438 k

  pub plain_names : {m n : Memory} (v : Val) → Same r m n → Names r nv (plain v m) (plain (nv v) n)
  plain_names (object o) k = plain_of_names o k
  plain_names v k = fine r refl k

  pub compared_names : {m n : Memory} (v w : Val) → Same r m n → Names r nv (compared v w m) (compared (nv v) (nv w) n)
  compared_names {m = m} {n = n} v w k = then_named r _ (answered_same r (compared_by_is v w) (compared_by_is (nv v) (nv w)) (compared_blind r k.fit.matches.once v w) k) (λ b m1 n1 k1. fine r refl k1)

  pub typed_as_names : {m n : Memory} (of : Declared) (v : Val) → Same r m n → Names r nv (typed_as of v m) (typed_as of (nv v) n)
  typed_as_names of (object Nothing) k = bad r 91 k
  typed_as_names of (object (Heap id)) k = fine r (ap (λ b. boolean b) (takes_same of (Heap id) k)) k
  typed_as_names of (object (Host h)) k = fine r (ap (λ b. boolean b) (takes_same of (Host h) k)) k
  typed_as_names of v k = bad r 424 k

  pub object_there_names : {m n : Memory} (v : Val) → Same r m n → Names r nv (object_there v m) (object_there (nv v) n)
  object_there_names (object Nothing) k = bad r 91 k
  object_there_names (object (Heap id)) k = fine r refl k
  object_there_names (object (Host h)) k = fine r refl k
  object_there_names v k = bad r 424 k

  pub field_in_names : {m n : Memory} (i : ℕ) (of : Declared) (bounded : Bool) (v : Val) → Same r m n → Names r np (field_in i of bounded v m) (field_in i of bounded (nv v) n)
  field_in_names i of bounded (object Nothing) k = bad r 91 k
  field_in_names i of bounded (object (Heap id)) k = fine r refl k
  field_in_names i of bounded (object (Host h)) k = bad r 438 k
  field_in_names i of bounded v k = bad r 424 k

  -- ---- values that are held

  by_value : {m n : Memory} (x : Option Val) → Same r m n → Names r nv (read_value x m) (read_value (option_map (λ v. value_named r v) x) n)
  by_value None k = bad r 9 k
  by_value (Some v) k = fine r refl (hold_same v k)

  pub read_value_names : {m n : Memory} (x y : Option Val) → y ≡ option_map (λ v. value_named r v) x → Same r m n → Names r nv (read_value x m) (read_value y n)
  read_value_names {m = m} {n = n} x y e k = subst (λ z. Names r nv (read_value x m) (read_value z n)) (sym e) (by_value x k)

  pub read_path_names : {m n : Memory} (p : Path) → Same r m n → Names r nv (read_path p m) (read_path (np p) n)
  read_path_names {m = m} {n = n} p k = read_value_names (value_at m p) (value_at n (np p)) (value_at_same p k) k

  -- ---- stores

  parts_blind : (v : Val) → has_parts (nv v) ≡ has_parts v
  parts_blind (object o) = refl
  parts_blind (array bounds of items) = refl
  parts_blind (udt number fields) = refl
  parts_blind v = refl

  by_found : {m n : Memory} (p : Path) (x : Option Val) → Same r m n → Names r nv (replaceable_by p x m) (replaceable_by (np p) (option_map (λ v. value_named r v) x) n)
  by_found p None k = bad r 9 k
  by_found {m = m} {n = n} p (Some old) k =
      both_by r (has_parts old && is_locked m p) _ (ap (λ b. b && is_locked n (np p)) (parts_blind old) ∙ ap (λ b. has_parts old && b) (locked_same p k)) (bad r 10 k) (fine r refl k)

  found_names : {m n : Memory} (p : Path) → Same r m n → Names r nv (replaceable_by p (value_at m p) m) (replaceable_by (np p) (value_at n (np p)) n)
  found_names {m = m} {n = n} p k = subst (λ z. Names r nv (replaceable_by p (value_at m p) m) (replaceable_by (np p) z n)) (sym (value_at_same p k)) (by_found p (value_at m p) k)

  replaceable_from : {m n : Memory} (root : Root) (steps : List Step) (of : Declared) (bounded : Bool) (makes : Option ℕ)
      → let p : Path = record { root = root; steps = steps; of = of; bounded = bounded; makes = makes } in Same r m n → Names r nv (replaceable p m) (replaceable (np p) n)
  replaceable_from (in_frame j x) steps of bounded makes k = found_names (record { root = in_frame j x; steps = steps; of = of; bounded = bounded; makes = makes }) k
  replaceable_from (in_project x) steps of bounded makes k = found_names (record { root = in_project x; steps = steps; of = of; bounded = bounded; makes = makes }) k
  replaceable_from (in_fields o i) steps of bounded makes k = found_names (record { root = in_fields o i; steps = steps; of = of; bounded = bounded; makes = makes }) k
  replaceable_from (in_block j i) steps of bounded makes k = found_names (record { root = in_block j i; steps = steps; of = of; bounded = bounded; makes = makes }) k
  replaceable_from (in_object o) steps of bounded makes k = bad r 438 k
  replaceable_from (in_item v) steps of bounded makes k = bad r 438 k

  pub replaceable_names : {m n : Memory} (p : Path) → Same r m n → Names r nv (replaceable p m) (replaceable (np p) n)
  replaceable_names p k = replaceable_from p.root p.steps p.of p.bounded p.makes k

  pub assignable_names : {m n : Memory} (p : Path) → Same r m n → Names r nv (assignable p m) (assignable (np p) n)
  assignable_names p k = then_named r _ (replaceable_names p k) (λ old m1 n1 k1. both r p.bounded (bad r 10 k1) (fine r refl k1))

  -- Sets of WithEvents variables
  numbered_here : (m : Memory) (cs : List (Option Object)) → Fit r m cs → (o i : ℕ)
      → Same r (record (with_set_number o i (Some m.next_set) m) { next_set = m.next_set + 1 }) (record (with_set_number (r o) i (Some m.next_set) (under r m cs)) { next_set = m.next_set + 1 })
  numbered_here m cs k o i = record {
    objects = slice_set cs (r o) (Some (object_named r (record (object_at m o) { set_numbers = renumbered i (Some m.next_set) (object_at m o).set_numbers })));
    is = ap (λ c. record (with_object (under r m cs) (r o) (Some (record c { set_numbers = renumbered i (Some m.next_set) c.set_numbers }))) { next_set = m.next_set + 1 }) (object_at_named r m cs k.matches o);
    fit = record { matches = matches_put r o (Some (record (object_at m o) { set_numbers = renumbered i (Some m.next_set) (object_at m o).set_numbers })) k.matches; keyed = keyed_numbered o i k.keyed };
  }

  unset_here : (m : Memory) (cs : List (Option Object)) → Fit r m cs → (o i : ℕ) → Same r (with_set_number o i None m) (with_set_number (r o) i None (under r m cs))
  unset_here m cs k o i = record {
    objects = slice_set cs (r o) (Some (object_named r (record (object_at m o) { set_numbers = renumbered i None (object_at m o).set_numbers })));
    is = ap (λ c. with_object (under r m cs) (r o) (Some (record c { set_numbers = renumbered i None c.set_numbers }))) (object_at_named r m cs k.matches o);
    fit = record { matches = matches_put r o (Some (record (object_at m o) { set_numbers = renumbered i None (object_at m o).set_numbers })) k.matches; keyed = keyed_unset o i k.keyed };
  }

  numbered_same : {m n : Memory} (o i : ℕ) → Same r m n
      → Same r (record (with_set_number o i (Some m.next_set) m) { next_set = m.next_set + 1 }) (record (with_set_number (r o) i (Some n.next_set) n) { next_set = n.next_set + 1 })
  numbered_same {m = m} o i k =
      subst (λ y. Same r (record (with_set_number o i (Some m.next_set) m) { next_set = m.next_set + 1 }) (record (with_set_number (r o) i (Some y.next_set) y) { next_set = y.next_set + 1 })) (sym k.is) (numbered_here m k.objects k.fit o i)

  unset_same : {m n : Memory} (o i : ℕ) → Same r m n → Same r (with_set_number o i None m) (with_set_number (r o) i None n)
  unset_same {m = m} o i k = subst (λ y. Same r (with_set_number o i None m) (with_set_number (r o) i None y)) (sym k.is) (unset_here m k.objects k.fit o i)

  drawn_names : {m n : Memory} (o i : ℕ) → Same r m n
      → Names r plainly (if nat_lt m.next_set (2 ^ 64 - 1) then done (record (with_set_number o i (Some m.next_set) m) { next_set = m.next_set + 1 }) else Out (outside limit.Links) m)
      (if nat_lt n.next_set (2 ^ 64 - 1) then done (record (with_set_number (r o) i (Some n.next_set) n) { next_set = n.next_set + 1 }) else Out (outside limit.Links) n)
  drawn_names {m = m} {n = n} o i k = both_by r (nat_lt m.next_set (2 ^ 64 - 1)) _ (ap (λ x. nat_lt x (2 ^ 64 - 1)) (next_same k)) (fine r refl (numbered_same o i k)) (out r (outside limit.Links) k)

  set_number_names : {m n : Memory} (o i : ℕ) (v : Val) → Same r m n → Names r plainly (set_number_drawn o i v m) (set_number_drawn (r o) i (nv v) n)
  set_number_names o i (object Nothing) k = fine r refl (unset_same o i k)
  set_number_names o i (object (Heap id)) k = drawn_names o i k
  set_number_names o i (object (Host h)) k = drawn_names o i k
  set_number_names o i v k = drawn_names o i k

  connected_from : {m n : Memory} (root : Root) (steps : List Step) (of : Declared) (bounded : Bool) (makes : Option ℕ) (w : Val)
      → let p : Path = record { root = root; steps = steps; of = of; bounded = bounded; makes = makes } in Same r m n → Names r plainly (connected p w m) (connected (np p) (nv w) n)
  connected_from {m = m} {n = n} (in_fields o i) steps of bounded makes w k =
      both_by r (is_with_events i (object_at m o).set_numbers) _ (ap (λ b. is_with_events i b.set_numbers) (object_at_same o k)) (set_number_names o i w k) (fine r refl k)
  connected_from (in_frame j x) steps of bounded makes w k = fine r refl k
  connected_from (in_project x) steps of bounded makes w k = fine r refl k
  connected_from (in_block j i) steps of bounded makes w k = fine r refl k
  connected_from (in_object o) steps of bounded makes w k = fine r refl k
  connected_from (in_item v) steps of bounded makes w k = fine r refl k

  pub stored_names : {m n : Memory} (p : Path) (w : Val) → Same r m n → Names r plainly (stored p w m) (stored (np p) (nv w) n)
  stored_names p w k = then_named r _ (assignable_names p k) (λ old m1 n1 k1. connected_from p.root p.steps p.of p.bounded p.makes w (replaced_same p w k1))

  pub assigned_names : {m n : Memory} (p : Path) (v : Val) → Same r m n → Names r plainly (assigned p v m) (assigned (np p) (nv v) n)
  assigned_names p v k = then_named r _ (coerced_names p.of v k) (λ w m1 n1 k1. stored_names p w k1)

  pub set_at_names : {m n : Memory} (p : Path) (v : Val) → Same r m n → Names r plainly (set_at p v m) (set_at (np p) (nv v) n)
  set_at_names p v k = then_named r _ (set_object_names p.of v k) (λ w m1 n1 k1. stored_names p w k1)

  -- ---- For and Case

  pub true_blind : (v : Val) → is_true (nv v) ≡ is_true v
  true_blind (object o) = refl
  true_blind v = refl

  tested_names : {m n : Memory} (o : OpKind) (compare : Compare) (l s : Declared) (a b : Val) → Same r m n
      → Names r plainly (on_fine (operated o compare l s a b m) (λ b m1. Fine (is_true b) m1)) (on_fine (operated o compare l s (nv a) (nv b) n) (λ b m1. Fine (is_true b) m1))
  tested_names o compare l s a b k = then_named r _ (operated_names o compare l s a b k) (λ c m1 n1 k1. fine r (true_blind c) k1)

  pub fits_names : {m n : Memory} (o : OpKind) (compare : Compare) (of test : Declared) (v x : Val) → Same r m n → Names r plainly (fits o compare of test v x m) (fits o compare of test (nv v) (nv x) n)
  fits_names o compare of test v x k = tested_names o compare of test v x k

  pub within_names : {m n : Memory} (of : Declared) (v : Val) (l : Loop) → Same r m n → Names r plainly (within of v l m) (within of (nv v) (loop_named r l) n)
  within_names of v l k =
      then_named r _ (tested_names op.Lt l.compare l.step.of type.integer l.step.value (whole kind.Integer (pos 0)) k) (λ down m1 n1 k1.
      tested_names (if down then op.Ge else op.Le) l.compare of l.last.of v l.last.value k1)
