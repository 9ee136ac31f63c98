-- Effects on Collections.
use Rattle.std.proofs.Common.{◌≡◌, ℕ, zero, suc, ◌+◌, ◌<◌, Bool, true, false, List, [], ◌∷◌, length, Option, Some, None, refl, sym, subst, arith, ℤ, pos, negsuc}
use Rattle.std.specs.Prelude.{◌==◌, ◌&&◌, nat_lt, slice_get, slice_index_or, slice_set, if◌then◌else◌}
use Rattle.std.proofs.lemmas.Bool.{eqb-true}
use Rattle.vba_base.specs.Fold.{folded}
use Rattle.vba_values.specs.declared.fault.OutKind.TheVariants as limit
use Rattle.vba_values.specs.declared.object.ObjRef.TheVariants.{Heap}
use Rattle.vba_values.specs.Types as type
use Rattle.vba_values.specs.Val.{Val, empty, missing, text, object}
use Rattle.vba_values.specs.Coerce.{coerce_of}
use Rattle.vba_meaning.specs.Memory.{Memory, Object, outside, object_at, rest, top}
use Rattle.vba_meaning.specs.References.{objects_in, objects_in_values, times, times_in_objects, waits}
use Rattle.vba_meaning.specs.Effects.{Effect, is_collection}
use Rattle.vba_meaning.specs.Arrays.{number_in}
use Rattle.vba_meaning.specs.Collections.{CollectionMember, is_add, is_count, is_item, is_remove, is_enumerator, member_by_name, found_or, collection_member, items_of, keys_of, with_items, put_at, without_at, key_place, numbered_place, place_by, place_of_item, item_found, item_removed, is_given, key_in, unused_key, new_key, new_place, put_in, item_added, with_none, collection_used}
use Rattle.object_counts.proofs.Indexed.{times-append}
use Rattle.object_counts.proofs.Stored.{object_in}
use Rattle.object_lives.proofs.Values.{none_in, in_self, Refers}
use Rattle.object_lives.proofs.Held.{World, nth_value}
use Rattle.object_lives.proofs.Marks.{kept_marked}
use Rattle.object_lives.proofs.Near.{Present, AllThere, Ready, Later, low, like_same, present_set, set_present, held_there}
use Rattle.object_lives.proofs.Chains.{Any, Given, GivenAll, Safe, fine, fine_in, bad, out, then_next, then_safe, both, answered_any}
use Rattle.object_lives.proofs.Variables.{plain_any, read_value_safe}
use Rattle.object_lives.proofs.Arrays.{field_there}

-- ---- one object has other fields

-- they count in place of those that it had
other_fields : (k : ℕ) (bs : List (Option Object)) (o : ℕ) (b : Object) → Present bs o
    → times_in_objects k (slice_set bs o (Some b)) + times k (objects_in_values (object_in bs o).fields) ≡ times_in_objects k bs + times k (objects_in_values b.fields)
other_fields k [] zero b h = absurd h
other_fields k [] (suc o) b h = absurd h
other_fields k (None ∷ bs) zero b h = absurd h
other_fields k (Some c ∷ bs) zero b h = omega arith
other_fields k (None ∷ bs) (suc o) b h = other_fields k bs o b h
other_fields k (Some c ∷ bs) (suc o) b h = omega (arith, other_fields k bs o b h)

items_less : (k i : ℕ) (vs : List Val) → times k (objects_in_values (without_at i vs)) + times k (objects_in (slice_index_or vs i empty)) ≡ times k (objects_in_values vs)
items_less k zero [] = refl
items_less k (suc i) [] = refl
items_less k zero (v ∷ vs) = omega (arith, times-append k (objects_in v) (objects_in_values vs))
items_less k (suc i) (v ∷ vs) =
    omega (arith, items_less k i vs, times-append k (objects_in v) (objects_in_values (without_at i vs)), times-append k (objects_in v) (objects_in_values vs))

items_more : (k i : ℕ) (v : Val) (vs : List Val) → times k (objects_in_values (put_at i v vs)) ≡ times k (objects_in_values vs) + times k (objects_in v)
items_more k zero v vs = omega (arith, times-append k (objects_in v) (objects_in_values vs))
items_more k (suc i) v [] = omega (arith, times-append k (objects_in v) [])
items_more k (suc i) v (w ∷ vs) =
    omega (arith, items_more k i v vs, times-append k (objects_in w) (objects_in_values (put_at i v vs)), times-append k (objects_in w) (objects_in_values vs))

-- a reference to an object refers to it alone
pub itself : (o q : ℕ) → 0 < times q (o ∷ []) → q ≡ o
itself o q lt = by_test (q == o) refl lt where
  by_test : (b : Bool) → (q == o) ≡ b → 0 < (if b then 1 else 0) + 0 → q ≡ o
  by_test true e h = eqb-true q o e
  by_test false e h = absurd (omega (arith, h))

pub alone_there : (bs : List (Option Object)) (o : ℕ) → Present bs o → AllThere bs (o ∷ [])
alone_there bs o h q lt = subst (λ n. Present bs n) (sym (itself o q lt)) h

-- ---- what a use of a Collection gives, with how many references wait

abbrev pub GivenFirst : Memory → Val × ℕ → Type 0
GivenFirst m r = Refers (top m).held r.0

module _ (Sure : World) where
  pub found_or_any : {A : Type 0} (n : ℕ) (x : Option A) (m : Memory) → Safe Sure Any m (found_or n x m)
  found_or_any n None m = bad n m
  found_or_any n (Some v) m = fine (λ s. tt)

  pub collection_member_safe : (o : ℕ) (name : List ℕ) (m : Memory) → Safe Sure Any m (collection_member o name m)
  collection_member_safe o name m = both (is_collection (Heap (record { 0 = o })) m) (found_or_any 438 (member_by_name name) m) (bad 438 m)

  numbered_safe : (n : ℕ) (z : ℤ) (m : Memory) → Safe Sure Any m (numbered_place n z m)
  numbered_safe n (pos zero) m = bad 9 m
  numbered_safe n (pos (suc i)) m = both (nat_lt i n) (fine (λ s. tt)) (bad 9 m)
  numbered_safe n (negsuc k) m = bad 9 m

  place_by_safe : (o : ℕ) (v : Val) (m : Memory) → Safe Sure Any m (place_by o v m)
  place_by_safe o (text units) m = found_or_any 5 (key_place (folded units) (keys_of o m)) m
  place_by_safe o v m = then_next (answered_any (coerce_of v type.long) m) (λ w m1 n q. numbered_safe (length (items_of o m1)) (number_in w) m1)

  place_of_item_safe : (o : ℕ) (v : Val) (m : Memory) → Safe Sure Any m (place_of_item o v m)
  place_of_item_safe o v m = then_next (plain_any Sure v m) (λ w m1 n q. place_by_safe o w m1)

  pub item_found_safe : (o : ℕ) (vs : List Val) (m : Memory) → (Sure.sure → Ready Sure.asks m) → Safe Sure Given m (item_found o vs m)
  item_found_safe o [] m r = bad 449 m
  item_found_safe o (v ∷ []) m r =
      then_safe r (place_of_item_safe o v m) (λ i m1 r1 n q. read_value_safe Sure (slice_get (items_of o m1) i) m1 (λ s. field_there o i m1 (slice_get (items_of o m1) i) refl (r1 s)))
  item_found_safe o (v ∷ w ∷ vs) m r = bad 450 m

  -- ---- an item leaves

  out_later : (o i : ℕ) (m : Memory) → (Sure.sure → Present m.objects o)
      → Later Sure m [] (waits (objects_in (slice_index_or (items_of o m) i empty)) (with_items o (without_at i (items_of o m)) (without_at i (keys_of o m)) m))
  out_later o i m h =
      let b = record (object_at m o) { fields = without_at i (items_of o m); keys = without_at i (keys_of o m) } in
      let v = slice_index_or (items_of o m) i empty in
      record {
        marks = kept_marked m.objects o b refl refl;
        near = λ s. record {
          came = [];
          grows = record { ordered = λ g. g; more = λ g k. omega (arith, other_fields k m.objects o b (h s), items_less k i (items_of o m), times-append k (objects_in v) m.waiting) };
          came_there = λ k lt. absurd (omega (arith, lt));
          there = λ k g. present_set m.objects o b k g;
          fresh = λ k g n. absurd (n (set_present m.objects o b k (h s) g));
          held = in_self (top m).held;
          called = refl;
          me = refl;
          below = like_same (low m) (rest m.frames);
          bare = λ g. g;
          lent = λ a g. g;
        };
      }

  removed_safe : (o : ℕ) (vs : List Val) (m : Memory) → (Sure.sure → Present m.objects o) → Safe Sure GivenFirst m (item_removed o vs m)
  removed_safe o [] m h = bad 449 m
  removed_safe o (v ∷ []) m h = then_next (place_of_item_safe o v m) (λ i m1 n q. fine_in (out_later o i m1 (λ s. (n s).there o (h s))) (λ s. none_in _))
  removed_safe o (v ∷ w ∷ vs) m h = bad 450 m

  -- ---- an item is added

  in_later : (o i : ℕ) (v : Val) (key : Option (List ℕ)) (m : Memory) → (Sure.sure → Present m.objects o) → (Sure.sure → AllThere m.objects (objects_in v))
      → Later Sure m [] (with_items o (put_at i v (items_of o m)) (put_at i key (keys_of o m)) m)
  in_later o i v key m h g =
      let b = record (object_at m o) { fields = put_at i v (items_of o m); keys = put_at i key (keys_of o m) } in
      record {
        marks = kept_marked m.objects o b refl refl;
        near = λ s. record {
          came = objects_in v;
          grows = record { ordered = λ f. f; more = λ f k. omega (arith, other_fields k m.objects o b (h s), items_more k i v (items_of o m)) };
          came_there = λ k lt. present_set m.objects o b k (g s k lt);
          there = λ k f. present_set m.objects o b k f;
          fresh = λ k f n. absurd (n (set_present m.objects o b k (h s) f));
          held = in_self (top m).held;
          called = refl;
          me = refl;
          below = like_same (low m) (rest m.frames);
          bare = λ f. f;
          lent = λ a f. f;
        };
      }

  put_safe : (o i : ℕ) (v : Val) (key : Option (List ℕ)) (m : Memory) → (Sure.sure → Present m.objects o) → (Sure.sure → AllThere m.objects (objects_in v)) → Safe Sure GivenFirst m (put_in o i v key m)
  put_safe o i v key m h g = both (nat_lt (length (items_of o m)) 1048576) (fine_in (in_later o i v key m h g) (λ s. none_in _)) (out (outside limit.Elements) m)

  unused_safe : (key : List ℕ) (x : Option ℕ) (m : Memory) → Safe Sure Any m (unused_key key x m)
  unused_safe key None m = fine (λ s. tt)
  unused_safe key (Some i) m = bad 457 m

  new_key_safe : (o : ℕ) (v : Val) (m : Memory) → Safe Sure Any m (new_key o v m)
  new_key_safe o missing m = fine (λ s. tt)
  new_key_safe o v m =
      then_next (plain_any Sure v m) (λ w m1 n q. then_next (answered_any (coerce_of w type.text) m1) (λ x m2 n2 q2. unused_safe (key_in x) (key_place (key_in x) (keys_of o m2)) m2))

  new_place_safe : (o : ℕ) (before after : Val) (m : Memory) → Safe Sure Any m (new_place o before after m)
  new_place_safe o missing missing m = fine (λ s. tt)
  new_place_safe o missing after m = then_next (place_of_item_safe o after m) (λ i m1 n q. fine {v = suc i} (λ s. tt))
  new_place_safe o before after m = place_of_item_safe o before m

  added_safe : (o : ℕ) (v key before after : Val) (m : Memory) → (Sure.sure → Present m.objects o) → (Sure.sure → AllThere m.objects (objects_in v)) → Safe Sure GivenFirst m (item_added o v key before after m)
  added_safe o missing key before after m h g = bad 449 m
  added_safe o v key before after m h g =
      both (is_given before && is_given after) (bad 5 m)
      (then_next (new_key_safe o key m) (λ k m1 n1 q1. then_next (new_place_safe o before after m1) (λ i m2 n2 q2.
      put_safe o i v k m2 (λ s. (n2 s).there o ((n1 s).there o (h s))) (λ s q lt. (n2 s).there q ((n1 s).there q (g s q lt))))))

  -- ---- a member is used

  none_waits : {e : Effect Val} {m : Memory} → Safe Sure Given m e → Safe Sure GivenFirst m (with_none e)
  none_waits a = then_next a (λ v m1 n q. fine q)

  pub collection_used_safe : (o : ℕ) (how : CollectionMember) (vs : List Val) (m : Memory) → (Sure.sure → Ready Sure.asks m) → (Sure.sure → Present m.objects o) → (Sure.sure → GivenAll m vs)
      → Safe Sure GivenFirst m (collection_used o how vs m)
  collection_used_safe o is_add vs m r h g =
      added_safe o (slice_index_or vs 0 missing) (slice_index_or vs 1 missing) (slice_index_or vs 2 missing) (slice_index_or vs 3 missing) m h
      (λ s. held_there (r s) (nth_value (top m).held vs 0 missing (g s) (none_in (top m).held)))
  collection_used_safe o is_count vs m r h g = fine (λ s. none_in _)
  collection_used_safe o is_item vs m r h g = none_waits (item_found_safe o vs m r)
  collection_used_safe o is_remove vs m r h g = removed_safe o vs m h
  collection_used_safe o is_enumerator vs m r h g = none_waits (read_value_safe Sure (Some (object (Heap (record { 0 = o })))) m (λ s. alone_there m.objects o (h s)))
