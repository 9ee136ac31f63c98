-- What effects on Collections raise.
use Rattle.std.proofs.Common.{◌≡◌, ℕ, zero, suc, ◌+◌, List, [], ◌∷◌, length, Option, Some, None, refl, ap, arith, zero-le, zero-lt-suc, ℤ, pos, negsuc}
use Rattle.std.specs.Prelude.{◌&&◌, nat_lt, slice_get, slice_index_or, slice_set, if◌then◌else◌}
use Rattle.std.proofs.Math.Dec.{leb-suc-suc}
use Rattle.std.proofs.lemmas.Bool.{le-ltb, lt-ltb}
use Rattle.vba_base.specs.Fold.{folded}
use Rattle.vba_values.specs.declared.object.ObjRef.TheVariants.{Heap}
use Rattle.vba_values.specs.Types as type
use Rattle.vba_values.specs.Val.{Val, empty, missing, text, object}
use Rattle.vba_values.specs.Coerce.{coerce_of}
use Rattle.vba_meaning.specs.Memory.{Memory, Object}
use Rattle.vba_meaning.specs.References.{objects_in, objects_in_values, times, times_in_objects, waits}
use Rattle.vba_meaning.specs.Effects.{is_collection}
use Rattle.vba_meaning.specs.Arrays.{number_in}
use Rattle.vba_meaning.specs.Collections.{CollectionMember, is_add, is_count, is_item, is_remove, is_enumerator, member_by_name, found_or, collection_member, items_of, keys_of, with_items, put_at, without_at, key_place, numbered_place, place_by, place_of_item, item_found, item_removed, is_given, key_in, unused_key, new_key, new_place, put_in, item_added, collection_used}
use Rattle.object_counts.specs.Gains.{gains_behind, added_gains, used_gains}
use Rattle.object_counts.proofs.Indexed.{times-append}
use Rattle.object_counts.proofs.Stored.{object_in}
use Rattle.object_counts.proofs.Looks.{Grows, same}
use Rattle.object_counts.proofs.Chains.{Law, fine, bad, then_still, answered_law, both, Holds, then_holds, By, by_law, then_by, both_by, none_waits}
use Rattle.object_counts.proofs.Variables.{plain_law, read_value_holds}

-- ---- which member it is, and where an item is

pub found_or_law : {A : Type 0} (n : ℕ) (x : Option A) (m : Memory) → Law m [] (found_or n x m)
found_or_law n None m = bad n (same m)
found_or_law n (Some v) m = fine v (same m)

pub collection_member_law : (o : ℕ) (name : List ℕ) (m : Memory) → Law m [] (collection_member o name m)
collection_member_law o name m = both (is_collection (Heap (record { 0 = o })) m) (found_or_law 438 (member_by_name name) m) (bad 438 (same m))

numbered_law : (n : ℕ) (z : ℤ) (m : Memory) → Law m [] (numbered_place n z m)
numbered_law n (pos zero) m = bad 9 (same m)
numbered_law n (pos (suc i)) m = both (nat_lt i n) (fine i (same m)) (bad 9 (same m))
numbered_law n (negsuc k) m = bad 9 (same m)

place_by_law : (o : ℕ) (v : Val) (m : Memory) → Law m [] (place_by o v m)
place_by_law o (text units) m = found_or_law 5 (key_place (folded units) (keys_of o m)) m
place_by_law o v m = then_still (answered_law (coerce_of v type.long) m) (λ w m1. numbered_law (length (items_of o m1)) (number_in w) m1)

place_of_item_law : (o : ℕ) (v : Val) (m : Memory) → Law m [] (place_of_item o v m)
place_of_item_law o v m = then_still (plain_law v m) (λ w m1. place_by_law o w m1)

pub item_found_holds : (o : ℕ) (vs : List Val) (m : Memory) → Holds m (item_found o vs m)
item_found_holds o [] m = record { law = same m }
item_found_holds o (v ∷ []) m = then_holds (place_of_item_law o v m) (λ i m1. read_value_holds (slice_get (items_of o m1) i) m1)
item_found_holds o (v ∷ w ∷ vs) m = record { law = same m }

-- ---- an item leaves

items_less : (k i : ℕ) (vs : List Val) → times k (objects_in_values (without_at i vs)) + times k (objects_in (slice_index_or vs i empty)) ≡ times k (objects_in_values vs)
items_less k zero [] = refl
items_less k (suc i) [] = refl
items_less k zero (v ∷ vs) = omega (arith, times-append k (objects_in v) (objects_in_values vs))
items_less k (suc i) (v ∷ vs) =
    omega (arith, items_less k i vs, times-append k (objects_in v) (objects_in_values (without_at i vs)), times-append k (objects_in v) (objects_in_values vs))

-- the objects with an item less in one of them
objects_less : (k : ℕ) (bs : List (Option Object)) (o i : ℕ) (keys : List (Option (List ℕ)))
    → times_in_objects k (slice_set bs o (Some (record (object_in bs o) { fields = without_at i (object_in bs o).fields; keys = keys }))) + times k (objects_in (slice_index_or (object_in bs o).fields i empty))
    ≡ times_in_objects k bs
objects_less k [] zero i keys = items_less k i []
objects_less k [] (suc o) i keys = items_less k i []
objects_less k (None ∷ bs) zero i keys = omega (arith, items_less k i [])
objects_less k (Some b ∷ bs) zero i keys = omega (arith, items_less k i b.fields)
objects_less k (None ∷ bs) (suc o) i keys = objects_less k bs o i keys
objects_less k (Some b ∷ bs) (suc o) i keys = omega (arith, objects_less k bs o i keys)

out_grows : (o i : ℕ) (m : Memory)
    → Grows m [] (waits (objects_in (slice_index_or (items_of o m) i empty)) (with_items o (without_at i (items_of o m)) (without_at i (keys_of o m)) m))
out_grows o i m = record {
  ordered = λ h. h;
  more = λ h k. omega (arith, objects_less k m.objects o i (without_at i (keys_of o m)), times-append k (objects_in (slice_index_or (items_of o m) i empty)) m.waiting);
}

removed_by : (o : ℕ) (vs : List Val) (m : Memory) → By (λ r m1. objects_in r.0) m (item_removed o vs m)
removed_by o [] m = record { law = same m }
removed_by o (v ∷ []) m = then_by (place_of_item_law o v m) (λ i m1. record { law = out_grows o i m1 })
removed_by o (v ∷ w ∷ vs) m = record { law = same m }

-- ---- an item is added

items_more : (k i : ℕ) (v : Val) (vs : List Val) → times k (objects_in_values (put_at i v vs)) ≡ times k (objects_in_values vs) + times k (objects_in v)
items_more k zero v vs = omega (arith, times-append k (objects_in v) (objects_in_values vs))
items_more k (suc i) v [] = omega (arith, times-append k (objects_in v) [])
items_more k (suc i) v (w ∷ vs) =
    omega (arith, items_more k i v vs, times-append k (objects_in w) (objects_in_values (put_at i v vs)), times-append k (objects_in w) (objects_in_values vs))

-- what is stored in an object of this number, where there is one
abbrev stored_in : ℕ → Val → (count : ℕ) → List ℕ
stored_in o v n = if nat_lt o n then objects_in v else []

none_there : (k o : ℕ) (v : Val) → times k (stored_in o v 0) ≡ 0
none_there k o v = ap (λ b. times k (if b then objects_in v else [])) (le-ltb o 0 zero-le)

first_there : (k n : ℕ) (v : Val) → times k (stored_in 0 v (suc n)) ≡ times k (objects_in v)
first_there k n v = ap (λ b. times k (if b then objects_in v else [])) (lt-ltb 0 (suc n) (zero-lt-suc n))

further_there : (k o n : ℕ) (v : Val) → times k (stored_in (suc o) v (suc n)) ≡ times k (stored_in o v n)
further_there k o n v = ap (λ b. times k (if b then objects_in v else [])) (leb-suc-suc (suc o) n)

-- the objects with an item more in one of them
objects_more : (k : ℕ) (bs : List (Option Object)) (o i : ℕ) (v : Val) (keys : List (Option (List ℕ)))
    → let cs = slice_set bs o (Some (record (object_in bs o) { fields = put_at i v (object_in bs o).fields; keys = keys })) in
    times_in_objects k cs ≡ times_in_objects k bs + times k (stored_in o v (length cs))
objects_more k [] zero i v keys = omega (arith, none_there k 0 v)
objects_more k [] (suc o) i v keys = omega (arith, none_there k (suc o) v)
objects_more k (None ∷ bs) zero i v keys = omega (arith, items_more k i v [], first_there k (length bs) v)
objects_more k (Some b ∷ bs) zero i v keys = omega (arith, items_more k i v b.fields, first_there k (length bs) v)
objects_more k (None ∷ bs) (suc o) i v keys =
    let cs = slice_set bs o (Some (record (object_in bs o) { fields = put_at i v (object_in bs o).fields; keys = keys })) in
    omega (arith, objects_more k bs o i v keys, further_there k o (length cs) v)
objects_more k (Some b ∷ bs) (suc o) i v keys =
    let cs = slice_set bs o (Some (record (object_in bs o) { fields = put_at i v (object_in bs o).fields; keys = keys })) in
    omega (arith, objects_more k bs o i v keys, further_there k o (length cs) v)

in_grows : (o i : ℕ) (v : Val) (key : Option (List ℕ)) (m : Memory)
    → let m1 = with_items o (put_at i v (items_of o m)) (put_at i key (keys_of o m)) m in Grows m (added_gains o v m1) m1
in_grows o i v key m = record { ordered = λ h. h; more = λ h k. omega (arith, objects_more k m.objects o i v (put_at i key (keys_of o m))) }

put_by : (o i : ℕ) (v : Val) (key : Option (List ℕ)) (m : Memory) → By (λ r m1. added_gains o v m1) m (put_in o i v key m)
put_by o i v key m = both_by (nat_lt (length (items_of o m)) 1048576) (record { law = in_grows o i v key m }) (record { law = same m })

unused_law : (key : List ℕ) (x : Option ℕ) (m : Memory) → Law m [] (unused_key key x m)
unused_law key None m = fine (Some key) (same m)
unused_law key (Some i) m = bad 457 (same m)

new_key_law : (o : ℕ) (v : Val) (m : Memory) → Law m [] (new_key o v m)
new_key_law o missing m = fine None (same m)
new_key_law o v m =
    then_still (plain_law v m) (λ w m1. then_still (answered_law (coerce_of w type.text) m1) (λ x m2. unused_law (key_in x) (key_place (key_in x) (keys_of o m2)) m2))

new_place_law : (o : ℕ) (before after : Val) (m : Memory) → Law m [] (new_place o before after m)
new_place_law o missing missing m = fine _ (same m)
new_place_law o missing after m = then_still (place_of_item_law o after m) (λ i m1. fine (suc i) (same m1))
new_place_law o before after m = place_of_item_law o before m

added_by : (o : ℕ) (v key before after : Val) (m : Memory) → By (λ r m1. added_gains o v m1) m (item_added o v key before after m)
added_by o missing key before after m = record { law = same m }
added_by o v key before after m =
    both_by (is_given before && is_given after) (record { law = same m })
    (then_by (new_key_law o key m) (λ k m1. then_by (new_place_law o before after m1) (λ i m2. put_by o i v k m2)))

-- ---- a member is used

pub collection_used_law : (o : ℕ) (how : CollectionMember) (vs : List Val) (m : Memory)
    → Law m (gains_behind (collection_used o how vs m) (λ r m1. used_gains o how vs r m1)) (collection_used o how vs m)
collection_used_law o is_add vs m = by_law (added_by o (slice_index_or vs 0 missing) (slice_index_or vs 1 missing) (slice_index_or vs 2 missing) (slice_index_or vs 3 missing) m)
collection_used_law o is_count vs m = fine _ (same m)
collection_used_law o is_item vs m = by_law (none_waits (item_found_holds o vs m))
collection_used_law o is_remove vs m = by_law (removed_by o vs m)
collection_used_law o is_enumerator vs m = by_law (none_waits (read_value_holds (Some (object (Heap (record { 0 = o })))) m))
