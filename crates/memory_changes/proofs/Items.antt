-- Effects on Collections.
use Rattle.std.proofs.Common.{◌≡◌, ℕ, zero, suc, Bool, true, false, List, [], ◌∷◌, length, Option, Some, None, ℤ, pos, negsuc, refl}
use Rattle.std.specs.Prelude.{nat_lt, ◌&&◌, if◌then◌else◌, slice_get, slice_index_or}
use Rattle.vba_base.specs.Fold.{folded}
use Rattle.vba_values.specs.declared.fault.OutKind.TheVariants as limit
use Rattle.vba_values.specs.declared.object.ObjRef.TheVariants.{Heap}
use Rattle.vba_values.specs.Types as type
use Rattle.vba_values.specs.Val.{Val, empty, missing, text, object}
use Rattle.vba_values.specs.Coerce.{coerce_of}
use Rattle.bound_project.specs.Project.{Declarations}
use Rattle.vba_meaning.specs.Memory.{Memory, outside}
use Rattle.vba_meaning.specs.References.{objects_in}
use Rattle.vba_meaning.specs.Effects.{Effect, Bad-at, on_fine, is_collection}
use Rattle.vba_meaning.specs.Arrays.{number_in}
use Rattle.vba_meaning.specs.Collections.{CollectionMember, is_add, is_count, is_item, is_remove, is_enumerator, member_by_name, found_or, collection_member, items_of, keys_of, put_at, without_at, key_place, numbered_place, place_by, place_of_item, item_found, item_removed, is_given, key_in, unused_key, new_key, new_place, put_in, item_added, with_none, collection_used}
use Rattle.memory_changes.specs.Changes.{has_items}
use Rattle.memory_changes.proofs.Rows.{Still, still, still_bad, still_then, still_next, still_if, still_answered, row_then, one, Rows, fine, fine_in, bad, out, then_rows, then_same, both}
use Rattle.memory_changes.proofs.Values.{plain_still, read_value_rows}
use Rattle.memory_changes.proofs.Arrays.{waits_row}

pub found_or_still : {A : Type 0} (n : ℕ) (x : Option A) (m : Memory) → Still m (found_or n x m)
found_or_still n None m = still_bad n m
found_or_still n (Some v) m = still

pub collection_member_still : (o : ℕ) (name : List ℕ) (m : Memory) → Still m (collection_member o name m)
collection_member_still o name m = still_if (is_collection (Heap (record { 0 = o })) m) (found_or_still 438 (member_by_name name) m) (still_bad 438 m)

numbered_still : (n : ℕ) (z : ℤ) (m : Memory) → Still m (numbered_place n z m)
numbered_still n (pos zero) m = still_bad 9 m
numbered_still n (pos (suc i)) m = still_if (nat_lt i n) still (still_bad 9 m)
numbered_still n (negsuc k) m = still_bad 9 m

place_by_still : (o : ℕ) (v : Val) (m : Memory) → Still m (place_by o v m)
place_by_still o (text units) m = found_or_still 5 (key_place (folded units) (keys_of o m)) m
place_by_still o v m = still_next (still_answered (coerce_of v type.long) m) (λ w m1. numbered_still (length (items_of o m1)) (number_in w) m1)

place_of_item_still : (o : ℕ) (v : Val) (m : Memory) → Still m (place_of_item o v m)
place_of_item_still o v m = still_then _ (plain_still v m) (λ w. place_by_still o w m)

unused_still : (key : List ℕ) (x : Option ℕ) (m : Memory) → Still m (unused_key key x m)
unused_still key None m = still
unused_still key (Some i) m = still_bad 457 m

new_key_still : (o : ℕ) (v : Val) (m : Memory) → Still m (new_key o v m)
new_key_still o missing m = still
new_key_still o v m = still_next (plain_still v m) (λ w m1. still_next (still_answered (coerce_of w type.text) m1) (λ x m2. unused_still (key_in x) (key_place (key_in x) (keys_of o m2)) m2))

new_place_still : (o : ℕ) (before after : Val) (m : Memory) → Still m (new_place o before after m)
new_place_still o missing missing m = still
new_place_still o missing after m = still_next (place_of_item_still o after m) (λ i m1. still {v = suc i})
new_place_still o before after m = place_of_item_still o before m

module _ (d : Declarations) where
  pub item_found_rows : (o : ℕ) (vs : List Val) (m : Memory) → Rows d m (item_found o vs m)
  item_found_rows o [] m = bad d 449 m
  item_found_rows o (v ∷ []) m = then_same d _ (place_of_item_still o v m) (λ i. read_value_rows d (slice_get (items_of o m) i) m)
  item_found_rows o (v ∷ w ∷ vs) m = bad d 450 m

  abbrev IsCollection : Memory → ℕ → Type 0
  IsCollection m o = is_collection (Heap (record { 0 = o })) m ≡ true

  removed_rows : (o : ℕ) (vs : List Val) (m : Memory) → IsCollection m o → Rows d m (item_removed o vs m)
  removed_rows o [] m h = bad d 449 m
  removed_rows o (v ∷ []) m h = then_same d _ (place_of_item_still o v m) (λ i. fine_in d (row_then d (one d (has_items o (without_at i (items_of o m)) (without_at i (keys_of o m)) h)) (waits_row d (objects_in (slice_index_or (items_of o m) i empty)) _)))
  removed_rows o (v ∷ w ∷ vs) m h = bad d 450 m

  put_rows : (o i : ℕ) (v : Val) (key : Option (List ℕ)) (m : Memory) → IsCollection m o → Rows d m (put_in o i v key m)
  put_rows o i v key m h =
      both d (nat_lt (length (items_of o m)) 1048576) (fine_in d (one d (has_items o (put_at i v (items_of o m)) (put_at i key (keys_of o m)) h))) (out d (outside limit.Elements) m)

  added_rows : (o : ℕ) (v key before after : Val) (m : Memory) → IsCollection m o → Rows d m (item_added o v key before after m)
  added_rows o missing key before after m h = bad d 449 m
  added_rows o v key before after m h =
      both d (is_given before && is_given after) (bad d 5 m) (then_same d _ (new_key_still o key m) (λ k. then_same d _ (new_place_still o before after m) (λ i. put_rows o i v k m h)))

  none_waits : {e : Effect Val} {m : Memory} → Rows d m e → Rows d m (with_none e)
  none_waits a = then_rows d a (λ v m1. fine d)

  collection_used_rows : (o : ℕ) (how : CollectionMember) (vs : List Val) (m : Memory) → IsCollection m o → Rows d m (collection_used o how vs m)
  collection_used_rows o is_add vs m h = added_rows o (slice_index_or vs 0 missing) (slice_index_or vs 1 missing) (slice_index_or vs 2 missing) (slice_index_or vs 3 missing) m h
  collection_used_rows o is_count vs m h = fine d
  collection_used_rows o is_item vs m h = none_waits (item_found_rows o vs m)
  collection_used_rows o is_remove vs m h = removed_rows o vs m h
  collection_used_rows o is_enumerator vs m h = none_waits (read_value_rows d (Some (object (Heap (record { 0 = o })))) m)

  -- a member of an object that is a Collection is used; any other has none
  pub used_rows : (o : ℕ) (name : List ℕ) (vs : List Val) (m : Memory) → Rows d m (on_fine (collection_member o name m) (λ how m1. collection_used o how vs m1))
  used_rows o name vs m = by_test (is_collection (Heap (record { 0 = o })) m) refl where
    by_test : (b : Bool) → is_collection (Heap (record { 0 = o })) m ≡ b
        → Rows d m (on_fine (if b then found_or 438 (member_by_name name) m else Bad-at 438 m) (λ how m1. collection_used o how vs m1))
    by_test true e = then_same d _ (found_or_still 438 (member_by_name name) m) (λ how. collection_used_rows o how vs m e)
    by_test false e = bad d 438 m
