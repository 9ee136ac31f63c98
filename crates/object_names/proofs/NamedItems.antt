-- Effects on Collections under other names.
use Rattle.std.proofs.Common.{◌≡◌, ℕ, zero, suc, List, [], ◌∷◌, length, map, Option, Some, None, ℤ, pos, negsuc, refl, sym, ap, ◌∙◌, subst}
use Rattle.std.specs.Prelude.{nat_lt, ◌&&◌, if◌then◌else◌, slice_get, slice_index_or}
use Rattle.std.proofs.lemmas.List.{length-map}
use Rattle.std.proofs.lemmas.Option.{slice_get-map}
use Rattle.vba_base.specs.Fold.{folded}
use Rattle.vba_values.specs.declared.fault.OutKind.TheVariants as limit
use Rattle.vba_values.specs.declared.object.ObjRef.TheVariants.{Heap}
use Rattle.vba_values.specs.declared.types.WholeKind.TheVariants as kind
use Rattle.vba_values.specs.Types as type
use Rattle.vba_values.specs.Val.{Val, empty, missing, whole, text, object}
use Rattle.vba_values.specs.Coerce.{coerce_of}
use Rattle.vba_meaning.specs.Memory.{Memory, Object, outside, object_at}
use Rattle.vba_meaning.specs.References.{objects_in}
use Rattle.vba_meaning.specs.Effects.{Effect, Fine, Bad-at, on_fine, answered, plain, is_collection}
use Rattle.vba_meaning.specs.Arrays.{number_in}
use Rattle.vba_meaning.specs.Collections.{CollectionMember, is_add, is_count, is_item, is_remove, is_enumerator, member_by_name, found_or, collection_member, items_of, keys_of, with_items, put_at, without_at, key_place, numbered_place, place_by, place_of_item, item_found, taken_out, item_removed, is_given, key_in, unused_key, new_key, new_place, put_in, item_added, with_none, collection_used}
use Rattle.object_names.specs.Names.{value_named, values_named, under}
use Rattle.object_names.specs.Renamed.{Same}
use Rattle.object_names.proofs.NamedValues.{objects_named}
use Rattle.object_names.proofs.NamedMemory.{object_at_named, object_put}
use Rattle.object_names.proofs.Named.{plainly, Names, fine, bad, out, then_named, then_by, both, both_by}
use Rattle.object_names.proofs.NamedVariables.{object_at_same, collection_same, coerced_names, plain_names, read_value_names}
use Rattle.object_names.proofs.NamedArrays.{number_blind, waits_to}

put_at_map : {A B : Type 0} (f : A → B) (i : ℕ) (x : A) (xs : List A) → put_at i (f x) (map f xs) ≡ map f (put_at i x xs)
put_at_map f zero x xs = refl
put_at_map f (suc i) x [] = refl
put_at_map f (suc i) x (y ∷ ys) = ap (λ zs. f y ∷ zs) (put_at_map f i x ys)

without_at_map : {A B : Type 0} (f : A → B) (i : ℕ) (xs : List A) → without_at i (map f xs) ≡ map f (without_at i xs)
without_at_map f zero [] = refl
without_at_map f (suc i) [] = refl
without_at_map f zero (x ∷ xs) = refl
without_at_map f (suc i) (x ∷ xs) = ap (λ ys. f x ∷ ys) (without_at_map f i xs)

pub nth_map : {A B : Type 0} (f : A → B) (xs : List A) (i : ℕ) (d : A) → slice_index_or (map f xs) i (f d) ≡ f (slice_index_or xs i d)
nth_map f [] zero d = refl
nth_map f [] (suc i) d = refl
nth_map f (x ∷ xs) zero d = refl
nth_map f (x ∷ xs) (suc i) d = nth_map f xs i d

module _ (r : ℕ → ℕ) where
  abbrev nv : Val → Val
  nv v = value_named r v

  -- what a use gives, with how many references wait
  abbrev pub pair_named : Val × ℕ → Val × ℕ
  pair_named x = (nv x.0, x.1)

  pub found_or_names : {A : Type 0} {m n : Memory} (j : ℕ) (x : Option A) → Same r m n → Names r plainly (found_or j x m) (found_or j x n)
  found_or_names j None k = bad r j k
  found_or_names j (Some v) k = fine r refl k

  found_or_by : {A : Type 0} {m n : Memory} (j : ℕ) (x y : Option A) → y ≡ x → Same r m n → Names r plainly (found_or j x m) (found_or j y n)
  found_or_by {m = m} {n = n} j x y e k = subst (λ z. Names r plainly (found_or j x m) (found_or j z n)) (sym e) (found_or_names j x k)

  pub collection_member_names : {m n : Memory} (o : ℕ) (name : List ℕ) → Same r m n → Names r plainly (collection_member o name m) (collection_member (r o) name n)
  collection_member_names {m = m} o name k =
      both_by r (is_collection (Heap (record { 0 = o })) m) _ (collection_same r (Heap (record { 0 = o })) k) (found_or_names 438 (member_by_name name) k) (bad r 438 k)

  items_same : {m n : Memory} (o : ℕ) → Same r m n → items_of (r o) n ≡ map nv (items_of o m)
  items_same o k = ap (λ b. b.fields) (object_at_same r o k)

  keys_same : {m n : Memory} (o : ℕ) → Same r m n → keys_of (r o) n ≡ keys_of o m
  keys_same o k = ap (λ b. b.keys) (object_at_same r o k)

  many_same : {m n : Memory} (o : ℕ) → Same r m n → length (items_of (r o) n) ≡ length (items_of o m)
  many_same {m = m} o k = ap (λ vs. length vs) (items_same o k) ∙ length-map (items_of o m) nv

  numbered_names : {m n : Memory} (j : ℕ) (z : ℤ) → Same r m n → Names r plainly (numbered_place j z m) (numbered_place j z n)
  numbered_names j (pos zero) k = bad r 9 k
  numbered_names j (pos (suc i)) k = both r (nat_lt i j) (fine r refl k) (bad r 9 k)
  numbered_names j (negsuc i) k = bad r 9 k

  numbered_by : {m n : Memory} (j h : ℕ) (z w : ℤ) → h ≡ j → w ≡ z → Same r m n → Names r plainly (numbered_place j z m) (numbered_place h w n)
  numbered_by {m = m} {n = n} j h z w e f k =
      subst (λ x. Names r plainly (numbered_place j z m) (numbered_place x w n)) (sym e) (subst (λ x. Names r plainly (numbered_place j z m) (numbered_place j x n)) (sym f) (numbered_names j z k))

  by_long : {m n : Memory} (o : ℕ) (v : Val) → Same r m n
      → Names r plainly (on_fine (answered (coerce_of v type.long) m) (λ w m1. numbered_place (length (items_of o m1)) (number_in w) m1))
      (on_fine (answered (coerce_of (nv v) type.long) n) (λ w m1. numbered_place (length (items_of (r o) m1)) (number_in w) m1))
  by_long o v k = then_by r (coerced_names r type.long v k) (λ x w m1 n1 e k1. numbered_by (length (items_of o m1)) (length (items_of (r o) n1)) (number_in x) (number_in w) (many_same o k1) (ap (λ u. number_in u) e ∙ number_blind r x) k1)

  place_by_names : {m n : Memory} (o : ℕ) (v : Val) → Same r m n → Names r plainly (place_by o v m) (place_by (r o) (nv v) n)
  place_by_names {m = m} {n = n} o (text units) k = found_or_by 5 (key_place (folded units) (keys_of o m)) (key_place (folded units) (keys_of (r o) n)) (ap (λ ks. key_place (folded units) ks) (keys_same o k)) k
  place_by_names o (object x) k = by_long o (object x) k
  place_by_names o v k = by_long o v k

  pub place_of_item_names : {m n : Memory} (o : ℕ) (v : Val) → Same r m n → Names r plainly (place_of_item o v m) (place_of_item (r o) (nv v) n)
  place_of_item_names o v k = then_named r _ (plain_names r v k) (λ w m1 n1 k1. place_by_names o w k1)

  pub item_found_names : {m n : Memory} (o : ℕ) (vs : List Val) → Same r m n → Names r nv (item_found o vs m) (item_found (r o) (values_named r vs) n)
  item_found_names o [] k = bad r 449 k
  item_found_names o (v ∷ []) k =
      then_named r _ (place_of_item_names o v k) (λ i m1 n1 k1.
      read_value_names r (slice_get (items_of o m1) i) (slice_get (items_of (r o) n1) i) (ap (λ vs. slice_get vs i) (items_same o k1) ∙ slice_get-map (λ v. value_named r v) (items_of o m1) i) k1)
  item_found_names o (v ∷ w ∷ vs) k = bad r 450 k

  -- ---- items that leave or come

  items_put : {m n : Memory} (o : ℕ) (vs ws : List Val) (keys locks : List (Option (List ℕ))) → ws ≡ map nv vs → locks ≡ keys → Same r m n → Same r (with_items o vs keys m) (with_items (r o) ws locks n)
  items_put {m = m} {n = n} o vs ws keys locks e f k =
      subst (λ us. Same r (with_items o vs keys m) (with_items (r o) us locks n)) (sym e) (subst (λ ls. Same r (with_items o vs keys m) (with_items (r o) (map nv vs) ls n)) (sym f)
      (subst (λ y. Same r (with_items o vs keys m) (with_items (r o) (map nv vs) keys y)) (sym k.is)
      (object_put r m k.objects k.fit o (record (object_at m o) { fields = vs; keys = keys }) (record (object_at (under r m k.objects) (r o)) { fields = map nv vs; keys = keys })
      (ap {A = Object} {B = Object} (λ b. record b { fields = map nv vs; keys = keys }) (object_at_named r m k.objects k.fit.matches o)) refl)))

  nth_same : {m n : Memory} (o i : ℕ) → Same r m n → slice_index_or (items_of (r o) n) i empty ≡ nv (slice_index_or (items_of o m) i empty)
  nth_same {m = m} o i k = ap (λ vs. slice_index_or vs i empty) (items_same o k) ∙ nth_map nv (items_of o m) i empty

  out_names : {m n : Memory} (o i : ℕ) → Same r m n → Names r pair_named (taken_out o i m) (taken_out (r o) i n)
  out_names {m = m} {n = n} o i k =
      let v : Val = slice_index_or (items_of o m) i empty in
      let many : objects_in (slice_index_or (items_of (r o) n) i empty) ≡ map r (objects_in v) = ap (λ w. objects_in w) (nth_same o i k) ∙ objects_named r v in
      fine r (ap (λ j. (empty, j)) (ap (λ os. length os) many ∙ length-map (objects_in v) r))
      (waits_to r (objects_in v) (objects_in (slice_index_or (items_of (r o) n) i empty)) many
      (items_put o (without_at i (items_of o m)) (without_at i (items_of (r o) n)) (without_at i (keys_of o m)) (without_at i (keys_of (r o) n))
      (ap (λ vs. without_at i vs) (items_same o k) ∙ without_at_map nv i (items_of o m)) (ap (λ ks. without_at i ks) (keys_same o k)) k))

  removed_names : {m n : Memory} (o : ℕ) (vs : List Val) → Same r m n → Names r pair_named (item_removed o vs m) (item_removed (r o) (values_named r vs) n)
  removed_names o [] k = bad r 449 k
  removed_names o (v ∷ []) k = then_named r _ (place_of_item_names o v k) (λ i m1 n1 k1. out_names o i k1)
  removed_names o (v ∷ w ∷ vs) k = bad r 450 k

  put_names : {m n : Memory} (o i : ℕ) (v : Val) (key : Option (List ℕ)) → Same r m n → Names r pair_named (put_in o i v key m) (put_in (r o) i (nv v) key n)
  put_names {m = m} {n = n} o i v key k =
      both_by r (nat_lt (length (items_of o m)) 1048576) _ (ap (λ j. nat_lt j 1048576) (many_same o k))
      (fine r refl (items_put o (put_at i v (items_of o m)) (put_at i (nv v) (items_of (r o) n)) (put_at i key (keys_of o m)) (put_at i key (keys_of (r o) n))
      (ap (λ vs. put_at i (nv v) vs) (items_same o k) ∙ put_at_map nv i v (items_of o m)) (ap (λ ks. put_at i key ks) (keys_same o k)) k)) (out r (outside limit.Elements) k)

  key_blind : (v : Val) → key_in (nv v) ≡ key_in v
  key_blind (object o) = refl
  key_blind v = refl

  given_blind : (v : Val) → is_given (nv v) ≡ is_given v
  given_blind (object o) = refl
  given_blind v = refl

  unused_names : {m n : Memory} (key : List ℕ) (x : Option ℕ) → Same r m n → Names r plainly (unused_key key x m) (unused_key key x n)
  unused_names key None k = fine r refl k
  unused_names key (Some i) k = bad r 457 k

  unused_by : {m n : Memory} (key other : List ℕ) (x y : Option ℕ) → other ≡ key → y ≡ x → Same r m n → Names r plainly (unused_key key x m) (unused_key other y n)
  unused_by {m = m} {n = n} key other x y e f k =
      subst (λ t. Names r plainly (unused_key key x m) (unused_key t y n)) (sym e) (subst (λ z. Names r plainly (unused_key key x m) (unused_key key z n)) (sym f) (unused_names key x k))

  key_of : {m n : Memory} (o : ℕ) (v : Val) → Same r m n
      → Names r plainly (on_fine (plain v m) (λ w m1. on_fine (answered (coerce_of w type.text) m1) (λ x m2. unused_key (key_in x) (key_place (key_in x) (keys_of o m2)) m2)))
      (on_fine (plain (nv v) n) (λ w m1. on_fine (answered (coerce_of w type.text) m1) (λ x m2. unused_key (key_in x) (key_place (key_in x) (keys_of (r o) m2)) m2)))
  key_of o v k =
      then_named r _ (plain_names r v k) (λ w m1 n1 k1. then_by r (coerced_names r type.text w k1) (λ x y m2 n2 e k2.
      unused_by (key_in x) (key_in y) (key_place (key_in x) (keys_of o m2)) (key_place (key_in y) (keys_of (r o) n2)) (ap (λ u. key_in u) e ∙ key_blind x)
      (ap (λ t. key_place t (keys_of (r o) n2)) (ap (λ u. key_in u) e ∙ key_blind x) ∙ ap (λ ks. key_place (key_in x) ks) (keys_same o k2)) k2))

  new_key_names : {m n : Memory} (o : ℕ) (v : Val) → Same r m n → Names r plainly (new_key o v m) (new_key (r o) (nv v) n)
  new_key_names o missing k = fine r refl k
  new_key_names o (object x) k = key_of o (object x) k
  new_key_names o v k = key_of o v k

  place_after : {m n : Memory} (o : ℕ) (v : Val) → Same r m n → Names r plainly (on_fine (place_of_item o v m) (λ i m1. Fine (suc i) m1)) (on_fine (place_of_item (r o) (nv v) n) (λ i m1. Fine (suc i) m1))
  place_after o v k = then_named r _ (place_of_item_names o v k) (λ i m1 n1 k1. fine r refl k1)

  new_place_names : {m n : Memory} (o : ℕ) (before after : Val) → Same r m n → Names r plainly (new_place o before after m) (new_place (r o) (nv before) (nv after) n)
  new_place_names o missing missing k = fine r (many_same o k) k
  new_place_names o missing (object x) k = place_after o (object x) k
  new_place_names o missing after k = place_after o after k
  new_place_names o (object x) after k = place_of_item_names o (object x) k
  new_place_names o before after k = place_of_item_names o before k

  adds : {m n : Memory} (o : ℕ) (v key before after : Val) → Same r m n
      → Names r pair_named (if is_given before && is_given after then Bad-at 5 m else on_fine (new_key o key m) (λ k m1. on_fine (new_place o before after m1) (λ i m2. put_in o i v k m2)))
      (if is_given (nv before) && is_given (nv after) then Bad-at 5 n else on_fine (new_key (r o) (nv key) n) (λ k m1. on_fine (new_place (r o) (nv before) (nv after) m1) (λ i m2. put_in (r o) i (nv v) k m2)))
  adds o v key before after k =
      both_by r (is_given before && is_given after) _ (ap (λ b. b && is_given (nv after)) (given_blind before) ∙ ap (λ b. is_given before && b) (given_blind after)) (bad r 5 k)
      (then_named r _ (new_key_names o key k) (λ x m1 n1 k1. then_named r _ (new_place_names o before after k1) (λ i m2 n2 k2. put_names o i v x k2)))

  added_names : {m n : Memory} (o : ℕ) (v key before after : Val) → Same r m n → Names r pair_named (item_added o v key before after m) (item_added (r o) (nv v) (nv key) (nv before) (nv after) n)
  added_names o missing key before after k = bad r 449 k
  added_names o (object x) key before after k = adds o (object x) key before after k
  added_names o v key before after k = adds o v key before after k

  -- ---- a member is used

  none_waits : {e g : Effect Val} → Names r nv e g → Names r pair_named (with_none e) (with_none g)
  none_waits a = then_named r _ a (λ v m n k. fine r refl k)

  argument : (vs : List Val) (i : ℕ) → slice_index_or (values_named r vs) i missing ≡ nv (slice_index_or vs i missing)
  argument vs i = nth_map nv vs i missing

  add_to : {m n : Memory} (o : ℕ) (v key before after v1 key1 before1 after1 : Val) → v1 ≡ nv v → key1 ≡ nv key → before1 ≡ nv before → after1 ≡ nv after → Same r m n
      → Names r pair_named (item_added o v key before after m) (item_added (r o) v1 key1 before1 after1 n)
  add_to {m = m} {n = n} o v key before after v1 key1 before1 after1 a b c e k =
      subst (λ x. Names r pair_named (item_added o v key before after m) (item_added (r o) x key1 before1 after1 n)) (sym a)
      (subst (λ x. Names r pair_named (item_added o v key before after m) (item_added (r o) (nv v) x before1 after1 n)) (sym b)
      (subst (λ x. Names r pair_named (item_added o v key before after m) (item_added (r o) (nv v) (nv key) x after1 n)) (sym c)
      (subst (λ x. Names r pair_named (item_added o v key before after m) (item_added (r o) (nv v) (nv key) (nv before) x n)) (sym e) (added_names o v key before after k))))

  pub collection_used_names : {m n : Memory} (o : ℕ) (how : CollectionMember) (vs : List Val) → Same r m n → Names r pair_named (collection_used o how vs m) (collection_used (r o) how (values_named r vs) n)
  collection_used_names o is_add vs k =
      add_to o (slice_index_or vs 0 missing) (slice_index_or vs 1 missing) (slice_index_or vs 2 missing) (slice_index_or vs 3 missing) _ _ _ _ (argument vs 0) (argument vs 1) (argument vs 2) (argument vs 3) k
  collection_used_names o is_count vs k = fine r (ap (λ j. (whole kind.Long (pos j), 0)) (many_same o k)) k
  collection_used_names o is_item vs k = none_waits (item_found_names o vs k)
  collection_used_names o is_remove vs k = removed_names o vs k
  collection_used_names o is_enumerator vs k = none_waits (read_value_names r (Some (object (Heap (record { 0 = o })))) (Some (object (Heap (record { 0 = r o })))) refl k)
