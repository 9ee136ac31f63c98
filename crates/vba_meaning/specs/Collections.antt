-- Collections: counted objects of class 0, whose fields are their items. Beside them stand their folded keys.
use Rattle.std.specs.Prelude.{ℕ, zero, suc, nat_lt, ◌&&◌, ℤ, pos, List, [], ◌∷◌, length, codes, Bool, true, false, if◌then◌else◌, bytes_eq, Option, Some, None, option_map, slice_get, slice_index_or}
use Rattle.vba_base.specs.Fold.{folded}
use Rattle.vba_values.specs.declared.fault.OutKind.TheVariants as limit
use Rattle.vba_values.specs.declared.object.ObjRef.TheVariants.{Heap}
use Rattle.vba_values.specs.declared.types.WholeKind.TheVariants as kind
use Rattle.vba_values.specs.Types as type
use Rattle.vba_values.specs.Val.{Val, empty, missing, whole, text, object}
use Rattle.vba_values.specs.Coerce.{coerce_of}
use Rattle.vba_meaning.specs.Memory.{Memory, outside, object_at, with_object}
use Rattle.vba_meaning.specs.References.{objects_in, waits}
use Rattle.vba_meaning.specs.Effects.{Effect, Fine, Bad-at, Out, on_fine, answered, is_collection, plain, read_value}
use Rattle.vba_meaning.specs.Arrays.{number_in}

-- what a Collection has
pub data CollectionMember : Type 0 where
  is_add : CollectionMember
  is_count : CollectionMember
  is_item : CollectionMember
  is_remove : CollectionMember
  -- the hidden [_NewEnum], which gives the Collection itself
  is_enumerator : CollectionMember

-- a member by its folded name
abbrev pub member_by_name : (name : List ℕ) → Option CollectionMember
member_by_name name =
    if bytes_eq name (codes "add") then Some is_add
    else if bytes_eq name (codes "count") then Some is_count
    else if bytes_eq name (codes "item") then Some is_item
    else if bytes_eq name (codes "remove") then Some is_remove
    else if bytes_eq name (codes "_newenum") then Some is_enumerator
    else None

-- how many arguments it may have, and the names of its parameters
abbrev pub takes_in_collection : CollectionMember → List ℕ
takes_in_collection is_add = 1 ∷ 2 ∷ 3 ∷ 4 ∷ []
takes_in_collection is_item = 1 ∷ []
takes_in_collection is_remove = 1 ∷ []
takes_in_collection member = 0 ∷ []

abbrev pub names_in_collection : CollectionMember → List (List ℕ)
names_in_collection is_add = codes "item" ∷ codes "key" ∷ codes "before" ∷ codes "after" ∷ []
names_in_collection is_item = codes "index" ∷ []
names_in_collection is_remove = codes "index" ∷ []
names_in_collection member = []

-- what there is, or an error
abbrev pub found_or : {A : Type 0} → (number : ℕ) → Option A → Memory → Effect A
found_or n None m = Bad-at n m
found_or n (Some x) m = Fine x m

-- the member of a counted object: 438 where it has no such one, as each object of a class
abbrev pub collection_member : (number : ℕ) → (name : List ℕ) → Memory → Effect CollectionMember
collection_member o name m = if is_collection (Heap (record { 0 = o })) m then found_or 438 (member_by_name name) m else Bad-at 438 m

-- ---- items

abbrev pub items_of : (number : ℕ) → Memory → List Val
items_of o m = (object_at m o).fields

abbrev pub keys_of : (number : ℕ) → Memory → List (Option (List ℕ))
keys_of o m = (object_at m o).keys

abbrev pub with_items : (number : ℕ) → List Val → (keys : List (Option (List ℕ))) → Memory → Memory
with_items o vs keys m = with_object m o (Some (record (object_at m o) { fields = vs; keys = keys }))

-- a list with one more at a place, and without the one at a place
abbrev pub put_at : {A : Type 0} → (place : ℕ) → A → List A → List A
put_at zero x xs = x ∷ xs
put_at (suc i) x [] = x ∷ []
put_at (suc i) x (y ∷ ys) = y ∷ put_at i x ys

abbrev pub without_at : {A : Type 0} → (place : ℕ) → List A → List A
without_at i [] = []
without_at zero (x ∷ xs) = xs
without_at (suc i) (x ∷ xs) = x ∷ without_at i xs

-- ---- where an item is, counted from 0: keys match without case

abbrev pub key_place : (key : List ℕ) → List (Option (List ℕ)) → Option ℕ
key_place key [] = None
key_place key (None ∷ keys) = option_map suc (key_place key keys)
key_place key (Some k ∷ keys) = if bytes_eq k key then Some 0 else option_map suc (key_place key keys)

-- 9 for a number that no item has: they count from 1
abbrev pub numbered_place : (count : ℕ) → ℤ → Memory → Effect ℕ
numbered_place n (pos (suc i)) m = if nat_lt i n then Fine i m else Bad-at 9 m
numbered_place n z m = Bad-at 9 m

-- a text is a key, and raises 5 where no item has it; anything else is a number
abbrev pub place_by : (number : ℕ) → Val → Memory → Effect ℕ
place_by o (text units) m = found_or 5 (key_place (folded units) (keys_of o m)) m
place_by o v m = on_fine (answered (coerce_of v type.long) m) (λ w m1. numbered_place (length (items_of o m1)) (number_in w) m1)

abbrev pub place_of_item : (number : ℕ) → (index : Val) → Memory → Effect ℕ
place_of_item o v m = on_fine (plain v m) (λ w m1. place_by o w m1)

-- ---- Item and Remove

-- the statement holds an item that it reads
abbrev pub item_found : (number : ℕ) → List Val → Memory → Effect Val
item_found o [] m = Bad-at 449 m
item_found o (v ∷ []) m = on_fine (place_of_item o v m) (λ i m1. read_value (slice_get (items_of o m1) i) m1)
item_found o vs m = Bad-at 450 m

-- an item leaves its Collection, and what it refers to waits to be let go: so many references
abbrev pub taken_out : (number place : ℕ) → Memory → Effect (Val × ℕ)
taken_out o i m =
    let v = slice_index_or (items_of o m) i empty in
    Fine (empty, length (objects_in v)) (waits (objects_in v) (with_items o (without_at i (items_of o m)) (without_at i (keys_of o m)) m))

abbrev pub item_removed : (number : ℕ) → List Val → Memory → Effect (Val × ℕ)
item_removed o [] m = Bad-at 449 m
item_removed o (v ∷ []) m = on_fine (place_of_item o v m) (λ i m1. taken_out o i m1)
item_removed o vs m = Bad-at 450 m

-- ---- Add: Before and After together first, then the key, then the place, and the limit last

abbrev pub is_given : Val → Bool
is_given missing = false
is_given v = true

abbrev pub key_in : Val → List ℕ
key_in (text units) = folded units
key_in v = []

-- 457 for a key that an item has
abbrev pub unused_key : (key : List ℕ) → Option ℕ → Memory → Effect (Option (List ℕ))
unused_key key None m = Fine (Some key) m
unused_key key (Some i) m = Bad-at 457 m

-- the key of a new item, which becomes a String
abbrev pub new_key : (number : ℕ) → Val → Memory → Effect (Option (List ℕ))
new_key o missing m = Fine None m
new_key o v m =
    on_fine (plain v m) (λ w m1. on_fine (answered (coerce_of w type.text) m1) (λ x m2. unused_key (key_in x) (key_place (key_in x) (keys_of o m2)) m2))

-- the place of a new item: before one, behind one, or behind all
abbrev pub new_place : (number : ℕ) → (before after : Val) → Memory → Effect ℕ
new_place o missing missing m = Fine (length (items_of o m)) m
new_place o missing after m = on_fine (place_of_item o after m) (λ i m1. Fine (suc i) m1)
new_place o before after m = place_of_item o before m

abbrev pub put_in : (number place : ℕ) → Val → Option (List ℕ) → Memory → Effect (Val × ℕ)
put_in o i v key m =
    if nat_lt (length (items_of o m)) 1048576 then Fine (empty, 0) (with_items o (put_at i v (items_of o m)) (put_at i key (keys_of o m)) m)
    else Out (outside limit.Elements) m

abbrev pub item_added : (number : ℕ) → (item key before after : Val) → Memory → Effect (Val × ℕ)
item_added o missing key before after m = Bad-at 449 m
item_added o v key before after m =
    if is_given before && is_given after then Bad-at 5 m
    else on_fine (new_key o key m) (λ k m1. on_fine (new_place o before after m1) (λ i m2. put_in o i v k m2))

-- ---- a member is used: its value, and how many references wait to be let go at once

abbrev pub with_none : Effect Val → Effect (Val × ℕ)
with_none e = on_fine e (λ v m. Fine (v, 0) m)

abbrev pub collection_used : (number : ℕ) → CollectionMember → List Val → Memory → Effect (Val × ℕ)
collection_used o is_add vs m = item_added o (slice_index_or vs 0 missing) (slice_index_or vs 1 missing) (slice_index_or vs 2 missing) (slice_index_or vs 3 missing) m
collection_used o is_count vs m = Fine (whole kind.Long (pos (length (items_of o m))), 0) m
collection_used o is_item vs m = with_none (item_found o vs m)
collection_used o is_remove vs m = item_removed o vs m
collection_used o is_enumerator vs m = with_none (read_value (Some (object (Heap (record { 0 = o })))) m)
