-- Serves the code: what members of Collections do, in the parts that its functions do.
use Rattle.std.specs.Prelude.{ℕ, length, List, Bool, false, Option, Some, None, bytes_eq, slice_get, slice_index_or, slice_set}
use Rattle.vba_values.specs.Types as type
use Rattle.vba_values.specs.Val.{Val, empty}
use Rattle.vba_values.specs.Coerce.{coerce_of}
use Rattle.vba_meaning.specs.Memory.{Memory, Object, object_or}
use Rattle.vba_meaning.specs.References.{objects_in}
use Rattle.vba_meaning.specs.Effects.{Effect, Fine, on_fine, answered, plain, read_value}
use Rattle.vba_meaning.specs.Arrays.{number_in}
use Rattle.vba_meaning.specs.Collections.{items_of, key_in, new_key, new_place, numbered_place, place_of_item, put_at, put_in, taken_out, without_at}

-- whether an item has a key
abbrev pub has_key : (key : List ℕ) → (own : Option (List ℕ)) → Bool
has_key key None = false
has_key key (Some own) = bytes_eq own key

-- the place of the item with the number that a value becomes
abbrev pub place_of_number : (number : ℕ) → Val → Memory → Effect ℕ
place_of_number o v m = on_fine (answered (coerce_of v type.long) m) (λ w m1. numbered_place (length (items_of o m1)) (number_in w) m1)

-- the item that an argument names is read
abbrev pub item_by_index : (number : ℕ) → (index : Val) → Memory → Effect Val
item_by_index o v m = on_fine (place_of_item o v m) (λ i m1. read_value (slice_get (items_of o m1) i) m1)

-- what the item at a place refers to
abbrev pub objects_at : (place : ℕ) → List Val → List ℕ
objects_at i vs = objects_in (slice_index_or vs i empty)

-- it is taken out
abbrev pub removed_by_index : (number : ℕ) → (index : Val) → Memory → Effect (Val × ℕ)
removed_by_index o v m = on_fine (place_of_item o v m) (λ i m1. taken_out o i m1)

-- a value as a folded key
abbrev pub folded_by : Val → Memory → Effect (List ℕ)
folded_by v m = on_fine (answered (coerce_of v type.text) m) (λ w m1. Fine (key_in w) m1)

abbrev pub folded_key : Val → Memory → Effect (List ℕ)
folded_key v m = on_fine (plain v m) (λ w m1. folded_by w m1)

-- an item is added by its key and its place
abbrev pub added : (number : ℕ) → (item key before after : Val) → Memory → Effect (Val × ℕ)
added o v key before after m = on_fine (new_key o key m) (λ k m1. on_fine (new_place o before after m1) (λ i m2. put_in o i v k m2))

-- an object with one more item, and without one
abbrev pub with_item : (place : ℕ) → Val → Option (List ℕ) → Object → Object
with_item i v key b = record b { fields = put_at i v b.fields; keys = put_at i key b.keys }

abbrev pub without_item : (place : ℕ) → Object → Object
without_item i b = record b { fields = without_at i b.fields; keys = without_at i b.keys }

-- one of all objects is changed
abbrev pub object_changed : (Object → Object) → (number : ℕ) → List (Option Object) → List (Option Object)
object_changed change o bs = slice_set bs o (Some (change (object_or (slice_index_or bs o None))))
