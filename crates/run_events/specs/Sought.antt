-- Serves the code: links of a source, as they are looked for object by object.
use Rattle.std.specs.Prelude.{ℕ, suc, nat_eq, nat_lt, cond, ◌&&◌, ◌||◌, Bool, false, List, [], ◌∷◌, Option, Some, None, option_map, slice_index_or}
use Rattle.vba_values.specs.declared.object.ObjId.{ObjId}
use Rattle.vba_values.specs.declared.object.ObjRef.{ObjRef}
use Rattle.vba_values.specs.Val.{empty}
use Rattle.vba_values.specs.Objects.{same_object}
use Rattle.vba_events.specs.declared.linked.Linked.{Linked}
use Rattle.vba_events.specs.Links.{links_of}
use Rattle.vba_events.specs.Order.{insert_link}
use Rattle.bound_project.specs.Project.{Declarations}
use Rattle.vba_meaning.specs.Memory.{Memory, Object}
use Rattle.vba_meaning.specs.Events.{due, links_in, source_of}

-- the object that a variable of an object has
abbrev pub source_in : Object → (field : ℕ) → ObjRef
source_in b i = source_of (slice_index_or b.fields i empty)

-- links are put among others, the last one first
abbrev pub inserted_links : List Linked → List Linked → List Linked
inserted_links [] ks = ks
inserted_links (l ∷ ls) ks = insert_link l (inserted_links ls ks)

-- how many stand before the first one with a greater number
abbrev pub place_among : (number : ℕ) → List Linked → ℕ
place_among n [] = 0
place_among n (l ∷ ls) = cond (nat_lt n l.number) 0 (suc (place_among n ls))

-- the links of an object's variables to a source
abbrev pub inserted_all : ObjRef → (number : ℕ) → Option Object → List Linked → List Linked
inserted_all source o None ks = ks
inserted_all source o (Some b) ks = inserted_links (links_of source (links_in o b b.set_numbers)) ks

-- a variable has a source
abbrev pub is_set_to : ObjRef → Object → ℕ × Option ℕ → Bool
is_set_to source b (i, None) = false
is_set_to source b (i, Some n) = same_object source (source_in b i)

abbrev pub any_numbered : ObjRef → Object → List (ℕ × Option ℕ) → Bool
any_numbered source b [] = false
any_numbered source b (e ∷ es) = is_set_to source b e || any_numbered source b es

abbrev pub is_linked : ObjRef → Option Object → Bool
is_linked source None = false
is_linked source (Some b) = any_numbered source b b.set_numbers

abbrev pub any_linked : ObjRef → List (Option Object) → Bool
any_linked source [] = false
any_linked source (b ∷ bs) = is_linked source b || any_linked source bs

-- a variable has this set number
abbrev pub is_numbered : (field number : ℕ) → ℕ × Option ℕ → Bool
is_numbered i n (j, None) = false
is_numbered i n (j, Some k) = nat_eq i j && nat_eq n k

abbrev pub has_number : (field number : ℕ) → List (ℕ × Option ℕ) → Bool
has_number i n [] = false
has_number i n (e ∷ es) = is_numbered i n e || has_number i n es

-- a link stands in its object
abbrev pub stands_in : Linked → Option Object → Bool
stands_in l None = false
stands_in l (Some b) = same_object l.source (source_in b l.field) && has_number l.field l.number b.set_numbers

-- ---- the next link that has a handler, with those behind it

abbrev pub or_next : {A : Type 0} → Option A → Option A → Option A
or_next None o = o
or_next (Some x) o = Some x

abbrev pub due_from : Declarations → (event : ℕ) → List Linked → Memory → Option ((ObjId × ℕ) × List Linked)
due_from d e [] m = None
due_from d e (l ∷ ls) m = or_next (option_map (λ (p : ℕ). ((l.sink, p), ls)) (due d e l m)) (due_from d e ls m)

abbrev pub found_with : Option (ObjId × ℕ) → List Linked → Option ((ObjId × ℕ) × List Linked)
found_with None ls = None
found_with (Some f) ls = Some (f, ls)
