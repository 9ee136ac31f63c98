-- The links that are stored beside a memory, and follow its changes: which WithEvents variables have which source.
use Rattle.std.specs.Prelude.{◌≡◌, ℕ, false, not, ◌==◌, List, [], ◌∷◌, map, if◌then◌else◌, slice_index_or}
use Rattle.std.specs.List.{filter}
use Rattle.vba_values.specs.declared.object.ObjId.{ObjId}
use Rattle.vba_values.specs.declared.object.ObjRef.{ObjRef}
use Rattle.vba_values.specs.Val.{Val, empty}
use Rattle.vba_events.specs.declared.linked.Linked.{Linked}
use Rattle.vba_events.specs.Links.{Linking, unlinked, is_of_field, connected, disconnected}
use Rattle.bound_project.specs.Project.{Declarations, Project, class_at}
use Rattle.vba_meaning.specs.Memory.{Memory, object_at, opening}
use Rattle.vba_meaning.specs.Events.{source_of, links}
use Rattle.vba_meaning.specs.Meaning.{meaning}
use Rattle.sheet_host.specs.Books.{Sheets}
use Rattle.memory_changes.specs.Among.{is_among}
use Rattle.memory_changes.specs.Changes.{Change, takes, connects, disconnects, goes, Row, none, first}

-- the link of a variable has the source that the variable has now
abbrev pub sourced : ObjRef → ObjId → (field : ℕ) → List Linked → List Linked
sourced source sink field ls = map (λ l. if is_of_field sink field l then record { source = source; sink = l.sink; field = l.field; number = l.number } else l) ls

-- the links but those of an object's variables
abbrev pub without_sink : (sink : ℕ) → List Linked → List Linked
without_sink o ls = filter (λ l. not (l.sink.0 == o)) ls

abbrev pub object_id : ℕ → ObjId
object_id o = record { 0 = o }

-- what a variable of an object has
abbrev pub field_of : Memory → (number field : ℕ) → Val
field_of m o i = slice_index_or (object_at m o).fields i empty

-- the links that are stored, after a change: a Set connects a variable last with the next number, or takes its link away,
-- and those of an object that goes are taken away. No other change has to do with them
abbrev pub linked_after : {d : Declarations} → (m : Memory) → {m1 : Memory} → Change d m m1 → Linking → Linking
linked_after m (takes o i old v e) l = record { links = sourced (source_of v) (object_id o) i l.links; next = l.next }
linked_after m (connects o i e) l = connected l (source_of (field_of m o i)) (object_id o) i
linked_after m (disconnects o i e) l = disconnected l (object_id o) i
linked_after m (goes o) l = record { links = without_sink o l.links; next = l.next }
linked_after m change l = l

-- after a row of changes
abbrev pub linked_along : {d : Declarations} → {m m1 : Memory} → Row d m m1 → Linking → Linking
linked_along (none m) l = l
linked_along (first m m1 m2 c row) l = linked_along row (linked_after m c l)

-- what looking over all objects finds
abbrev pub linking : Memory → Linking
linking m = record { links = links m; next = m.next_set }

-- no number stands twice
abbrev pub Once : List ℕ → Type 0
Once [] = Unit {0}
Once (i ∷ is) = (is_among i is ≡ false) × Once is

-- each class names each of its WithEvents variables once
abbrev pub NamesOnce : Declarations → Type 0
NamesOnce d = (c : ℕ) → Once (class_at d c).with_events

-- the stored links that have followed a row of changes, from the memory with which a run begins, are those that looking finds
abbrev pub AreFound : (d : Declarations) → Sheets → Type 0
AreFound d book = (m : Memory) → (row : Row d (opening d book) m) → linked_along row unlinked ≡ linking m

-- a run comes by changes to the state with which it ends, or in which it is going, and the links that have followed them
-- are those that looking finds there
abbrev pub AreMeant : Project → Sheets → (turns : ℕ) → Type 0
AreMeant pr book turns =
    let m : Memory = (meaning pr book turns).state.memory in (row : Row pr.declared (opening pr.declared book) m) × (linked_along row unlinked ≡ linking m)
