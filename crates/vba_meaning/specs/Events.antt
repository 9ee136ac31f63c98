-- Events: which WithEvents variables have a source, and what a raise gives to their handlers ([MS-VBAL] 5.2.3.1.2,
-- 5.4.2.20).
use Rattle.std.specs.Prelude.{ℕ, suc, ◌==◌, ◌&&◌, List, [], ◌∷◌, ◌++◌, length, Bool, not, Option, Some, None, if◌then◌else◌, slice_index_or}
use Rattle.vba_values.specs.declared.object.ObjRef.{ObjRef}
use Rattle.vba_values.specs.declared.object.ObjRef.TheVariants.{Nothing, Host}
use Rattle.vba_values.specs.declared.object.HostRef.TheVariants.{Sheet}
use Rattle.vba_values.specs.Val.{Val, empty, object}
use Rattle.vba_events.specs.declared.linked.Linked.{Linked}
use Rattle.vba_events.specs.Links.{links_of, stands}
use Rattle.vba_events.specs.Order.{in_order}
use Rattle.sheet_host.specs.declared.area.Area.{Area}
use Rattle.bound_project.specs.Project.{Declarations, Handler, class_at}
use Rattle.vba_meaning.specs.Memory.{Slot, value, Memory, Object, top, with_top, object_at, paths_in_slots, without_paths}
use Rattle.vba_meaning.specs.Effects.{range_value}

-- ---- which variables have a source

-- the object that a value is
abbrev pub source_of : Val → ObjRef
source_of (object source) = source
source_of v = Nothing

-- the link of a WithEvents variable, where it has a set number
abbrev pub link_of : (number : ℕ) → Object → (field : ℕ) → Option ℕ → List Linked
link_of o b i None = []
link_of o b i (Some n) = record { source = source_of (slice_index_or b.fields i empty); sink = record { 0 = o }; field = i; number = n } ∷ []

-- the links of an object's variables, and of those of all objects from a number on
abbrev pub links_in : (number : ℕ) → Object → List (ℕ × Option ℕ) → List Linked
links_in o b [] = []
links_in o b (e ∷ es) = link_of o b e.0 e.1 ++ links_in o b es

abbrev pub links_from : (number : ℕ) → List (Option Object) → List Linked
links_from o [] = []
links_from o (None ∷ bs) = links_from (suc o) bs
links_from o (Some b ∷ bs) = links_in o b b.set_numbers ++ links_from (suc o) bs

-- all links, by rising set number
abbrev pub links : Memory → List Linked
links m = in_order (links_from 0 m.objects)

-- those of a source: a raise takes them once
abbrev pub sinks : ObjRef → Memory → List Linked
sinks source m = links_of source (links m)

-- ---- handlers

abbrev pub handler_in : List Handler → (field event : ℕ) → Option ℕ
handler_in [] i e = None
handler_in (h ∷ hs) i e = if h.field == i && h.event == e then Some h.procedure else handler_in hs i e

-- the handler that is due for a link: none where the variable was set again, or its class doesn't handle the event
abbrev pub due : Declarations → (event : ℕ) → Linked → Memory → Option ℕ
due d e l m = if stands l (links m) then handler_in (class_at d (object_at m l.sink.0).class).handlers l.field e else None

-- ---- the arguments of a raise

-- while a raise isn't over its ByRef paths are pending in the frame that raises, beside those that a handler has
abbrev pub lent_again : List Slot → Memory → Memory
lent_again xs m = with_top m (record (top m) { pending = paths_in_slots xs ++ (top m).pending })

abbrev pub raise_over : List Slot → Memory → Memory
raise_over xs m = with_top m (record (top m) { pending = without_paths xs (top m).pending })

-- ---- Change of a sheet

abbrev pub change : ℕ
change = 0

abbrev pub sheet_of : Area → ObjRef
sheet_of a = Host (Sheet a.sheet.0)

abbrev pub target_of : Area → List Slot
target_of a = value (range_value a) ∷ []

-- an area was written: its Change is to be told where events are on and some variable has the sheet
abbrev pub is_heard : Area → Memory → Bool
is_heard a m = m.events_on && not (length (sinks (sheet_of a) m) == 0)

abbrev pub noted : Area → Memory → Memory
noted a m = if is_heard a m then record m { changed = Some a } else m

-- it is told
abbrev pub no_change : Memory → Memory
no_change m = record m { changed = None }
