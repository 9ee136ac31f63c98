-- The links of event sources to the variables that handle their events.
use Rattle.std.specs.Prelude.{◌≡◌, ℕ, ◌+◌, ◌-◌, ◌<◌, ◌^◌, Bool, not, ◌&&◌, nat_eq, List, [], ◌∷◌, ◌++◌, Result, Ok, Err}
use Rattle.std.specs.List.{filter, list_any}
use Rattle.vba_base.specs.declared.fault.OrMemory.{OrMemory}
use Rattle.vba_base.specs.declared.fault.OrMemory.TheVariants.{Fault, NoMemory}
use Rattle.vba_values.specs.declared.fault.Bad.{Bad}
use Rattle.vba_values.specs.declared.fault.Bad.TheVariants.{Outside}
use Rattle.vba_values.specs.declared.fault.OutKind.TheVariants as kind
use Rattle.vba_values.specs.declared.object.ObjId.{ObjId}
use Rattle.vba_values.specs.declared.object.ObjRef.{ObjRef}
use Rattle.vba_events.specs.declared.linked.Linked.{Linked}
use Rattle.vba_values.specs.Objects.{same_object}

-- the links in rising set number, and the number that the next one gets
pub record Linking : Type 0 where
  pub links : List Linked
  pub next : ℕ

-- no variable was set yet
abbrev pub unlinked : Linking
unlinked = record { links = []; next = 1 }

-- whether the link is that of this field of this object
abbrev pub is_of_field : ObjId → ℕ → Linked → Bool
is_of_field sink field link = nat_eq sink.0 link.sink.0 && nat_eq field link.field

-- whether the two links are the same
abbrev pub same_link : Linked → Linked → Bool
same_link a b = same_object a.source b.source && (is_of_field a.sink a.field b && nat_eq a.number b.number)

-- the links but that of a field
abbrev pub without_field : ObjId → ℕ → List Linked → List Linked
without_field sink field links = filter (λ link. not (is_of_field sink field link)) links

-- the links after a field was set to Nothing
abbrev pub disconnected : Linking → ObjId → ℕ → Linking
disconnected old sink field = record old { links = without_field sink field old.links }

-- the links after a field was set to a source: its new link comes last
abbrev pub connected : Linking → ObjRef → ObjId → ℕ → Linking
connected old source sink field = record {
  links = without_field sink field old.links ++ record { source = source; sink = sink; field = field; number = old.next } ∷ [];
  next = old.next + 1;
}

-- the links of a source, in order
abbrev pub links_of : ObjRef → List Linked → List Linked
links_of source links = filter (λ link. same_object source link.source) links

-- whether that very link stands among the links
abbrev pub stands : Linked → List Linked → Bool
stands link links = list_any (same_link link) links

-- numbers are left for a link more
abbrev pub HasNumbers : Linking → Type 0
HasNumbers old = old.next < 2 ^ 64 - 1

-- a field was set; or no number is left for it, or memory ran out, and then nothing changed
abbrev pub Connects : {X : Type 0} → Result X (OrMemory Bad) → Linking → ObjRef → ObjId → ℕ → Linking → Type 0
Connects (Ok x) old source sink field new = HasNumbers old × (new ≡ connected old source sink field)
Connects (Err (Fault bad)) old source sink field new = (old.next ≡ 2 ^ 64 - 1) × (bad ≡ Outside kind.Links) × (new ≡ old)
Connects (Err NoMemory) old source sink field new = HasNumbers old × (new ≡ old)
