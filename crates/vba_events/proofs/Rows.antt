-- The definitions, checked on links that are written out.
use Rattle.std.specs.Prelude.{◌≡◌, ℕ, [], ◌∷◌, true, false, refl}
use Rattle.vba_values.specs.declared.object.ObjId.{ObjId}
use Rattle.vba_values.specs.declared.object.ObjRef.TheVariants.{Heap}
use Rattle.vba_events.specs.declared.linked.Linked.{Linked}
use Rattle.vba_events.specs.Links.{Linking, unlinked, connected, disconnected, links_of, stands}

abbrev id : ℕ → ObjId
id n = record { 0 = n }

abbrev link : ℕ → ℕ → ℕ → ℕ → Linked
link source sink field number = record { source = Heap (id source); sink = id sink; field = field; number = number }

-- three fields are set to object 1, object 2 and object 1, and then the first one to object 1 again
abbrev four_sets : Linking
four_sets = connected (connected (connected (connected unlinked (Heap (id 1)) (id 9) 0) (Heap (id 2)) (id 9) 1) (Heap (id 1)) (id 8) 0) (Heap (id 1)) (id 9) 0

-- the field that was set again comes last, with a new number
set_again : four_sets ≡ record { links = link 2 9 1 2 ∷ link 1 8 0 3 ∷ link 1 9 0 4 ∷ []; next = 5 }
set_again = refl

-- the links of object 1 by number, and not by their sinks
of_one : links_of (Heap (id 1)) four_sets.links ≡ link 1 8 0 3 ∷ link 1 9 0 4 ∷ []
of_one = refl

-- a field that is set to Nothing leaves the other field of its object
set_to_nothing : disconnected four_sets (id 9) 0 ≡ record { links = link 2 9 1 2 ∷ link 1 8 0 3 ∷ []; next = 5 }
set_to_nothing = refl

-- the new link stands, and the one with the old number doesn't
new_stands : stands (link 1 9 0 4) four_sets.links ≡ true
new_stands = refl

old_gone : stands (link 1 9 0 1) four_sets.links ≡ false
old_gone = refl
