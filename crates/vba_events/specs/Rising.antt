-- Set numbers rise.
use Rattle.std.specs.Prelude.{ℕ, ◌+◌, ◌≤◌, List, [], ◌∷◌}
use Rattle.vba_events.specs.declared.linked.Linked.{Linked}
use Rattle.vba_events.specs.Links.{Linking}

-- the numbers rise, from low at least and all below next
abbrev pub RiseFrom : ℕ → ℕ → List Linked → Type 0
RiseFrom low next [] = low ≤ next
RiseFrom low next (link ∷ links) = (low ≤ link.number) × RiseFrom (link.number + 1) next links

-- the links stand by rising number, from 1, with the next number above all
abbrev pub IsRising : Linking → Type 0
IsRising s = RiseFrom 1 s.next s.links
