-- What it is that two runs are the same but for the names of the objects.
use Rattle.std.specs.Prelude.{◌≡◌, ℕ, List}
use Rattle.vba_meaning.specs.Memory.{Ending}
use Rattle.vba_meaning.specs.Effects.{Event}
use Rattle.vba_meaning.specs.Meaning.{State}
use Rattle.pcode.specs.Machine.{Fin, Done, Unfinished, Stuck}
use Rattle.object_names.specs.Names.{events_named}
use Rattle.object_names.specs.Renamed.{SameState}

pub record SameEnd (r : ℕ → ℕ) (x : Ending) (s : State) (es : List Event) (y : Ending) (t : State) (hs : List Event) : Type 0 where
  pub ending : y ≡ x
  pub state : SameState r s t
  pub events : hs ≡ events_named r es

abbrev pub SameFin : (ℕ → ℕ) → Fin → Fin → Type 0
SameFin r (Done x s es) (Done y t hs) = SameEnd r x s es y t hs
SameFin r Unfinished Unfinished = Unit {0}
SameFin r Stuck Stuck = Unit {0}
SameFin r a b = ⊥
