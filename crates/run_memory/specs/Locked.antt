-- Serves the code: which frames hold a path through an array at a place.
use Rattle.std.specs.Prelude.{◌++◌, ◌||◌, List, [], ◌∷◌, Bool, false}
use Rattle.vba_meaning.specs.Paths.{Path, any_below}
use Rattle.vba_meaning.specs.Memory.{Frame, paths_in_slots, paths_kept}

unfoldable pub frame_holds : Frame → (place : Path) → Bool
frame_holds f q = any_below (f.pending ++ paths_in_slots f.slots ++ paths_kept f.keeps) q

abbrev pub any_holds : List Frame → (place : Path) → Bool
any_holds [] q = false
any_holds (f ∷ fs) q = frame_holds f q || any_holds fs q
