-- Serves the code: where an object is made before a place is read.
use Rattle.std.specs.Prelude.{ℕ, Option, Some, None}
use Rattle.vba_values.specs.declared.object.ObjRef.{ObjRef}
use Rattle.vba_values.specs.declared.object.ObjRef.TheVariants.{Nothing}

-- the class of which one is made, by the object at the place
abbrev pub makes_there : (makes : Option ℕ) → Option ObjRef → Option ℕ
makes_there (Some c) (Some Nothing) = Some c
makes_there makes there = None
