-- Where variables of objects are.
use Rattle.std.proofs.Common.{◌≡◌, ℕ, List, [], refl, sym}
use Rattle.std.specs.Prelude.{Bool, Option, None, slice_index_or}
use Rattle.vba_values.specs.Types.{Declared}
use Rattle.vba_values.specs.Val.{Val}
use Rattle.bound_project.specs.Project.{Declaration, Declarations, class_at, no_declaration}
use Rattle.vba_meaning.specs.Paths.{Path, in_fields}
use Rattle.vba_meaning.specs.Memory.{Memory, number_of}
use Rattle.vba_meaning.specs.Defaults.{class_of_value, is_bounded, variable_of}

-- by the number of the object, the variables of its class, and what its own is
pub field_place : (d : Declarations) (v : Val) (i : ℕ) (m : Memory) (c o : ℕ) (fs : List Declaration) (of : Declared) (b : Bool) (p : Path)
    → class_of_value d v m ≡ class_at d c → fs ≡ (class_at d c).fields → o ≡ number_of v
    → of ≡ (slice_index_or fs i no_declaration).of → b ≡ is_bounded (slice_index_or fs i no_declaration).bounds
    → p ≡ record { root = in_fields o i; steps = []; of = of; bounded = b; makes = None } → p ≡ variable_of d v i None m
field_place d v i m c o fs of b p e f g h k l = rw (l, g, h, k, f, ← e) refl
