-- Serves the code: what the project alone can name, and bounds of what is at a path.
use Rattle.std.specs.Prelude.{◌≡◌, ℕ, ℤ, List, [], Bool, Option, Some, None, Result, Ok, if◌then◌else◌, slice_index_or}
use Rattle.vba_values.specs.declared.fault.Bad.{Bad}
use Rattle.vba_values.specs.declared.types.Compare.{Compare}
use Rattle.vba_values.specs.Val.{Val, text}
use Rattle.vba_lib.specs.declared.function.LibraryFunction.{LibraryFunction}
use Rattle.vba_lib.specs.Arrays.{l_bound, u_bound}
use Rattle.vba_lib.specs.Kinds.{type_name}
use Rattle.vba_lib.specs.Library.{library_of}
use Rattle.bound_project.specs.Project.{Declarations, no_class, no_name}
use Rattle.vba_meaning.specs.Library.{name_of_type, library_answer}
use Rattle.vba_meaning.specs.Memory.{Memory}

-- the name of a class module by its place
abbrev pub class_spelling : Declarations → ℕ → List ℕ
class_spelling d c = (slice_index_or d.classes c no_class).name.spelling

-- the name of a Type by its number
abbrev pub type_spelling : Declarations → ℕ → List ℕ
type_spelling d t = (slice_index_or d.types t (record { name = no_name; fields = [] })).name.spelling

-- TypeName, where the project tells it; or else the library does
abbrev pub Named : Declarations → Val → Memory → Option (List ℕ) → Type 0
Named d v m None = name_of_type d v m ≡ type_name v
Named d v m (Some name) = name_of_type d v m ≡ name

-- the name that is told, or else what the library answers
abbrev pub told_or : Option (List ℕ) → Result Val Bad → Result Val Bad
told_or None r = r
told_or (Some name) r = Ok (text name)

-- a function answers the name that is told, or else what it does in the library
abbrev pub Told : Declarations → LibraryFunction → List Val → Memory → Option (List ℕ) → Type 0
Told d f vs m o = (text_form : Bool) (compare : Compare) (base : ℤ) → library_answer d f text_form compare base vs m ≡ told_or o (library_of f text_form vs compare base)

-- UBound, or LBound
abbrev pub a_bound : (upper : Bool) → Val → ℤ → Result Val Bad
a_bound upper v z = if upper then u_bound v z else l_bound v z
