-- What functions of the library do, by the library's table; names of classes and Types the project alone has.
use Rattle.std.specs.Prelude.{ℕ, zero, suc, ℤ, pos, List, [], ◌∷◌, ◌++◌, codes, Bool, false, if◌then◌else◌, Option, Some, None, Result, Ok, slice_index_or}
use Rattle.vba_values.specs.declared.fault.Bad.{Bad}
use Rattle.vba_values.specs.declared.object.ObjRef.TheVariants.{Heap, Host}
use Rattle.vba_values.specs.declared.object.HostRef.TheVariants.{ErrObject, Area}
use Rattle.vba_values.specs.declared.types.Compare.{Compare}
use Rattle.vba_values.specs.declared.types.Compare.TheVariants.{Binary}
use Rattle.vba_values.specs.declared.types.WholeKind.TheVariants as kind
use Rattle.vba_values.specs.Types as type
use Rattle.vba_values.specs.Val.{Val, whole, text, object, array}
use Rattle.vba_lib.specs.declared.function.LibraryFunction.{LibraryFunction}
use Rattle.vba_lib.specs.declared.function.LibraryFunction.TheVariants as function
use Rattle.vba_lib.specs.Kinds.{type_name}
use Rattle.vba_lib.specs.Library.{library_of}
use Rattle.sheet_host.specs.Reading.{area_value}
use Rattle.bound_project.specs.Project.{Declarations, class_at, no_name}
use Rattle.vba_meaning.specs.Paths.{Path}
use Rattle.vba_meaning.specs.Memory.{Memory, value_at}
use Rattle.vba_meaning.specs.Effects.{Effect, Fine, Bad-at, on_fine, answered, class_of, read_value, area_in}

-- a class by its number: 0 is that of Collection
abbrev pub class_name : Declarations → ℕ → List ℕ
class_name d zero = codes "Collection"
class_name d (suc c) = (class_at d (suc c)).name.spelling

-- TypeName: of a counted object its class, of an array of a class or a Type that one's name with () behind it
-- ([MS-VBAL] 6.1.2.7)
abbrev pub name_of_type : Declarations → Val → Memory → List ℕ
name_of_type d (object (Heap id)) m = class_name d (class_of (Heap id) m)
name_of_type d (array bounds (type.class c) items) m = class_name d c ++ codes "()"
name_of_type d (array bounds (type.udt t) items) m = (slice_index_or d.types t (record { name = no_name; fields = [] })).name.spelling ++ codes "()"
name_of_type d v m = type_name v

-- what a function answers ([MS-VBAL] 6.1.2)
abbrev pub library_answer : Declarations → LibraryFunction → (text_form : Bool) → Compare → (base : ℤ) → List Val → Memory → Result Val Bad
library_answer d function.TypeName text_form compare base (v ∷ []) m = Ok (text (name_of_type d v m))
library_answer d f text_form compare base vs m = library_of f text_form vs compare base

-- the statement holds what a function gives
abbrev pub library_called : Declarations → LibraryFunction → (text_form : Bool) → Compare → (base : ℤ) → List Val → Memory → Effect Val
library_called d f text_form compare base vs m = on_fine (answered (library_answer d f text_form compare base vs m) m) (λ v m1. read_value (Some v) m1)

-- UBound and LBound of what is now at a path: 9 where there is no such place any more
abbrev pub bound_in : (upper : Bool) → (dimension : ℤ) → Option Val → Memory → Effect Val
bound_in upper z None m = Bad-at 9 m
bound_in upper z (Some v) m = answered (library_of (if upper then function.UBound else function.LBound) false (v ∷ whole kind.Long z ∷ []) Binary (pos 0)) m

abbrev pub bound_at : (upper : Bool) → (dimension : ℤ) → Path → Memory → Effect Val
bound_at upper z p m = bound_in upper z (value_at m p) m

-- an object whose default member needs no argument gives way to the value of that: Number of Err
abbrev pub plain_if_any : Val → Memory → Effect Val
plain_if_any (object (Host ErrObject)) m = Fine (whole kind.Long m.err.number) m
plain_if_any (object (Host (Area s t l r c))) m = answered (area_value m.book (area_in s t l r c)) m
plain_if_any v m = Fine v m
