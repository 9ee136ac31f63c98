-- Serves the code: uses of late-bound members, in the parts that its functions do.
use Rattle.std.specs.Prelude.{ℕ, Bool, true, false, if◌then◌else◌, List, [], ◌∷◌, ◌++◌, Option, Some, None}
use Rattle.vba_values.specs.declared.object.ObjId.{ObjId}
use Rattle.vba_values.specs.declared.object.ObjRef.TheVariants.{Heap}
use Rattle.vba_values.specs.Val.{Val, empty, object}
use Rattle.bound_project.specs.Expressions.{ByName}
use Rattle.bound_project.specs.Project.{Declarations, Parameter}
use Rattle.vba_meaning.specs.Memory.{Memory, Slot, value}
use Rattle.vba_meaning.specs.Effects.{Effect, Fine, Bad-at, on_fine, set_object}
use Rattle.vba_meaning.specs.Objects.{set_at}
use Rattle.vba_meaning.specs.Collections.{collection_member, item_found}
use Rattle.vba_meaning.specs.Host.{as_given, member_assigned, member_there}
use Rattle.vba_meaning.specs.ByName.{named_there}
use Rattle.bound_project.specs.Parameters.{last_type, parameters_of, without_last}
use Rattle.vba_meaning.specs.Defaults.{Next, by_let, gives, in_member, is_instance, most_passed, nothing_more, over_with, put, read_variable, set_along, then_call, write, write_along}
use Rattle.vba_meaning.specs.LateBound.{Use, reading, Way, by_variable, by_call, by_setter, arguments_fit, arranged, element_set, has_names, how_many, item_let}

-- a member of the host or of a Collection is looked up
abbrev pub host_begun : Declarations → (name : List ℕ) → ByName → List Bool → Val → Memory → Effect Next
host_begun d name by gs v m = if has_names by then over_with (named_there name by (how_many gs) v m) else over_with (member_there d name (how_many gs) v m)

-- whether a member is read
abbrev pub is_read : Use → Bool
is_read reading = true
is_read aim = false

-- what was found is read, or called with its arguments
abbrev pub called_at : Declarations → ByName → (base : Val) → List Slot → Way → Memory → Effect Next
called_at d by base xs (by_variable q) m = read_variable d q m
called_at d by base xs (by_call p property) m = Fine (then_call p base (arranged (parameters_of d p) by xs) []) m
called_at d by base xs (by_setter p) m = Bad-at 438 m

-- a member of the counted object with a number is assigned to
abbrev pub collection_let : Declarations → (number : ℕ) → (name : List ℕ) → List Val → Val → Memory → Effect Next
collection_let d o name vs v m = on_fine (collection_member o name m) (λ how m1. item_let d o how (as_given vs) v m1)

-- a member of any other value is assigned to
abbrev pub member_let : Declarations → (name : List ℕ) → List Val → (base begun : Val) → Val → Memory → Effect Next
member_let d name vs base begun v m = if is_instance v m then put d (in_member name vs base begun) v m else nothing_more (member_assigned d name vs base begun v m)

-- a Set is called with its arguments and the object
abbrev pub set_called : Declarations → ByName → (base : Val) → List Slot → Val → (procedure : ℕ) → Memory → Effect Next
set_called d by base xs v p m =
    on_fine (set_object (last_type (parameters_of d p)) v m) (λ w m1. Fine (then_call p base (arranged (without_last (parameters_of d p)) by xs ++ value w ∷ []) []) m1)

-- what the arguments index is set
abbrev pub set_indexed : Declarations → (begun : Val) → List Val → Val → Way → Memory → Effect Next
set_indexed d begun vs v (by_variable q) m = element_set d q vs v m
set_indexed d begun vs v (by_call p property) m = set_along d most_passed vs v begun m
set_indexed d begun vs v (by_setter p) m = Bad-at 438 m

-- what was found is set
abbrev pub set_plain : Declarations → ByName → (base : Val) → List Slot → Val → Way → Memory → Effect Next
set_plain d by base xs v (by_variable q) m = nothing_more (set_at q v m)
set_plain d by base xs v (by_call p property) m = Bad-at 438 m
set_plain d by base xs v (by_setter p) m = set_called d by base xs v p m

-- ---- in smaller parts

-- arguments fit, and index nothing
abbrev pub arguments_begun : List Parameter → ByName → List Bool → Memory → Effect Next
arguments_begun ps by gs m = on_fine (arguments_fit ps by gs m) (λ u m1. Fine (gives empty) m1)

-- a procedure is called whose result has its default member written
abbrev pub let_called : Declarations → ByName → (base : Val) → List Slot → Val → (procedure : ℕ) → Next
let_called d by base xs v p = then_call p base (arranged (parameters_of d p) by xs) (write most_passed v ∷ [])

-- a Let is given its arguments and the value
abbrev pub let_set : Declarations → ByName → (base : Val) → List Slot → Val → (procedure : ℕ) → Memory → Effect Next
let_set d by base xs v p m = put d (by_let p base (arranged (without_last (parameters_of d p)) by xs)) v m

-- the counted object that a value is
abbrev pub counted_in : Val → Option ObjId
counted_in (object (Heap id)) = Some id
counted_in v = None

-- the default member of an item of a Collection is written
abbrev pub item_written : Declarations → (number : ℕ) → List Val → Val → Memory → Effect Next
item_written d o vs v m = on_fine (item_found o vs m) (λ w m1. write_along d most_passed v w m1)
