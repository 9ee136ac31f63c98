-- Serves the code: members of the host, in the parts that its functions do.
use Rattle.std.specs.Prelude.{ℕ, zero, ◌==◌, ◌&&◌, ℤ, List, [], ◌∷◌, Bool, true, false, Option, Some, None, if◌then◌else◌}
use Rattle.vba_values.specs.declared.object.HostRef.{HostRef}
use Rattle.vba_values.specs.declared.object.HostRef.TheVariants as host
use Rattle.vba_values.specs.declared.object.ObjRef.{ObjRef}
use Rattle.vba_values.specs.Types.{Declared}
use Rattle.vba_values.specs.Types as type
use Rattle.vba_values.specs.Val.{Val, array, empty, missing, object}
use Rattle.vba_values.specs.Coerce.{coerce_of}
use Rattle.sheet_host.specs.declared.area.Area.{Area}
use Rattle.sheet_host.specs.declared.members.HostMember.{HostMember}
use Rattle.sheet_host.specs.declared.members.HostMember.TheVariants.{Write, Call}
use Rattle.sheet_host.specs.AddressText.{area_of_text}
use Rattle.sheet_host.specs.Writing.{cell_of}
use Rattle.vba_meaning.specs.Memory.{Memory}
use Rattle.vba_meaning.specs.Effects.{Effect, Fine, Bad-at, on_fine, done, answered, plain, range_value, area_in, is_collection}
use Rattle.vba_meaning.specs.Events.{noted}
use Rattle.vba_meaning.specs.Collections.{collection_member, collection_used, takes_in_collection}
use Rattle.vba_meaning.specs.Host.{area_found, as_given, cells_put, fits_in, item_by, long_of, sheet_by, spanned, text_of, through_item, units_in, value_put, written_default}
use Rattle.run_host.specs.declared.assigning.Writes.{Writes}
use Rattle.run_host.specs.declared.assigning.Writes.TheVariants as writes

-- what a value writes to an area, of which Change is to be told
abbrev pub put_noted : Area → Val → Memory → Effect (Unit {0})
put_noted a w m = on_fine (value_put a w m) (λ u m1. done (noted a m1))

-- the numbers that two arguments are
abbrev pub two_numbers : List Val → Memory → Effect (ℤ × ℤ)
two_numbers (r ∷ c ∷ []) m = on_fine (long_of r m) (λ y m1. on_fine (long_of c m1) (λ x m2. Fine (y, x) m2))
two_numbers [] m = Bad-at 449 m
two_numbers (v ∷ []) m = Bad-at 449 m
two_numbers vs m = Bad-at 450 m

-- the object that a value is
abbrev pub object_in : Val → Option ObjRef
object_in (object o) = Some o
object_in v = None

-- a value that is no object as a text
abbrev pub text_by : Val → Memory → Effect (List ℕ)
text_by v m = on_fine (answered (coerce_of v type.text) m) (λ w m1. Fine (units_in w) m1)

abbrev pub is_missing : Val → Bool
is_missing missing = true
is_missing v = false

-- a sheet by a value
abbrev pub sheet_at : Val → Memory → Effect Val
sheet_at v m = on_fine (plain v m) (λ w m1. sheet_by w m1)

-- Range of an address
abbrev pub range_at : (sheet : ℕ) → Val → Memory → Effect Val
range_at s v m = on_fine (text_of v m) (λ address m1. area_found (area_of_text (record { 0 = s }) address) m1)

-- the smallest range that holds two areas of a sheet
abbrev pub around : (sheet : ℕ) → Area → Area → Memory → Effect Val
around s a b m = if a.sheet.0 == s && b.sheet.0 == s then Fine (range_value (spanned a b)) m else Bad-at 1004 m

-- how a member is assigned to
abbrev pub written_at_once : HostRef → (number : ℕ) → Writes
written_at_once host.Application n = writes.Mark n
written_at_once (host.Area s t l r c) n = writes.Cells (area_in s t l r c)
written_at_once r n = writes.Through

abbrev pub way_of : HostRef → HostMember → List Val → Writes
way_of r (Call n) vs = writes.Nothing
way_of r (Write n) [] = written_at_once r n
way_of r how vs = writes.Through

abbrev pub is_array : Val → Bool
is_array (array bounds of items) = true
is_array v = false

-- the same of a value that is no array and one cell
abbrev pub one_put : Area → Val → Memory → Effect (Unit {0})
one_put a w m = on_fine (answered (cell_of w) m) (λ c m1. cells_put a (c ∷ []) m1)

-- whether a member takes no arguments, by how many it may have
abbrev pub takes_none : List ℕ → Bool
takes_none (zero ∷ []) = true
takes_none ns = false

-- a value as one of a type: an object gives way to its default value
abbrev pub plain_as : Declared → Val → Memory → Effect Val
plain_as of v m = on_fine (plain v m) (λ w m1. answered (coerce_of w of) m1)

-- an item of an object is assigned to
abbrev pub object_item_assigned : Val → List Val → Val → Memory → Effect (Unit {0})
object_item_assigned base vs v m = on_fine (item_by base vs m) (λ w m1. written_default w v m1)

-- the item of a value that is no object is found, and takes the value for nothing
abbrev pub no_item_assigned : Val → List Val → Val → Memory → Effect (Unit {0})
no_item_assigned base vs v m = on_fine (item_by base vs m) (λ w m1. on_fine (plain v m1) (λ x m2. done m2))

-- a use of a member of a counted object begins, and it is used
abbrev pub collection_begun : (number : ℕ) → (name : List ℕ) → (given : ℕ) → Memory → Effect Val
collection_begun o name k m = on_fine (collection_member o name m) (λ how m1. on_fine (fits_in (takes_in_collection how) k m1) (λ u m2. Fine empty m2))

abbrev pub member_used : (number : ℕ) → (name : List ℕ) → List Val → Memory → Effect (Val × ℕ)
member_used o name vs m = on_fine (collection_member o name m) (λ how m1. collection_used o how (as_given vs) m1)

-- a member of one is assigned to
abbrev pub object_assigned : (number : ℕ) → (name : List ℕ) → List Val → Val → Memory → Effect (Unit {0})
object_assigned o name vs v m = on_fine (collection_member o name m) (λ how m1. through_item o how vs v m1)

-- a value gives way to its default value, for nothing
abbrev pub for_nothing : Val → Memory → Effect (Unit {0})
for_nothing v m = on_fine (plain v m) (λ x m1. done m1)

-- a counted object has no default member that is written without arguments
abbrev pub without_default : ObjRef → Memory → Effect (Unit {0})
without_default o m = if is_collection o m then Bad-at 449 m else Bad-at 438 m
