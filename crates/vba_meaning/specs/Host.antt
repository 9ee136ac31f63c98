-- Host objects: their members, and what writes cells, by the host's tables.
use Rattle.std.specs.Prelude.{ℕ, zero, suc, ◌+◌, ◌*◌, ◌-◌, min, max, nat_lt, ◌==◌, ◌&&◌, ℤ, pos, ◌-ℤ◌, List, [], ◌∷◌, length, codes, Bool, true, false, if◌then◌else◌, bytes_eq, Option, Some, Result, slice_index_or}
use Rattle.vba_base.specs.Fold.{folded}
use Rattle.vba_values.specs.declared.fault.Bad.{Bad}
use Rattle.vba_values.specs.declared.fault.OutKind.TheVariants as limit
use Rattle.vba_values.specs.declared.object.HostRef.{HostRef}
use Rattle.vba_values.specs.declared.object.HostRef.TheVariants as host
use Rattle.vba_values.specs.declared.object.ObjRef.TheVariants.{Nothing, Heap, Host}
use Rattle.vba_values.specs.declared.types.WholeKind.TheVariants as kind
use Rattle.vba_values.specs.Types as type
use Rattle.vba_values.specs.Val.{Val, empty, missing, boolean, whole, text, object, array}
use Rattle.vba_values.specs.Coerce.{coerce_of}
use Rattle.vba_values.specs.Whole.{ranged}
use Rattle.sheet_host.specs.declared.area.Area.{Area}
use Rattle.sheet_host.specs.declared.cell.CellValue.{CellValue}
use Rattle.sheet_host.specs.declared.cell.CellValue.TheVariants as cell
use Rattle.sheet_host.specs.declared.members.HostMember.{HostMember}
use Rattle.sheet_host.specs.declared.members.HostMember.TheVariants.{Write, Call}
use Rattle.sheet_host.specs.Address.{address_of}
use Rattle.sheet_host.specs.AddressText.{area_of_text}
use Rattle.sheet_host.specs.Area.{offset_of, resized}
use Rattle.sheet_host.specs.Books.{sheet_at, content_at, sheet_named, written_count, cell_limit, with_area}
use Rattle.sheet_host.specs.Field.{is_empty}
use Rattle.sheet_host.specs.Members.{member_of, number_of}
use Rattle.sheet_host.specs.Reading.{area_value}
use Rattle.sheet_host.specs.Sheets.{Position, value_at, used_area, nth_cell}
use Rattle.sheet_host.specs.Size.{sheet_rows, sheet_columns}
use Rattle.sheet_host.specs.Writing.{cells_of}
use Rattle.bound_project.specs.Expressions.{err_number, err_source, err_description}
use Rattle.bound_project.specs.Project.{Declarations}
use Rattle.vba_meaning.specs.Paths.{Root, in_object, in_item, Step, Path, object_path, item_path}
use Rattle.vba_meaning.specs.Memory.{Error, value, Memory, outside, value_at as value_at_path}
use Rattle.vba_meaning.specs.Effects.{Event, Effect, Fine, Bad-at, Out, Tell, Cell, on_fine, done, answered, plain, err_of, err_off, is_true, range_value, area_in, raised_by, assigned, is_collection}
use Rattle.vba_meaning.specs.Events.{noted}
use Rattle.vba_meaning.specs.Arrays.{number_in, indexed, element_at}
use Rattle.vba_meaning.specs.Collections.{CollectionMember, is_item, takes_in_collection, collection_member, item_found, collection_used}

-- ---- what is where

abbrev pub sheet_value : ℕ → Val
sheet_value number = object (Host (host.Sheet number))

abbrev pub long_value : ℕ → Val
long_value n = whole kind.Long (pos n)

abbrev pub area_found : Result Area Bad → Memory → Effect Val
area_found answer m = on_fine (answered answer m) (λ a m1. Fine (range_value a) m1)

-- all cells of a sheet
abbrev pub whole_sheet : ℕ → Area
whole_sheet number = area_in number 1 1 sheet_rows sheet_columns

-- an argument as a number and as a text: an object gives way to its default value
abbrev pub long_of : Val → Memory → Effect ℤ
long_of v m = on_fine (plain v m) (λ w m1. on_fine (answered (coerce_of w type.long) m1) (λ x m2. Fine (number_in x) m2))

abbrev pub units_in : Val → List ℕ
units_in (text units) = units
units_in v = []

abbrev pub text_of : Val → Memory → Effect (List ℕ)
text_of v m = on_fine (plain v m) (λ w m1. on_fine (answered (coerce_of w type.text) m1) (λ x m2. Fine (units_in x) m2))

-- an area by two numbers, for rows and for columns
abbrev pub area_by : (ℤ → ℤ → Result Area Bad) → List Val → Memory → Effect Val
area_by f (r ∷ c ∷ []) m = on_fine (long_of r m) (λ y m1. on_fine (long_of c m1) (λ x m2. area_found (f y x) m2))
area_by f [] m = Bad-at 449 m
area_by f (v ∷ []) m = Bad-at 449 m
area_by f vs m = Bad-at 450 m

-- a cell by its row and column, counted from an area's first one; without them the area itself
abbrev pub cell_found : Area → List Val → Memory → Effect Val
cell_found a vs m = area_by (λ y x. offset_of (record a { rows = 1; columns = 1 }) (y -ℤ pos 1) (x -ℤ pos 1)) vs m

abbrev pub cells_found : Area → List Val → Memory → Effect Val
cells_found a [] m = Fine (range_value a) m
cells_found a vs m = cell_found a vs m

-- the smallest area with two areas of one sheet
abbrev pub spanned : Area → Area → Area
spanned a b = record {
  sheet = a.sheet;
  top = min a.top b.top;
  left = min a.left b.left;
  rows = max (a.top + a.rows) (b.top + b.rows) - min a.top b.top;
  columns = max (a.left + a.columns) (b.left + b.columns) - min a.left b.left;
}

-- Range of two ranges: 91 for Nothing, 13 for a value that is no range, 1004 where one is of another sheet
abbrev pub area_of : Val → Memory → Effect Area
area_of (object (Host (host.Area s t l r c))) m = Fine (area_in s t l r c) m
area_of (object Nothing) m = Bad-at 91 m
area_of v m = Bad-at 13 m

abbrev pub range_between : (sheet : ℕ) → Val → Val → Memory → Effect Val
range_between s v w m =
    on_fine (area_of v m) (λ a m1. on_fine (area_of w m1) (λ b m2.
    if a.sheet.0 == s && b.sheet.0 == s then Fine (range_value (spanned a b)) m2 else Bad-at 1004 m2))

abbrev pub range_found : (sheet : ℕ) → List Val → Memory → Effect Val
range_found s [] m = Bad-at 449 m
range_found s (missing ∷ vs) m = Bad-at 449 m
range_found s (v ∷ []) m = on_fine (text_of v m) (λ address m1. area_found (area_of_text (record { 0 = s }) address) m1)
range_found s (v ∷ w ∷ []) m = range_between s v w m
range_found s vs m = Bad-at 450 m

-- a sheet by its name or number: 9 where there is none
abbrev pub sheet_numbered : ℤ → Memory → Effect Val
sheet_numbered (pos (suc i)) m = if nat_lt i (length m.book) then Fine (sheet_value (suc i)) m else Bad-at 9 m
sheet_numbered z m = Bad-at 9 m

abbrev pub sheet_by : Val → Memory → Effect Val
sheet_by (text units) m = on_fine (answered (sheet_named m.book (folded units)) m) (λ s m1. Fine (sheet_value s.0) m1)
sheet_by v m = on_fine (long_of v m) (λ z m1. sheet_numbered z m1)

abbrev pub sheet_found : List Val → Memory → Effect Val
sheet_found [] m = Bad-at 449 m
sheet_found (v ∷ []) m = on_fine (plain v m) (λ w m1. sheet_by w m1)
sheet_found vs m = Bad-at 450 m

-- the active sheet is the first: 91 where there is none
abbrev pub first_sheet : Memory → Effect Val
first_sheet m = if length m.book == 0 then Bad-at 91 m else Fine (sheet_value 1) m

-- ---- cells that are written

-- the cells of an area by rows, from the i-th on, and what each has then
abbrev pub cell_events : Area → (i : ℕ) → List CellValue → List Event
cell_events a i [] = []
cell_events a i (c ∷ cs) = Cell a.sheet.0 (nth_cell a i).0 (nth_cell a i).1 c ∷ cell_events a (suc i) cs

-- one writing of an area: an event for each cell
abbrev pub cells_put : Area → List CellValue → Memory → Effect (Unit {0})
cells_put a cs m =
    if nat_lt cell_limit (written_count (with_area m.book a cs)) then Out (outside limit.Cells) m
    else Tell (cell_events a 0 cs) (done (record m { book = with_area m.book a cs }))

-- the cells that a value writes to an area are put there
abbrev pub value_put : Area → Val → Memory → Effect (Unit {0})
value_put a w m = on_fine (answered (cells_of w a.rows a.columns) m) (λ cs m1. cells_put a cs m1)

-- too large an area stops the run before the value is looked at; an object gives way to its default value. Where all
-- cells have theirs, Change is to be told
abbrev pub area_written : Area → Val → Memory → Effect (Unit {0})
area_written a v m =
    if nat_lt cell_limit (a.rows * a.columns) then Out (outside limit.Cells) m
    else on_fine (plain v m) (λ w m1. on_fine (value_put a w m1) (λ u m2. done (noted a m2)))

-- ClearContents: each of so many cells that isn't Empty, one by one. Change is told of the whole area
abbrev pub one_cleared : Area → Position → Memory → Effect (Unit {0})
one_cleared a p m =
    if is_empty (value_at (content_at m.book a.sheet) p) then done m else cells_put (area_in a.sheet.0 p.0 p.1 1 1) (cell.Empty ∷ []) m

abbrev pub cleared : Area → (count : ℕ) → Memory → Effect (Unit {0})
cleared a zero m = done m
cleared a (suc n) m = on_fine (cleared a n m) (λ u m1. one_cleared a (nth_cell a n) m1)

-- ---- members

-- what is read, and what a call does: members by their numbers
abbrev pub member_value : Declarations → HostRef → (number : ℕ) → List Val → Memory → Effect Val
member_value d host.Application n vs m =
    slice_index_or (Fine (boolean m.events_on) m ∷ Fine (boolean m.updates_screen) m ∷ Fine (boolean m.shows_alerts) m ∷ []) n (Bad-at 438 m)
member_value d host.Workbook n vs m = Fine (object (Host host.Sheets)) m
member_value d host.Sheets n vs m = slice_index_or (Fine (long_value (length m.book)) m ∷ sheet_found vs m ∷ []) n (Bad-at 438 m)
member_value d host.ErrObject n vs m =
    slice_index_or (
    Fine (err_of d err_number m.err) m ∷
    Fine (err_of d err_source m.err) m ∷
    Fine (err_of d err_description m.err) m ∷
    on_fine (err_off m) (λ u m1. Fine empty m1) ∷ []) n (Bad-at 438 m)
member_value d (host.Sheet s) n vs m =
    slice_index_or (
    Fine (text (sheet_at m.book (record { 0 = s })).name) m ∷
    Fine (long_value s) m ∷
    cells_found (whole_sheet s) vs m ∷
    range_found s vs m ∷
    Fine (range_value (used_area (record { 0 = s }) (content_at m.book (record { 0 = s })))) m ∷ []) n (Bad-at 438 m)
member_value d (host.Area s t l r c) n vs m =
    let a : Area = area_in s t l r c in
    slice_index_or (
    answered (area_value m.book a) m ∷
    Fine (text (address_of a)) m ∷
    Fine (long_value t) m ∷
    Fine (long_value l) m ∷
    answered (ranged kind.Long (pos (r * c))) m ∷
    Fine (object (Host (host.RowsOf r))) m ∷
    Fine (object (Host (host.ColumnsOf c))) m ∷
    cells_found a vs m ∷
    cell_found a vs m ∷
    area_by (offset_of a) vs m ∷
    area_by (resized a) vs m ∷
    on_fine (cleared a (r * c) m) (λ u m1. Fine empty (noted a m1)) ∷
    Fine (sheet_value s) m ∷
    Fine (sheet_value s) m ∷ []) n (Bad-at 438 m)
member_value d (host.RowsOf count) n vs m = Fine (long_value count) m
member_value d (host.ColumnsOf count) n vs m = Fine (long_value count) m

-- how many arguments a member may have, by its number
abbrev pub none : List ℕ
none = 0 ∷ []

abbrev pub two : List ℕ
two = 2 ∷ []

abbrev pub takes : HostRef → (number : ℕ) → List ℕ
takes host.ErrObject n = slice_index_or (none ∷ none ∷ none ∷ none ∷ (1 ∷ 2 ∷ 3 ∷ []) ∷ []) n none
takes host.Sheets n = slice_index_or (none ∷ (1 ∷ []) ∷ []) n none
takes (host.Sheet s) n = slice_index_or (none ∷ none ∷ (0 ∷ two) ∷ (1 ∷ two) ∷ []) n none
takes (host.Area s t l r c) n = slice_index_or (none ∷ none ∷ none ∷ none ∷ none ∷ none ∷ none ∷ (0 ∷ two) ∷ two ∷ two ∷ two ∷ []) n none
takes reference n = none

-- 449 where one that it must have is lacking, 450 where there are too many
abbrev pub fits_in : (takes : List ℕ) → (given : ℕ) → Memory → Effect (Unit {0})
fits_in [] k m = Bad-at 450 m
fits_in (n ∷ ns) k m = if n == k then done m else if nat_lt k n then Bad-at 449 m else fits_in ns k m

-- whether arguments index the value of a member, which takes none itself
abbrev pub are_places : HostRef → HostMember → (given : ℕ) → Bool
are_places r how zero = false
are_places r (Call n) k = false
are_places r how k = takes_none (takes r (number_of how)) where
  takes_none : List ℕ → Bool
  takes_none (zero ∷ []) = true
  takes_none ns = false

-- what arguments index: an array, the sheets, and a range by Item
abbrev pub can_index : Val → (given : ℕ) → Memory → Effect Val
can_index (array bounds of items) k m = Fine (array bounds of items) m
can_index (object (Host host.Sheets)) k m = on_fine (fits_in (1 ∷ []) k m) (λ u m1. Fine (object (Host host.Sheets)) m1)
can_index (object (Host (host.Area s t l r c))) k m = on_fine (fits_in two k m) (λ u m1. Fine (object (Host (host.Area s t l r c))) m1)
can_index (object o) k m = Bad-at 438 m
can_index v k m = Bad-at 450 m

abbrev pub plains : List Val → Memory → Effect (List Val)
plains [] m = Fine [] m
plains (v ∷ vs) m = on_fine (plain v m) (λ w m1. on_fine (plains vs m1) (λ ws m2. Fine (w ∷ ws) m2))

abbrev pub item_by : Val → List Val → Memory → Effect Val
item_by (object (Host host.Sheets)) vs m = sheet_found vs m
item_by (object (Host (host.Area s t l r c))) vs m = cell_found (area_in s t l r c) vs m
item_by (object (Heap id)) vs m = if is_collection (Heap id) m then item_found id.0 vs m else on_fine (plains vs m) (λ ws m1. indexed (object (Heap id)) ws m1)
item_by v vs m = on_fine (plains vs m) (λ ws m1. indexed v ws m1)

-- a use of a member begins: whether there is such a one is asked before any argument is evaluated, and what the
-- arguments index is read ([MS-VBAL] 5.6.12)
abbrev pub member_begun : Declarations → HostRef → HostMember → (given : ℕ) → Memory → Effect Val
member_begun d r how k m =
    if are_places r how k then on_fine (member_value d r (number_of how) [] m) (λ v m1. can_index v k m1)
    else on_fine (fits_in (takes r (number_of how)) k m) (λ u m1. Fine empty m1)

abbrev pub member_there : Declarations → (name : List ℕ) → (given : ℕ) → Val → Memory → Effect Val
member_there d name k (object Nothing) m = Bad-at 91 m
member_there d name k (object (Heap id)) m =
    on_fine (collection_member id.0 name m) (λ how m1. on_fine (fits_in (takes_in_collection how) k m1) (λ u m2. Fine empty m2))
member_there d name k (object (Host r)) m = on_fine (answered (member_of r name) m) (λ how m1. member_begun d r how k m1)
member_there d name k v m = Bad-at 424 m

-- missing arguments behind the last one count as not given
abbrev pub as_given : List Val → List Val
as_given [] = []
as_given (v ∷ vs) = before v (as_given vs) where
  before : Val → List Val → List Val
  before missing [] = []
  before w ws = w ∷ ws

-- a member is read or called, with what was read when that began
abbrev pub member_by : Declarations → HostRef → HostMember → List Val → (begun : Val) → Memory → Effect Val
member_by d r how vs begun m = if are_places r how (length vs) then item_by begun vs m else member_value d r (number_of how) vs m

abbrev pub member_called : Declarations → (name : List ℕ) → List Val → (base begun : Val) → Memory → Effect Val
member_called d name vs (object (Host r)) begun m = on_fine (answered (member_of r name) m) (λ how m1. member_by d r how (as_given vs) begun m1)
member_called d name vs v begun m = Bad-at 424 m

-- a member of a counted object is used: its value, and how many references wait to be let go at once
abbrev pub is_counted : (base : Val) → Bool
is_counted (object (Heap id)) = true
is_counted v = false

abbrev pub object_member : (name : List ℕ) → List Val → (base : Val) → Memory → Effect (Val × ℕ)
object_member name vs (object (Heap id)) m = on_fine (collection_member id.0 name m) (λ how m1. collection_used id.0 how (as_given vs) m1)
object_member name vs v m = Bad-at 424 m

-- the arguments of Err.Raise, where Err was found in the run: a number, a source and a description
abbrev pub is_raise : (name : List ℕ) → (base : Val) → Bool
is_raise name (object (Host host.ErrObject)) = bytes_eq name (codes "raise")
is_raise name v = false

abbrev pub number_given : Val → Memory → Effect Val
number_given missing m = Bad-at 449 m
number_given v m = on_fine (plain v m) (λ w m1. answered (coerce_of w type.long) m1)

abbrev pub text_given : Val → Memory → Effect Val
text_given missing m = Fine missing m
text_given v m = on_fine (plain v m) (λ w m1. answered (coerce_of w type.text) m1)

abbrev pub error_given : List Val → Memory → Effect Error
error_given vs m =
    on_fine (number_given (slice_index_or vs 0 missing) m) (λ number m1.
    on_fine (text_given (slice_index_or vs 1 missing) m1) (λ source m2.
    on_fine (text_given (slice_index_or vs 2 missing) m2) (λ description m3.
    Fine (raised_by (value number ∷ value source ∷ value description ∷ []) m3) m3)))

-- the default member of an object is written: Value of a range, and no other; that of the sheets and of a Collection must
-- have an argument
abbrev pub written_default : (target : Val) → Val → Memory → Effect (Unit {0})
written_default (object Nothing) v m = Bad-at 91 m
written_default (object (Host (host.Area s t l r c))) v m = area_written (area_in s t l r c) v m
written_default (object (Host host.Sheets)) v m = Bad-at 449 m
written_default (object (Heap id)) v m = if is_collection (Heap id) m then Bad-at 449 m else Bad-at 438 m
written_default (object o) v m = Bad-at 438 m
written_default w v m = Bad-at 424 m

-- ---- places that numbers lead to

-- where what an index gave lies: it is no variable's
abbrev pub path_to : Val → Path
path_to (object (Heap id)) = item_path (object (Heap id))
path_to (object o) = object_path o
path_to v = item_path v

-- an array's element, or the item of an object, which is no variable ([MS-VBAL] 5.6.13)
abbrev pub place_at : Path → List Val → Memory → Effect Path
place_at p vs m = at (value_at_path m p)
  where
    at : Option Val → Effect Path
    at (Some (object o)) = on_fine (item_by (object o) vs m) (λ w m1. Fine (path_to w) m1)
    at found = element_at p vs m

-- an item of a Collection is assigned to: its default member is written; an element of an array that is one takes the
-- value for nothing
abbrev pub item_written : Val → List Step → Val → Memory → Effect (Unit {0})
item_written w [] v m = written_default w v m
item_written w (s ∷ steps) v m = on_fine (plain v m) (λ x m1. done m1)

-- Let at a place: an object gives way to its default value, and of an object that an index gave the default member is
-- written ([MS-VBAL] 5.4.3.8)
abbrev pub assigned_at : Path → Val → Memory → Effect (Unit {0})
assigned_at p v m = at p.root
  where
    at : Root → Effect (Unit {0})
    at (in_object o) = written_default (object o) v m
    at (in_item w) = item_written w p.steps v m
    at root = on_fine (plain v m) (λ w m1. assigned p w m1)

-- the same of an item of a value that no variable has: an element of an array that nothing keeps takes the value for
-- nothing
abbrev pub item_assigned : (base : Val) → List Val → Val → Memory → Effect (Unit {0})
item_assigned (object o) vs v m = on_fine (item_by (object o) vs m) (λ w m1. written_default w v m1)
item_assigned base vs v m = on_fine (item_by base vs m) (λ w m1. on_fine (plain v m1) (λ x m2. done m2))

-- one of the three marks of Application
abbrev pub with_mark : (number : ℕ) → Bool → Memory → Memory
with_mark zero b m = record m { events_on = b }
with_mark (suc zero) b m = record m { updates_screen = b }
with_mark n b m = record m { shows_alerts = b }

abbrev pub mark_set : (number : ℕ) → Val → Memory → Effect (Unit {0})
mark_set n v m = on_fine (plain v m) (λ w m1. on_fine (answered (coerce_of w type.boolean) m1) (λ b m2. done (with_mark n (is_true b) m2)))

-- what a member gives is assigned to: of an object the default member is written; an element of an array that nothing
-- keeps takes the value for nothing, and any other value can't be written
abbrev pub assigned_through : (places : Bool) → (given : Val) → Val → Memory → Effect (Unit {0})
assigned_through places (object o) v m = written_default (object o) v m
assigned_through places w v m = if places then done m else Bad-at 438 m

-- a member is assigned to
abbrev pub member_set : Declarations → HostRef → HostMember → List Val → (begun : Val) → Val → Memory → Effect (Unit {0})
member_set d r (Call n) vs begun v m = Bad-at 438 m
member_set d host.Application (Write n) [] begun v m = mark_set n v m
member_set d (host.Area s t l r c) (Write n) [] begun v m = area_written (area_in s t l r c) v m
member_set d r how vs begun v m = on_fine (member_by d r how vs begun m) (λ w m1. assigned_through (are_places r how (length vs)) w v m1)

-- of a Collection an item's default member is written, and nothing else
abbrev pub through_item : (number : ℕ) → CollectionMember → List Val → Val → Memory → Effect (Unit {0})
through_item o is_item vs v m = on_fine (item_found o vs m) (λ w m1. written_default w v m1)
through_item o member vs v m = Bad-at 438 m

abbrev pub member_assigned : Declarations → (name : List ℕ) → List Val → (base begun : Val) → Val → Memory → Effect (Unit {0})
member_assigned d name vs (object (Host r)) begun v m = on_fine (answered (member_of r name) m) (λ how m1. member_set d r how (as_given vs) begun v m1)
member_assigned d name vs (object (Heap id)) begun v m = on_fine (collection_member id.0 name m) (λ how m1. through_item id.0 how (as_given vs) v m1)
member_assigned d name vs base begun v m = Bad-at 424 m

-- Set of a member: no object of the host has one that takes it
abbrev pub member_not_set : (base : Val) → Memory → Effect (Unit {0})
member_not_set (object Nothing) m = Bad-at 91 m
member_not_set (object o) m = Bad-at 438 m
member_not_set base m = Bad-at 424 m
