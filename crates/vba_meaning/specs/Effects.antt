-- What a statement does in one go: each effect changes the memory and gives a value, raises an error, or stops the
-- run. The tables of values, operators, arrays and error frames say what is computed.
use Rattle.std.specs.Prelude.{ℕ, zero, ◌+◌, ◌-◌, ◌%◌, ◌^◌, nat_lt, ◌||◌, ◌==◌, ℤ, pos, ◌-ℤ◌, List, [], ◌∷◌, ◌++◌, length, replicate, codes, map, Bool, true, false, not, ◌&&◌, if◌then◌else◌, Option, Some, None, Result, Ok, Err, slice_index_or, unwrap_or}
use Rattle.std.specs.Fmt.{signed_decimal}
use Rattle.vba_values.specs.declared.fault.Bad.{Bad}
use Rattle.vba_values.specs.declared.fault.Bad.TheVariants.{Raise, Outside}
use Rattle.vba_values.specs.declared.fault.OutKind.TheVariants as limit
use Rattle.vba_values.specs.declared.object.ObjRef.{ObjRef}
use Rattle.vba_values.specs.declared.object.ObjRef.TheVariants.{Nothing, Heap, Host}
use Rattle.vba_values.specs.declared.object.HostRef.TheVariants.{ErrObject, Sheet, Sheets, Area}
use Rattle.vba_values.specs.declared.types.OpKind.{OpKind}
use Rattle.vba_values.specs.declared.types.OpKind.TheVariants as op
use Rattle.vba_values.specs.declared.types.Compare.{Compare}
use Rattle.vba_values.specs.declared.types.Compare.TheVariants.{Binary}
use Rattle.vba_values.specs.declared.types.WholeKind.TheVariants as kind
use Rattle.vba_values.specs.Types.{Declared}
use Rattle.vba_values.specs.Types as type
use Rattle.vba_values.specs.Val.{Val, empty, null, missing, boolean, whole, currency, text, object, array, udt, vals_of}
use Rattle.vba_values.specs.Coerce.{coerce_of, text_of, to_boolean}
use Rattle.vba_values.specs.Operators.{binary_of, unary_of}
use Rattle.sheet_host.specs.declared.area.Area as cells
use Rattle.sheet_host.specs.declared.cell.CellValue.{CellValue}
use Rattle.sheet_host.specs.Reading.{area_value}
use Rattle.error_frames.specs.declared.frame.At.{At}
use Rattle.error_frames.specs.declared.frame.Policy.{Policy}
use Rattle.error_frames.specs.declared.frame.Policy.TheVariants as policy
use Rattle.error_frames.specs.declared.frame.ResumeKind.{ResumeKind}
use Rattle.error_frames.specs.declared.frame.Taken.{Taken}
use Rattle.error_frames.specs.Decision.{decision, after_take}
use Rattle.error_frames.specs.Resume as resumption
use Rattle.bound_project.specs.Expressions.{Variable, ErrMember, err_number, err_source, err_description}
use Rattle.bound_project.specs.Statements.{Handling, passed_on, skipped, handled_at}
use Rattle.bound_project.specs.Project.{Declarations, Module, Parameter, no_name, procedure_at}
use Rattle.vba_meaning.specs.Paths.{Root, in_fields, in_object, in_item, Path}
use Rattle.vba_meaning.specs.Memory.{Error, Why, stop_said, outside, Slot, value, path, Loop, Kept, only, Memory, top, with_top, found, without, put, value_at, path_of, is_locked, no_error, number_or, object_at, with_object}
use Rattle.vba_meaning.specs.References.{hold, displaced, replaced, kept_value}
use Rattle.vba_values.specs.Messages.{message_of}

-- what a run tells ([MS-VBAL] has no trace; Debug.Print is the host's)
pub data Event : Type 0 where
  Printed : List ℕ → (ends : Bool) → Event
  Cell : (sheet row column : ℕ) → CellValue → Event
  Raised : ℤ → Event
  Init : (class number : ℕ) → Event
  Term : (class number : ℕ) → Event

pub data Effect (A : Type 0) : Type 0 where
  Fine : A → Memory → Effect A
  Bad-at : ℕ → Memory → Effect A
  Out : Why → Memory → Effect A
  -- these events first
  Tell : List Event → Effect A → Effect A

-- one effect and then another
abbrev pub on_fine : {A B : Type 0} → Effect A → (A → Memory → Effect B) → Effect B
on_fine (Fine v m) f = f v m
on_fine (Bad-at n m) f = Bad-at n m
on_fine (Out w m) f = Out w m
on_fine (Tell es e) f = Tell es (on_fine e f)

abbrev pub done : Memory → Effect (Unit {0})
done m = Fine tt m

-- the answer of a table
abbrev pub answered : {A : Type 0} → Result A Bad → Memory → Effect A
answered (Ok v) m = Fine v m
answered (Err (Raise n)) m = Bad-at n m
answered (Err (Outside k)) m = Out (outside k) m

-- ---- values

abbrev pub operated : OpKind → Compare → (left right : Declared) → Val → Val → Memory → Effect Val
operated o compare l r a b m = answered (binary_of o a l b r compare) m

abbrev pub operated_alone : OpKind → Declared → Val → Memory → Effect Val
operated_alone o of v m = answered (unary_of o v of) m

-- the class of a counted object: 0 is Collection
abbrev pub class_of : ObjRef → Memory → ℕ
class_of (Heap id) m = (object_at m id.0).class
class_of reference m = 0

abbrev pub is_heap : ObjRef → Bool
is_heap (Heap id) = true
is_heap reference = false

abbrev pub is_sheet : ObjRef → Bool
is_sheet (Host (Sheet s)) = true
is_sheet reference = false

abbrev pub is_area : ObjRef → Bool
is_area (Host (Area s t l r c)) = true
is_area reference = false

abbrev pub is_collection : ObjRef → Memory → Bool
is_collection o m = is_heap o && (class_of o m == 0)

-- whether Set lets a variable of this type have an object that isn't Nothing ([MS-VBAL] 5.4.3.9)
abbrev pub takes_object : Declared → ObjRef → Memory → Bool
takes_object (type.class c) o m = is_heap o && (class_of o m == c)
takes_object type.collection o m = is_collection o m
takes_object type.worksheet o m = is_sheet o
takes_object type.range o m = is_area o
takes_object of o m = true

abbrev pub set_reference : Declared → ObjRef → Memory → Effect Val
set_reference of Nothing m = Fine (object Nothing) m
set_reference of o m = if takes_object of o m then Fine (object o) m else Bad-at 13 m

abbrev pub set_object : Declared → Val → Memory → Effect Val
set_object of (object o) m = set_reference of o m
set_object of v m = Bad-at 424 m

-- a value as one of the declared type: let-coercion, but of object types the test of Set ([MS-VBAL] 5.5.1.2)
abbrev pub fitted : Declared → Val → Memory → Effect Val
fitted type.object v m = set_object type.object v m
fitted (type.class c) v m = set_object (type.class c) v m
fitted type.collection v m = set_object type.collection v m
fitted type.worksheet v m = set_object type.worksheet v m
fitted type.range v m = set_object type.range v m
fitted of v m = answered (coerce_of v of) m

-- an area of a sheet, and the reference to it
abbrev pub area_in : (sheet top left rows columns : ℕ) → cells.Area
area_in s t l r c = record { sheet = record { 0 = s }; top = t; left = l; rows = r; columns = c }

abbrev pub range_value : cells.Area → Val
range_value a = object (Host (Area a.sheet.0 a.top a.left a.rows a.columns))

-- an operand: an object gives way to the value of its default member ([MS-VBAL] 5.6.2.3); Item of a Collection must have
-- an argument
abbrev pub plain_reference : ObjRef → Memory → Effect Val
plain_reference Nothing m = Bad-at 91 m
plain_reference (Host ErrObject) m = Fine (whole kind.Long m.err.number) m
plain_reference (Host (Area s t l r c)) m = answered (area_value m.book (area_in s t l r c)) m
plain_reference (Host Sheets) m = Bad-at 449 m
plain_reference (Heap id) m = if is_collection (Heap id) m then Bad-at 449 m else Bad-at 438 m
plain_reference o m = Bad-at 438 m

abbrev pub plain : Val → Memory → Effect Val
plain (object o) m = plain_reference o m
plain v m = Fine v m

-- a condition: Null counts as False; the answer is whether it is as told ([MS-VBAL] 5.4.2.8)
abbrev pub as_told_by : Bool → Bool → Bool
as_told_by sense b = if sense then b else not b

abbrev pub is_true : Val → Bool
is_true (boolean b) = b
is_true v = false

abbrev pub condition : Bool → Val → Memory → Effect Bool
condition sense (boolean b) m = Fine (as_told_by sense b) m
condition sense null m = Fine (as_told_by sense false) m
condition sense v m = on_fine (answered (to_boolean v) m) (λ b m1. Fine (as_told_by sense (is_true b)) m1)

-- ---- variables

-- the value at a path; where the path leads nowhere any more it raises 9
abbrev pub read_value : Option Val → Memory → Effect Val
read_value None m = Bad-at 9 m
read_value (Some v) m = Fine v (hold v m)

abbrev pub read_path : Path → Memory → Effect Val
read_path p m = read_value (value_at m p) m

-- whether a value may be replaced: there is one, and no frame holds a path through an array there; an object or an item
-- that an index gave has no place of its own
abbrev pub has_parts : Val → Bool
has_parts (array bounds of items) = true
has_parts (udt number fields) = true
has_parts v = false

abbrev pub replaceable_by : Path → Option Val → Memory → Effect Val
replaceable_by p None m = Bad-at 9 m
replaceable_by p (Some old) m = if has_parts old && is_locked m p then Bad-at 10 m else Fine old m

abbrev pub replaceable : Path → Memory → Effect Val
replaceable p m = at p.root
  where
    at : Root → Effect Val
    at (in_object o) = Bad-at 438 m
    at (in_item v) = Bad-at 438 m
    at root = replaceable_by p (value_at m p) m

-- an array that is declared with bounds is never replaced by another one
abbrev pub assignable : Path → Memory → Effect Val
assignable p m = on_fine (replaceable p m) (λ old m1. if p.bounded then Bad-at 10 m1 else Fine old m1)

-- ---- WithEvents variables ([MS-VBAL] 5.2.3.1.2)

abbrev pub is_with_events : (field : ℕ) → List (ℕ × Option ℕ) → Bool
is_with_events i [] = false
is_with_events i (e ∷ es) = (e.0 == i) || is_with_events i es

-- a variable has another set number, or none
abbrev pub renumbered : (field : ℕ) → Option ℕ → List (ℕ × Option ℕ) → List (ℕ × Option ℕ)
renumbered i n [] = []
renumbered i n (e ∷ es) = (e.0, if e.0 == i then n else e.1) ∷ renumbered i n es

abbrev pub with_set_number : (number field : ℕ) → Option ℕ → Memory → Memory
with_set_number o i n m = with_object m o (Some (record (object_at m o) { set_numbers = renumbered i n (object_at m o).set_numbers }))

-- a Set to an object draws the next number, one to Nothing leaves the variable without one
abbrev pub set_number_drawn : (number field : ℕ) → Val → Memory → Effect (Unit {0})
set_number_drawn o i (object Nothing) m = done (with_set_number o i None m)
set_number_drawn o i v m =
    if nat_lt m.next_set (2 ^ 64 - 1) then done (record (with_set_number o i (Some m.next_set) m) { next_set = m.next_set + 1 })
    else Out (outside limit.Links) m

-- a value was stored at a path: a WithEvents variable is connected to the object, or to nothing
abbrev pub connected : Path → Val → Memory → Effect (Unit {0})
connected p v m = at p.root
  where
    at : Root → Effect (Unit {0})
    at (in_fields o i) = if is_with_events i (object_at m o).set_numbers then set_number_drawn o i v m else done m
    at root = done m

-- a value is stored; what was there gives way
abbrev pub stored : Path → Val → Memory → Effect (Unit {0})
stored p v m = on_fine (assignable p m) (λ old m1. connected p v (replaced p v m1))

-- Let: the value becomes one of the type of what it is assigned to ([MS-VBAL] 5.4.3.8)
abbrev pub assigned : Path → Val → Memory → Effect (Unit {0})
assigned p v m = on_fine (answered (coerce_of v p.of) m) (λ w m1. stored p w m1)

-- a path is bound to a ByRef parameter of a call that doesn't stand yet
abbrev pub lent : Path → Memory → Effect (Unit {0})
lent p m = done (with_top m (record (top m) { pending = p ∷ (top m).pending }))

-- the paths of calls that didn't come to stand are bound no longer
abbrev pub unlent : Memory → Memory
unlent m = with_top m (record (top m) { pending = [] })

-- ---- arguments

abbrev pub slot_value : Slot → Val
slot_value (value v) = v
slot_value (path p) = empty

abbrev pub slot_values : List Slot → List Val
slot_values [] = []
slot_values (x ∷ xs) = slot_value x ∷ slot_values xs

-- the array of a ParamArray: from 0 to one less than there are arguments ([MS-VBAL] 5.3.1.11)
abbrev pub packed : List Slot → Val
packed xs = array (record { low = pos 0; high = pos (length xs) -ℤ pos 1 } ∷ []) type.variant (vals_of (slot_values xs))

-- the parameters' slots, each by the number of its argument
abbrev pub reordered : List ℕ → List Slot → List Slot
reordered [] xs = []
reordered (i ∷ is) xs = slice_index_or xs i (value missing) ∷ reordered is xs

-- what a parameter has to which nothing is given: a ParamArray an array without elements, another its default
abbrev pub slot_left_out : Parameter → Slot
slot_left_out q = value (if q.many then packed [] else unwrap_or q.default missing)

-- what the parameters of the macro that the run begins with have
abbrev pub startup_slots : Declarations → ℕ → List Slot
startup_slots d p = map slot_left_out (procedure_at d p).parameters

-- ---- Debug.Print ([MS-VBAL] 5.4.5.8.1)

-- a value as it is shown: a number with a blank or minus before it and a blank behind
abbrev pub number_shown : List ℕ → List ℕ
number_shown [] = []
number_shown (unit ∷ units) = if unit == 45 then unit ∷ units ++ 32 ∷ [] else 32 ∷ unit ∷ units ++ 32 ∷ []

abbrev pub shown_text : Val → Result (List ℕ) Bad
shown_text null = Ok (codes "Null")
shown_text (whole k z) = Ok (number_shown (signed_decimal z))
shown_text (currency count) = amount_shown (text_of (currency count)) where
  amount_shown : Result (List ℕ) Bad → Result (List ℕ) Bad
  amount_shown (Ok units) = Ok (number_shown units)
  amount_shown (Err bad) = Err bad
shown_text v = text_of v

abbrev pub shown_by : Result (List ℕ) Bad → Memory → Effect Val
shown_by (Ok units) m = Fine (text units) m
shown_by (Err bad) m = answered (Err bad) m

abbrev pub show_value : Val → Memory → Effect Val
show_value v m = shown_by (shown_text v) m

-- how many blanks lead to the next zone of 14 units
abbrev pub to_zone : ℕ → ℕ
to_zone column = 14 - column % 14

-- the texts from a column on, one behind the other; what is no text goes on to the next zone
abbrev pub laid_out : ℕ → List Slot → List ℕ
laid_out column [] = []
laid_out column (value (text units) ∷ xs) = units ++ laid_out (column + length units) xs
laid_out column (x ∷ xs) = replicate (to_zone column) 32 ++ laid_out (column + to_zone column) xs

abbrev pub printed : Bool → List Slot → Memory → Effect (Unit {0})
printed ends xs m =
    let line = laid_out m.column xs in
    Tell (Printed line ends ∷ []) (done (record m { column = if ends then 0 else m.column + length line }))

-- ---- For ([MS-VBAL] 5.4.2.3)

-- the header of a For begins: the loop counts as not begun
abbrev pub loop_off : ℕ → Memory → Effect (Unit {0})
loop_off i m = done (with_top m (record (top m) { loops = without (top m).loops i }))

abbrev pub looping : ℕ → Loop → Memory → Memory
looping i l m = with_top m (record (top m) { loops = (i, l) ∷ (top m).loops })

-- whether a counter is still within its loop: a step below 0 counts down, and a comparison that gives Null ends the
-- loop
abbrev pub counts_down : Loop → Memory → Effect Bool
counts_down l m = on_fine (operated op.Lt l.compare l.step.of type.integer l.step.value (whole kind.Integer (pos 0)) m) (λ b m1. Fine (is_true b) m1)

abbrev pub within : Declared → Val → Loop → Memory → Effect Bool
within of v l m =
    on_fine (counts_down l m) (λ down m1.
    on_fine (operated (if down then op.Ge else op.Le) l.compare of l.last.of v l.last.value m1) (λ b m2. Fine (is_true b) m2))

-- the counter takes a value; the answer is whether that is within the loop
abbrev pub counted : Variable → Val → Loop → Memory → Effect Bool
counted x v l m =
    on_fine (assigned (path_of m x) v m) (λ u m1.
    on_fine (read_path (path_of m1 x) m1) (λ w m2. within x.of w l m2))

abbrev pub loop_on : Variable → ℕ → Compare → (last step : Declared) → (start end by : Val) → Memory → Effect Bool
loop_on x i compare t u start end by m =
    let l : Loop = record { last = record { value = end; of = t }; step = record { value = by; of = u }; compare = compare } in
    on_fine (counted x start l m) (λ on m1. Fine on (looping i l m1))

abbrev pub stepped : Option Loop → Variable → Memory → Effect Bool
stepped None x m = Bad-at 92 m
stepped (Some l) x m =
    on_fine (read_path (path_of m x) m) (λ v m1.
    on_fine (plain v m1) (λ a m2.
    on_fine (operated op.Add l.compare x.of l.step.of a l.step.value m2) (λ w m3. counted x w l m3)))

-- Next adds the step
abbrev pub next_round : Variable → ℕ → Memory → Effect Bool
next_round x i m = stepped (found (top m).loops i) x m

-- ---- Select Case ([MS-VBAL] 5.4.2.10)

-- a Select Case that wasn't begun tests Empty
abbrev pub kept_or : Option Kept → Kept
kept_or None = only empty
kept_or (Some k) = k

abbrev pub kept_at : ℕ → Memory → Val
kept_at i m = kept_value (kept_or (found (top m).keeps i))

abbrev pub keep : ℕ → Val → Memory → Effect (Unit {0})
keep i v m = done (displaced (kept_at i m) (with_top m (record (top m) { keeps = put i (only v) (top m).keeps })))

abbrev pub selected : ℕ → Memory → Effect Val
selected i m = Fine (kept_at i m) (hold (kept_at i m) m)

-- whether a test of a Case fits: a comparison that gives Null doesn't
abbrev pub fits : OpKind → Compare → (of test : Declared) → Val → Val → Memory → Effect Bool
fits o compare of test v x m = on_fine (operated o compare of test v x m) (λ b m1. Fine (is_true b) m1)

abbrev pub fits_between : Compare → (of low high : Declared) → Val → Val → Val → Memory → Effect Bool
fits_between compare of low high v a b m =
    on_fine (operated op.Ge compare of low v a m) (λ p m1. on_fine (operated op.Le compare of high v b m1) (λ q m2. Fine (is_true p && is_true q) m2))

-- ---- GoSub and Return ([MS-VBAL] 5.4.2.15)

abbrev pub gone_sub : ℕ → Memory → Effect (Unit {0})
gone_sub i m = done (with_top m (record (top m) { returns = i ∷ (top m).returns }))

abbrev pub returned_to : List ℕ → Memory → Effect ℕ
returned_to [] m = Bad-at 3 m
returned_to (i ∷ is) m = Fine i (with_top m (record (top m) { returns = is }))

abbrev pub returned_sub : Memory → Effect ℕ
returned_sub m = returned_to (top m).returns m

-- ---- errors ([MS-VBAL] 5.4.4)

abbrev pub at_number : ℕ → At
at_number i = record { 0 = i }

abbrev pub policy_of : Handling → Policy
policy_of passed_on = policy.Default
policy_of skipped = policy.ResumeNext
policy_of (handled_at i) = policy.Handler (at_number i)

abbrev pub with_err : Error → Memory → Memory
with_err e m = record m { err = e }

abbrev pub err_off : Memory → Effect (Unit {0})
err_off m = done (with_err no_error m)

abbrev pub policy_on : Policy → Memory → Effect (Unit {0})
policy_on b m = done (with_err no_error (with_top m (record (top m) { errors = record (top m).errors { policy = b } })))

abbrev pub handler_off : Memory → Effect (Unit {0})
handler_off m = done (with_err no_error (with_top m (record (top m) { errors = resumption.ended (top m).errors })))

-- the statement whose error the active handler took
abbrev pub failed_or : Option At → ℕ
failed_or None = 0
failed_or (Some i) = i.0

abbrev pub failed_statement : Memory → ℕ
failed_statement m = failed_or (top m).errors.failed

abbrev pub resumed_by : Result At Bad → Memory → Effect ℕ
resumed_by (Ok i) m = Fine i.0 (with_err no_error (with_top m (record (top m) { errors = resumption.after_resume (top m).errors })))
resumed_by (Err bad) m = on_fine (answered (Err bad) m) (λ (u : Unit {0}) m1. Fine 0 m1)

-- any Resume, with the statement that is next after the failed one
abbrev pub resumed : ResumeKind → (next : ℕ) → Memory → Effect ℕ
resumed k next m = resumed_by (resumption.answer (top m).errors.active (top m).errors.failed k (at_number next)) m

-- whether the running frame takes an error, with the statement that is next after the running one
abbrev pub taken_by : (next : ℕ) → Memory → Taken
taken_by next m = decision (top m).errors.policy (top m).errors.active (at_number next)

-- an error is taken: Err has it then
abbrev pub with_taken : Error → Taken → Memory → Memory
with_taken e t m = with_err e (with_top m (record (top m) { errors = after_take (top m).errors (at_number (number_or (top m).statement)) t }))

-- Err.Raise and Error: 0 raises 5
abbrev pub raised_number : Val → ℤ
raised_number (whole k (pos zero)) = pos 5
raised_number (whole k z) = z
raised_number v = pos 5

abbrev pub given_text : Val → Option (List ℕ)
given_text (text units) = Some units
given_text v = None

abbrev pub raised_by : List Slot → Memory → Error
raised_by xs m = record {
  number = raised_number (slot_value (slice_index_or xs 0 (value missing)));
  source = given_text (slot_value (slice_index_or xs 1 (value missing)));
  description = given_text (slot_value (slice_index_or xs 2 (value missing)));
  procedure = (top m).procedure;
  statement = (top m).statement;
}

abbrev pub no_module : Module
no_module = record { name = no_name; compare = Binary; base = 0 }

abbrev pub module_name : Declarations → (procedure : ℕ) → List ℕ
module_name d p = (slice_index_or d.modules (procedure_at d p).in_module no_module).name.spelling

abbrev pub is_zero : ℤ → Bool
is_zero (pos zero) = true
is_zero z = false

abbrev pub text_or : Option (List ℕ) → List ℕ → List ℕ
text_or None t = t
text_or (Some s) t = s

-- what Err tells: the source is the module of the procedure that raised the error unless one was given, the
-- description its message
abbrev pub err_of : Declarations → ErrMember → Error → Val
err_of d err_number e = whole kind.Long e.number
err_of d err_source e = text (if is_zero e.number then [] else text_or e.source (module_name d e.procedure))
err_of d err_description e = text (if is_zero e.number then [] else text_or e.description (message_of e.number))

abbrev pub stop_here : Memory → Effect (Unit {0})
stop_here m = Out stop_said m
