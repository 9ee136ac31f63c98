-- The numbers by which a listing names what an instruction says.
use Rattle.std.specs.Prelude.{ℕ, ◌+◌, length, Bool, if◌then◌else◌}
use Rattle.std.specs.Int.RustNames.{unsigned_abs}
use Rattle.error_frames.specs.declared.frame.Policy.{Policy}
use Rattle.error_frames.specs.declared.frame.Policy.TheVariants.{Default, Handler, ResumeNext}
use Rattle.vba_values.specs.declared.object.HostRef.{HostRef}
use Rattle.vba_values.specs.declared.object.HostRef.TheVariants.{Application, Workbook, Sheets, ErrObject, Sheet, Area, RowsOf, ColumnsOf}
use Rattle.vba_values.specs.declared.types.Compare.{Compare}
use Rattle.vba_values.specs.declared.types.Compare.TheVariants.{Binary, Folded}
use Rattle.vba_values.specs.declared.types.OpKind.{OpKind}
use Rattle.vba_values.specs.declared.types.OpKind.TheVariants as op
use Rattle.vba_values.specs.declared.types.WholeKind.{WholeKind}
use Rattle.vba_values.specs.declared.types.WholeKind.TheVariants as kind
use Rattle.vba_values.specs.Types.{Declared}
use Rattle.vba_values.specs.Types as type
use Rattle.vba_values.specs.Val.{Val, empty, null, missing, boolean, whole, currency, text, object, array, udt}
use Rattle.vba_lib.specs.declared.function.LibraryFunction.{LibraryFunction}
use Rattle.vba_lib.specs.declared.function.LibraryFunction.TheVariants as function
use Rattle.bound_project.specs.Expressions.{Storage, local, shared, own, ErrMember, err_number, err_source, err_description}

-- 1 for true
abbrev pub bit_of : Bool → ℕ
bit_of b = if b then 1 else 0

abbrev pub operator_number : OpKind → ℕ
operator_number op.Add = 0
operator_number op.Sub = 1
operator_number op.Mul = 2
operator_number op.IntDiv = 3
operator_number op.Mod = 4
operator_number op.Join = 5
operator_number op.Eq = 6
operator_number op.Ne = 7
operator_number op.Lt = 8
operator_number op.Le = 9
operator_number op.Gt = 10
operator_number op.Ge = 11
operator_number op.And = 12
operator_number op.Or = 13
operator_number op.Xor = 14
operator_number op.Eqv = 15
operator_number op.Imp = 16
operator_number op.Neg = 17
operator_number op.Not = 18
operator_number op.Divide = 19
operator_number op.Power = 20

-- how texts are compared
abbrev pub compare_number : Compare → ℕ
compare_number Binary = 0
compare_number Folded = 1

-- what Err tells
abbrev pub member_number : ErrMember → ℕ
member_number err_number = 0
member_number err_source = 1
member_number err_description = 2

-- what a frame does with errors, and the statement of its handler
abbrev pub policy_number : Policy → ℕ
policy_number Default = 0
policy_number (Handler at) = 1
policy_number ResumeNext = 2

abbrev pub handler_number : Policy → ℕ
handler_number Default = 0
handler_number (Handler at) = at.0
handler_number ResumeNext = 0

-- a variable, and where it is kept: in its procedure's frame, in the project or in the object whose procedure runs
abbrev pub variable_number : Storage → ℕ
variable_number (local number) = number
variable_number (shared number) = number
variable_number (own number) = number

abbrev pub storage_number : Storage → ℕ
storage_number (local number) = 0
storage_number (shared number) = 1
storage_number (own number) = 2

-- an object of the host, and the number that it has or counts
abbrev pub host_number : HostRef → ℕ
host_number Application = 0
host_number Workbook = 1
host_number Sheets = 2
host_number ErrObject = 3
host_number (Sheet sheet) = 4
host_number (Area sheet top left rows columns) = 5
host_number (RowsOf count) = 6
host_number (ColumnsOf count) = 7

abbrev pub host_detail : HostRef → ℕ
host_detail Application = 0
host_detail Workbook = 0
host_detail Sheets = 0
host_detail ErrObject = 0
host_detail (Sheet sheet) = sheet
host_detail (Area sheet top left rows columns) = sheet
host_detail (RowsOf count) = count
host_detail (ColumnsOf count) = count

-- the kind of a value, by the number that VarType gives; all arrays have the same one here
abbrev pub whole_number : WholeKind → ℕ
whole_number kind.Byte = 17
whole_number kind.Integer = 2
whole_number kind.Long = 3
whole_number kind.LongLong = 20

abbrev pub value_number : Val → ℕ
value_number empty = 0
value_number null = 1
value_number missing = 10
value_number (boolean b) = 11
value_number (whole k z) = whole_number k
value_number (currency count) = 6
value_number (text units) = 8
value_number (object reference) = 9
value_number (array bounds element items) = 8192
value_number (udt place fields) = 36

-- how large a value is: a number without its sign, a Currency's in ten-thousandths; how many units a text has
abbrev pub value_size : Val → ℕ
value_size empty = 0
value_size null = 0
value_size missing = 0
value_size (boolean b) = bit_of b
value_size (whole k z) = unsigned_abs z
value_size (currency count) = unsigned_abs count
value_size (text units) = length units
value_size (object reference) = 0
value_size (array bounds element items) = 0
value_size (udt place fields) = 0

-- a declared type, and the number or size that it has; of an array they are those of its elements, the first with 16 added
abbrev pub type_number : Declared → ℕ
type_number type.boolean = 0
type_number type.byte = 1
type_number type.integer = 2
type_number type.long = 3
type_number type.long_long = 4
type_number type.currency = 5
type_number type.text = 6
type_number (type.fixed_text size) = 7
type_number type.object = 8
type_number (type.class number) = 9
type_number type.collection = 10
type_number type.worksheet = 11
type_number type.range = 12
type_number type.variant = 13
type_number (type.udt place) = 14
type_number (type.array_of of) = 16 + type_number of

abbrev pub type_detail : Declared → ℕ
type_detail type.boolean = 0
type_detail type.byte = 0
type_detail type.integer = 0
type_detail type.long = 0
type_detail type.long_long = 0
type_detail type.currency = 0
type_detail type.text = 0
type_detail (type.fixed_text size) = size
type_detail type.object = 0
type_detail (type.class number) = number
type_detail type.collection = 0
type_detail type.worksheet = 0
type_detail type.range = 0
type_detail type.variant = 0
type_detail (type.udt place) = place
type_detail (type.array_of of) = type_detail of

-- a function of the library
abbrev pub function_number : LibraryFunction → ℕ
function_number function.Len = 0
function_number function.Left = 1
function_number function.Right = 2
function_number function.Mid = 3
function_number function.InStr = 4
function_number function.UCase = 5
function_number function.LCase = 6
function_number function.Trim = 7
function_number function.LTrim = 8
function_number function.RTrim = 9
function_number function.Space = 10
function_number function.String = 11
function_number function.ChrW = 12
function_number function.AscW = 13
function_number function.Chr = 14
function_number function.Asc = 15
function_number function.Replace = 16
function_number function.Split = 17
function_number function.Join = 18
function_number function.UBound = 19
function_number function.LBound = 20
function_number function.IsEmpty = 21
function_number function.IsNull = 22
function_number function.IsObject = 23
function_number function.IsArray = 24
function_number function.IsMissing = 25
function_number function.TypeName = 26
function_number function.VarType = 27
function_number function.Abs = 28
function_number function.Int = 29
function_number function.Fix = 30
function_number function.Sgn = 31
function_number function.Hex = 32
function_number function.Oct = 33
function_number function.StrComp = 34
function_number function.StrReverse = 35
function_number function.Array = 36
function_number function.IIf = 37
function_number function.CByte = 38
function_number function.CInt = 39
function_number function.CLng = 40
function_number function.CLngLng = 41
function_number function.CCur = 42
function_number function.CBool = 43
function_number function.CStr = 44
function_number function.CVar = 45
