-- The type that an operator's result has by the declared types of its operands; none where it would be a Double.
use Rattle.std.specs.Prelude.{ℕ, Bool, true, false, ◌||◌, ◌&&◌, not, Option, Some, None, if◌then◌else◌}
use Rattle.vba_values.specs.declared.types.OpKind.{OpKind}
use Rattle.vba_values.specs.declared.types.OpKind.TheVariants as op
use Rattle.vba_values.specs.declared.types.WholeKind.{WholeKind}
use Rattle.vba_values.specs.declared.types.WholeKind.TheVariants as kind
use Rattle.vba_values.specs.Comparison.{is_number, is_string}
use Rattle.vba_values.specs.declared.operands.Work.{Work}
use Rattle.vba_values.specs.declared.operands.Work.TheVariants as work
use Rattle.vba_values.specs.Operands.{wider}
use Rattle.vba_values.specs.Types.{Declared}
use Rattle.vba_values.specs.Types as type

-- neither a number nor a String: what an operator makes of it is known when it runs
abbrev pub is_open : Declared → Bool
is_open declared = not (is_number declared || is_string declared)

-- the kind of a declared number: a Boolean counts as Integer
abbrev pub declared_kind : Declared → Work
declared_kind type.byte = work.Whole kind.Byte
declared_kind type.long = work.Whole kind.Long
declared_kind type.long_long = work.Whole kind.LongLong
declared_kind type.currency = work.Currency
declared_kind other = work.Whole kind.Integer

-- the type of a kind
abbrev pub kind_type : Work → Declared
kind_type (work.Whole kind.Byte) = type.byte
kind_type (work.Whole kind.Integer) = type.integer
kind_type (work.Whole kind.Long) = type.long
kind_type (work.Whole kind.LongLong) = type.long_long
kind_type work.Currency = type.currency

abbrev pub is_currency : Declared → Bool
is_currency type.currency = true
is_currency other = false

abbrev pub is_boolean : Declared → Bool
is_boolean type.boolean = true
is_boolean other = false

-- two numbers
abbrev pub number_type : Declared → Declared → Declared
number_type left right = kind_type (wider (declared_kind left) (declared_kind right))

-- a String beside a String is joined by +, a String beside Currency gives Currency under + and -; the rest would be Doubles
abbrev pub sum_type : OpKind → Declared → Declared → Option Declared
sum_type op.Add left right =
    if is_string left && is_string right then Some type.text
    else if is_currency left || is_currency right then Some type.currency
    else None
sum_type op.Sub left right = if is_currency left || is_currency right then Some type.currency else None
sum_type o left right = None

-- + - *
abbrev pub arithmetic_type : OpKind → Declared → Declared → Option Declared
arithmetic_type o left right =
    if is_open left || is_open right then Some type.variant
    else if is_string left || is_string right then sum_type o left right
    else Some (number_type left right)

-- Currency and String count as Long, or as LongLong beside a LongLong
abbrev pub long_beside : Declared → Work
long_beside type.long_long = work.Whole kind.LongLong
long_beside other = work.Whole kind.Long

abbrev pub whole_kind : Declared → Declared → Work
whole_kind declared other = if is_string declared || is_currency declared then long_beside other else declared_kind declared

-- \ and Mod
abbrev pub division_type : Declared → Declared → Option Declared
division_type left right =
    if is_open left || is_open right then Some type.variant
    else Some (kind_type (wider (whole_kind left right) (whole_kind right left)))

-- And Or Xor Eqv Imp: two Booleans stay Boolean
abbrev pub logic_type : Declared → Declared → Option Declared
logic_type left right = if is_boolean left && is_boolean right then Some type.boolean else division_type left right

-- &
abbrev pub join_type : Declared → Declared → Option Declared
join_type left right = if is_open left || is_open right then Some type.variant else Some type.text

-- a comparison: a String beside a number would be compared as a Double
abbrev pub comparison_type : Declared → Declared → Option Declared
comparison_type left right =
    if is_open left || is_open right then Some type.variant
    else if (is_string left && is_number right) || (is_number left && is_string right) then None
    else Some type.boolean

-- unary minus: Byte and Boolean give Integer, a String would be a Double
abbrev pub minus_type : Declared → Option Declared
minus_type declared =
    if is_open declared then Some type.variant
    else if is_string declared then None
    else Some (number_type declared type.boolean)

-- Not: a Boolean stays Boolean, Currency and String count as Long
abbrev pub not_type : Declared → Option Declared
not_type declared =
    if is_open declared then Some type.variant
    else if is_boolean declared then Some type.boolean
    else Some (kind_type (whole_kind declared type.boolean))

-- an operator's type; for the operators of one operand the left type is the operand's. / and ^ give a Double whatever their
-- operands are
abbrev pub static_of : OpKind → Declared → Declared → Option Declared
static_of op.Add left right = arithmetic_type op.Add left right
static_of op.Sub left right = arithmetic_type op.Sub left right
static_of op.Mul left right = arithmetic_type op.Mul left right
static_of op.IntDiv left right = division_type left right
static_of op.Mod left right = division_type left right
static_of op.Divide left right = None
static_of op.Power left right = None
static_of op.Join left right = join_type left right
static_of op.And left right = logic_type left right
static_of op.Or left right = logic_type left right
static_of op.Xor left right = logic_type left right
static_of op.Eqv left right = logic_type left right
static_of op.Imp left right = logic_type left right
static_of op.Neg left right = minus_type left
static_of op.Not left right = not_type left
static_of o left right = comparison_type left right
