-- Operands as numbers: the kinds in which the work of an operator is done.
use Rattle.std.specs.Prelude.{ℕ, ◌*◌, Bool, true, false, ◌||◌, ℤ, pos, negsuc, ◌*ℤ◌, if◌then◌else◌}
use Rattle.vba_values.specs.declared.types.WholeKind.{WholeKind}
use Rattle.vba_values.specs.declared.types.WholeKind.TheVariants as kind
use Rattle.vba_values.specs.declared.operands.Work.{Work}
use Rattle.vba_values.specs.declared.operands.Work.TheVariants as work
use Rattle.vba_values.specs.Val.{Val, empty, null, missing, boolean, whole, currency, text, object, array, udt}
use Rattle.vba_values.specs.Whole.{boolean_in}

-- what no operator but Is takes: Missing, objects, arrays and user-defined values
abbrev pub is_no_operand : Val → Bool
is_no_operand missing = true
is_no_operand (object reference) = true
is_no_operand (array bounds element items) = true
is_no_operand (udt place fields) = true
is_no_operand value = false

abbrev pub is_null : Val → Bool
is_null null = true
is_null value = false

abbrev pub is_empty : Val → Bool
is_empty empty = true
is_empty value = false

abbrev pub is_amount : Val → Bool
is_amount (currency count) = true
is_amount value = false

-- the kind of an operand: a Boolean counts as Integer, and so does Empty, but beside a Byte as Byte
abbrev pub empty_beside : Val → Work
empty_beside (whole kind.Byte z) = work.Whole kind.Byte
empty_beside value = work.Whole kind.Integer

-- the kind of an operand beside another
abbrev pub kind_beside : Val → Val → Work
kind_beside (whole k z) other = work.Whole k
kind_beside (currency count) other = work.Currency
kind_beside empty other = empty_beside other
kind_beside value other = work.Whole kind.Integer

-- the wider of two kinds of whole numbers: Byte, Integer, Long, LongLong
abbrev pub wider_whole : WholeKind → WholeKind → WholeKind
wider_whole kind.LongLong right = kind.LongLong
wider_whole left kind.LongLong = kind.LongLong
wider_whole kind.Long right = kind.Long
wider_whole left kind.Long = kind.Long
wider_whole kind.Integer right = kind.Integer
wider_whole left kind.Integer = kind.Integer
wider_whole kind.Byte kind.Byte = kind.Byte

-- the wider of two kinds: Currency is the widest
abbrev pub wider : Work → Work → Work
wider work.Currency right = work.Currency
wider left work.Currency = work.Currency
wider (work.Whole left) (work.Whole right) = work.Whole (wider_whole left right)

-- the kind in which two operands are worked
abbrev pub work_of : Val → Val → Work
work_of left right = wider (kind_beside left right) (kind_beside right left)

-- a number as a whole number: True is -1, Empty is 0
abbrev pub number_of : Val → ℤ
number_of (boolean b) = boolean_in kind.Integer b
number_of (whole k z) = z
number_of value = pos 0

-- a number as a count of ten-thousandths
abbrev pub count_of : Val → ℤ
count_of (currency count) = count
count_of value = number_of value *ℤ pos 10000

-- the narrowest kind that has all numbers of the operand's kind
abbrev pub narrowest : Val → WholeKind
narrowest (boolean b) = kind.Integer
narrowest (whole k z) = k
narrowest value = kind.Byte
