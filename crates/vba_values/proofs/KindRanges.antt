-- Numbers fit the kinds that are wider than their own.
use Rattle.std.proofs.Common.{◌≡◌, ℕ, ◌^◌, ◌<◌, nat_lt, Bool, true, false, ℤ, pos, negsuc, IsTrue, lit<, arith, rules, refl}
use Rattle.std.proofs.lemmas.Bool.Decides.{nat_tests}
use Rattle.vba_values.specs.declared.types.WholeKind.{WholeKind}
use Rattle.vba_values.specs.declared.types.WholeKind.TheVariants as kind
use Rattle.vba_values.specs.declared.operands.Work.{Work}
use Rattle.vba_values.specs.declared.operands.Work.TheVariants as work
use Rattle.vba_values.specs.Operands.{narrowest, kind_beside, empty_beside, wider, wider_whole, work_of}
use Rattle.vba_values.specs.Arithmetic.{whole_work}
use Rattle.vba_values.specs.Whole.{fits}
use Rattle.vba_values.specs.Val.{Val, empty, null, missing, boolean, whole, currency, text, object, array, udt}

byte_integer : (z : ℤ) → IsTrue (fits kind.Byte z) → IsTrue (fits kind.Integer z)
byte_integer (pos n) h = grind (arith, nat_tests)
byte_integer (negsuc n) h = absurd (search rules)

integer_long : (z : ℤ) → IsTrue (fits kind.Integer z) → IsTrue (fits kind.Long z)
integer_long (pos n) h = grind (arith, nat_tests)
integer_long (negsuc n) h = grind (arith, nat_tests)

long_longer : (z : ℤ) → IsTrue (fits kind.Long z) → IsTrue (fits kind.LongLong z)
long_longer (pos n) h = grind (arith, nat_tests)
long_longer (negsuc n) h = grind (arith, nat_tests)

longest : (k : WholeKind) (z : ℤ) → IsTrue (fits k z) → IsTrue (fits kind.LongLong z)
longest kind.Byte z h = long_longer z (integer_long z (byte_integer z h))
longest kind.Integer z h = long_longer z (integer_long z h)
longest kind.Long z h = long_longer z h
longest kind.LongLong z h = h

wider_left : (k j : WholeKind) (z : ℤ) → IsTrue (fits k z) → IsTrue (fits (wider_whole k j) z)
wider_left kind.Byte kind.Byte z h = h
wider_left kind.Byte kind.Integer z h = byte_integer z h
wider_left kind.Byte kind.Long z h = integer_long z (byte_integer z h)
wider_left kind.Byte kind.LongLong z h = long_longer z (integer_long z (byte_integer z h))
wider_left kind.Integer kind.Byte z h = h
wider_left kind.Integer kind.Integer z h = h
wider_left kind.Integer kind.Long z h = integer_long z h
wider_left kind.Integer kind.LongLong z h = long_longer z (integer_long z h)
wider_left kind.Long kind.Byte z h = h
wider_left kind.Long kind.Integer z h = h
wider_left kind.Long kind.Long z h = h
wider_left kind.Long kind.LongLong z h = long_longer z h
wider_left kind.LongLong kind.Byte z h = h
wider_left kind.LongLong kind.Integer z h = h
wider_left kind.LongLong kind.Long z h = h
wider_left kind.LongLong kind.LongLong z h = h

wider_right : (k j : WholeKind) (z : ℤ) → IsTrue (fits k z) → IsTrue (fits (wider_whole j k) z)
wider_right kind.Byte kind.Byte z h = h
wider_right kind.Byte kind.Integer z h = byte_integer z h
wider_right kind.Byte kind.Long z h = integer_long z (byte_integer z h)
wider_right kind.Byte kind.LongLong z h = long_longer z (integer_long z (byte_integer z h))
wider_right kind.Integer kind.Byte z h = h
wider_right kind.Integer kind.Integer z h = h
wider_right kind.Integer kind.Long z h = integer_long z h
wider_right kind.Integer kind.LongLong z h = long_longer z (integer_long z h)
wider_right kind.Long kind.Byte z h = h
wider_right kind.Long kind.Integer z h = h
wider_right kind.Long kind.Long z h = h
wider_right kind.Long kind.LongLong z h = long_longer z h
wider_right kind.LongLong kind.Byte z h = h
wider_right kind.LongLong kind.Integer z h = h
wider_right kind.LongLong kind.Long z h = h
wider_right kind.LongLong kind.LongLong z h = h

work_left : (l r : Work) (z : ℤ) → IsTrue (fits (whole_work l) z) → IsTrue (fits (whole_work (wider l r)) z)
work_left work.Currency r z h = h
work_left (work.Whole k) work.Currency z h = longest k z h
work_left (work.Whole k) (work.Whole j) z h = wider_left k j z h

work_right : (l r : Work) (z : ℤ) → IsTrue (fits (whole_work l) z) → IsTrue (fits (whole_work (wider r l)) z)
work_right work.Currency work.Currency z h = h
work_right work.Currency (work.Whole j) z h = h
work_right (work.Whole k) work.Currency z h = longest k z h
work_right (work.Whole k) (work.Whole j) z h = wider_right k j z h

byte_beside : (w : Val) (z : ℤ) → IsTrue (fits kind.Byte z) → IsTrue (fits (whole_work (empty_beside w)) z)
byte_beside (whole kind.Byte x) z h = h
byte_beside (whole kind.Integer x) z h = byte_integer z h
byte_beside (whole kind.Long x) z h = byte_integer z h
byte_beside (whole kind.LongLong x) z h = byte_integer z h
byte_beside empty z h = byte_integer z h
byte_beside null z h = byte_integer z h
byte_beside missing z h = byte_integer z h
byte_beside (boolean b) z h = byte_integer z h
byte_beside (currency x) z h = byte_integer z h
byte_beside (text t) z h = byte_integer z h
byte_beside (object o) z h = byte_integer z h
byte_beside (array b t vs) z h = byte_integer z h
byte_beside (udt n vs) z h = byte_integer z h

beside : (v w : Val) (z : ℤ) → IsTrue (fits (narrowest v) z) → IsTrue (fits (whole_work (kind_beside v w)) z)
beside empty w z h = byte_beside w z h
beside (boolean b) w z h = h
beside (whole k x) w z h = h
beside (currency x) w z h = longest kind.Byte z h
beside null w z h = byte_integer z h
beside missing w z h = byte_integer z h
beside (text t) w z h = byte_integer z h
beside (object o) w z h = byte_integer z h
beside (array b t vs) w z h = byte_integer z h
beside (udt n vs) w z h = byte_integer z h

-- an operand's number fits the kind of the work
pub in_work_left : (v w : Val) (z : ℤ) → IsTrue (fits (narrowest v) z) → IsTrue (fits (whole_work (work_of v w)) z)
in_work_left v w z h = work_left (kind_beside v w) (kind_beside w v) z (beside v w z h)

pub in_work_right : (v w : Val) (z : ℤ) → IsTrue (fits (narrowest v) z) → IsTrue (fits (whole_work (work_of w v)) z)
in_work_right v w z h = work_right (kind_beside v w) (kind_beside w v) z (beside v w z h)

pub ruleset in_work = (in_work_left, in_work_right)
