-- The values of constant expressions.
use Rattle.std.specs.Prelude.{ℕ, Bool, true, false, ◌||◌, List, [], ◌∷◌, Option, Some, None, Result, Ok, if◌then◌else◌, bytes_eq}
use Rattle.vba_values.specs.declared.fault.Bad.{Bad}
use Rattle.vba_values.specs.declared.object.ObjRef.TheVariants.{Nothing}
use Rattle.vba_values.specs.declared.types.Compare.TheVariants.{Binary}
use Rattle.vba_values.specs.declared.types.OpKind.{OpKind}
use Rattle.vba_values.specs.declared.types.OpKind.TheVariants as kinds
use Rattle.vba_values.specs.declared.types.WholeKind.TheVariants as whole_kind
use Rattle.vba_values.specs.Coerce.{to_boolean}
use Rattle.vba_values.specs.Operators.{binary_of, unary_of}
use Rattle.vba_values.specs.Types.{Declared}
use Rattle.vba_values.specs.Types as type
use Rattle.vba_values.specs.Val.{Val, empty, null, boolean, whole, currency, text, object}
use Rattle.cond_compile.specs.declared.operator.Operator.{Operator}
use Rattle.cond_compile.specs.declared.operator.Operator.TheVariants as op
use Rattle.cond_compile.specs.declared.operator.Prefix.{Prefix}
use Rattle.cond_compile.specs.declared.operator.Prefix.TheVariants as prefixes
use Rattle.cond_compile.specs.Expressions as tree
use Rattle.cond_compile.specs.Expressions.{Expression, Leaf}
use Rattle.cond_compile.specs.Literals.{answered}
use Rattle.cond_compile.specs.Reader.{Making}

-- a name of a `#Const` line, folded, and its value
pub record Constant : Type 0 where
  pub name : List ℕ
  pub value : Val

-- a value, and whether its declared type is Variant
pub record Operand : Type 0 where
  pub value : Val
  pub variant : Bool

-- the type of a value; Variant of Empty and Null
abbrev pub type_of : Val → Declared
type_of (boolean b) = type.boolean
type_of (whole whole_kind.Byte z) = type.byte
type_of (whole whole_kind.Integer z) = type.integer
type_of (whole whole_kind.Long z) = type.long
type_of (whole whole_kind.LongLong z) = type.long_long
type_of (currency count) = type.currency
type_of (text units) = type.text
type_of (object reference) = type.object
type_of value = type.variant

abbrev pub declared_type : Operand → Declared
declared_type operand = if operand.variant then type.variant else type_of operand.value

-- Empty and Null have no type but Variant
abbrev pub is_open : Val → Bool
is_open empty = true
is_open null = true
is_open value = false

-- a value with its own type as the declared one
abbrev pub typed : Val → Operand
typed value = record { value = value; variant = is_open value }

-- the value of a name: the latest one; Empty, a Variant, of a name that is unknown
abbrev pub value_of_name : List Constant → List ℕ → Operand
value_of_name [] name = typed empty
value_of_name (constant ∷ constants) name =
    if bytes_eq constant.name name then typed constant.value else value_of_name constants name

-- the operators of tables; `/` and `^` have none, since they give a Double
abbrev pub kind_of : Operator → Option OpKind
kind_of op.Times = Some kinds.Mul
kind_of op.IntDivide = Some kinds.IntDiv
kind_of op.Mod = Some kinds.Mod
kind_of op.Plus = Some kinds.Add
kind_of op.Minus = Some kinds.Sub
kind_of op.Join = Some kinds.Join
kind_of op.Equal = Some kinds.Eq
kind_of op.Unequal = Some kinds.Ne
kind_of op.Less = Some kinds.Lt
kind_of op.LessEqual = Some kinds.Le
kind_of op.Greater = Some kinds.Gt
kind_of op.GreaterEqual = Some kinds.Ge
kind_of op.And = Some kinds.And
kind_of op.Or = Some kinds.Or
kind_of op.Xor = Some kinds.Xor
kind_of op.Eqv = Some kinds.Eqv
kind_of op.Imp = Some kinds.Imp
kind_of op.Power = None
kind_of op.Divide = None
kind_of op.Is = None

-- Nothing is the only object of a constant
abbrev pub is_nothing : Val → Bool
is_nothing (object Nothing) = true
is_nothing value = false

-- Is wants two objects
abbrev pub same_object : Val → Val → Option Val
same_object left right = if is_nothing left then (if is_nothing right then Some (boolean true) else None) else None

-- a result has its own type, but beside a Variant it is one
abbrev pub result_beside : Bool → Option Val → Option Operand
result_beside variant None = None
result_beside variant (Some value) = Some (record { value = value; variant = variant })

abbrev pub by_table : Option OpKind → Operand → Operand → Option Val
by_table None left right = None
by_table (Some kind) left right = answered (binary_of kind left.value (declared_type left) right.value (declared_type right) Binary)

abbrev pub operation : Operator → Operand → Operand → Option Val
operation op.Is left right = same_object left.value right.value
operation o left right = by_table (kind_of o) left right

abbrev pub prefix_kind : Prefix → OpKind
prefix_kind prefixes.Minus = kinds.Neg
prefix_kind prefixes.Not = kinds.Not

-- the value of an operator on operands that have values
abbrev pub of_operand : Prefix → Option Operand → Option Operand
of_operand p None = None
of_operand p (Some e) = result_beside e.variant (answered (unary_of (prefix_kind p) e.value (declared_type e)))

abbrev pub of_operands : Operator → Option Operand → Option Operand → Option Operand
of_operands o None right = None
of_operands o (Some left) None = None
of_operands o (Some left) (Some right) = result_beside (left.variant || right.variant) (operation o left right)

abbrev pub of_literal : Option Val → Option Operand
of_literal None = None
of_literal (Some value) = Some (typed value)

abbrev pub of_leaf : List Constant → Leaf → Option Operand
of_leaf constants (tree.literal value) = of_literal value
of_leaf constants (tree.name n) = Some (value_of_name constants n)
of_leaf constants tree.me = None

-- the value of an expression of literals, names, parentheses and operators, where it neither raises nor stops
abbrev pub value_of : List Constant → Expression → Option Operand
value_of constants (tree.leaf l) = of_leaf constants l
value_of constants (tree.paren e) = value_of constants e
value_of constants (tree.prefixed p e) = of_operand p (value_of constants e)
value_of constants (tree.binary o a b) = of_operands o (value_of constants a) (value_of constants b)
value_of constants e = None

-- the values of the parts of an expression
abbrev pub values : Making (Option Operand)
values = record {
  with_member = λ apart n. None;
  new_object = λ n. None;
  paren = λ e. e;
  member = λ e n. None;
  index = λ f xs. None;
  type_test = λ e n. None;
  prefixed = of_operand;
  binary = of_operands;
  missing = None;
  named = λ n e. None;
  list = λ xs x. None;
}

-- whether a value is true as a condition: Null is not
abbrev pub boolean_in : Result Val Bad → Option Bool
boolean_in (Ok (boolean b)) = Some b
boolean_in answer = None

abbrev pub truth_of : Val → Option Bool
truth_of null = Some false
truth_of value = boolean_in (to_boolean value)

-- whether a condition holds, where it has a value
abbrev pub truth : Option Operand → Option Bool
truth None = None
truth (Some operand) = truth_of operand.value
