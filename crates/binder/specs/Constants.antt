-- The values of constant expressions ([MS-VBAL] 5.6.16.2), and S20.
use Rattle.std.specs.Prelude.{ℕ, zero, suc, ◌+◌, ◌==◌, nat_le, Bool, true, false, ◌&&◌, ◌||◌, not, ℤ, pos, negsuc, ◌+ℤ◌, List, [], ◌∷◌, ◌++◌, length, map, flat_map, Option, Some, None, is_none, Result, Ok, Err, if◌then◌else◌, unwrap_or, option_map, option_and_then}
use Rattle.std.specs.List.{list_all}
use Rattle.vba_base.specs.declared.place.Place.{Place}
use Rattle.vba_lexer.specs.declared.number.Number.{Number}
use Rattle.vba_lexer.specs.declared.number.NumberKind.{NumberKind}
use Rattle.vba_lexer.specs.declared.number.NumberKind.TheVariants as number
use Rattle.vba_lexer.specs.declared.number.TypeSuffix.{TypeSuffix}
use Rattle.vba_values.specs.declared.fault.Bad.{Bad}
use Rattle.vba_values.specs.declared.object.ObjRef.TheVariants.{Nothing}
use Rattle.vba_values.specs.declared.types.Compare.{Compare}
use Rattle.vba_values.specs.declared.types.OpKind.{OpKind}
use Rattle.vba_values.specs.declared.types.OpKind.TheVariants as op
use Rattle.vba_values.specs.declared.types.WholeKind.TheVariants as kind
use Rattle.vba_values.specs.declared.value.Bound.{Bound}
use Rattle.vba_values.specs.Coerce.{coerce_of}
use Rattle.vba_values.specs.Operators.{binary_of, unary_of}
use Rattle.vba_values.specs.Whole.{fits}
use Rattle.vba_values.specs.Types.{Declared}
use Rattle.vba_values.specs.Types as type
use Rattle.vba_values.specs.Val.{Val, empty, null, boolean, whole, currency, text, object}
use Rattle.arrays_udt.specs.Shapes.{is_ordered, elements}
use Rattle.vba_words.specs.declared.identifier.Identifier.{Identifier}
use Rattle.vba_expression.specs.declared.operator.UnaryOperator.{UnaryOperator}
use Rattle.vba_expression.specs.declared.operator.UnaryOperator.TheVariants as unary_operator
use Rattle.vba_expression.specs.declared.operator.BinaryOperator.{BinaryOperator}
use Rattle.vba_expression.specs.declared.operator.BinaryOperator.TheVariants as operator
use Rattle.vba_expression.specs.declared.tree.LiteralValue.{LiteralValue}
use Rattle.vba_expression.specs.declared.tree.LiteralValue.TheVariants as literal_value
use Rattle.vba_expression.specs.Tree.{Expr, literal, name, member, parenthesised, unary, binary}
use Rattle.vba_expression.specs.Spelling as expression
use Rattle.vba_tree.specs.Tree.{DeclaredType, named, fixed_text, TypeClause, Dim, upper, Dims, Constant, Parameter, DefaultValue}
use Rattle.vba_module.specs.Parts.{nowhere, first_place}
use Rattle.binder.specs.Options.{from_two}
use Rattle.binder.specs.Sources.{base_of, compare_of}
use Rattle.binder.specs.Declarations.{What, a_constant, a_member, Own, a_local_constant}
use Rattle.binder.specs.Said.{dims_of}
use Rattle.binder.specs.Scopes.{Space, Scope, plainly, Meant, of_procedure, of_module, of_library, declares, behind, qualifier_of}
use Rattle.binder.specs.Names.{scope_of}
use Rattle.binder.specs.Types.{clause_type}

-- a value and its declared type
pub record Known : Type 0 where
  pub value : Val
  pub of : Declared

-- the type of a value; Variant of Empty and Null
abbrev pub value_type : Val → Declared
value_type (boolean b) = type.boolean
value_type (whole kind.Byte z) = type.byte
value_type (whole kind.Integer z) = type.integer
value_type (whole kind.Long z) = type.long
value_type (whole kind.LongLong z) = type.long_long
value_type (currency count) = type.currency
value_type (text units) = type.text
value_type (object reference) = type.object
value_type value = type.variant

abbrev pub typed : Val → Known
typed v = record { value = v; of = value_type v }

-- ---- literals and operators

abbrev pub number_value : Number → Val
number_value n = at n.kind
  where
    at : NumberKind → Val
    at number.Integer = whole kind.Integer n.value
    at number.Long = whole kind.Long n.value
    at number.LongLong = whole kind.LongLong n.value
    at number.Currency = currency n.value

abbrev pub literal_meant : LiteralValue → Val
literal_meant (literal_value.Number n is_plain) = number_value n
literal_meant (literal_value.Text units) = text units
literal_meant literal_value.True = boolean true
literal_meant literal_value.False = boolean false
literal_meant literal_value.Nothing = object Nothing
literal_meant literal_value.Null = null
literal_meant literal_value.Empty = empty

-- the operators of the tables; `/` and `^` would give a Double
abbrev pub operator_kind : BinaryOperator → Option OpKind
operator_kind operator.Power = Some op.Power
operator_kind operator.Divide = Some op.Divide
operator_kind operator.Multiply = Some op.Mul
operator_kind operator.IntegerDivide = Some op.IntDiv
operator_kind operator.Modulo = Some op.Mod
operator_kind operator.Add = Some op.Add
operator_kind operator.Subtract = Some op.Sub
operator_kind operator.Join = Some op.Join
operator_kind operator.Equal = Some op.Eq
operator_kind operator.NotEqual = Some op.Ne
operator_kind operator.Less = Some op.Lt
operator_kind operator.Greater = Some op.Gt
operator_kind operator.LessEqual = Some op.Le
operator_kind operator.GreaterEqual = Some op.Ge
operator_kind operator.And = Some op.And
operator_kind operator.Or = Some op.Or
operator_kind operator.Xor = Some op.Xor
operator_kind operator.Eqv = Some op.Eqv
operator_kind operator.Imp = Some op.Imp
operator_kind other = None

abbrev pub unary_kind : UnaryOperator → OpKind
unary_kind unary_operator.Minus = op.Neg
unary_kind unary_operator.Not = op.Not

abbrev pub answered : Result Val Bad → Option Val
answered (Ok v) = Some v
answered (Err bad) = None

-- a result has its own type, but beside a Variant it is one
abbrev pub is_variant : Declared → Bool
is_variant type.variant = true
is_variant other = false

abbrev pub result_of : Bool → Option Val → Option Known
result_of beside_variant v = option_map (λ x. record { value = x; of = if beside_variant then type.variant else value_type x }) v

-- Is wants two objects, and Nothing is the only one of a constant
abbrev pub same_object : Val → Val → Option Val
same_object (object a) (object b) = Some (boolean true)
same_object a b = None

abbrev pub by_table : Option OpKind → Compare → Known → Known → Option Val
by_table kind compare a b = option_and_then (λ o. answered (binary_of o a.value a.of b.value b.of compare)) kind

abbrev pub operated : BinaryOperator → Compare → Known → Known → Option Val
operated operator.Is compare a b = same_object a.value b.value
operated o compare a b = by_table (operator_kind o) compare a b

abbrev pub with_one : UnaryOperator → Option Known → Option Known
with_one o k = option_and_then (λ a. result_of (is_variant a.of) (answered (unary_of (unary_kind o) a.value a.of))) k

abbrev pub with_two : BinaryOperator → Compare → Option Known → Option Known → Option Known
with_two o compare (Some a) (Some b) = result_of (is_variant a.of || is_variant b.of) (operated o compare a b)
with_two o compare a b = None

-- ---- expressions of literals, constants, parentheses and operators

abbrev pub compare_in : Scope → Compare
compare_in s = compare_of s.here.source

-- the value of an expression, by the values of the names in it
abbrev pub value_by : (Scope → Expr → Option Known) → Scope → Expr → Option Known
value_by names s (literal l) = Some (typed (literal_meant l.value))
value_by names s (name x) = names s (name x)
value_by names s (member base dot x) = names s (member base dot x)
value_by names s (parenthesised left e right) = value_by names s e
value_by names s (unary o token e) = with_one o (value_by names s e)
value_by names s (binary l o token r) = with_two o (compare_in s) (value_by names s l) (value_by names s r)
value_by names s e = None

-- a value as one of a type
abbrev pub coerced : Declared → Option Known → Option Known
coerced of k = option_and_then (λ a. option_map (λ v. record { value = v; of = of }) (answered (coerce_of a.value of))) k

abbrev pub long_in : Val → Option ℤ
long_in (whole k z) = Some z
long_in v = None

-- a value as a Long
abbrev pub long_of : Option Known → Option ℤ
long_of k = option_and_then (λ a. long_in a.value) (coerced type.long k)

-- the length of a String * n: 1 to 65526
abbrev pub as_length : Option ℤ → Option ℕ
as_length (Some (pos n)) = if nat_le 1 n && nat_le n 65526 then Some n else None
as_length other = None

abbrev pub length_by : (Scope → Expr → Option Known) → Scope → Expr → ℕ
length_by names s e = unwrap_or (as_length (long_of (value_by names s e))) 0

-- a Const: the value as one of its type, where it has one
abbrev pub constant_by : (Scope → Expr → Option Known) → Scope → Constant → Option Known
constant_by names s c = at c.name.suffix c.type_clause
  where
    at : Option TypeSuffix → Option TypeClause → Option Known
    at None None = value_by names s c.value
    at x clause = coerced (clause_type (length_by names s) s x clause) (value_by names s c.value)

-- a member of an Enum
abbrev pub stepped : ℕ → Option ℤ → Option Known
stepped steps first = option_and_then (λ z. let v = z +ℤ pos steps in if fits kind.Long v then Some (typed (whole kind.Long v)) else None) first

abbrev pub first_by : (Scope → Expr → Option Known) → Scope → Option Expr → Option ℤ
first_by names s None = Some (pos 0)
first_by names s (Some e) = long_of (value_by names s e)

abbrev pub home : Scope → Space → Scope
home s space = scope_of s.outside s.spaces space

abbrev pub entry_by : (Scope → Expr → Option Known) → Scope → What → Option Known
entry_by names s (a_constant c) = constant_by names s c
entry_by names s (a_member e steps) = stepped steps (first_by names s e)
entry_by names s what = None

abbrev pub own_by : (Scope → Expr → Option Known) → Scope → Own → Option Known
own_by names s (a_local_constant c) = constant_by names s c
own_by names s own = None

abbrev pub meant_by : (Scope → Expr → Option Known) → Scope → Identifier → Option Meant → Option Known
meant_by names s x (Some (of_procedure number l)) = own_by names s l.own
meant_by names s x (Some (of_module space number e)) = entry_by names (home s space) e.what
meant_by names s x (Some of_library) = option_map typed (s.outside.constant x.name)
meant_by names s x other = None

-- the value of a name, through so many constants
abbrev pub named_within : ℕ → Scope → Expr → Option Known
named_within zero s e = None
named_within (suc depth) s (name x) = meant_by (named_within depth) s x (declares plainly s x)
named_within (suc depth) s (member base dot x) = meant_by (named_within depth) s x (option_and_then (λ q. behind plainly s q x) (qualifier_of s base))
named_within (suc depth) s e = None

abbrev pub all_entries : List Space → ℕ
all_entries [] = 0
all_entries (s ∷ ss) = length s.entries + all_entries ss

-- the values of names: where no constant stands on itself there are no longer chains than there are declarations
abbrev pub names_in : Scope → Scope → Expr → Option Known
names_in s = named_within (suc (all_entries s.spaces + length s.locals))

-- the value of a constant expression; none where it is no constant one, raises or stops
abbrev pub known_value : Scope → Expr → Option Known
known_value s e = value_by (names_in s) s e

abbrev pub known_length : Scope → Expr → ℕ
known_length s e = length_by (names_in s) s e

-- ---- bounds

abbrev pub bound_of : Option ℤ → Option ℤ → Option Bound
bound_of low high = from_two (λ l h. record { low = l; high = h }) low high

-- the base of the module where no low bound is written
abbrev pub known_bound : Scope → Dim → Option Bound
known_bound s (upper e) = bound_of (Some (pos (base_of s.here.source))) (long_of (known_value s e))
known_bound s (Dim.range low to_word high) = bound_of (long_of (known_value s low)) (long_of (known_value s high))

abbrev pub all_bounds : List (Option Bound) → Option (List Bound)
all_bounds [] = Some []
all_bounds (b ∷ bs) = from_two (λ x xs. x ∷ xs) b (all_bounds bs)

abbrev pub known_bounds : Scope → Option Dims → List Bound
known_bounds s ds = unwrap_or (all_bounds (map (known_bound s) (dims_of ds))) []

-- ---- S20: the places of what is no constant, raises or stops

abbrev pub place_of_expression : Expr → Place
place_of_expression e = first_place nowhere (expression.spell e)

abbrev pub unless : {A : Type 0} → Option A → Place → List Place
unless None place = place ∷ []
unless (Some x) place = []

abbrev pub length_faults : Scope → Expr → List Place
length_faults s e = unless (as_length (long_of (known_value s e))) (place_of_expression e)

abbrev pub type_faults : Scope → DeclaredType → List Place
type_faults s (named t) = []
type_faults s (fixed_text string_word times e) = length_faults s e

abbrev pub clause_faults : Scope → Option TypeClause → List Place
clause_faults s None = []
clause_faults s (Some c) = type_faults s c.declared_type

abbrev pub constant_faults : Scope → Constant → List Place
constant_faults s c = clause_faults s c.type_clause ++ unless (constant_by (names_in s) s c) (place_of_expression c.value)

-- a member without a value is wrong where its turn is the first past the greatest Long
abbrev pub turn_fault : Place → ℕ → Option ℤ → List Place
turn_fault place steps None = []
turn_fault place steps (Some z) = if is_none (stepped steps (Some z)) && (steps == 0 || fits kind.Long (z +ℤ negsuc 0 +ℤ pos steps)) then place ∷ [] else []

abbrev pub member_faults : Scope → Place → Option Expr → ℕ → List Place
member_faults s place (Some e) zero = unless (first_by (names_in s) s (Some e)) (place_of_expression e)
member_faults s place e steps = turn_fault place steps (first_by (names_in s) s e)

abbrev pub default_faults : Scope → Parameter → List Place
default_faults s p = at p.default
  where
    at : Option DefaultValue → List Place
    at None = []
    at (Some d) =
        unless (coerced (clause_type (known_length s) s p.name.suffix p.type_clause) (known_value s d.value)) (place_of_expression d.value)

-- a bound that is none, and a high one below its low one
abbrev pub order_fault : Option Bound → Place → List Place
order_fault None place = []
order_fault (Some b) place = if is_ordered b then [] else place ∷ []

abbrev pub high_of : Dim → Expr
high_of (upper e) = e
high_of (Dim.range low to_word high) = high

abbrev pub dim_expressions : Dim → List Expr
dim_expressions (upper e) = e ∷ []
dim_expressions (Dim.range low to_word high) = low ∷ high ∷ []

abbrev pub dim_faults : Scope → Dim → List Place
dim_faults s d =
    flat_map (λ e. unless (long_of (known_value s e)) (place_of_expression e)) (dim_expressions d)
    ++ order_fault (known_bound s d) (place_of_expression (high_of d))

-- more than 1048576 elements
abbrev pub many_elements : List Dim → Option (List Bound) → List Place
many_elements (d ∷ ds) (Some bounds) =
    if list_all is_ordered bounds && not (nat_le (elements bounds) 1048576) then flat_map (λ e. place_of_expression e ∷ []) (first_of (dim_expressions d)) else []
  where
    first_of : List Expr → List Expr
    first_of [] = []
    first_of (e ∷ es) = e ∷ []
many_elements ds bounds = []

abbrev pub dims_faults : Scope → Option Dims → List Place
dims_faults s ds = flat_map (dim_faults s) (dims_of ds) ++ many_elements (dims_of ds) (all_bounds (map (known_bound s) (dims_of ds)))
