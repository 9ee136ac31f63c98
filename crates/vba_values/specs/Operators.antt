-- The operators, composed: which table an operator's operands go by.
use Rattle.std.specs.Prelude.{◌≡◌, ℕ, Bool, true, false, ◌||◌, ◌&&◌, List, [], Result, Ok, Err, if◌then◌else◌}
use Rattle.vba_base.specs.Answer.{◌>>=◌}
use Rattle.vba_base.specs.declared.fault.OrMemory.{OrMemory}
use Rattle.vba_base.specs.declared.fault.OrMemory.TheVariants.{Fault, NoMemory}
use Rattle.vba_values.specs.declared.fault.Bad.{Bad}
use Rattle.vba_values.specs.declared.types.OpKind.{OpKind}
use Rattle.vba_values.specs.declared.types.OpKind.TheVariants as op
use Rattle.vba_values.specs.declared.types.Compare.{Compare}
use Rattle.vba_values.specs.Arithmetic.{arithmetic, division, double_result, negated, joined}
use Rattle.vba_values.specs.Coerce.{is_text, text_of}
use Rattle.vba_values.specs.Comparison.{are_texts, comparison, is_variant}
use Rattle.vba_values.specs.Errors.{type_mismatch}
use Rattle.vba_values.specs.Logic.{logical, logical_not}
use Rattle.vba_values.specs.Operands.{is_no_operand, is_null}
use Rattle.vba_values.specs.Types.{Declared}
use Rattle.vba_values.specs.Val.{Val, null, text}

-- the text of an operand of &: Null counts as ""
abbrev pub join_text : Val → Result (List ℕ) Bad
join_text null = Ok []
join_text value = text_of value

-- a text, and the text of an operand behind it
abbrev pub join_behind : List ℕ → Val → Result Val Bad
join_behind left right = join_text right >>= λ r. joined left r

-- &: both as String, joined; Null and Null give Null
unfoldable pub join : Val → Val → Result Val Bad
join left right =
    if is_no_operand left || is_no_operand right then Err type_mismatch
    else if is_null left && is_null right then Ok null
    else join_text left >>= λ l. join_behind l right

-- a text became what two texts joined give; where that is none it stayed
abbrev pub AppendsUnits : {X : Type 0} → Result X (OrMemory Bad) → List ℕ → List ℕ → List ℕ → Type 0
AppendsUnits (Ok x) old units new = joined old units ≡ Ok (text new)
AppendsUnits (Err (Fault bad)) old units new = (joined old units ≡ Err bad) × (new ≡ old)
AppendsUnits (Err NoMemory) old units new = Unit {0}

-- a text became what & gives of it and an operand; where that is no text it stayed
abbrev pub Appends : {X : Type 0} → Result X (OrMemory Bad) → List ℕ → Val → List ℕ → Type 0
Appends (Ok x) old right new = join (text old) right ≡ Ok (text new)
Appends (Err (Fault bad)) old right new = (join (text old) right ≡ Err bad) × (new ≡ old)
Appends (Err NoMemory) old right new = Unit {0}

-- the operators of two operands
abbrev pub has_two_operands : OpKind → Bool
has_two_operands op.Neg = false
has_two_operands op.Not = false
has_two_operands o = true

-- whether an operator may want memory: & always, the others only with a text or a declared String
abbrev pub may_take_memory : OpKind → Val → Declared → Val → Declared → Bool
may_take_memory op.Join left ld right rd = true
may_take_memory op.Add left ld right rd = is_text left || is_text right
may_take_memory op.Sub left ld right rd = is_text left || is_text right
may_take_memory op.Mul left ld right rd = is_text left || is_text right
may_take_memory op.Eq left ld right rd = is_text left || is_text right || are_texts ld rd
may_take_memory op.Ne left ld right rd = is_text left || is_text right || are_texts ld rd
may_take_memory op.Lt left ld right rd = is_text left || is_text right || are_texts ld rd
may_take_memory op.Le left ld right rd = is_text left || is_text right || are_texts ld rd
may_take_memory op.Gt left ld right rd = is_text left || is_text right || are_texts ld rd
may_take_memory op.Ge left ld right rd = is_text left || is_text right || are_texts ld rd
may_take_memory o left ld right rd = false

-- an operator of two operands, by their values and declared types. / and ^ give a Double
abbrev pub binary_of : OpKind → Val → Declared → Val → Declared → Compare → Result Val Bad
binary_of op.Add left ld right rd compare = arithmetic op.Add (is_variant ld || is_variant rd) left right
binary_of op.Sub left ld right rd compare = arithmetic op.Sub (is_variant ld || is_variant rd) left right
binary_of op.Mul left ld right rd compare = arithmetic op.Mul (is_variant ld || is_variant rd) left right
binary_of op.IntDiv left ld right rd compare = division op.IntDiv left right
binary_of op.Mod left ld right rd compare = division op.Mod left right
binary_of op.Divide left ld right rd compare = Err double_result
binary_of op.Power left ld right rd compare = Err double_result
binary_of op.Join left ld right rd compare = join left right
binary_of op.And left ld right rd compare = logical op.And left right
binary_of op.Or left ld right rd compare = logical op.Or left right
binary_of op.Xor left ld right rd compare = logical op.Xor left right
binary_of op.Eqv left ld right rd compare = logical op.Eqv left right
binary_of op.Imp left ld right rd compare = logical op.Imp left right
binary_of o left ld right rd compare = comparison o compare left ld right rd

-- an operator of one operand
abbrev pub unary_of : OpKind → Val → Declared → Result Val Bad
unary_of op.Not value declared = logical_not value
unary_of o value declared = negated (is_variant declared) value
