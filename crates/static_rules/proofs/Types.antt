-- Operators know as little of an array as of a Variant.
use Rattle.std.proofs.Common.{◌≡◌, Bool, true, false, Option, Some, None, refl, sym, ap, ◌∙◌}
use Rattle.std.specs.Prelude.{not, is_some, option_map}
use Rattle.vba_values.specs.declared.types.OpKind.{OpKind}
use Rattle.vba_values.specs.declared.types.OpKind.TheVariants as op
use Rattle.vba_values.specs.declared.types.VType.{VType}
use Rattle.vba_values.specs.StaticTypes.{static_of}
use Rattle.vba_values.specs.Types.{Declared, declared}
use Rattle.vba_values.specs.Types as type
use Rattle.static_rules.specs.Broken.{is_double}
use Rattle.static_rules.specs.Scan.{operator_type}

array_left : (o : OpKind) (element right : Declared) → static_of o type.variant right ≡ static_of o (type.array_of element) right
array_left op.Add element right = refl
array_left op.Sub element right = refl
array_left op.Mul element right = refl
array_left op.IntDiv element right = refl
array_left op.Mod element right = refl
array_left op.Divide element right = refl
array_left op.Power element right = refl
array_left op.Join element right = refl
array_left op.Eq element right = refl
array_left op.Ne element right = refl
array_left op.Lt element right = refl
array_left op.Le element right = refl
array_left op.Gt element right = refl
array_left op.Ge element right = refl
array_left op.And element right = refl
array_left op.Or element right = refl
array_left op.Xor element right = refl
array_left op.Eqv element right = refl
array_left op.Imp element right = refl
array_left op.Neg element right = refl
array_left op.Not element right = refl

array_right : (o : OpKind) (left element : Declared) → static_of o left type.variant ≡ static_of o left (type.array_of element)
array_right op.Add left element = refl
array_right op.Sub left element = refl
array_right op.Mul left element = refl
array_right op.IntDiv left element = refl
array_right op.Mod left element = refl
array_right op.Divide left element = refl
array_right op.Power left element = refl
array_right op.Join left element = refl
array_right op.Eq left element = refl
array_right op.Ne left element = refl
array_right op.Lt left element = refl
array_right op.Le left element = refl
array_right op.Gt left element = refl
array_right op.Ge left element = refl
array_right op.And left element = refl
array_right op.Or left element = refl
array_right op.Xor left element = refl
array_right op.Eqv left element = refl
array_right op.Imp left element = refl
array_right op.Neg left element = refl
array_right op.Not left element = refl

same_left : (o : OpKind) (left right : Declared) → static_of o (operator_type left) right ≡ static_of o left right
same_left o (type.array_of element) right = array_left o element right
same_left o left right = refl

same_right : (o : OpKind) (left right : Declared) → static_of o left (operator_type right) ≡ static_of o left right
same_right o left (type.array_of element) = array_right o left element
same_right o left right = refl

not_twice : (b : Bool) → b ≡ not (not b)
not_twice true = refl
not_twice false = refl

mapped : (found : Option VType) → is_some found ≡ is_some (option_map declared found)
mapped None = refl
mapped (Some of) = refl

-- what the types give
pub asked : (b : Bool) (o : OpKind) (found : Option VType) (x y : VType) (left right : Declared) → is_some found ≡ not b → option_map declared found ≡ static_of o (declared x) (declared y)
    → declared x ≡ operator_type left → declared y ≡ operator_type right → b ≡ is_double o left right
asked b o found x y left right gives is left_is right_is =
    let same : static_of o (declared x) (declared y) ≡ static_of o left right =
    ap (λ t. static_of o t (declared y)) left_is ∙ ap (λ t. static_of o (operator_type left) t) right_is ∙ same_left o left (operator_type right) ∙ same_right o left right in
    not_twice b ∙ ap not (sym gives ∙ mapped found ∙ ap is_some (is ∙ same))
