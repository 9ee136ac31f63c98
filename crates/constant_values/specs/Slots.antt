-- When values of constant expressions are the same.
use Rattle.std.specs.Prelude.{◌==◌, Bool, true, false, ◌&&◌, ℤ, List, [], ◌∷◌, Option, Some, None, bytes_eq}
use Rattle.std.specs.Ordering.{int_eq}
use Rattle.std.specs.Bool.{beq}
use Rattle.vba_values.specs.declared.object.ObjRef.{ObjRef}
use Rattle.vba_values.specs.declared.object.ObjRef.TheVariants.{Nothing}
use Rattle.vba_values.specs.declared.types.WholeKind.TheVariants as kind
use Rattle.vba_values.specs.Coerce.{is_same_type}
use Rattle.vba_values.specs.Types.{Declared}
use Rattle.vba_values.specs.Types as type
use Rattle.vba_values.specs.Val.{Val, empty, null, boolean, whole, currency, text, object}
use Rattle.declared_names.specs.binder.specs.Constants.{Known}

-- no value of a constant expression is an array
abbrev pub is_same_of : Declared → Declared → Bool
is_same_of (type.array_of one) other = false
is_same_of one other = is_same_type one other

abbrev pub is_nothing : ObjRef → Bool
is_nothing Nothing = true
is_nothing other = false

abbrev pub is_same_value : Val → Val → Bool
is_same_value empty empty = true
is_same_value null null = true
is_same_value (boolean a) (boolean b) = beq a b
is_same_value (whole kind.Byte a) (whole kind.Byte b) = int_eq a b
is_same_value (whole kind.Integer a) (whole kind.Integer b) = int_eq a b
is_same_value (whole kind.Long a) (whole kind.Long b) = int_eq a b
is_same_value (whole kind.LongLong a) (whole kind.LongLong b) = int_eq a b
is_same_value (currency a) (currency b) = int_eq a b
is_same_value (text a) (text b) = bytes_eq a b
is_same_value (object a) (object b) = is_nothing a && is_nothing b
is_same_value a b = false

-- both missing, or the same with the same type
abbrev pub is_same_slot : Option Known → Option Known → Bool
is_same_slot None None = true
is_same_slot (Some a) (Some b) = is_same_value a.value b.value && is_same_of a.of b.of
is_same_slot a b = false

abbrev pub are_same_slots : List (Option Known) → List (Option Known) → Bool
are_same_slots [] [] = true
are_same_slots (a ∷ xs) (b ∷ ys) = is_same_slot a b && are_same_slots xs ys
are_same_slots xs ys = false

abbrev pub are_same_tables : List (List (Option Known)) → List (List (Option Known)) → Bool
are_same_tables [] [] = true
are_same_tables (a ∷ xs) (b ∷ ys) = are_same_slots a b && are_same_tables xs ys
are_same_tables xs ys = false
