-- Worked rows.
use Rattle.std.specs.Prelude.{◌≡◌, pos, [], ◌∷◌, refl, codes, true, false, Some, None}
use Rattle.vba_values.specs.Val.{whole, null}
use Rattle.vba_values.specs.declared.types.WholeKind.TheVariants.{Integer, Long}
use Rattle.cond_compile.specs.declared.operator.Operator.TheVariants as op
use Rattle.cond_compile.specs.Expressions as tree
use Rattle.cond_compile.specs.Evaluation.{truth, value_of}
use Rattle.cond_compile.specs.Pieces.{literal, name, operator, not_, left, right, comma, then_, gets}
use Rattle.cond_compile.specs.Reader.{expression_at}

-- 1 + 2 * a Then
pub levels : expression_at (literal None ∷ operator op.Plus ∷ literal None ∷ operator op.Times ∷ name (codes "a") ∷ then_ ∷ [])
    ≡ Some (tree.binary op.Plus (tree.leaf (tree.literal None)) (tree.binary op.Times (tree.leaf (tree.literal None)) (tree.leaf (tree.name (codes "a")))), then_ ∷ [])
levels = refl

-- a = Not b, and 2 ^ -1, have no tree
pub strict_levels : expression_at (name (codes "a") ∷ operator op.Equal ∷ not_ ∷ name (codes "b") ∷ []) ≡ None
strict_levels = refl

pub strict_power : expression_at (literal None ∷ operator op.Power ∷ operator op.Minus ∷ literal None ∷ []) ≡ None
strict_power = refl

-- f(, a := 1)
pub arguments : expression_at (name (codes "f") ∷ left ∷ comma ∷ name (codes "a") ∷ gets ∷ literal None ∷ right ∷ [])
    ≡ Some (tree.index (tree.leaf (tree.name (codes "f"))) (tree.list tree.missing (tree.named (codes "a") (tree.leaf (tree.literal None)))), [])
arguments = refl

-- the widening beside a Variant, and none otherwise
pub widened : value_of [] (tree.binary op.Plus (tree.leaf (tree.literal (Some (whole Integer (pos 32767))))) (tree.leaf (tree.literal (Some (whole Integer (pos 1)))))) ≡ None
widened = refl

pub variant : value_of [] (tree.binary op.Plus (tree.binary op.Plus (tree.leaf (tree.name (codes "a"))) (tree.leaf (tree.literal (Some (whole Integer (pos 32767)))))) (tree.leaf (tree.literal (Some (whole Integer (pos 1))))))
    ≡ Some (record { value = whole Long (pos 32768); variant = true })
variant = refl

-- Null is not true
pub null_condition : truth (value_of [] (tree.leaf (tree.literal (Some null)))) ≡ Some false
null_condition = refl
