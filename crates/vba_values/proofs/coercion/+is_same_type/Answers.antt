use Rattle.vba_values.proofs.SameTypes.{fixed_text_differs, class_differs, udt_differs}
use Rattle.vba_values.proofs.coercion.+is_same_type.Goals as goal

pub returns-in_default-8 : goal.returns-in_default-8
returns-in_default-8 t c = rw c.in_default.is-0 (fixed_text_differs _ _ c.in_default.not-FixedText-1)

pub returns-in_default-10 : goal.returns-in_default-10
returns-in_default-10 t c = rw c.in_default.is-0 (class_differs _ _ c.in_default.not-Class-1)

pub returns-in_default-15 : goal.returns-in_default-15
returns-in_default-15 t c = rw c.in_default.is-0 (udt_differs _ _ c.in_default.not-Udt-1)
