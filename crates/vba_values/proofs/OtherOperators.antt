-- The operators + - * by what they aren't.
use Rattle.std.specs.Prelude.{ℤ, ◌≡◌, refl, ◌≢◌, ◌*ℤ◌}
use Rattle.vba_values.specs.declared.types.OpKind.{OpKind}
use Rattle.vba_values.specs.declared.types.OpKind.TheVariants as op
use Rattle.vba_values.specs.Arithmetic.{exact}

-- where an operator is neither + nor -, its exact result is the product
pub other_multiplies : (o : OpKind) → (left right : ℤ) → o ≢ op.Add → o ≢ op.Sub → exact o left right ≡ left *ℤ right
other_multiplies op.Add left right not_add not_sub = absurd (not_add refl)
other_multiplies op.Sub left right not_add not_sub = absurd (not_sub refl)
other_multiplies other left right not_add not_sub = refl
