-- Parts of a body by their numbers.
use Rattle.std.proofs.Common.{◌≡◌, ℕ, zero, suc, List, [], ◌∷◌, refl}
use Rattle.std.specs.Prelude.{Some, None, slice_get}
use Rattle.bound_calls.specs.bound_declarations.specs.constant_values.specs.declared_names.specs.module_parts.specs.View.{part_view}
use Rattle.bound_calls.specs.bound_declarations.specs.constant_values.specs.declared_names.specs.module_parts.specs.declared.part.Part.{Part}
use Rattle.statement_numbers.specs.View.{part_at, no_part}

pub part_there : (body : List Part) (at : ℕ) (part : Part) → slice_get body at ≡ Some part → part_at body at ≡ part_view part
part_there [] at part is = cc
part_there (p ∷ body) zero part is = cc
part_there (p ∷ body) (suc at) part is = part_there body at part is

-- past the end of a body stands no part
pub no_part_there : (body : List Part) (at : ℕ) → slice_get body at ≡ None → part_at body at ≡ no_part
no_part_there [] zero is = refl
no_part_there [] (suc at) is = refl
no_part_there (p ∷ body) zero is = cc
no_part_there (p ∷ body) (suc at) is = no_part_there body at is
