use Rattle.vba_values.proofs.Coerced.{coerced_is_held, held_is_kept, coerced_parts}
use Rattle.vba_values.proofs.laws.coercion_gives_its_type.Goals as goal

pub returns : goal.returns
returns c = record { gives = coerced_is_held; keeps = held_is_kept; parts = coerced_parts }
