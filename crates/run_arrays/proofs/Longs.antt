-- Let-coercion to Long gives a Long.
use Rattle.std.proofs.Common.{◌≡◌, true}
use Rattle.std.specs.Prelude.{Ok}
use Rattle.vba_values.specs.Val.{Val}
use Rattle.vba_values.specs.Types as type
use Rattle.vba_values.specs.Coerce.{coerce_of}
use Rattle.vba_values.specs.Held.{can_hold}
use Rattle.vba_values.proofs.Coerced.{coerced_is_held}

pub long_given : (v w : Val) → coerce_of v type.long ≡ Ok w → can_hold type.long w ≡ true
long_given v w e = coerced_is_held v w type.long e
