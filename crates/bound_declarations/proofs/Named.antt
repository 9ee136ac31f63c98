-- The name of nothing.
use Rattle.std.proofs.Common.{◌≡◌, [], refl}
use Rattle.vba_base.specs.Fold.{folded}

pub no_fold : folded [] ≡ []
unfolding folded
no_fold = refl
