use Rattle.currency.proofs.HalfEvenLaws.{IsHalfEven-half_even, half_even-unique}
use Rattle.currency.proofs.laws.rounding_gives_the_nearest.Goals as goal

pub returns : goal.returns
returns c = record { nearest = IsHalfEven-half_even; only = half_even-unique }
