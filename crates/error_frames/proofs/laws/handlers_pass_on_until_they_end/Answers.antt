use Rattle.std.proofs.Common.{refl}
use Rattle.error_frames.proofs.Calls.{handler_passes_on}
use Rattle.error_frames.proofs.laws.handlers_pass_on_until_they_end.Goals as goal

pub returns : goal.returns
returns c = λ failed next label calls taken keep after. handler_passes_on _ label calls after refl keep
