use Rattle.std.proofs.Common.{refl}
use Rattle.error_frames.proofs.Calls.{default_passes_on}
use Rattle.error_frames.proofs.laws.entered_frames_pass_on.Goals as goal

pub returns : goal.returns
returns c = λ calls next keep. default_passes_on _ calls next refl keep
