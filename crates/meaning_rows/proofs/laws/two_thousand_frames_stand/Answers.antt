use Rattle.meaning_rows.proofs.DeepRows.{deep_enough, too_deep}
use Rattle.meaning_rows.proofs.laws.two_thousand_frames_stand.Goals as goal

pub returns-clause-deep : goal.returns-clause-deep
returns-clause-deep c = deep_enough

pub returns-clause-full : goal.returns-clause-full
returns-clause-full c = too_deep
