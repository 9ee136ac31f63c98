use Rattle.vba_module.proofs.Bracketed.{unbroken}
use Rattle.vba_module.proofs.Bracketing.{bracketing}
use Rattle.vba_module.proofs.OneBracketing.{one_bracketing}
use Rattle.vba_module.proofs.laws.modules_are_bracketed.Goals as goal

pub returns-clause-unbroken : goal.returns-clause-unbroken
returns-clause-unbroken c = unbroken

pub returns-clause-bracketed : goal.returns-clause-bracketed
returns-clause-bracketed c = bracketing

pub returns-clause-one : goal.returns-clause-one
returns-clause-one c = one_bracketing
