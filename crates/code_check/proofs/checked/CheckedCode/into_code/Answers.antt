use Rattle.std.proofs.Common.{subst}
use Rattle.pcode.specs.declared.code.Code.{Code}
use Rattle.pcode.specs.View.{code_view}
use Rattle.pcode.specs.WellFormed.{WellFormed}
use Rattle.code_check.proofs.checked.CheckedCode.into_code.Goals as goal

pub returns-clause-well_formed : goal.returns-clause-well_formed
returns-clause-well_formed c = subst (λ (code : Code). WellFormed (code_view code)) c.self.view_is c.self.invariant
