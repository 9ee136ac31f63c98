use Rattle.std.proofs.Common.{subst}
use Rattle.pcode.specs.declared.code.Code.{Code}
use Rattle.pcode.specs.View.{code_view}
use Rattle.pcode.specs.WellFormed.{WellFormed}
use Rattle.code_check.proofs.checked.CheckedCode.code.Goals as goal

pub returns-clause-well_formed : goal.returns-clause-well_formed
returns-clause-well_formed c = subst (λ (code : Code). WellFormed (code_view code)) c.self.view_is c.self.invariant

pub returns-clause-ends : goal.returns-clause-ends
returns-clause-ends c = c.well_formed_codes_end.ensures (code_view c.args.self.now) (subst (λ (code : Code). WellFormed (code_view code)) c.self.view_is c.self.invariant)
