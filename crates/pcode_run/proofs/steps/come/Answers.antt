use Rattle.pcode_run.proofs.steps.come.Goals as goal

pub returns-in-Decide : goal.returns-in-Decide
returns-in-Decide c = rw c.in-Decide.is c.decide.ensures
