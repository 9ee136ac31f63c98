use Rattle.std.proofs.Common.{◌≡◌, None, Some, ◌∙◌}
use Rattle.pcode.specs.View.{code_view}
use Rattle.pcode.specs.View.{instr_view, tables_of}
use Rattle.code_check.proofs.Tests.{granted}
use Rattle.code_check.proofs.Instrs.{sound_here}
use Rattle.code_check.proofs.numbers.is_sound_at.Goals as goal

pub returns-in-Some : goal.returns-in-Some
returns-in-Some c =
    sound_here (code_view c.args.code.now) c.args.procedure c.args.address (instr_view (tables_of c.args.code.now) c.in-Some.instr) c.is_sound.result c.in-Some.ensures.instr c.is_sound.ensures

pub returns-in-None : goal.returns-in-None
returns-in-None c = granted (λ i e. (let none : None ≡ Some i = c.in-None.ensures.instr ∙ e in cc))
