use Rattle.std.proofs.Common.{◌<◌, below_more, arith}
use Rattle.std.proofs.lemmas.Bool.{iff_false}
use Rattle.pcode.specs.View.{code_view}
use Rattle.code_check.specs.Questions.{PartIsSound}
use Rattle.code_check.proofs.Tests.{refused, granted}
use Rattle.code_check.proofs.Entries.{statement_within}
use Rattle.code_check.proofs.numbers.numbers_are_sound.Goals as goal

pub returns-then-not-part_is_sound : goal.returns-then-not-part_is_sound
returns-then-not-part_is_sound c = refused (λ all. iff_false c.part_is_sound.ensures c.if-not-part_is_sound.true (all c.loop-procedure.procedure))

pub loop-procedure-preserved : goal.loop-procedure-preserved
loop-procedure-preserved c = below_more (PartIsSound (code_view c.args.code.now)) c.loop-procedure.procedure c.loop-procedure.invariant (c.part_is_sound.ensures.0 c.if-not-part_is_sound.false)

pub returns : goal.returns
returns c =
    let code = code_view c.args.code.now in
    granted (λ p pc i of at. (let there : p < c.loop-procedure.procedure = omega (arith, statement_within code p 0 of.0, c.procedure_count-count.ensures) in c.loop-procedure.invariant p there pc i of at))
