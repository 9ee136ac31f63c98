use Rattle.std.proofs.Common.{arith}
use Rattle.std.proofs.lemmas.Grind.{common_steps}
use Rattle.library_calls.proofs.PartsLaws.{begins_too_long, part_joined}
use Rattle.library_calls.proofs.parts.joined_parts.Goals as goal

pub loop-part-preserved : goal.loop-part-preserved
loop-part-preserved c = (
  rw c.in_ok-extend_by_both.ensures.0
      (part_joined _ c.loop-part.text c.in-Some.part.now c.args.new.now c.args.find.now c.loop-part.rest.now c.in-Some.behind.now c.in-Some.ensures.parts c.loop-part.invariant.0),
  c.in_ok-extend_by_both.ensures.1,
)

pub returns-in_err-extend_by_both : goal.returns-in_err-extend_by_both
returns-in_err-extend_by_both c =
    let joined = part_joined _ c.loop-part.text c.in-Some.part.now c.args.new.now c.args.find.now c.loop-part.rest.now c.in-Some.behind.now c.in-Some.ensures.parts c.loop-part.invariant.0 in
    grind (arith, common_steps, begins_too_long, joined)
