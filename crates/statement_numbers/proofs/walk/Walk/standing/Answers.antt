use Rattle.statement_numbers.proofs.Stacks.{walk_next}
use Rattle.statement_numbers.proofs.walk.Walk.standing.Goals as goal

pub returns-then-self : goal.returns-then-self
returns-then-self c =
    walk_next c.args.self.now.body.now c.args.self.now.at c.args.self.now.number c.args.self.now.opened.items c.as_slice.result.now c.if-self.true c.as_slice.ensures.value
