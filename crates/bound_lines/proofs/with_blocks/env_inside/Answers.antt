use Rattle.std.proofs.Common.{List, subst}
use Rattle.statement_nodes.specs.statement_numbers.specs.declared.opened.Opened.{Opened}
use Rattle.bound_lines.specs.Round.{Inside}
use Rattle.bound_lines.proofs.Rounds.{inside_goes_on}
use Rattle.bound_lines.proofs.with_blocks.env_inside.Goals as goal

pub entering-preserved : goal.entering-preserved
entering-preserved c =
    let P : List Opened → Type 0 = λ (os : List Opened). Inside c.args.around c.args.body.now c.args.blocks.now c.entering.env os in
    inside_goes_on c.args.around c.args.body.now c.args.blocks.now c.entering.env c.in_ok-env.env c.in-Some.opened.now c.in-Some.inner.now
    c.in_ok-env.ensures.stands c.in_ok-env.ensures.view (subst P c.in-Some.ensures.cases.0 c.entering.invariant)
