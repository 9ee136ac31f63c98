use Rattle.bound_lines.proofs.Rounds.{stands_there, around_stays}
use Rattle.bound_lines.proofs.with_blocks.around_at.Goals as goal

pub returns : goal.returns
returns c =
    let inside = c.in_ok-env.ensures in
    record {
      stands = inside.stands;
      placed = stands_there c.args.around c.args.standing.body.now c.args.standing.around.now c.in_ok-env.env inside;
      view = around_stays c.args.around c.args.standing.body.now c.args.standing.around.now c.in_ok-env.env inside;
    }
