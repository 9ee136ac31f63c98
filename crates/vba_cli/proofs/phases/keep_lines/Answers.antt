use Rattle.cond_compile.proofs.Kept.{kept_lie_in}
use Rattle.vba_cli.proofs.phases.keep_lines.Goals as goal

-- the tokens of the kept lines lie in the source, as those of all lines do
pub invariant_of-result : goal.invariant_of-result
invariant_of-result c =
    record { inside = kept_lie_in c.args.text c.in_ok-lines.lines.items c.in_ok-kept.kept.items c.in_ok-kept.ensures c.in_ok-lines.ensures.inside }
