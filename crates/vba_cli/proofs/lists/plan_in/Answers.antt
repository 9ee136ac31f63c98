use Rattle.std.proofs.Common.{length, arith, ap}
use Rattle.vba_base.proofs.Sources.{length-decoded}
use Rattle.vba_cli.proofs.lists.plan_in.Goals as goal

-- a text has no more units than its file has bytes
pub plan_of-requires : goal.plan_of-requires
plan_of-requires c =
    omega (arith, c.requires, ap length c.in_ok-text.ensures.text, length-decoded c.args.bytes.now (λ i. omega (arith, c.type_inv.bytes i)))
