use Rattle.std.proofs.Common.{◌<◌, arith}
use Rattle.currency.proofs.PrintedLaws.{decimals_more}
use Rattle.currency.proofs.printing.push_decimals.Goals as goal

pub loop-places-preserved : goal.loop-places-preserved
loop-places-preserved c =
    let some : 0 < c.loop-places.rest = omega arith in
    let more : 0 < c.loop-places.places = omega arith in
    decimals_more c.loop-places.text c.loop-places.places c.loop-places.rest c.pow-unit.result c.push.new.self _ some more c.pow-unit.ensures c.in_ok-push.ensures.ok c.loop-places.invariant.1
