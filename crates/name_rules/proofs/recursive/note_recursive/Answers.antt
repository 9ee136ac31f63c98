use Rattle.std.proofs.Common.{map}
use Rattle.name_rules.proofs.Gathered.{recursive_more}
use Rattle.name_rules.proofs.recursive.note_recursive.Goals as goal

pub loop-entry-preserved : goal.loop-entry-preserved
loop-entry-preserved c =
    recursive_more (map (λ v. v.items) c.args.types.now) c.loop-entry.least c.note_type.new.least c.loop-entry.number c.in_ok-number.number _
    c.args.entries.now c.loop-entry.entry-index c.entry-item.result c.loop-entry-test.true c.entry-item.is c.in_ok-number.ensures c.loop-entry.invariant
