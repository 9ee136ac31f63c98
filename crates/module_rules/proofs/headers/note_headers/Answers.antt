use Rattle.vba_module.specs.Headers.{header_faults, is_named}
use Rattle.module_rules.proofs.Walking.{more_faults}
use Rattle.module_rules.proofs.headers.note_headers.Goals as goal

pub loop-part-preserved : goal.loop-part-preserved
loop-part-preserved c =
    more_faults (header_faults (is_named c.args.types.now.module_name c.args.types.now.names.items)) c.loop-part.least c.note_part.new.least _ c.part-item.result c.args.parts.now c.loop-part.part-index
    c.loop-part-test.true c.part-item.is c.note_part.ensures c.loop-part.invariant
