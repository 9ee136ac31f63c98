use Rattle.module_rules.proofs.Listing.{listed_start}
use Rattle.vba_module.specs.Headers.{is_named}
use Rattle.module_rules.proofs.parameters.note_listed.Goals as goal

pub parameters-init : goal.parameters-init
parameters-init c =
    listed_start (is_named c.args.types.now.module_name c.args.types.now.names.items) c.args.takes_value c.args.least.now c.note_parameter.new.least c.args.list.now c.is_some-is_behind_optional.result c.as_slice-left.result.now
    c.as_slice-left.ensures.value c.is_some-is_behind_optional.ensures c.note_parameter.ensures
