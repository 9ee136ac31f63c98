use Rattle.std.proofs.Common.{◌∙◌}
use Rattle.list_file.proofs.Reading.{has_module_views}
use Rattle.list_file.proofs.read.has_module.Goals as goal

pub returns : goal.returns
returns c = c.is_any_standard.ensures ∙ has_module_views c.args.modules.now
