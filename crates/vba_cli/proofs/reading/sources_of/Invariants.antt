use Rattle.std.proofs.Common.{◌≡◌, map, take}
use Rattle.constant_values.specs.declared_names.specs.View.{source_view}
use Rattle.vba_cli.specs.Programs.{module_view}
use Rattle.vba_cli.proofs.reading.sources_of.Given as goal

abbrev pub invariant-loop-module : goal.invariant-loop-module
invariant-loop-module l = map source_view l.sources.items ≡ map module_view (take l.module-index l.modules)
