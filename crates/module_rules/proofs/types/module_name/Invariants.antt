use Rattle.std.proofs.Common.{◌≡◌, drop}
use Rattle.module_parts.specs.View.{parts_view}
use Rattle.vba_module.specs.Headers.{module_name}
use Rattle.module_rules.proofs.types.module_name.Given as goal

abbrev pub invariant-loop-part : goal.invariant-loop-part
invariant-loop-part l = module_name (parts_view (drop l.part-index l.parts)) ≡ module_name (parts_view l.parts)
