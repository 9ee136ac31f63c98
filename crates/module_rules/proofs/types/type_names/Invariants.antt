use Rattle.std.proofs.Common.{◌≡◌, ◌++◌, drop}
use Rattle.module_parts.specs.View.{parts_view}
use Rattle.vba_module.specs.Headers.{type_names}
use Rattle.module_rules.proofs.types.type_names.Given as goal

abbrev pub invariant-loop-part : goal.invariant-loop-part
invariant-loop-part l = l.names.items ++ type_names (parts_view (drop l.part-index l.parts)) ≡ type_names (parts_view l.parts)
