use Rattle.std.proofs.Common.{◌≡◌, drop}
use Rattle.std.specs.Prelude.{flat_map}
use Rattle.module_parts.specs.View.{parts_view}
use Rattle.module_rules.specs.Found.{noted}
use Rattle.vba_module.specs.Headers.{header_faults, is_named}
use Rattle.module_rules.proofs.headers.note_headers.Given as goal

abbrev pub invariant-loop-part : goal.invariant-loop-part
invariant-loop-part l =
    noted 14 l.least (flat_map (header_faults (is_named l.types.module_name l.types.names.items)) (parts_view (drop l.part-index l.parts)))
    ≡ noted 14 l.fn.least (flat_map (header_faults (is_named l.types.module_name l.types.names.items)) (parts_view l.parts))
