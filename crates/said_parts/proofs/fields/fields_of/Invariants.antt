use Rattle.std.proofs.Common.{◌≡◌, ◌++◌, drop, map}
use Rattle.binder.specs.Declarations.{fields_in}
use Rattle.module_parts.specs.View.{parts_view}
use Rattle.said_parts.specs.View.{field_view}
use Rattle.said_parts.proofs.fields.fields_of.Given as goal

abbrev pub invariant-loop-part : goal.invariant-loop-part
invariant-loop-part l =
    map (λ f. field_view f.now) l.fields.items ++ fields_in (parts_view (drop l.part-index l.parts)) ≡ fields_in (parts_view l.parts)
