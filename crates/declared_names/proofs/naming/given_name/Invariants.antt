use Rattle.std.proofs.Common.{◌≡◌, drop}
use Rattle.module_parts.specs.View.{parts_view}
use Rattle.binder.specs.Sources.{given_name}
use Rattle.declared_names.proofs.naming.given_name.Given as goal

abbrev pub invariant-loop-part : goal.invariant-loop-part
invariant-loop-part l = given_name (parts_view (drop l.part-index l.parts)) ≡ given_name (parts_view l.parts)
