use Rattle.std.proofs.Common.{◌≡◌, drop}
use Rattle.module_parts.specs.View.{parts_view}
use Rattle.binder.specs.Sources.{has_choice, is_compare_text}
use Rattle.declared_names.proofs.sources.has_compare_text.Given as goal

abbrev pub invariant-loop-part : goal.invariant-loop-part
invariant-loop-part l = has_choice is_compare_text (parts_view (drop l.part-index l.parts)) ≡ has_choice is_compare_text (parts_view l.parts)
