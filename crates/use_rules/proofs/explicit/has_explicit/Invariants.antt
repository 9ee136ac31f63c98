use Rattle.std.proofs.Common.{◌≡◌, drop}
use Rattle.declared_names.specs.binder.specs.Sources as sources
use Rattle.declared_names.specs.module_parts.specs.View.{parts_view}
use Rattle.use_rules.proofs.explicit.has_explicit.Given as goal

abbrev pub invariant-loop-part : goal.invariant-loop-part
invariant-loop-part l =
    sources.has_choice sources.is_explicit (parts_view (drop l.part-index l.parts)) ≡ sources.has_choice sources.is_explicit (parts_view l.parts)
