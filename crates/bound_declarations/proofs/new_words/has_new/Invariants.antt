use Rattle.std.proofs.Common.{◌≡◌, map, drop}
use Rattle.constant_values.specs.declared_names.specs.binder.specs.Classes.{has_new}
use Rattle.constant_values.specs.declared_names.specs.View.{space_view}
use Rattle.bound_declarations.proofs.new_words.has_new.Given as goal

abbrev pub invariant-loop-space : goal.invariant-loop-space
invariant-loop-space l = has_new (map space_view (drop l.space-index l.spaces)) ≡ has_new (map space_view l.spaces)
