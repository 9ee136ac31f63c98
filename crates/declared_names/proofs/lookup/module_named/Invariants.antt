use Rattle.std.proofs.Common.{◌≡◌, map, drop}
use Rattle.binder.specs.Scopes.{module_named}
use Rattle.declared_names.specs.View.{space_view}
use Rattle.declared_names.proofs.lookup.module_named.Given as goal

abbrev pub invariant-loop-space : goal.invariant-loop-space
invariant-loop-space l = module_named (map space_view (drop l.space-index l.spaces)) l.name ≡ module_named (map space_view l.spaces) l.name
