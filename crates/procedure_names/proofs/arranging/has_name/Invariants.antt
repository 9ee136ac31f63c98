use Rattle.std.proofs.Common.{◌≡◌, drop, map}
use Rattle.declared_names.specs.binder.specs.Names.{has_name}
use Rattle.declared_names.specs.View.{local_view}
use Rattle.procedure_names.proofs.arranging.has_name.Given as goal

abbrev pub invariant-loop-local : goal.invariant-loop-local
invariant-loop-local l = has_name (map local_view (drop l.local-index l.locals)) l.name ≡ has_name (map local_view l.locals) l.name
