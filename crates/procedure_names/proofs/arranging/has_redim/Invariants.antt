use Rattle.std.proofs.Common.{◌≡◌, drop, map}
use Rattle.declared_names.specs.binder.specs.Names.{has_redim}
use Rattle.procedure_names.specs.Using.{using_view}
use Rattle.procedure_names.proofs.arranging.has_redim.Given as goal

abbrev pub invariant-loop-found : goal.invariant-loop-found
invariant-loop-found l = has_redim (map using_view (drop l.found-index l.usings)) l.name ≡ has_redim (map using_view l.usings) l.name
