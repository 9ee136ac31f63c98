use Rattle.std.proofs.Common.{◌≡◌, ◌+◌, ◌++◌, map, drop, length}
use Rattle.bound_declarations.specs.constant_values.specs.declared_names.specs.binder.specs.Names.{scope_of}
use Rattle.bound_declarations.specs.constant_values.specs.declared_names.specs.binder.specs.Storage.{shared_from}
use Rattle.bound_declarations.specs.constant_values.specs.declared_names.specs.Outside.{the_outside}
use Rattle.bound_declarations.specs.constant_values.specs.declared_names.specs.View.{space_view}
use Rattle.project_tables.specs.Signed.{befores, signed_in, signed_lists, whole_scope}
use Rattle.project_tables.proofs.signing.project_signatures.Given as goal

abbrev pub invariant-loop-number : goal.invariant-loop-number
invariant-loop-number l = record {
  of : signed_lists l.signatures.of.items ++ map (λ space. signed_in (scope_of the_outside (map space_view l.spaces) space)) (map space_view (drop l.number l.spaces))
      ≡ map (λ space. signed_in (scope_of the_outside (map space_view l.spaces) space)) (map space_view l.spaces);
  before : l.signatures.before.items ++ befores (whole_scope (map space_view l.spaces)) l.signatures.total (map space_view (drop l.number l.spaces))
      ≡ befores (whole_scope (map space_view l.spaces)) 0 (map space_view l.spaces);
  total : l.signatures.total + length (shared_from (whole_scope (map space_view l.spaces)) (map space_view (drop l.number l.spaces)))
      ≡ length (shared_from (whole_scope (map space_view l.spaces)) (map space_view l.spaces));
}
