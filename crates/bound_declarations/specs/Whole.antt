-- Serves the code: a procedure as it is bound, by its own scope.
use Rattle.constant_values.specs.declared_names.specs.binder.specs.Sources.{spelled}
use Rattle.constant_values.specs.declared_names.specs.binder.specs.Declarations.{Written}
use Rattle.constant_values.specs.declared_names.specs.binder.specs.Scopes.{Scope}
use Rattle.constant_values.specs.declared_names.specs.binder.specs.Storage.{kind_of, declared_result, declarations_if, is_framed}
use Rattle.constant_values.specs.declared_names.specs.binder.specs.Storage as storage
use Rattle.bound_project.specs.Project.{Procedure}

-- the scope has the names of the procedure
abbrev pub procedure_in : Scope → Written → Procedure
procedure_in s p = record {
  name = spelled s.here.source.text p.name;
  kind = kind_of p.kind;
  in_module = s.here.number;
  place = p.place;
  result = declared_result s p;
  locals = declarations_if is_framed s s.locals;
  parameters = storage.parameters_of s p;
}
