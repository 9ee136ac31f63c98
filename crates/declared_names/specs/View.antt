-- Serves the code: the plain data that entries, names of procedures, modules and scopes stand for.
use Rattle.std.specs.Prelude.{List, map, Option, option_map}
use Rattle.vba_expression.specs.View.{view as expression_view}
use Rattle.vba_tree.specs.View.{variable_view, constant_view, parameter_view, parameters_view, type_clause_view, result_type_view}
use Rattle.vba_module.specs.Headers.{parameters_of}
use Rattle.module_parts.specs.View.{parts_view}
use Rattle.bound_project.specs.View.{spelled_view, declared_view}
use Rattle.binder.specs.Sources as plain
use Rattle.binder.specs.Declarations as plain_declarations
use Rattle.binder.specs.Declarations.{a_variable, a_constant, an_enum, a_member, a_type, an_event, a_procedure, fields_in, the_result, a_parameter, a_local, a_local_constant, an_array, undeclared}
use Rattle.binder.specs.Scopes as scopes
use Rattle.binder.specs.Types as types
use Rattle.declared_names.specs.Outside.{the_outside}
use Rattle.declared_names.specs.Range.{range_items}
use Rattle.declared_names.specs.declared.entry.Written.{Written}
use Rattle.declared_names.specs.declared.entry.What.{What}
use Rattle.declared_names.specs.declared.entry.What.TheVariants as what
use Rattle.declared_names.specs.declared.entry.Entry.{Entry}
use Rattle.declared_names.specs.declared.local.Own.{Own}
use Rattle.declared_names.specs.declared.local.Own.TheVariants as own
use Rattle.declared_names.specs.declared.local.Local.{Local}
use Rattle.declared_names.specs.declared.space.Source.{Source}
use Rattle.declared_names.specs.declared.space.Space.{Space}
use Rattle.declared_names.specs.declared.scope.Use.{Use}
use Rattle.declared_names.specs.declared.scope.Use.TheVariants.{Plainly, Called, BeforeDot}
use Rattle.declared_names.specs.declared.scope.Scope.{Scope}
use Rattle.declared_names.specs.declared.scope.Meant.{Meant}
use Rattle.declared_names.specs.declared.scope.Meant.TheVariants as meant
use Rattle.declared_names.specs.declared.scope.Qualifier.{Qualifier}
use Rattle.declared_names.specs.declared.scope.Qualifier.TheVariants as qualifier
use Rattle.declared_names.specs.declared.scope.TypeMeant.{TypeMeant}
use Rattle.declared_names.specs.declared.scope.TypeMeant.TheVariants as type_meant

-- ---- entries

abbrev pub written_view : Written → plain_declarations.Written
written_view w = record {
  place = w.place;
  access = w.header.now.access;
  static_word = w.header.now.static_word;
  kind = w.header.now.words;
  name = w.header.now.name;
  parameters = parameters_of (option_map parameters_view w.header.now.parameters);
  result = option_map result_type_view w.header.now.result_type;
  body = parts_view (range_items w.body);
}

abbrev pub what_view : What → plain_declarations.What
what_view (what.Variable v) = a_variable (variable_view v.now)
what_view (what.Constant c) = a_constant (constant_view c.now)
what_view what.Enum = an_enum
what_view (what.Member value steps) = a_member (option_map (λ e. expression_view e.now) value) steps
what_view (what.Type parts) = a_type (fields_in (parts_view (range_items parts)))
what_view (what.Event e) = an_event (parameters_of (option_map parameters_view e.now.parameters))
what_view (what.Procedure w) = a_procedure (written_view w)

abbrev pub entry_view : Entry → plain_declarations.Entry
entry_view e = record { name = e.name.now; is_public = e.is_public; what = what_view e.what }

-- ---- names of procedures

abbrev pub own_view : Own → plain_declarations.Own
own_view (own.Result w) = the_result (written_view w)
own_view (own.Parameter p) = a_parameter (parameter_view p.now)
own_view (own.Variable v static) = a_local (variable_view v.now) static
own_view (own.Constant c) = a_local_constant (constant_view c.now)
own_view (own.Array clause static) = an_array (option_map type_clause_view clause.now) static
own_view (own.Undeclared static) = undeclared static

abbrev pub local_view : Local → plain_declarations.Local
local_view l = record { name = l.name.now; own = own_view l.own }

-- ---- modules and scopes

abbrev pub source_view : Source → plain.Source
source_view s = record { is_class = s.is_class; text = s.text.now; parts = parts_view s.parts.now.items }

abbrev pub space_view : Space → scopes.Space
space_view s = record { number = s.number; source = source_view s.source; name = spelled_view s.name; entries = map entry_view s.entries.items }

abbrev pub use_view : Use → scopes.Use
use_view Plainly = scopes.plainly
use_view Called = scopes.called
use_view BeforeDot = scopes.before_dot

abbrev pub scope_view : Scope → scopes.Scope
scope_view s = record { outside = the_outside; spaces = map space_view s.spaces.now; here = space_view s.here.now; locals = map local_view s.locals.now }

abbrev pub meant_view : Meant → scopes.Meant
meant_view (meant.OfProcedure number local) = scopes.of_procedure number (local_view local)
meant_view (meant.OfModule space number entry) = scopes.of_module (space_view space.now) number (entry_view entry)
meant_view (meant.Module space) = scopes.a_module (space_view space.now)
meant_view meant.Library = scopes.the_library
meant_view meant.OfHost = scopes.of_host
meant_view meant.OfLibrary = scopes.of_library

abbrev pub qualifier_view : Qualifier → scopes.Qualifier
qualifier_view (qualifier.Module space) = scopes.module_qualifier (space_view space.now)
qualifier_view (qualifier.Enum space number) = scopes.enum_qualifier (space_view space.now) number
qualifier_view qualifier.Library = scopes.library_qualifier

abbrev pub type_meant_view : TypeMeant → types.TypeMeant
type_meant_view (type_meant.Known of) = types.known (declared_view of)
type_meant_view type_meant.OfHost = types.of_host
type_meant_view type_meant.LeftOut = types.left_out
