-- Serves the code: the plain data that types, variables and declarations stand for.
use Rattle.std.specs.Prelude.{ℤ, pos, Bool, true, false, map, option_map}
use Rattle.vba_values.specs.Types.{Declared}
use Rattle.vba_values.specs.Types as type
use Rattle.vba_values.specs.View.{view as value_view}
use Rattle.bound_project.specs.declared.declared_type.ElementType.{ElementType}
use Rattle.bound_project.specs.declared.declared_type.ElementType.TheVariants as element
use Rattle.bound_project.specs.declared.declared_type.DeclaredType.{DeclaredType}
use Rattle.bound_project.specs.declared.declared_type.DeclaredType.TheVariants.{Plain, ArrayOf}
use Rattle.bound_project.specs.declared.variable.Storage.{Storage}
use Rattle.bound_project.specs.declared.variable.Storage.TheVariants.{Local, Shared, Own}
use Rattle.bound_project.specs.declared.variable.Variable.{Variable}
use Rattle.bound_project.specs.declared.variable.ErrMember.{ErrMember}
use Rattle.bound_project.specs.declared.variable.ErrMember.TheVariants.{Number, Source, Description}
use Rattle.bound_project.specs.declared.declarations.Spelled.{Spelled}
use Rattle.bound_project.specs.declared.declarations.Declaration.{Declaration}
use Rattle.bound_project.specs.declared.declarations.Parameter.{Parameter}
use Rattle.bound_project.specs.declared.declarations.ProcedureKind.{ProcedureKind}
use Rattle.bound_project.specs.declared.declarations.ProcedureKind.TheVariants.{Sub, Function, PropertyGet, PropertyLet, PropertySet}
use Rattle.bound_project.specs.declared.declarations.Procedure.{Procedure}
use Rattle.bound_project.specs.declared.declarations.Module.{Module}
use Rattle.bound_project.specs.declared.declarations.UserType.{UserType}
use Rattle.bound_project.specs.declared.declarations.Member.{Member}
use Rattle.bound_project.specs.declared.declarations.Member.TheVariants as member
use Rattle.bound_project.specs.declared.declarations.NamedMember.{NamedMember}
use Rattle.bound_project.specs.declared.declarations.DeclaredEvent.{DeclaredEvent}
use Rattle.bound_project.specs.declared.declarations.Handler.{Handler}
use Rattle.bound_project.specs.declared.declarations.Class.{Class}
use Rattle.bound_project.specs.declared.declarations.Declarations.{Declarations}
use Rattle.bound_project.specs.Expressions as plain
use Rattle.bound_project.specs.Project as project

abbrev pub element_view : ElementType → Declared
element_view element.Boolean = type.boolean
element_view element.Byte = type.byte
element_view element.Integer = type.integer
element_view element.Long = type.long
element_view element.LongLong = type.long_long
element_view element.Currency = type.currency
element_view element.Text = type.text
element_view (element.FixedText size) = type.fixed_text size
element_view element.Object = type.object
element_view (element.Class number) = type.class number
element_view element.Collection = type.collection
element_view element.Worksheet = type.worksheet
element_view element.Range = type.range
element_view element.Variant = type.variant
element_view (element.UserType place) = type.udt place

abbrev pub declared_view : DeclaredType → Declared
declared_view (Plain of) = element_view of
declared_view (ArrayOf of) = type.array_of (element_view of)

abbrev pub storage_view : Storage → plain.Storage
storage_view (Local number) = plain.local number
storage_view (Shared number) = plain.shared number
storage_view (Own number) = plain.own number

abbrev pub variable_view : Variable → plain.Variable
variable_view x = record { storage = storage_view x.storage; of = declared_view x.of; bounded = x.is_bounded }

abbrev pub member_view : ErrMember → plain.ErrMember
member_view Number = plain.err_number
member_view Source = plain.err_source
member_view Description = plain.err_description

-- from where an Array counts
abbrev pub base_view : (is_one : Bool) → ℤ
base_view true = pos 1
base_view false = pos 0

-- ---- declarations

abbrev pub spelled_view : Spelled → project.Spelled
spelled_view name = record { spelling = name.spelling; fold = name.fold }

abbrev pub declaration_view : Declaration → project.Declaration
declaration_view x = record { name = spelled_view x.name; place = x.place; of = declared_view x.of; bounds = x.bounds.items }

abbrev pub parameter_view : Parameter → project.Parameter
parameter_view x = record {
  name = spelled_view x.name;
  of = declared_view x.of;
  by_reference = x.is_by_reference;
  default = option_map value_view x.default;
  many = x.is_param_array;
}

abbrev pub kind_view : ProcedureKind → project.ProcedureKind
kind_view Sub = project.is_sub
kind_view Function = project.is_function
kind_view PropertyGet = project.is_get
kind_view PropertyLet = project.is_let
kind_view PropertySet = project.is_set

abbrev pub procedure_view : Procedure → project.Procedure
procedure_view p = record {
  name = spelled_view p.name;
  kind = kind_view p.kind;
  in_module = p.in_module;
  place = p.place;
  result = declaration_view p.result;
  locals = map declaration_view p.locals.items;
  parameters = map parameter_view p.parameters.items;
}

abbrev pub module_view : Module → project.Module
module_view m = record { name = spelled_view m.name; compare = m.compare; base = m.base }

abbrev pub user_type_view : UserType → project.UserType
user_type_view t = record { name = spelled_view t.name; fields = map declaration_view t.fields.items }

abbrev pub class_member_view : Member → project.Member
class_member_view (member.Variable field makes) = project.is_variable field makes
class_member_view (member.Procedure procedure) = project.is_procedure procedure
class_member_view (member.Property reads lets sets) = project.is_property reads lets sets

abbrev pub named_view : NamedMember → project.Named
named_view x = record { fold = x.fold; member = class_member_view x.member }

abbrev pub event_view : DeclaredEvent → project.DeclaredEvent
event_view e = record { name = spelled_view e.name; parameters = map parameter_view e.parameters.items }

abbrev pub handler_view : Handler → project.Handler
handler_view h = record { field = h.field; event = h.event; procedure = h.procedure }

abbrev pub class_view : Class → project.Class
class_view c = record {
  name = spelled_view c.name;
  fields = map declaration_view c.fields.items;
  initialize = c.initialize;
  terminate = c.terminate;
  members = map named_view c.members.items;
  default = option_map class_member_view c.default;
  enumerator = option_map class_member_view c.enumerator;
  events = map event_view c.events.items;
  with_events = c.with_events.items;
  handlers = map handler_view c.handlers.items;
}

abbrev pub declarations_view : Declarations → project.Declarations
declarations_view d = record {
  modules = map module_view d.modules.items;
  types = map user_type_view d.types.items;
  classes = map class_view d.classes.items;
  shared = map declaration_view d.shared.items;
  procedures = map procedure_view d.procedures.items;
}
