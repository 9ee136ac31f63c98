-- Serves the code: default members of what is declared as of a class, as far as they are known before the run.
use Rattle.std.specs.Prelude.{ℕ, zero, suc, Option, Some, None, if◌then◌else◌}
use Rattle.vba_values.specs.Types.{Declared}
use Rattle.vba_values.specs.Types as type
use Rattle.bound_project.specs.Parameters.{any_must}
use Rattle.bound_project.specs.Project.{Class, Declarations, Member, is_variable, is_procedure, is_property, Procedure, procedure_at}
use Rattle.bound_project.specs.View.{declared_view}
use Rattle.bound_declarations.specs.constant_values.specs.declared_names.specs.binder.specs.Types.{is_object}
use Rattle.bound_forms.specs.ClassDefaults.{field_type, let_written, written_by}
use Rattle.bound_forms.specs.ClassDefaults as plain
use Rattle.class_defaults.specs.declared.known.Known.{Known}
use Rattle.class_defaults.specs.declared.known.Known.TheVariants as known
use Rattle.class_defaults.specs.declared.known.Way.{Way}
use Rattle.class_defaults.specs.declared.known.Way.TheVariants as way

abbrev pub known_view : Known → plain.Known
known_view (known.Type of) = plain.known (declared_view of)
known_view (known.Breaks rule) = plain.breaks rule
known_view known.NotSaid = plain.not_said

-- what a default member passes arguments or a value on to, by its type; or what is known at once
pub data Passes : Type 0 where
  on : (of : Declared) → Passes
  ends : (found : plain.Known) → Passes

abbrev pub way_view : Way → Passes
way_view (way.On of) = on (declared_view of)
way_view (way.Ends found) = ends (known_view found)

-- what is known of it, where this is known of what it is passed on to
abbrev pub passed_by : (pass : Declared → plain.Known) → Passes → plain.Known
passed_by pass (on of) = pass of
passed_by pass (ends found) = found

-- ---- a value is written to an object's default member

-- what only gives an object passes the value on; S27 where it needs arguments for that
abbrev pub reader_passes : Procedure → Passes
reader_passes p = if any_must p.parameters then ends (plain.breaks 27) else on p.result.of

-- a variable takes the value, or the object that it holds does
abbrev pub variable_passes : Declared → Passes
variable_passes of = if is_object of then on of else ends (plain.known type.variant)

abbrev pub member_passes : Declarations → Class → Member → Passes
member_passes d c (is_variable i makes) = variable_passes (field_type c i)
member_passes d c (is_procedure p) = reader_passes (procedure_at d p)
member_passes d c (is_property reads (Some p) sets) = ends (let_written (procedure_at d p))
member_passes d c (is_property (Some p) None sets) = reader_passes (procedure_at d p)
member_passes d c (is_property None None sets) = ends (plain.breaks 27)

-- a class without a default member breaks a rule
abbrev pub write_passes : (none : ℕ) → Declarations → Class → Option Member → Passes
write_passes none d c None = ends (plain.breaks none)
write_passes none d c (Some m) = member_passes d c m

-- a value is written to what a default member passes it on to: S27 where no more may
abbrev pub written_on : Declarations → (left : ℕ) → Declared → plain.Known
written_on d zero of = plain.breaks 27
written_on d (suc left) of = written_by d left of
