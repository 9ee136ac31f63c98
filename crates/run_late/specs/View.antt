-- Serves the code: the plain data that late-bound members are looked up by, and that finds them.
use Rattle.std.specs.Prelude.{Bool, List}
use Rattle.vba_values.specs.Val.{Val}
use Rattle.bound_project.specs.Expressions.{ByName}
use Rattle.bound_project.specs.Project.{Declarations}
use Rattle.vba_meaning.specs.Memory.{Memory}
use Rattle.vba_meaning.specs.Defaults.{variable_of}
use Rattle.vba_meaning.specs.LateBound as plain
use Rattle.run_host.specs.ByName.{by_name_view}
use Rattle.bound_project.specs.Pieces.{flags}
use Rattle.run_late.specs.declared.sought.Sought.{Sought}
use Rattle.run_late.specs.declared.ways.Way.{Way}
use Rattle.run_late.specs.declared.ways.Way.TheVariants as way

-- how arguments are named, and which of them are given
abbrev pub names_view : Sought → ByName
names_view s = by_name_view s.names

abbrev pub given_view : Sought → List Bool
given_view s = flags s.arguments s.given.now

-- what does a use of a member of this value
abbrev pub way_view : Declarations → Val → Memory → Way → plain.Way
way_view d v m (way.Variable field makes) = plain.by_variable (variable_of d v field makes m)
way_view d v m (way.Call procedure property) = plain.by_call procedure property
way_view d v m (way.Setter procedure) = plain.by_setter procedure
