-- Serves the code: the operands and ways that lists in memory stand for. The last item of a stack is its first.
use Rattle.std.specs.Prelude.{List, map, reverse, Bool, true, false, Option, Some, None}
use Rattle.pcode.specs.WellFormed as plain
use Rattle.pcode.specs.WellFormed.{Way, no_way, brings}
use Rattle.code_check.specs.declared.operands.Kind.{Kind}
use Rattle.code_check.specs.declared.operands.Kind.TheVariants.{Value, Path}
use Rattle.code_check.specs.declared.operands.Operands.{Operands}
use Rattle.code_check.specs.declared.way.Step.{Step}
use Rattle.code_check.specs.declared.way.Step.TheVariants.{On, Over, Missing}

abbrev pub kind_view : Kind → plain.Kind
kind_view Value = plain.a_value
kind_view Path = plain.a_path

abbrev pub kinds_view : List Kind → List plain.Kind
kinds_view items = map kind_view (reverse items)

abbrev pub operands_view : Operands → List plain.Kind
operands_view o = kinds_view o.kinds.items

-- the way that brings these operands, where one leads there from above
abbrev pub way_of : (begun : Bool) → List plain.Kind → Way
way_of true ks = brings ks
way_of false ks = no_way

-- the way behind a step that leaves these operands
abbrev pub step_way : Step → List plain.Kind → Option Way
step_way On ks = Some (brings ks)
step_way Over ks = Some no_way
step_way Missing ks = None

abbrev pub step_found : Bool → Step
step_found true = On
step_found false = Missing
