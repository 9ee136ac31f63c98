-- Serves the code: the parts that parts of trees stand for.
use Rattle.std.specs.Prelude.{List, map}
use Rattle.vba_tree.specs.View.{view, statement_view}
use Rattle.vba_module.specs.Parts as parts
use Rattle.module_parts.specs.declared.part.Part.{Part}
use Rattle.module_parts.specs.declared.part.Part.TheVariants as part

-- the plain part that a part stands for
abbrev pub part_view : Part → parts.Part
part_view (part.Label label) = parts.label label
part_view (part.Statement statement) = parts.statement (statement_view statement)
part_view (part.WholeLine line) = parts.whole_line (view line)

abbrev pub parts_view : List Part → List parts.Part
parts_view = map part_view
