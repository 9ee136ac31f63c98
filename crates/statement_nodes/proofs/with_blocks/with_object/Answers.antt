use Rattle.std.specs.Prelude.{option_map}
use Rattle.bound_calls.specs.bound_declarations.specs.constant_values.specs.declared_names.specs.module_parts.specs.View.{part_view}
use Rattle.vba_expression.specs.View.{view as expression_view}
use Rattle.vba_tree.specs.View.{block_line_view}
use Rattle.statement_nodes.proofs.Blocks.{object_there, no_object}
use Rattle.statement_nodes.proofs.with_blocks.with_object.Goals as goal

pub returns-in-Some : goal.returns-in-Some
returns-in-Some c =
    object_there (part_view c.args.part.now) (block_line_view c.in-Some.line.now) (option_map (λ e. expression_view e.now) c.line_object.result) c.in-Some.ensures c.line_object.ensures

pub returns-in-None : goal.returns-in-None
returns-in-None c = no_object (part_view c.args.part.now) c.in-None.ensures
