use Rattle.bound_calls.specs.bound_declarations.specs.constant_values.specs.declared_names.specs.module_parts.specs.View.{part_view}
use Rattle.vba_tree.specs.View.{block_line_view}
use Rattle.statement_nodes.proofs.Blocks.{each_there, no_each}
use Rattle.statement_nodes.proofs.innermost.each_at.Goals as goal

pub returns-in-Some : goal.returns-in-Some
returns-in-Some c = each_there (part_view c.args.part.now) (block_line_view c.in-Some.line.now) c.args.header c.line_each.result c.in-Some.ensures c.line_each.ensures

pub returns-in-None : goal.returns-in-None
returns-in-None c = no_each (part_view c.args.part.now) c.args.header c.in-None.ensures
