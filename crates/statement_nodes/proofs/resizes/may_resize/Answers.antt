use Rattle.std.specs.Prelude.{option_map}
use Rattle.bound_project.specs.View.{declared_view}
use Rattle.statement_nodes.proofs.Resizing.{resizes_array}
use Rattle.statement_nodes.proofs.resizes.may_resize.Goals as goal

pub returns-in-ArrayOf : goal.returns-in-ArrayOf
returns-in-ArrayOf c =
    resizes_array c.args.of c.in-ArrayOf.element (option_map declared_view c.args.written) c.are_elements.result c.in-ArrayOf.is c.are_elements.ensures
