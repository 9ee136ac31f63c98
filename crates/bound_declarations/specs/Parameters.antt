-- Serves the code: the parameters that are left of a list.
use Rattle.std.specs.Prelude.{List, map}
use Rattle.vba_module.specs.Headers.{items_of}
use Rattle.vba_tree.specs.declared.list.Next.{Next}
use Rattle.vba_tree.specs.declared.procedure.Parameter.{Parameter}
use Rattle.vba_tree.specs.Tree as tree
use Rattle.vba_tree.specs.View.{parameter_view}

abbrev pub next_items : List (Next Parameter) → List tree.Parameter
next_items behind = items_of (map (λ next. (next.mark, parameter_view next.item)) behind)
