-- Serves the code: the names of parameters.
use Rattle.std.specs.Prelude.{List, map}
use Rattle.vba_tree.specs.Tree.{Parameter}
use Rattle.binder.specs.Declarations.{Local, a_parameter}

abbrev pub parameter_names : List Parameter → List Local
parameter_names ps = map (λ x. record { name = x.name; own = a_parameter x }) ps
