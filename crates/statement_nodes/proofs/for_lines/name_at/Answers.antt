use Rattle.std.proofs.Common.{◌∙◌, ap}
use Rattle.std.specs.Prelude.{Option, option_and_then}
use Rattle.vba_tree.specs.Tree.{BlockLine}
use Rattle.bound_calls.specs.bound_forms.specs.StatementsBound.{counter_of}
use Rattle.statement_nodes.proofs.for_lines.name_at.Goals as goal

pub returns-in-Some : goal.returns-in-Some
returns-in-Some c = c.name_of.ensures ∙ ap (λ (o : Option BlockLine). option_and_then counter_of o) c.in-Some.ensures

pub returns-in-None : goal.returns-in-None
returns-in-None c = ap (λ (o : Option BlockLine). option_and_then counter_of o) c.in-None.ensures
