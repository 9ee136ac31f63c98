use Rattle.std.proofs.Common.{ap, ◌∙◌}
use Rattle.bound_project.specs.declared.node.NodeKind.{NodeKind}
use Rattle.bound_members.specs.bound_calls.specs.declared.term.Term.TheVariants as term
use Rattle.statement_terms.proofs.Acting.{variable_is}
use Rattle.statement_terms.proofs.actions.variable_in.Goals as goal

pub returns-in-Variable : goal.returns-in-Variable
returns-in-Variable c =
    variable_is c.in-Variable.variable c.args.term c.in-Place.of c.in-Place.bounds c.in-Place.lends c.in-Place.makes (c.in-Place.is ∙ ap (λ (k : NodeKind). term.Place k c.in-Place.of c.in-Place.bounds c.in-Place.lends c.in-Place.makes) c.in-Variable.is)
