use Rattle.std.proofs.Common.{Bool, subst}
use Rattle.std.specs.Prelude.{MatchBool}
use Rattle.bound_project.specs.DraftView.{draft_view}
use Rattle.bound_terms.specs.Indexing.{IndexesValue, NotIndexed}
use Rattle.statement_terms.specs.Heights.{GivesSome}
use Rattle.bound_actions.proofs.Behind.{bare_routine, plain_routine}
use Rattle.bound_actions.proofs.property_targets.routine_before.Goals as goal

pub property_before-requires-clause-indexes : goal.property_before-requires-clause-indexes
property_before-requires-clause-indexes c = c.if-not-indexes_value.ensures

pub property_before-requires-clause-some : goal.property_before-requires-clause-some
property_before-requires-clause-some c = c.if-not-gives_some.ensures

pub returns-then-not-indexes_value : goal.returns-then-not-indexes_value
returns-then-not-indexes_value c = plain_routine c.args.before c.args.routine c.args.nodes.now (draft_view c.args.draft.now) c.requires.routine c.requires.tree c.if-not-indexes_value.ensures

pub returns-then-are_none : goal.returns-then-are_none
returns-then-are_none c = bare_routine c.args.before c.args.routine c.args.nodes.now (draft_view c.args.draft.now) c.requires.routine c.requires.tree c.if-are_none.ensures
