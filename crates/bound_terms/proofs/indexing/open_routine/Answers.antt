use Rattle.std.proofs.Common.{Bool, subst}
use Rattle.std.specs.Prelude.{MatchBool}
use Rattle.std.proofs.lemmas.Result.{IfOk-weaker}
use Rattle.bound_terms.specs.Indexing.{IndexesValue, NotIndexed}
use Rattle.bound_accesses.specs.bound_names.specs.View.{env_view}
use Rattle.bound_terms.proofs.indexing.open_routine.Goals as goal

pub open_procedure-requires : goal.open_procedure-requires
open_procedure-requires c = (let A : Bool → Type 0 = λ (b : Bool). MatchBool b (IndexesValue c.args.routine) (NotIndexed c.args.routine) in subst A c.if-not-indexes_value.true c.indexes_value.ensures)

pub open_property-requires-clause-indexes : goal.open_property-requires-clause-indexes
open_property-requires-clause-indexes c = (let A : Bool → Type 0 = λ (b : Bool). MatchBool b (IndexesValue c.args.routine) (NotIndexed c.args.routine) in subst A c.if-not-indexes_value.false c.indexes_value.ensures)

pub returns-then-is_empty : goal.returns-then-is_empty
returns-then-is_empty c = IfOk-weaker c.open_received.result _ _ (λ i o. o (env_view c.args.env)) c.open_received.ensures

pub returns-then-not-indexes_value : goal.returns-then-not-indexes_value
returns-then-not-indexes_value c = IfOk-weaker c.open_procedure.result _ _ (λ i o. o (env_view c.args.env)) c.open_procedure.ensures
