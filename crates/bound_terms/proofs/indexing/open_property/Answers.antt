use Rattle.std.proofs.lemmas.Result.{IfOk-weaker}
use Rattle.bound_project.specs.DraftView.{draft_view}
use Rattle.bound_accesses.specs.bound_names.specs.View.{env_view}
use Rattle.bound_terms.proofs.IndexedProperties.{opens_property}
use Rattle.bound_terms.proofs.indexing.open_property.Goals as goal

pub open_given-requires-clause-named : goal.open_given-requires-clause-named
open_given-requires-clause-named c = c.in_ok-ending.ensures.named

pub returns : goal.returns
returns c =
    let d = draft_view c.args.draft.now in
    let m = draft_view c.routine_ending.new.draft in
    let e = draft_view c.open_given.new.draft in
    IfOk-weaker c.open_given.result _ _ (λ i o. opens_property (env_view c.args.env) c.args.tree c.args.routine c.in_ok-ending.ending d m e i c.requires.indexes c.in_ok-ending.ensures o) c.open_given.ensures
