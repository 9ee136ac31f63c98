use Rattle.std.proofs.lemmas.Result.{IfOk-weaker}
use Rattle.bound_project.specs.DraftView.{draft_view}
use Rattle.vba_expression.specs.View.{view}
use Rattle.bound_terms.specs.bound_accesses.specs.bound_names.specs.View.{env_view}
use Rattle.bound_actions.proofs.Takings.{tree_taken}
use Rattle.bound_actions.proofs.takers.taker_bare.Goals as goal

pub returns : goal.returns
returns c =
    IfOk-weaker c.term_taker.result _ _
    (λ taker h. tree_taken (env_view c.args.env) (view c.args.place.now) c.in_ok-tree.tree taker (draft_view c.args.draft.now) (draft_view c.tree_of.new.draft) c.requires.bare c.in_ok-tree.ensures h) c.term_taker.ensures
