use Rattle.std.proofs.Common.{Bool, subst}
use Rattle.std.proofs.lemmas.Result.{IfOk-weaker}
use Rattle.bound_project.specs.DraftView.{draft_view}
use Rattle.bound_terms.specs.bound_accesses.specs.bound_names.specs.View.{env_view}
use Rattle.bound_actions.specs.NoTargets.{IsSub}
use Rattle.bound_actions.proofs.Behind.{taken_from}
use Rattle.statement_terms.proofs.NodeTrees.{still_named}
use Rattle.bound_actions.proofs.takers.taker_split.Goals as goal

pub target_before-requires-clause-tree : goal.target_before-requires-clause-tree
target_before-requires-clause-tree c =
    still_named c.in_ok-tree.tree (draft_view c.nodes_tree.new.draft) (draft_view c.callee_term.new.draft) c.in_ok-term.ensures.grown c.in_ok-tree.ensures.leaves.named

pub target_before-requires-clause-term : goal.target_before-requires-clause-term
target_before-requires-clause-term c = c.in_ok-term.ensures.named

pub taker_behind-requires-clause-tree : goal.taker_behind-requires-clause-tree
taker_behind-requires-clause-tree c = c.in_ok-before.ensures.tree_named

pub taker_behind-requires-clause-named : goal.taker_behind-requires-clause-named
taker_behind-requires-clause-named c = c.in_ok-before.ensures.named

pub taker_behind-requires-clause-one : goal.taker_behind-requires-clause-one
taker_behind-requires-clause-one c = c.if-not-adds_one.ensures

pub returns : goal.returns
returns c =
    let y = c.in_ok-term.term in
    let d = draft_view c.args.draft.now in
    let f = draft_view c.nodes_tree.new.draft in
    let g = draft_view c.callee_term.new.draft in
    let m = draft_view c.target_before.new.draft in
    let A : Bool → Type 0 = λ (b : Bool). IsSub y b in
    IfOk-weaker c.taker_behind.result _ _
    (λ taker h. taken_from (env_view c.args.env) c.args.split c.args.nodes.now c.in_ok-tree.tree y c.in_ok-before.before taker d f g m c.requires.split c.if-not-adds_one.ensures c.in_ok-tree.ensures c.in_ok-term.ensures
    (subst A c.if-is_sub.false c.is_sub.ensures) c.in_ok-before.ensures h) c.taker_behind.ensures
