use Rattle.std.proofs.Common.{Bool, true, sym, subst, ◌∙◌}
use Rattle.std.proofs.lemmas.Result.{IfOk-weaker}
use Rattle.bound_project.specs.DraftView.{draft_view}
use Rattle.vba_expression.specs.View.{view}
use Rattle.bound_terms.specs.bound_accesses.specs.bound_names.specs.View.{env_view}
use Rattle.bound_actions.specs.Assigning.{IsNoTarget}
use Rattle.bound_actions.proofs.Assigned.{assigns_bare}
use Rattle.bound_actions.proofs.Letting.{assigns_other}
use Rattle.bound_actions.proofs.NoTargets.{bare_refused}
use Rattle.statement_terms.proofs.Assigned.{done_is}
use Rattle.bound_actions.proofs.assigning.assign_bare.Goals as goal

pub let_bare-requires-clause-writer : goal.let_bare-requires-clause-writer
let_bare-requires-clause-writer c = c.in-Some.ensures.writer

pub returns-then-is_no_target : goal.returns-then-is_no_target
returns-then-is_no_target c =
    let env = env_view c.args.env in
    let x = c.in_ok-tree.tree in
    let A : Bool → Type 0 = λ (b : Bool). IsNoTarget env x b in
    bare_refused env c.args.may_be (view c.args.place.now) x c.has_let.result (draft_view c.args.draft.now) (draft_view c.tree_of.new.draft) (draft_view c.refuse_target.new.draft) c.in_ok-kind.kind c.requires.bare c.in_ok-tree.ensures
    (subst A c.if-is_no_target.true c.is_no_target.ensures) c.has_let.ensures c.in_ok-kind.ensures

pub returns-in_ok-kind-in-Some : goal.returns-in_ok-kind-in-Some
returns-in_ok-kind-in-Some c =
    let env = env_view c.args.env in
    let place = view c.args.place.now in
    let x = c.in_ok-tree.tree in
    let w = c.in-Some.writer in
    let k = c.in_ok-kind-in-Some.kind in
    let d = draft_view c.args.draft.now in
    let f = draft_view c.tree_of.new.draft in
    let e = draft_view c.let_bare.new.draft in
    let target = c.is_no_target.ensures f.tables place f.pieces d.pieces c.requires.bare c.in_ok-tree.ensures.stands ∙ c.if-is_no_target.false in
    done_is env c.args.may_be place d e k c.as_given.result.kind true c.as_given.result.is_given c.as_given.ensures.kind c.as_given.ensures.given
    (assigns_bare env c.args.may_be place x w d f e k c.requires.bare target c.in_ok-tree.ensures c.in-Some.ensures c.in_ok-kind-in-Some.ensures)

pub returns-in-None : goal.returns-in-None
returns-in-None c =
    let env = env_view c.args.env in
    let place = view c.args.place.now in
    let x = c.in_ok-tree.tree in
    let d = draft_view c.args.draft.now in
    let f = draft_view c.tree_of.new.draft in
    let e = draft_view c.assign_other.new.draft in
    let target = c.is_no_target.ensures f.tables place f.pieces d.pieces c.requires.bare c.in_ok-tree.ensures.stands ∙ c.if-is_no_target.false in
    IfOk-weaker c.assign_other.result _ _
    (λ done a. assigns_other c.args.env.has_class env c.args.may_be place x d f e done.kind done.is_given (sym c.args.env.has_class_is) c.requires.bare target c.in-None.ensures c.in_ok-tree.ensures a) c.assign_other.ensures
