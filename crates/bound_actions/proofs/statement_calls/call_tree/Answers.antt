use Rattle.std.proofs.Common.{◌≡◌, Bool, [], ◌∷◌, subst}
use Rattle.std.specs.Prelude.{MatchBool}
use Rattle.std.proofs.lemmas.Result.{IfOk-weaker}
use Rattle.vba_expression.specs.declared.node.ExpressionNode.TheVariants as node
use Rattle.bound_project.specs.DraftView.{draft_view}
use Rattle.bound_terms.specs.bound_accesses.specs.bound_names.specs.View.{env_view}
use Rattle.bound_actions.proofs.Called.{calls_tree}
use Rattle.statement_terms.proofs.Called.{acts_none}
use Rattle.statement_terms.proofs.IndexedCalls.{calls_later}
use Rattle.statement_terms.proofs.NodeTrees.{still_named}
use Rattle.bound_actions.proofs.statement_calls.call_tree.Goals as goal

pub bare_term-requires : goal.bare_term-requires
bare_term-requires c = c.in_ok-term.ensures.named

pub call_indexed-requires-clause-named : goal.call_indexed-requires-clause-named
call_indexed-requires-clause-named c = still_named c.args.tree (draft_view c.args.draft.now) (draft_view c.callee_term.new.draft) c.in_ok-term.ensures.grown c.requires.named

pub returns-then-are_none : goal.returns-then-are_none
returns-then-are_none c =
    let env = env_view c.args.env in
    let x = c.args.tree in
    let ns = c.args.nodes.now in
    let d = draft_view c.args.draft.now in
    let f = draft_view c.callee_term.new.draft in
    let e = draft_view c.bare_term.new.draft in
    let y = c.in_ok-term.term in
    let A : Bool → Type 0 = λ b. MatchBool b (ns ≡ node.NoArguments ∷ []) (Unit {0}) in
    IfOk-weaker c.bare_term.result _ _ (λ k h. calls_tree env x ns d f e y k c.in_ok-term.ensures (acts_none env y x.place ns f e k (subst A c.if-are_none.true c.are_none.ensures) (h env))) c.bare_term.ensures

pub returns-then-branch : goal.returns-then-branch
returns-then-branch c =
    let env = env_view c.args.env in
    let x = c.args.tree in
    let d = draft_view c.args.draft.now in
    let f = draft_view c.callee_term.new.draft in
    let e = draft_view c.call_indexed.new.draft in
    let ns = c.args.nodes.now in
    IfOk-weaker c.call_indexed.result _ _ (λ k h. calls_later env x ns k d f e c.in_ok-term.ensures.grown c.in_ok-term.ensures.pieces c.requires.named h) c.call_indexed.ensures

pub returns : goal.returns
returns c =
    let env = env_view c.args.env in
    let x = c.args.tree in
    let d = draft_view c.args.draft.now in
    let f = draft_view c.callee_term.new.draft in
    let e = draft_view c.given_term.new.draft in
    let y = c.in_ok-term.term in
    IfOk-weaker c.given_term.result _ _ (λ k h. calls_tree env x c.args.nodes.now d f e y k c.in_ok-term.ensures h) c.given_term.ensures
