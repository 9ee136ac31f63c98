use Rattle.std.proofs.Common.{Bool, sym, subst}
use Rattle.std.specs.Prelude.{MatchBool}
use Rattle.std.proofs.lemmas.Result.{IfOk-weaker}
use Rattle.bound_project.specs.DraftView.{draft_view}
use Rattle.bound_terms.specs.bound_accesses.specs.Items.{KeepsItem}
use Rattle.bound_terms.specs.bound_accesses.specs.bound_names.specs.View.{env_view}
use Rattle.bound_actions.proofs.Takings.{indexed_taken, let_taken, member_taken}
use Rattle.bound_actions.proofs.takers.taker_behind.Goals as goal

pub returns-in-Some : goal.returns-in-Some
returns-in-Some c =
    IfOk-weaker c.property_taker.result _ _
    (λ taker h. let_taken (env_view c.args.env) c.args.before c.args.split (draft_view c.args.draft.now) c.in-Some.writer taker c.requires.one c.in-Some.ensures h) c.property_taker.ensures

pub returns-then-takes_item : goal.returns-then-takes_item
returns-then-takes_item c =
    member_taken (env_view c.args.env) c.args.before c.args.split c.in_ok-member.member c.taker_of.result (draft_view c.args.draft.now) (draft_view c.item_member.new.draft) c.requires.one c.in_ok-member.ensures c.taker_of.ensures

pub returns : goal.returns
returns c =
    let has = c.args.env.has_class in
    let d = draft_view c.args.draft.now in
    let K : Bool → Type 0 = λ (b : Bool). MatchBool b (Unit {0}) (KeepsItem has d.tables c.args.before.term) in
    IfOk-weaker c.term_taker.result _ _
    (λ taker h. indexed_taken has (env_view c.args.env) (sym c.args.env.has_class_is) c.args.before c.args.split c.in_ok-more.more taker d (draft_view c.continue_tree.new.draft) c.requires.one c.in_default.ensures
    (subst K c.if-takes_item.false c.takes_item.ensures) c.in_ok-more.ensures h) c.term_taker.ensures
