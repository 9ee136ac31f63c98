use Rattle.std.proofs.Common.{sym, subst}
use Rattle.bound_project.specs.DraftView.{draft_view}
use Rattle.bound_accesses.specs.bound_names.specs.bound_members.specs.bound_calls.specs.declared.term.Term.{Term}
use Rattle.bound_accesses.specs.bound_names.specs.bound_members.specs.bound_calls.specs.Standing.{TermNamed}
use Rattle.bound_accesses.specs.Items.{MakesItem}
use Rattle.bound_accesses.specs.bound_names.specs.View.{env_view}
use Rattle.bound_terms.proofs.LackingItems.{opens_lacking}
use Rattle.bound_terms.proofs.indexing.open_lacking.Goals as goal

pub push_whole-requires : goal.push_whole-requires
push_whole-requires c =
    let N : Term → Type 0 = λ (t : Term). TermNamed (draft_view c.item_term.new.draft).tables t in
    subst N c.in-Value.is c.in_ok-item.ensures.named

pub returns : goal.returns
returns c = λ b.
    let d = draft_view c.args.draft.now in
    let e = draft_view c.item_term.new.draft in
    let f = draft_view c.push_whole.new.draft in
    let M : Term → Type 0 = λ (t : Term). MakesItem (env_view c.args.env) c.args.tree.place c.args.term d e t in
    opens_lacking b (env_view c.args.env) c.args.env.has_class c.args.tree c.args.term c.in-Value.ending c.in_ok-indexed.indexed d e f (sym c.args.env.has_class_is) (subst M c.in-Value.is c.in_ok-item.ensures) c.in_ok-indexed.ensures
