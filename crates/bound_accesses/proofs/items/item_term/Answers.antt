use Rattle.std.proofs.Common.{◌≡◌, true, Bool, sym, subst}
use Rattle.std.specs.Prelude.{MatchBool}
use Rattle.bound_project.specs.DraftView.{draft_view}
use Rattle.bound_accesses.specs.Items.{KeepsTerm, is_host_term}
use Rattle.bound_names.specs.View.{env_view}
use Rattle.bound_accesses.proofs.ItemTerms.{other_item}
use Rattle.bound_accesses.proofs.items.item_term.Goals as goal

pub host_item-requires-clause-object : goal.host_item-requires-clause-object
host_item-requires-clause-object c =
    let t = (draft_view c.args.draft.now).tables in
    let A : Bool → Type 0 = λ (b : Bool). MatchBool b (is_host_term c.args.term ≡ true) (KeepsTerm c.args.env.has_class t c.args.term) in
    subst A c.if-may_take_item.true c.may_take_item.ensures

pub returns : goal.returns
returns c =
    let has = c.args.env.has_class in
    let d = draft_view c.args.draft.now in
    let A : Bool → Type 0 = λ (b : Bool). MatchBool b (is_host_term c.args.term ≡ true) (KeepsTerm has d.tables c.args.term) in
    other_item (env_view c.args.env) has c.args.place c.args.term d (sym c.args.env.has_class_is) c.requires (subst A c.if-may_take_item.false c.may_take_item.ensures)
