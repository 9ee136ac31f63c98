use Rattle.std.proofs.Common.{sym, subst}
use Rattle.bound_project.specs.DraftView.{draft_view}
use Rattle.bound_members.specs.bound_calls.specs.declared.term.Item.{Item}
use Rattle.bound_members.specs.bound_calls.specs.declared.term.Item.TheVariants as item
use Rattle.bound_members.specs.bound_calls.specs.Indexing.{AddsArgument}
use Rattle.bound_members.specs.bound_calls.specs.Standing.{ItemNamed}
use Rattle.bound_operands.proofs.indexing.add_argument.Goals as goal

pub returns-in_ok-more-in-Function : goal.returns-in_ok-more-in-Function
returns-in_ok-more-in-Function c =
    let A : Item → Type 0 = λ (i : Item). AddsArgument i c.args.tree (draft_view c.args.draft.now) (draft_view c.add_value.new.draft) (item.Function c.in_ok-more-in-Function.more) in
    subst A (sym c.in-Function.is) c.in_ok-more-in-Function.ensures

pub returns-in_ok-more-in-Indexed : goal.returns-in_ok-more-in-Indexed
returns-in_ok-more-in-Indexed c =
    let A : Item → Type 0 = λ (i : Item). AddsArgument i c.args.tree (draft_view c.args.draft.now) (draft_view c.add_index.new.draft) (item.Indexed c.in_ok-more-in-Indexed.more) in
    subst A (sym c.in-Indexed.is) c.in_ok-more-in-Indexed.ensures

pub add_given-requires-clause-member : goal.add_given-requires-clause-member
add_given-requires-clause-member c = (let N : Item → Type 0 = λ (i : Item). ItemNamed (draft_view c.args.draft.now).tables i in subst N c.in-Member.is c.requires.item)

pub returns-in_ok-more-in-Member : goal.returns-in_ok-more-in-Member
returns-in_ok-more-in-Member c =
    let A : Item → Type 0 = λ (i : Item). AddsArgument i c.args.tree (draft_view c.args.draft.now) (draft_view c.add_given.new.draft) (item.Member c.in_ok-more-in-Member.more) in
    subst A (sym c.in-Member.is) c.in_ok-more-in-Member.ensures
