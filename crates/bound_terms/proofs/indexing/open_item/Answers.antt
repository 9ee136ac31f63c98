use Rattle.std.proofs.Common.{sym, subst}
use Rattle.bound_project.specs.DraftView.{draft_view}
use Rattle.bound_accesses.specs.bound_names.specs.View.{env_view}
use Rattle.bound_accesses.specs.bound_names.specs.bound_members.specs.bound_calls.specs.declared.term.Item.{Item}
use Rattle.bound_accesses.specs.bound_names.specs.bound_members.specs.bound_calls.specs.declared.term.Refuser.{Refuser}
use Rattle.bound_terms.specs.Indexing.{OpensItem, untaken_at}
use Rattle.bound_terms.proofs.Refused.{member_opened, member_untaken}
use Rattle.bound_terms.proofs.indexing.open_item.Goals as goal

pub returns-then-branch : goal.returns-then-branch
returns-then-branch c =
    let d = draft_view c.args.draft.now in
    let b = c.args.of_property in
    let P : Item → Type 0 = λ (i : Item). OpensItem b (env_view c.args.env) c.args.tree c.args.member d d i in
    let Q : Refuser → Type 0 = λ (r : Refuser). OpensItem b (env_view c.args.env) c.args.tree c.args.member d d (untaken_at c.args.tree.place r) in
    subst P (sym c.untaken.ensures) (subst Q (sym c.member_refuser-refuser.ensures) (member_untaken b (env_view c.args.env) c.args.tree c.args.member d c.requires))

pub returns : goal.returns
returns c =
    member_opened c.args.of_property (env_view c.args.env) c.args.env.has_class c.args.tree c.args.member (draft_view c.args.draft.now) (draft_view c.open_member.new.draft) c.in_ok-call.call (sym c.args.env.has_class_is) c.in_ok-call.ensures
