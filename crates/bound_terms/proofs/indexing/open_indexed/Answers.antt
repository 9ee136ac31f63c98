use Rattle.std.proofs.Common.{◌≡◌, sym, subst}
use Rattle.std.proofs.lemmas.Result.{IfOk-weaker}
use Rattle.bound_project.specs.declared.node.NodeKind.{NodeKind}
use Rattle.bound_project.specs.Drafts.{Drafted}
use Rattle.bound_project.specs.Pieces.{put}
use Rattle.bound_project.specs.DraftView.{draft_view}
use Rattle.bound_accesses.specs.bound_names.specs.bound_members.specs.bound_calls.specs.declared.term.Item.{Item}
use Rattle.bound_accesses.specs.bound_names.specs.bound_members.specs.bound_calls.specs.Calls.{node_of}
use Rattle.bound_accesses.specs.bound_names.specs.bound_members.specs.bound_calls.specs.Indexing.{OpensTerm}
use Rattle.bound_accesses.specs.bound_names.specs.View.{env_view}
use Rattle.bound_accesses.specs.bound_names.proofs.Declaring.{env_declares}
use Rattle.bound_operands.specs.Indexing.{place_term}
use Rattle.bound_terms.proofs.Refused.{place_untaken}
use Rattle.bound_terms.proofs.indexing.open_indexed.Goals as goal

pub returns-then-branch : goal.returns-then-branch
returns-then-branch c =
    let env = env_view c.args.env in
    let d = draft_view c.args.draft.now in
    let m = draft_view c.push_node.new.draft in
    let e = draft_view c.push_node-then-branch.new.draft in
    let at = c.args.at in
    let P : Item → Type 0 = λ (i : Item). OpensTerm env c.args.tree (place_term at) d e i in
    let Q : NodeKind → Type 0 = λ (k : NodeKind). ◌≡◌ {A = Drafted} e (record m { pieces = put m.tables (node_of k c.args.tree.place at.of) m.pieces }) in
    subst P (sym c.untaken.ensures) (place_untaken env c.args.tree at.kind at.of at.bounds at.lends at.makes d m e c.in_ok-push_node.ensures (subst Q c.read_kind.ensures c.in_ok-push_node-2.ensures))

pub returns : goal.returns
returns c = c.in_ok-indexed.ensures (env_view c.args.env) (sym c.args.env.has_class_is)

pub open_led_place-requires-clause-class : goal.open_led_place-requires-clause-class
open_led_place-requires-clause-class c = sym c.in-Some.ensures

pub returns-in-Some : goal.returns-in-Some
returns-in-Some c = IfOk-weaker c.open_led_place.result _ _ (λ i o. o (env_view c.args.env) (env_declares c.args.env c.requires.env) c.args.at.bounds) c.open_led_place.ensures
