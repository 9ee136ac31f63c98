use Rattle.std.proofs.Common.{sym, subst}
use Rattle.std.proofs.lemmas.Result.{IfOk-weaker}
use Rattle.bound_project.specs.DraftView.{draft_view}
use Rattle.bound_accesses.specs.bound_names.specs.View.{env_view}
use Rattle.bound_accesses.specs.bound_names.proofs.Declaring.{env_declares}
use Rattle.bound_accesses.specs.bound_names.specs.bound_members.specs.bound_calls.specs.declared.term.Item.{Item}
use Rattle.bound_accesses.specs.bound_names.specs.bound_members.specs.bound_calls.specs.declared.term.Refuser.{Refuser}
use Rattle.bound_accesses.specs.bound_names.specs.bound_members.specs.bound_calls.specs.declared.term.Term.TheVariants as term
use Rattle.bound_operands.specs.Indexing.{OpensBehind}
use Rattle.bound_terms.specs.Indexing.{untaken_at}
use Rattle.bound_terms.proofs.Refused.{value_untaken}
use Rattle.bound_terms.proofs.indexing.open_whole.Goals as goal

pub returns-then-branch : goal.returns-then-branch
returns-then-branch c =
    let d = draft_view c.args.draft.now in
    let e = draft_view c.push_node.new.draft in
    let b = c.args.of_property in
    let P : Item → Type 0 = λ (i : Item). OpensBehind b (env_view c.args.env) c.args.tree (term.Value c.args.ending) d e i in
    let Q : Refuser → Type 0 = λ (r : Refuser). OpensBehind b (env_view c.args.env) c.args.tree (term.Value c.args.ending) d e (untaken_at c.args.tree.place r) in
    subst P (sym c.untaken.ensures) (subst Q (sym c.value_refuser-refuser.ensures) (value_untaken b (env_view c.args.env) c.args.tree c.args.ending d e c.in_ok-push_node.ensures))

pub returns : goal.returns
returns c = c.in_ok-indexed.ensures c.args.of_property (env_view c.args.env) (sym c.args.env.has_class_is)

pub open_led_value-requires-clause-class : goal.open_led_value-requires-clause-class
open_led_value-requires-clause-class c = sym c.in-Some.ensures

pub returns-in-Some : goal.returns-in-Some
returns-in-Some c = IfOk-weaker c.open_led_value.result _ _ (λ i o. o c.args.of_property (env_view c.args.env) (env_declares c.args.env c.requires.env)) c.open_led_value.ensures
