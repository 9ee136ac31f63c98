use Rattle.std.proofs.Common.{subst}
use Rattle.bound_project.specs.DraftView.{draft_view}
use Rattle.bound_terms.specs.bound_accesses.specs.bound_names.specs.bound_members.specs.bound_calls.specs.declared.term.Item.{Item}
use Rattle.bound_terms.specs.bound_accesses.specs.bound_names.specs.bound_members.specs.bound_calls.specs.declared.term.Term.TheVariants as term
use Rattle.bound_terms.specs.bound_accesses.specs.bound_names.specs.bound_members.specs.bound_calls.specs.Indexing.{OpensTerm}
use Rattle.bound_terms.specs.bound_accesses.specs.bound_names.specs.View.{env_view}
use Rattle.bound_terms.specs.bound_accesses.specs.bound_names.proofs.Declaring.{env_declares}
use Rattle.bound_actions.proofs.ClassItems.{begins_opened}
use Rattle.bound_actions.proofs.class_items.begin_place.Goals as goal

pub open_led_place-requires-clause-named : goal.open_led_place-requires-clause-named
open_led_place-requires-clause-named c = c.requires.named

pub open_led_place-requires-clause-class : goal.open_led_place-requires-clause-class
open_led_place-requires-clause-class c = c.requires.class

pub returns : goal.returns
returns c = λ bounded.
    let env = env_view c.args.env in
    let d = draft_view c.args.draft.now in
    let e = draft_view c.open_led_place.new.draft in
    let y = term.Place c.args.at.kind c.args.at.of bounded c.args.lends c.args.makes in
    let O : Item → Type 0 = λ (i : Item). OpensTerm env c.args.tree y d e i in
    begins_opened env c.args.tree y d e c.in-Indexed.indexed (subst O c.in-Indexed.is (c.in_ok-item.ensures env (env_declares c.args.env c.requires.env) bounded))
