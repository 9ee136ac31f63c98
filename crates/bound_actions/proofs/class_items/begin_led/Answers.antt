use Rattle.std.proofs.Common.{◌≡◌, Some, sym, subst}
use Rattle.std.specs.Prelude.{IfOk}
use Rattle.std.proofs.lemmas.Result.{IfOk-weaker}
use Rattle.bound_project.specs.DraftView.{draft_view}
use Rattle.bound_project.specs.View.{declarations_view}
use Rattle.bound_terms.specs.bound_accesses.specs.bound_names.specs.bound_members.specs.bound_calls.specs.declared.term.Term.{Term}
use Rattle.bound_terms.specs.bound_accesses.specs.bound_names.specs.bound_members.specs.bound_calls.specs.Standing.{TermNamed}
use Rattle.bound_terms.specs.bound_accesses.specs.bound_names.specs.View.{env_view}
use Rattle.bound_terms.specs.bound_accesses.specs.bound_names.proofs.Declaring.{env_declares}
use Rattle.bound_actions.specs.ClassItems.{BeginsAt, term_class}
use Rattle.bound_actions.proofs.ClassItems.{begins_led}
use Rattle.bound_actions.proofs.class_items.begin_led.Goals as goal

pub begin_place-requires-clause-named : goal.begin_place-requires-clause-named
begin_place-requires-clause-named c = (let N : Term → Type 0 = λ (x : Term). TermNamed (draft_view c.args.draft.now).tables x in subst N c.in-Place.is c.requires.named)

pub begin_place-requires-clause-class : goal.begin_place-requires-clause-class
begin_place-requires-clause-class c = (let K : Term → Type 0 = λ (x : Term). term_class x ≡ Some c.args.class in subst K c.in-Place.is c.requires.class)

pub led_as_place-requires-clause-named : goal.led_as_place-requires-clause-named
led_as_place-requires-clause-named c = (let N : Term → Type 0 = λ (x : Term). TermNamed (draft_view c.args.draft.now).tables x in subst N c.in-Value.is c.requires.named)

pub led_as_place-requires-clause-class : goal.led_as_place-requires-clause-class
led_as_place-requires-clause-class c = (let K : Term → Type 0 = λ (x : Term). term_class x ≡ Some c.args.class in subst K c.in-Value.is c.requires.class)

pub returns-in-Place : goal.returns-in-Place
returns-in-Place c =
    let P : Term → Type 0 = λ (x : Term). IfOk c.begin_place.result (λ i. BeginsAt (env_view c.args.env) c.args.tree.place x (draft_view c.args.draft.now) (draft_view c.begin_place.new.draft) i) in
    subst P (sym c.in-Place.is) (IfOk-weaker c.begin_place.result _ _ (λ i b. b c.in-Place.bounds) c.begin_place.ensures)

pub returns-in-Value : goal.returns-in-Value
returns-in-Value c =
    let d = draft_view c.args.draft.now in
    let e = draft_view c.led_as_place.new.draft in
    let P : Term → Type 0 = λ (x : Term). IfOk c.led_as_place.result (λ i. BeginsAt (env_view c.args.env) c.args.tree.place x d e i) in
    subst P (sym c.in-Value.is) (IfOk-weaker c.led_as_place.result _ _
    (λ i p. begins_led (env_view c.args.env) (declarations_view c.args.env.declared.now) (env_declares c.args.env c.requires.env) c.args.tree.place c.in-Value.ending c.args.count d e i p) c.led_as_place.ensures)
