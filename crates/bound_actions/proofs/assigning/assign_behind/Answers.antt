use Rattle.std.proofs.Common.{Bool, true, sym, subst}
use Rattle.std.proofs.lemmas.Result.{IfOk-weaker}
use Rattle.std.specs.Prelude.{MatchBool}
use Rattle.bound_project.specs.declared.statement.ActionKind.TheVariants as action
use Rattle.bound_project.specs.DraftView.{draft_view}
use Rattle.bound_terms.specs.bound_accesses.specs.Items.{KeepsItem}
use Rattle.bound_terms.specs.bound_accesses.specs.bound_names.specs.bound_members.specs.bound_calls.specs.declared.term.Term.{Term}
use Rattle.bound_terms.specs.bound_accesses.specs.bound_names.specs.bound_members.specs.bound_calls.specs.Standing.{TermNamed}
use Rattle.bound_terms.specs.bound_accesses.specs.bound_names.specs.View.{env_view}
use Rattle.bound_actions.proofs.Assigned.{assigns_indexed, assigns_led, assigns_let, assigns_member}
use Rattle.bound_actions.proofs.Behind.{behind_is}
use Rattle.bound_actions.proofs.ClassItems.{assigns_class}
use Rattle.bound_actions.proofs.assigning.assign_behind.Goals as goal

pub let_given-requires-clause-writer : goal.let_given-requires-clause-writer
let_given-requires-clause-writer c = c.in-Some.ensures.writer

pub give_led-requires-clause-class : goal.give_led-requires-clause-class
give_led-requires-clause-class c = sym c.in-Some-term_class.ensures

pub lead_from-requires-clause-named : goal.lead_from-requires-clause-named
lead_from-requires-clause-named c =
    let N : Term → Type 0 = λ (x : Term). TermNamed (draft_view c.args.draft.now).tables x in subst N c.in-Some-late_value.ensures.is c.requires.named

pub lead_from-requires-clause-late : goal.lead_from-requires-clause-late
lead_from-requires-clause-late c = c.in-Some-late_value.ensures.late

pub returns-in-Some : goal.returns-in-Some
returns-in-Some c =
    let d = draft_view c.args.draft.now in
    let e = draft_view c.let_given.new.draft in
    let k = c.in_ok-kind.kind in
    behind_is (env_view c.args.env) c.args.may_be c.args.before c.args.split d e k c.as_given.result.kind true c.as_given.result.is_given c.as_given.ensures.kind c.as_given.ensures.given
    (assigns_let (env_view c.args.env) c.args.may_be c.args.before c.args.split c.in-Some.writer d e k c.in-Some.ensures c.in_ok-kind.ensures)

pub returns-then-takes_item : goal.returns-then-takes_item
returns-then-takes_item c =
    let d = draft_view c.args.draft.now in
    let e = draft_view c.assign_item.new.draft in
    let k = c.in_ok-kind-2.kind in
    let done = c.as_given-then-takes_item in
    behind_is (env_view c.args.env) c.args.may_be c.args.before c.args.split d e k done.result.kind true done.result.is_given done.ensures.kind done.ensures.given
    (assigns_member (env_view c.args.env) c.args.may_be c.args.before c.args.split d e k c.in_ok-kind-2.ensures)

pub returns-in-Some-term_class : goal.returns-in-Some-term_class
returns-in-Some-term_class c =
    let has = c.args.env.has_class in
    let d = draft_view c.args.draft.now in
    let e = draft_view c.give_led.new.draft in
    let k = c.in_ok-led.led in
    let done = c.as_given-in-Some-term_class in
    let K : Bool → Type 0 = λ (b : Bool). MatchBool b (Unit {0}) (KeepsItem has d.tables c.args.before.term) in
    behind_is (env_view c.args.env) c.args.may_be c.args.before c.args.split d e k done.result.kind true done.result.is_given done.ensures.kind done.ensures.given
    (assigns_class has (env_view c.args.env) c.args.may_be (sym c.args.env.has_class_is) c.args.before c.args.split c.in-Some-term_class.class d e k c.requires.one c.in_default.ensures (subst K c.if-takes_item.false c.takes_item.ensures)
    (sym c.in-Some-term_class.ensures) c.in_ok-led.ensures)

pub returns-in-Some-late_value : goal.returns-in-Some-late_value
returns-in-Some-late_value c =
    let has = c.args.env.has_class in
    let d = draft_view c.args.draft.now in
    let e = draft_view c.lead_from.new.draft in
    let numbers = c.in_ok-numbers.numbers in
    let done = c.as_given-in-Some-late_value in
    let K : Bool → Type 0 = λ (b : Bool). MatchBool b (Unit {0}) (KeepsItem has d.tables c.args.before.term) in
    behind_is (env_view c.args.env) c.args.may_be c.args.before c.args.split d e (action.AssignElement numbers) done.result.kind true done.result.is_given done.ensures.kind done.ensures.given
    (assigns_led has (env_view c.args.env) c.args.may_be (sym c.args.env.has_class_is) c.args.before c.args.split c.in-Some-late_value.ending d e numbers c.requires.one c.in_default.ensures (subst K c.if-takes_item.false c.takes_item.ensures)
    (sym c.in_default-term_class.ensures) c.in-Some-late_value.ensures c.in_ok-numbers.ensures)

pub returns : goal.returns
returns c =
    let has = c.args.env.has_class in
    let d = draft_view c.args.draft.now in
    let e = draft_view c.assign_item_of.new.draft in
    let K : Bool → Type 0 = λ (b : Bool). MatchBool b (Unit {0}) (KeepsItem has d.tables c.args.before.term) in
    IfOk-weaker c.assign_item_of.result _ _
    (λ done i. assigns_indexed has (env_view c.args.env) c.args.may_be (sym c.args.env.has_class_is) c.args.before c.args.split d e done.kind done.is_given c.requires.one c.in_default.ensures
    (subst K c.if-takes_item.false c.takes_item.ensures) (sym c.in_default-term_class.ensures) i) c.assign_item_of.ensures
