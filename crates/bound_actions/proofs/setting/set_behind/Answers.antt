use Rattle.std.proofs.Common.{Bool, sym, subst}
use Rattle.std.specs.Prelude.{MatchBool}
use Rattle.std.proofs.lemmas.Result.{IfOk-weaker}
use Rattle.bound_project.specs.DraftView.{draft_view}
use Rattle.bound_terms.specs.bound_accesses.specs.Items.{KeepsItem}
use Rattle.bound_terms.specs.bound_accesses.specs.bound_names.specs.bound_members.specs.bound_calls.specs.declared.term.Term.{Term}
use Rattle.bound_terms.specs.bound_accesses.specs.bound_names.specs.bound_members.specs.bound_calls.specs.Standing.{TermNamed}
use Rattle.bound_terms.specs.bound_accesses.specs.bound_names.specs.View.{env_view}
use Rattle.bound_actions.proofs.ClassItems.{sets_class}
use Rattle.bound_actions.proofs.SetTargets.{sets_indexed, sets_item, sets_led, sets_let}
use Rattle.bound_actions.proofs.setting.set_behind.Goals as goal

pub let_given-requires-clause-writer : goal.let_given-requires-clause-writer
let_given-requires-clause-writer c = c.in-Some.ensures.writer

pub give_led-requires-clause-class : goal.give_led-requires-clause-class
give_led-requires-clause-class c = sym c.in-Some-term_class.ensures

pub lead_from-requires-clause-named : goal.lead_from-requires-clause-named
lead_from-requires-clause-named c =
    let N : Term → Type 0 = λ (x : Term). TermNamed (draft_view c.args.draft.now).tables x in subst N c.in-Some-late_value.ensures.is c.requires.named

pub lead_from-requires-clause-late : goal.lead_from-requires-clause-late
lead_from-requires-clause-late c = c.in-Some-late_value.ensures.late

pub set_indexed-requires-clause-keeps : goal.set_indexed-requires-clause-keeps
set_indexed-requires-clause-keeps c =
    let K : Bool → Type 0 = λ (b : Bool). MatchBool b (Unit {0}) (KeepsItem c.args.env.has_class (draft_view c.args.draft.now).tables c.args.before.term) in subst K c.if-takes_item.false c.takes_item.ensures

pub returns-in-Some : goal.returns-in-Some
returns-in-Some c =
    let d = draft_view c.args.draft.now in
    let e = draft_view c.let_given.new.draft in
    IfOk-weaker c.let_given.result _ _ (λ k h. sets_let c.args.set_word (env_view c.args.env) c.args.before c.args.split c.in-Some.setter d e k c.in-Some.ensures h) c.let_given.ensures

pub returns-then-takes_item : goal.returns-then-takes_item
returns-then-takes_item c =
    let d = draft_view c.args.draft.now in
    let e = draft_view c.set_item.new.draft in
    IfOk-weaker c.set_item.result _ _ (λ k s. sets_item c.args.set_word (env_view c.args.env) c.args.before c.args.split d e k s) c.set_item.ensures

pub returns-in-Some-term_class : goal.returns-in-Some-term_class
returns-in-Some-term_class c =
    let d = draft_view c.args.draft.now in
    let e = draft_view c.give_led.new.draft in
    IfOk-weaker c.give_led.result _ _
    (λ k h. sets_class c.args.set_word (env_view c.args.env) c.args.before c.args.split c.in-Some-term_class.class d e k c.requires.one (sym c.in-Some-term_class.ensures) h) c.give_led.ensures

pub returns-in-Some-late_value : goal.returns-in-Some-late_value
returns-in-Some-late_value c =
    let has = c.args.env.has_class in
    let d = draft_view c.args.draft.now in
    let e = draft_view c.lead_from.new.draft in
    let K : Bool → Type 0 = λ (b : Bool). MatchBool b (Unit {0}) (KeepsItem has d.tables c.args.before.term) in
    sets_led c.args.set_word has (env_view c.args.env) (sym c.args.env.has_class_is) c.args.before c.args.split c.in-Some-late_value.ending d e c.in_ok-numbers.numbers c.requires.one c.in_default.ensures (subst K c.if-takes_item.false c.takes_item.ensures)
    (sym c.in_default-term_class.ensures) c.in-Some-late_value.ensures c.in_ok-numbers.ensures

pub returns : goal.returns
returns c =
    let has = c.args.env.has_class in
    let d = draft_view c.args.draft.now in
    let e = draft_view c.set_indexed.new.draft in
    let K : Bool → Type 0 = λ (b : Bool). MatchBool b (Unit {0}) (KeepsItem has d.tables c.args.before.term) in
    IfOk-weaker c.set_indexed.result _ _
    (λ k s. sets_indexed c.args.set_word has (env_view c.args.env) (sym c.args.env.has_class_is) c.args.before c.args.split d e k c.requires.one c.in_default.ensures (subst K c.if-takes_item.false c.takes_item.ensures)
    (sym c.in_default-term_class.ensures) s) c.set_indexed.ensures
