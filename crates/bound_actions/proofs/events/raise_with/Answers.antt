use Rattle.std.proofs.Common.{◌≡◌, true, false, List, [], map, length, sym, ap, subst, ◌∙◌, eq-eqb}
use Rattle.std.proofs.lemmas.Bool.{eqb-true}
use Rattle.std.proofs.lemmas.List.{nil_from_length}
use Rattle.std.proofs.lemmas.Result.{IfOk-weaker}
use Rattle.bound_project.specs.DraftView.{draft_view}
use Rattle.bound_project.specs.View.{parameter_view}
use Rattle.bound_project.specs.declared.declarations.Parameter.{Parameter}
use Rattle.bound_project.specs.declared.statement.ActionKind.TheVariants as action
use Rattle.bound_terms.specs.bound_accesses.specs.bound_names.specs.View.{env_view}
use Rattle.bound_actions.specs.Raised.{RaisesOn}
use Rattle.bound_actions.proofs.Raised.{event_left, event_ordered, event_refused}
use Rattle.bound_actions.proofs.events.raise_with.Goals as goal

pub returns-then-not-is_taken : goal.returns-then-not-is_taken
returns-then-not-is_taken c =
    let env = env_view c.args.env in
    let ns = c.args.nodes.now in
    let d = draft_view c.args.draft.now in
    let e = draft_view c.refuse_arguments.new.draft in
    IfOk-weaker c.refuse_arguments.result _ _ (λ k r.
    let A : List Parameter → Type 0 = λ l. RaisesOn env c.args.event (map parameter_view l) c.args.place ns d e k in
    subst A c.as_slice-parameters.ensures.value (event_refused env c.args.event (map parameter_view c.as_slice-parameters.result.now) c.args.place ns d e k r)) c.refuse_arguments.ensures

pub returns-then-is_empty : goal.returns-then-is_empty
returns-then-is_empty c =
    let env = env_view c.args.env in
    let ns = c.args.nodes.now in
    let d = draft_view c.args.draft.now in
    let m = draft_view c.read_written.new.draft in
    let e = draft_view c.push_left.new.draft in
    let read = c.in_ok-passed in
    let v = read.named in
    let all = c.in_ok-arguments.arguments in
    let empty : v.items ≡ [] = nil_from_length v.items (sym v.ok.0 ∙ eqb-true v.len 0 (sym c.if-is_empty.ensures)) in
    let A : List Parameter → Type 0 = λ l. RaisesOn env c.args.event (map parameter_view l) c.args.place ns d e (action.RaiseEvent c.args.event all) in
    subst A c.as_slice-parameters.ensures.value
    (event_left env c.args.event c.as_slice-parameters.result.now c.args.place read.passed v.items read.values all ns d m e empty read.ensures c.in_ok-arguments.ensures)

pub returns : goal.returns
returns c =
    let env = env_view c.args.env in
    let ns = c.args.nodes.now in
    let d = draft_view c.args.draft.now in
    let m = draft_view c.read_written.new.draft in
    let e = draft_view c.push_in_order.new.draft in
    let read = c.in_ok-passed in
    let v = read.named in
    let o = c.in_ok-ordered.ordered in
    let some : v.items ≡ [] → ⊥ = λ h. let z : v.len ≡ 0 = v.ok.0 ∙ ap (λ l. length l) h in let wrong : true ≡ false = sym (eq-eqb v.len 0 z) ∙ sym c.if-is_empty.ensures in absurd cc in
    let A : List Parameter → Type 0 = λ l. RaisesOn env c.args.event (map parameter_view l) c.args.place ns d e (action.RaiseEventInOrder c.args.event o.arguments o.order) in
    subst A c.as_slice-parameters.ensures.value
    (event_ordered env c.args.event c.as_slice-parameters.result.now c.args.place read.passed v.items read.values o ns d m e some c.if-values-ne0.false read.ensures c.in_ok-ordered.ensures)
