use Rattle.std.proofs.Common.{◌≡◌, [], sym, ◌∙◌}
use Rattle.std.specs.Prelude.{map}
use Rattle.std.proofs.lemmas.Bool.{eqb-true}
use Rattle.std.proofs.lemmas.List.{nil_from_length}
use Rattle.bound_project.specs.DraftView.{draft_view}
use Rattle.bound_project.specs.View.{parameter_view}
use Rattle.bound_terms.specs.bound_accesses.specs.bound_names.specs.View.{env_view}
use Rattle.statement_terms.proofs.NamedCalls.{acts_routine}
use Rattle.bound_actions.proofs.NamedCalls.{acts_values, reads_named}
use Rattle.bound_actions.proofs.statement_calls.call_routine.Goals as goal

pub returns-then-values-eq0 : goal.returns-then-values-eq0
returns-then-values-eq0 c =
    let read = c.in_ok-passed in
    let env = env_view c.args.env in
    let ns = c.args.nodes.now in
    let d = draft_view c.args.draft.now in
    let m = draft_view c.read_written.new.draft in
    let r0 = draft_view c.push_receiver.new.draft in
    acts_routine env c.args.routine read.passed read.named.items c.args.place ns d r0 m (draft_view c.push_given.new.draft) c.in_ok-push_receiver.ensures
    (reads_named env ns (map parameter_view c.args.routine.parameters.now) read.passed read.named.items read.values r0 m c.if-values-eq0.true read.ensures)
    c.in_ok-push_given.ensures

pub returns : goal.returns
returns c =
    let read = c.in_ok-passed in
    let v = read.named in
    let empty : v.items ≡ [] = nil_from_length v.items (sym v.ok.0 ∙ eqb-true v.len 0 (sym c.if-not-is_empty.ensures)) in
    acts_values (env_view c.args.env) c.args.routine read.passed v.items read.values c.args.place c.args.nodes.now (draft_view c.args.draft.now) (draft_view c.push_receiver.new.draft) (draft_view c.read_written.new.draft)
    (draft_view c.push_values.new.draft) c.in_ok-push_receiver.ensures empty c.if-values-eq0.false read.ensures
    c.in_ok-push_values.ensures
