use Rattle.std.proofs.Common.{◌≡◌, true, false, [], length, sym, ap, ◌∙◌, eq-eqb}
use Rattle.std.proofs.lemmas.Bool.{eqb-true}
use Rattle.std.proofs.lemmas.List.{nil_from_length}
use Rattle.std.specs.Prelude.{map}
use Rattle.bound_project.specs.DraftView.{draft_view}
use Rattle.bound_project.specs.View.{parameter_view}
use Rattle.bound_terms.specs.bound_accesses.specs.bound_names.specs.View.{env_view}
use Rattle.statement_terms.proofs.NamedCalls.{acts_raise_named, acts_raise_plain}
use Rattle.std.proofs.lemmas.Result.{IfOk-weaker}
use Rattle.bound_actions.proofs.Refusing.{raise_refused}
use Rattle.bound_actions.proofs.raising.raise_with.Goals as goal

pub returns-then-is_empty : goal.returns-then-is_empty
returns-then-is_empty c =
    let read = c.in_ok-passed in
    let v = read.named in
    let empty : v.items ≡ [] = nil_from_length v.items (sym v.ok.0 ∙ eqb-true v.len 0 (sym c.if-is_empty.ensures)) in
    acts_raise_plain (env_view c.args.env) c.args.place c.args.nodes.now c.args.parameters.now read.passed v.items (draft_view c.args.draft.now) (draft_view c.read_named.new.draft) (draft_view c.push_rest.new.draft)
    c.in_ok-_written._written c.in_ok-_written.arguments c.requires.raised empty read.ensures c.in_ok-_written.ensures

pub returns : goal.returns
returns c =
    let read = c.in_ok-passed in
    let v = read.named in
    let some : v.items ≡ [] → ⊥ = λ e. let z : v.len ≡ 0 = v.ok.0 ∙ ap (λ l. length l) e in let wrong : true ≡ false = sym (eq-eqb v.len 0 z) ∙ sym c.if-is_empty.ensures in absurd cc in
    acts_raise_named (env_view c.args.env) c.args.place c.args.nodes.now c.args.parameters.now read.passed v.items c.in_ok-ordered.ordered (draft_view c.args.draft.now) (draft_view c.read_named.new.draft) (draft_view c.push_in_order.new.draft)
    c.requires.raised some read.ensures c.in_ok-ordered.ensures

pub returns-then-not-is_taken : goal.returns-then-not-is_taken
returns-then-not-is_taken c =
    let d = draft_view c.args.draft.now in
    let e = draft_view c.refuse_arguments.new.draft in
    IfOk-weaker c.refuse_arguments.result _ _ (λ k r. raise_refused (env_view c.args.env) c.args.place (map parameter_view c.args.parameters.now) c.args.nodes.now d e k c.requires.raised r) c.refuse_arguments.ensures
