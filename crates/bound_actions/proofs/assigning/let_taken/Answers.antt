use Rattle.std.proofs.Common.{◌≡◌, true, false, [], length, sym, subst, ap, ◌∙◌, eq-eqb}
use Rattle.std.proofs.lemmas.Bool.{eqb-true}
use Rattle.std.proofs.lemmas.List.{nil_from_length}
use Rattle.std.specs.Prelude.{map}
use Rattle.bound_project.specs.DraftView.{draft_view}
use Rattle.bound_project.specs.View.{parameter_view}
use Rattle.bound_project.specs.declared.statement.ActionKind.{ActionKind}
use Rattle.bound_terms.specs.bound_accesses.specs.bound_names.specs.View.{env_view}
use Rattle.statement_terms.specs.Called.{LetsTaken, is_method}
use Rattle.statement_terms.proofs.NamedLets.{lets_named, lets_plain}
use Rattle.bound_actions.proofs.assigning.let_taken.Goals as goal

pub returns-then-is_empty : goal.returns-then-is_empty
returns-then-is_empty c =
    let read = c.in_ok-passed in
    let v = read.named in
    let p = c.args.property in
    let env = env_view c.args.env in
    let d = draft_view c.args.draft.now in
    let e = draft_view c.push_rest.new.draft in
    let empty : v.items ≡ [] = nil_from_length v.items (sym v.ok.0 ∙ eqb-true v.len 0 (sym c.if-is_empty.ensures)) in
    let P : ActionKind → Type 0 = λ (k : ActionKind). LetsTaken env (map parameter_view c.args.front.now) (is_method p.receiver) p.is_itself p.procedure p.of c.args.nodes.now d e k in
    subst P (sym c.property_kind.ensures)
    (lets_plain (is_method p.receiver) p.is_itself env c.args.front.now p.procedure p.of c.args.nodes.now read.passed v.items c.in_ok-_written._written c.in_ok-_written.arguments d (draft_view c.read_named.new.draft) e empty read.ensures
    c.in_ok-_written.ensures)

pub returns : goal.returns
returns c =
    let read = c.in_ok-passed in
    let v = read.named in
    let p = c.args.property in
    let env = env_view c.args.env in
    let d = draft_view c.args.draft.now in
    let e = draft_view c.push_in_order.new.draft in
    let some : v.items ≡ [] → ⊥ = λ q. let z : v.len ≡ 0 = v.ok.0 ∙ ap (λ l. length l) q in let wrong : true ≡ false = sym (eq-eqb v.len 0 z) ∙ sym c.if-is_empty.ensures in absurd cc in
    let P : ActionKind → Type 0 = λ (k : ActionKind). LetsTaken env (map parameter_view c.args.front.now) (is_method p.receiver) p.is_itself p.procedure p.of c.args.nodes.now d e k in
    subst P (sym c.ordered_kind.ensures)
    (lets_named (is_method p.receiver) p.is_itself env c.args.front.now p.procedure p.of c.args.nodes.now read.passed v.items c.in_ok-ordered.ordered d (draft_view c.read_named.new.draft) e some read.ensures c.in_ok-ordered.ensures)
