use Rattle.std.proofs.Common.{◌≡◌, ℕ, List, [], sym, subst, ◌∙◌}
use Rattle.std.specs.Prelude.{reverse}
use Rattle.std.proofs.lemmas.Bool.{eqb-true}
use Rattle.std.proofs.lemmas.List.{nil_from_length}
use Rattle.bound_project.specs.DraftView.{draft_view}
use Rattle.statement_terms.specs.NamedCalls.{PushesNamed}
use Rattle.statement_terms.proofs.NamedCalls.{pushes_plain}
use Rattle.statement_terms.proofs.statement_calls.push_given.Goals as goal

pub returns-then-is_empty : goal.returns-then-is_empty
returns-then-is_empty c =
    let d = draft_view c.args.draft.now in
    let e = draft_view c.push_call.new.draft in
    let v = c.args.named in
    let empty : v.items ≡ [] = nil_from_length v.items (sym v.ok.0 ∙ eqb-true v.len 0 (sym c.if-is_empty.ensures)) in
    let A : List ℕ → Type 0 = λ l. PushesNamed c.args.routine c.args.passed (reverse l) c.args.place d e in
    subst A (sym empty) (pushes_plain c.args.routine c.args.passed c.args.place d e c.in_ok-push_call.ensures)
