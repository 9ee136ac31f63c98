use Rattle.std.proofs.Common.{◌≡◌, ◌<◌, ℕ, List, length, subst, arith}
use Rattle.std.specs.Prelude.{◌↔◌, IsTrue}
use Rattle.std.proofs.lemmas.List.{length-map}
use Rattle.bound_project.specs.View.{class_view, declaration_view}
use Rattle.bound_project.specs.Whole.{All}
use Rattle.code_check.proofs.handlers.has_sources.Goals as goal

pub returns : goal.returns
returns c =
    let x = c.args.class.now in
    let told = c.are_fields.result in
    let A : List ℕ → Type 0 = λ l. IsTrue told ↔ All (λ (i : ℕ). i < c.len.result) l in
    let B : ℕ → Type 0 = λ n. IsTrue told ↔ All (λ (i : ℕ). i < n) x.with_events.items in
    let same : c.len.result ≡ length (class_view x).fields = omega (arith, length-map x.fields.items declaration_view, c.len.ensures, x.fields.ok.0) in
    subst B same (subst A c.as_slice.ensures.value c.are_fields.ensures)
