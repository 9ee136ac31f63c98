use Rattle.std.proofs.Common.{◌≡◌, List, ℕ, subst}
use Rattle.std.specs.Prelude.{bytes_eq, codes}
use Rattle.bound_project.specs.DraftView.{draft_view}
use Rattle.statement_terms.proofs.WrittenMembers.{read_named}
use Rattle.statement_terms.proofs.member_targets.is_read_named.Goals as goal

pub returns : goal.returns
returns c =
    let R : List ℕ → Type 0 = λ (l : List ℕ). c.is_word.result ≡ bytes_eq l (codes "raise") in
    read_named (draft_view c.args.draft.now).tables c.args.call c.is_word.result c.if-call-eq0.false c.if-call.false (subst R c.name.ensures c.is_word.ensures)
