use Rattle.std.proofs.Common.{◌≡◌, ◌+◌, ◌%◌, List, ℕ, [], ◌∷◌, ◌++◌, ap, ◌∙◌, subst, arith}
use Rattle.std.specs.Prelude.{OnOk}
use Rattle.std.specs.Fmt.{decimal}
use Rattle.std.proofs.lemmas.List.{append_assoc}
use Rattle.currency.proofs.PrintedLaws.{decimal_more, decimal_one}
use Rattle.sheet_host.proofs.printing.+push_row.Goals as goal
use Rattle.sheet_host.proofs.printing.+push_row.Goals.{then-row-ge10+in_ok-push_row, else-row-ge10}

pub returns : goal.returns
returns t c =
    let text = c.args.text.now in
    let row = c.args.row in
    let last : List ℕ = (48 + row % 10) ∷ [] in
    let grown : c.if-row-ge10.text ++ last ≡ text ++ decimal row =
    elim c.if-row-ge10.branch [
      | then-row-ge10+in_ok-push_row w ↦
          ap (λ (l : List ℕ). l ++ last) (w.text-is ∙ w.in_ok-push_row.ensures)
          ∙ append_assoc text _ last ∙ ap (λ (l : List ℕ). text ++ l) (decimal_more row (omega arith) (omega arith))
      | else-row-ge10 w ↦
          ap (λ (l : List ℕ). l ++ last) w.text-is ∙ ap (λ (l : List ℕ). text ++ l) (decimal_one row (omega arith))
    ] in
    subst (λ (l : List ℕ). OnOk c.push.result (c.push.new.self ≡ l)) grown c.push.ensures.ok
