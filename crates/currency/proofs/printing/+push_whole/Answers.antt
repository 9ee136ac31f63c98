use Rattle.std.proofs.Common.{◌≡◌, ◌+◌, ◌%◌, List, ℕ, [], ◌∷◌, ◌++◌, ap, ◌∙◌, subst, arith}
use Rattle.std.specs.Prelude.{OnOk}
use Rattle.std.specs.Fmt.{decimal}
use Rattle.std.proofs.lemmas.List.{append_assoc}
use Rattle.currency.proofs.PrintedLaws.{decimal_more, decimal_one}
use Rattle.currency.proofs.printing.+push_whole.Goals as goal
use Rattle.currency.proofs.printing.+push_whole.Goals.{then-whole-ge10+in_ok-push_whole, else-whole-ge10}

pub returns : goal.returns
returns t c =
    let text = c.args.text.now in
    let whole = c.args.whole in
    let last : List ℕ = (48 + whole % 10) ∷ [] in
    let grown : c.if-whole-ge10.text ++ last ≡ text ++ decimal whole =
    elim c.if-whole-ge10.branch [
      | then-whole-ge10+in_ok-push_whole w ↦
          ap (λ (l : List ℕ). l ++ last) (w.text-is ∙ w.in_ok-push_whole.ensures)
          ∙ append_assoc text _ last ∙ ap (λ (l : List ℕ). text ++ l) (decimal_more whole (omega arith) (omega arith))
      | else-whole-ge10 w ↦
          ap (λ (l : List ℕ). l ++ last) w.text-is ∙ ap (λ (l : List ℕ). text ++ l) (decimal_one whole (omega arith))
    ] in
    subst (λ (l : List ℕ). OnOk c.push.result (c.push.new.self ≡ l)) grown c.push.ensures.ok
