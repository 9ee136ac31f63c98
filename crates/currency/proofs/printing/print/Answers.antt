use Rattle.std.proofs.Common.{◌≡◌, List, ℕ, [], ◌∷◌, ◌++◌, ap, ◌∙◌, w64, pos, FitsSigned, ◌<ℤ◌, ◌≤ℤ◌, unsigned_abs, arith, rules}
use Rattle.std.proofs.lemmas.Int.{ints, to_z-of_z}
use Rattle.currency.specs.NumberText.{minus}
use Rattle.currency.proofs.PrintedLaws.{negative_parts, positive_parts}
use Rattle.currency.proofs.printing.print.Goals as goal
use Rattle.currency.proofs.printing.print.Goals.{then-count-lt0+in_ok-push, else-count-lt0}

pub returns : goal.returns
returns c =
    let value = c.args.value in
    let fits : FitsSigned w64 c.count-count.result = search rules in
    let size : c.unsigned_abs-size.result ≡ unsigned_abs value =
    c.unsigned_abs-size.ensures.value ∙ ap unsigned_abs (to_z-of_z w64 c.count-count.result fits ∙ c.count-count.ensures) in
    elim c.if-count-lt0.branch [
      | then-count-lt0+in_ok-push w ↦
          let under : value <ℤ pos 0 = omega (arith, ints, c.count-count.ensures) in
          negative_parts value c.unsigned_abs-size.result c.if-count-lt0.text c.push_whole.new.text c.push_fraction.new.text size under
          (w.text-is ∙ w.in_ok-push.ensures.ok ∙ ap (λ (l : List ℕ). l ++ minus ∷ []) c.new-text.ensures)
          c.in_ok-push_whole.ensures c.in_ok-push_fraction.ensures
      | else-count-lt0 w ↦
          let over : pos 0 ≤ℤ value = omega (arith, ints, c.count-count.ensures) in
          positive_parts value c.unsigned_abs-size.result c.if-count-lt0.text c.push_whole.new.text c.push_fraction.new.text size over
          (w.text-is ∙ c.new-text.ensures)
          c.in_ok-push_whole.ensures c.in_ok-push_fraction.ensures
    ]
