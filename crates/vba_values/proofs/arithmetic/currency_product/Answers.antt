use Rattle.std.proofs.Common.{rules, subst, FitsSigned, ◌∙◌}
use Rattle.std.specs.Int.{w64}
use Rattle.std.proofs.lemmas.Int.{to_z-of_z}
use Rattle.vba_values.specs.Errors.{Answers}
use Rattle.vba_values.specs.Texts.{amount}
use Rattle.vba_values.specs.View.{view}
use Rattle.vba_values.proofs.Products.{number_times}
use Rattle.vba_values.proofs.arithmetic.currency_product.Goals as goal

pub returns-in-Some-amount_of : goal.returns-in-Some-amount_of
returns-in-Some-amount_of c =
    let count_fits : FitsSigned w64 c.count.result = search rules in
    let number_fits : FitsSigned w64 c.number_of.result = search rules in
    subst (λ n. Answers view c.amount_times.result (amount n))
    (number_times _ _ _ _ _ c.in-None.ensures c.in-Some-amount_of.ensures
    (to_z-of_z w64 _ count_fits ∙ c.count.ensures)
    (to_z-of_z w64 _ number_fits ∙ c.number_of.ensures.value))
    c.amount_times.ensures
