use Rattle.std.proofs.Common.{rules, subst, FitsSigned, ◌∙◌}
use Rattle.std.specs.Int.{w64}
use Rattle.std.proofs.lemmas.Int.{to_z-of_z}
use Rattle.vba_values.specs.Errors.{Answers}
use Rattle.vba_values.specs.Texts.{amount}
use Rattle.vba_values.specs.View.{view}
use Rattle.vba_values.proofs.Products.{times_number}
use Rattle.vba_values.proofs.arithmetic.amount_by_number.Goals as goal

pub returns-in-None : goal.returns-in-None
returns-in-None c =
    let count_fits : FitsSigned w64 c.count.result = search rules in
    let number_fits : FitsSigned w64 c.number_of.result = search rules in
    subst (λ n. Answers view c.amount_times.result (amount n))
    (times_number c.args.left _ _ _ c.in-None.ensures
    (to_z-of_z w64 _ count_fits ∙ c.count.ensures)
    (to_z-of_z w64 _ number_fits ∙ c.number_of.ensures.value))
    c.amount_times.ensures
