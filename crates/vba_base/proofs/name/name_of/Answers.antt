-- At the end nothing is left to fold.
use Rattle.std.proofs.Common.{◌++◌, sym, ap, ◌∙◌, append-nil}
use Rattle.std.proofs.lemmas.Bool.{eqb-true}
use Rattle.std.proofs.lemmas.List.{nil_from_length}
use Rattle.vba_base.specs.Fold.{folded}
use Rattle.vba_base.proofs.Folds.{folded-nil}
use Rattle.vba_base.proofs.name.name_of.Goals as goal

pub returns : goal.returns
returns c =
    let none_left = nil_from_length c.loop-rest.rest.now (eqb-true _ _ (sym c.loop-rest-test.ensures)) in
    sym (append-nil c.loop-rest.units) ∙ sym (ap (λ units. c.loop-rest.units ++ units) (ap folded none_left ∙ folded-nil)) ∙ c.loop-rest.invariant
