-- The least place of a module.
use Rattle.std.proofs.Common.{◌≡◌, List, ◌++◌, None, sym, ap, ◌∙◌}
use Rattle.vba_base.specs.declared.place.Place.{Place}
use Rattle.refusal_order.specs.Least.{least_of}
use Rattle.refusal_order.proofs.LeastFound.{least_of_append}
use Rattle.vba_module.specs.Verdict.{broken}
use Rattle.use_rules.specs.Found.{noted}
use Rattle.use_rules.proofs.Noted.{noted_broken}

-- what was noted of the two rules, one behind the other
pub module_found : (properties handlers : List Place)
    → noted 32 (noted 31 None properties) handlers ≡ least_of None (broken 31 properties ++ broken 32 handlers)
module_found properties handlers =
    noted_broken 32 (noted 31 None properties) handlers
    ∙ ap (λ found. least_of found (broken 32 handlers)) (noted_broken 31 None properties)
    ∙ sym (least_of_append None (broken 31 properties) (broken 32 handlers))
