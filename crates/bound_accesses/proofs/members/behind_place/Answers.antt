use Rattle.std.proofs.Common.{sym}
use Rattle.std.proofs.lemmas.Result.{IfOk-weaker}
use Rattle.bound_accesses.proofs.members.behind_place.Goals as goal

pub behind_class_place-requires-clause-class : goal.behind_class_place-requires-clause-class
behind_class_place-requires-clause-class c = sym c.in-Some.ensures

pub behind_plain_place-requires-clause-class : goal.behind_plain_place-requires-clause-class
behind_plain_place-requires-clause-class c = sym c.in-None.ensures

pub returns-in-Some : goal.returns-in-Some
returns-in-Some c = IfOk-weaker c.behind_class_place.result _ _ (λ y m bounds. m bounds c.args.lends) c.behind_class_place.ensures
