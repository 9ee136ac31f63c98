use Rattle.std.proofs.Common.{subst}
use Rattle.std.proofs.lemmas.Result.{IfOk-weaker}
use Rattle.bound_members.specs.bound_calls.specs.class_defaults.specs.declared.known.Known.{Known}
use Rattle.statement_terms.specs.Targets.{WrittenIs}
use Rattle.statement_terms.proofs.WrittenTargets.{known_wrong}
use Rattle.statement_terms.proofs.targets.assign_known.Goals as goal

pub returns-in-Type : goal.returns-in-Type
returns-in-Type c =
    IfOk-weaker c.assign_written.result _ _
    (λ k h all may written. let F : Known → Type 0 = λ (f : Known). WrittenIs all c.args.ending f in h all c.in-Type._of may c.requires.gives (subst F c.in-Type.is written)) c.assign_written.ensures

pub returns-in-Breaks : goal.returns-in-Breaks
returns-in-Breaks c =
    IfOk-weaker c.assign_wrong.result _ _
    (λ k h all may broken. let F : Known → Type 0 = λ (f : Known). WrittenIs all c.args.ending f in
    h all c.args.has_class may (known_wrong all c.args.place c.args.ending c.in-Breaks.rule c.requires.gives (subst F c.in-Breaks.is broken))) c.assign_wrong.ensures
