use Rattle.std.proofs.Common.{subst}
use Rattle.std.proofs.lemmas.Result.{IfOk-weaker}
use Rattle.bound_project.specs.declared.node.NodeKind.{NodeKind}
use Rattle.bound_project.specs.View.{declarations_view}
use Rattle.bound_members.specs.bound_calls.specs.Taking.{read_kind}
use Rattle.bound_members.specs.bound_calls.specs.class_defaults.specs.declared.known.Known.{Known}
use Rattle.statement_terms.specs.Targets.{WrittenIs}
use Rattle.statement_terms.proofs.targets.assign_default.Goals as goal

pub returns-in-Type : goal.returns-in-Type
returns-in-Type c =
    let all = declarations_view c.args.declared.now in
    let of = c.args.at.of in
    let K : NodeKind → Type 0 = λ (k : NodeKind). WrittenIs all (record { kind = k; of = of }) c.in-Some.found in
    let F : Known → Type 0 = λ (f : Known). WrittenIs all (record { kind = read_kind c.args.makes; of = of }) f in
    IfOk-weaker c.assign_through.result _ _ (λ k h bounds lends may. h all c.in-Type._of bounds lends may (subst F c.in-Type.is (subst K c.read_kind.ensures c.in-Some.ensures))) c.assign_through.ensures

pub returns-in_ok-broken-in-Breaks : goal.returns-in_ok-broken-in-Breaks
returns-in_ok-broken-in-Breaks c =
    let all = declarations_view c.args.declared.now in
    let of = c.args.at.of in
    let K : NodeKind → Type 0 = λ (k : NodeKind). WrittenIs all (record { kind = k; of = of }) c.in-Some.found in
    let F : Known → Type 0 = λ (f : Known). WrittenIs all (record { kind = read_kind c.args.makes; of = of }) f in
    λ bounds lends may. c.in_ok-broken-in-Breaks.ensures all c.args.has_class bounds lends may (subst F c.in-Breaks.is (subst K c.read_kind.ensures c.in-Some.ensures))
