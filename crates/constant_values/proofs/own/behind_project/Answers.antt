use Rattle.std.proofs.Common.{◌≡◌, List, Option, subst, ap, ◌∙◌}
use Rattle.std.specs.Prelude.{IfOk}
use Rattle.std.specs.declared.alloc.Global.{Global}
use Rattle.std.specs.declared.vec.Vec.{Vec}
use Rattle.declared_names.specs.binder.specs.Constants.{Known}
use Rattle.declared_names.specs.View.{scope_view}
use Rattle.constant_values.specs.declared.known.Known.{Known as Slot}
use Rattle.constant_values.specs.Tables.{passed, rounds_view}
use Rattle.constant_values.specs.View.{slots_view}
use Rattle.constant_values.proofs.Kept.{passed_all}
use Rattle.constant_values.proofs.own.behind_project.Goals as goal

pub returns : goal.returns
returns c =
    let first = slots_view c.in_ok-first.first.items in
    subst (λ (value : List (Option Known)). IfOk c.passed.result (λ v. slots_view v.items ≡ value))
    (ap (λ (rounds : List (Vec (Vec (Option Slot) Global) Global)). passed (scope_view c.args.scope) first (rounds_view rounds)) c.as_slice.ensures.value
    ∙ passed_all c.args.scope c.args.project.now first c.requires.placed c.requires.values c.in_ok-first.ensures) c.passed.ensures
