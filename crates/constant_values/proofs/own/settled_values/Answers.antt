use Rattle.std.proofs.Common.{◌≡◌, List, Option, None, refl, ap, ◌∙◌}
use Rattle.std.specs.declared.alloc.Global.{Global}
use Rattle.std.specs.declared.vec.Vec.{Vec}
use Rattle.declared_names.specs.View.{scope_view}
use Rattle.constant_values.specs.declared.known.Known.{Known as Slot}
use Rattle.constant_values.specs.Tables.{repeated_locals}
use Rattle.constant_values.specs.View.{slots_view, tables_view}
use Rattle.constant_values.proofs.Kept.{settled_own}
use Rattle.constant_values.proofs.own.settled_values.Goals as goal

pub returns : goal.returns
returns c =
    let behind = slots_view c.args.behind.items in
    settled_own c.args.scope c.args.project.now (record { slots = c.in_ok-slots.slots; entries = None }) c.in_ok-more.more behind c.requires.placed c.requires.values c.requires.settled c.in_ok-more.ensures
    c.requires.slots
    (c.in_ok-slots.ensures
    ∙ ap (λ (t : List (Vec (Option Slot) Global)). repeated_locals c.in_ok-more.more (scope_view c.args.scope) (tables_view t) behind) c.as_slice.ensures.value)
    refl
