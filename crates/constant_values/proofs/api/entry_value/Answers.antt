use Rattle.std.proofs.Common.{◌≡◌, Option, refl, subst}
use Rattle.std.specs.Prelude.{IfOk}
use Rattle.declared_names.specs.binder.specs.Constants.{Known}
use Rattle.declared_names.specs.View.{space_view, what_view}
use Rattle.constant_values.specs.View.{slot_view}
use Rattle.constant_values.proofs.ByTables.{entry_known}
use Rattle.constant_values.proofs.api.entry_value.Goals as goal

pub returns : goal.returns
returns c =
    subst (λ (value : Option Known). IfOk c.entry_in.result (λ v. slot_view v ≡ value))
    (entry_known c.args.constants _ _ (space_view c.args.space.now) (what_view c.args.what) c.requires.values c.requires.placed refl refl)
    c.entry_in.ensures
