use Rattle.std.proofs.Common.{◌≡◌, subst, Option}
use Rattle.std.specs.Prelude.{IfOk}
use Rattle.vba_tree.specs.View.{constant_view}
use Rattle.declared_names.specs.binder.specs.Constants.{Known}
use Rattle.constant_values.specs.View.{names_view, slot_view}
use Rattle.constant_values.proofs.ByTables.{constant_known}
use Rattle.constant_values.proofs.api.constant_value.Goals as goal

pub returns : goal.returns
returns c =
    subst (λ (value : Option Known). IfOk c.constant_in.result (λ v. slot_view v ≡ value))
    (constant_known c.args.constants (names_view c.names.result) (constant_view c.args.constant.now) c.requires c.names.ensures) c.constant_in.ensures
