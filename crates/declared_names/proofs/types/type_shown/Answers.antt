use Rattle.std.proofs.Common.{◌≡◌, ◌||◌, Bool, IfOk, option_map, subst}
use Rattle.binder.specs.Scopes.{is_seen}
use Rattle.binder.specs.Types.{type_in}
use Rattle.declared_names.specs.View.{scope_view, space_view, type_meant_view}
use Rattle.declared_names.proofs.types.type_shown.Goals as goal

pub returns : goal.returns
returns c =
    let space = space_view c.args.space.now in
    let P : Bool → Type 0 = λ own. IfOk c.type_in.result (λ found. option_map type_meant_view found ≡ type_in (scope_view c.args.scope) (λ e. own || is_seen space e) space c.args.name.now) in
    subst P c.is_same_space-is_own.ensures c.type_in.ensures
