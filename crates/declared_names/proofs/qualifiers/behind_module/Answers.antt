use Rattle.std.proofs.Common.{◌&&◌, ◌||◌, ◌∙◌, ap}
use Rattle.binder.specs.Scopes.{counts, entry_of, is_seen}
use Rattle.declared_names.specs.View.{space_view, use_view}
use Rattle.declared_names.proofs.qualifiers.behind_module.Goals as goal

pub returns : goal.returns
returns c =
    let space = space_view c.args.space.now in
    c.entry_of.ensures
    ∙ ap (λ own. entry_of (λ e. (own || is_seen space e) && counts (use_view c.args.how) e.what) space c.args.name.now) c.is_same_space-is_own.ensures
