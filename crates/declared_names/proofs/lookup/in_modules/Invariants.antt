use Rattle.std.proofs.Common.{◌≡◌, map, drop}
use Rattle.binder.specs.Scopes.{counts, in_modules}
use Rattle.declared_names.specs.View.{space_view, use_view}
use Rattle.declared_names.proofs.lookup.in_modules.Given as goal

abbrev pub invariant-loop-space : goal.invariant-loop-space
invariant-loop-space l =
    in_modules (λ e. counts (use_view l.how) e.what) (map space_view (drop l.space-index l.spaces)) l.name
    ≡ in_modules (λ e. counts (use_view l.how) e.what) (map space_view l.spaces) l.name
