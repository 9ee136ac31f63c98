use Rattle.std.proofs.Common.{◌≡◌, ◌&&◌, map, drop}
use Rattle.binder.specs.Declarations.{Local}
use Rattle.binder.specs.Scopes.{counts_here, first_at, is_named}
use Rattle.declared_names.specs.View.{local_view, use_view}
use Rattle.declared_names.proofs.lookup.in_procedure.Given as goal

abbrev pub invariant-loop-number : goal.invariant-loop-number
invariant-loop-number l =
    first_at (λ (x : Local). is_named l.name.name x.name && counts_here (use_view l.how) x.own) l.number (map local_view (drop l.number l.scope.locals.now))
    ≡ first_at (λ (x : Local). is_named l.name.name x.name && counts_here (use_view l.how) x.own) 0 (map local_view l.scope.locals.now)
