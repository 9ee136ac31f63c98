use Rattle.std.proofs.Common.{◌≡◌, ℕ, subst}
use Rattle.std.specs.Prelude.{IfOk}
use Rattle.binder.specs.Numbering as numbering
use Rattle.module_parts.specs.View.{parts_view}
use Rattle.statement_numbers.specs.View.{awaited_view, sought_view, standing_view}
use Rattle.statement_numbers.proofs.Stacks.{behind_sought}
use Rattle.statement_numbers.proofs.standing.Standing.sought_behind.Goals as goal

pub returns : goal.returns
returns c =
    let counted = rw (c.part.ensures) at c.in_ok-part_count.ensures in
    let found : numbering.sought (sought_view c.args.what) (awaited_view c.behind.result) c.in_ok-number.number (parts_view c.rest.result.now)
    ≡ numbering.sought_behind (sought_view c.args.what) (standing_view c.args.self.now) =
    behind_sought (sought_view c.args.what) c.args.self.now c.bracket.result (awaited_view c.behind.result) c.in_ok-number.number _ (parts_view c.rest.result.now)
    c.bracket.ensures c.behind.ensures counted c.in_ok-number.ensures c.rest.ensures in
    subst (λ (m : ℕ). IfOk c.number_sought.result (λ n. n ≡ m)) found c.number_sought.ensures
