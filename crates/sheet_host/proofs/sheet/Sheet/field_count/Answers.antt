use Rattle.std.proofs.Common.{rules, ◌-◌, ◌≤◌, sym, subst}
use Rattle.sheet_host.proofs.Fields.{short_row}
use Rattle.sheet_host.proofs.sheet.Sheet.field_count.Goals as goal

pub overflow_cast-result : goal.overflow_cast-result
overflow_cast-result c =
    let few : c.field_count.result ≤ 16384 = subst (λ n. n ≤ 16384) (sym c.field_count.ensures) (short_row c.self.inside.rows (c.args.row - 1) c.self.invariant.short) in
    search rules

pub returns-clause-inside : goal.returns-clause-inside
returns-clause-inside c = subst (λ n. n ≤ 16384) (sym c.field_count.ensures) (short_row c.self.inside.rows (c.args.row - 1) c.self.invariant.short)
