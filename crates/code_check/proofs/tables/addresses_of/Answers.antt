use Rattle.std.proofs.Common.{◌≡◌, ◌<◌, ◌≤◌, length, arith}
use Rattle.pcode.specs.View.{code_view}
use Rattle.pcode.specs.WellFormed.{statement_count}
use Rattle.code_check.proofs.Entries.{none_past, no_address, addresses_are}
use Rattle.code_check.proofs.tables.addresses_of.Goals as goal

pub returns-then-procedure-procedure_count : goal.returns-then-procedure-procedure_count
returns-then-procedure-procedure_count c =
    let code = code_view c.args.code.now in
    let past : length code.entries ≤ c.args.procedure = omega (arith, c.procedure_count.ensures) in
    no_address code c.args.procedure (none_past code.entries c.args.procedure past)

pub returns-then-statement_count-eq0 : goal.returns-then-statement_count-eq0
returns-then-statement_count-eq0 c =
    let code = code_view c.args.code.now in
    let none : statement_count code c.args.procedure ≡ 0 = omega (arith, c.statement_count.ensures) in
    no_address code c.args.procedure none

pub returns : goal.returns
returns c =
    let code = code_view c.args.code.now in
    let some : 0 < statement_count code c.args.procedure = omega (arith, c.statement_count.ensures) in
    addresses_are code c.args.procedure c.entry_of-first.result c.first_address-end.result some c.entry_of-first.ensures c.first_address-end.ensures
