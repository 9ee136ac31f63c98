use Rattle.std.proofs.Common.{◌<◌, arith}
use Rattle.pcode.specs.View.{code_view}
use Rattle.code_check.proofs.Tests.{refused, granted}
use Rattle.code_check.proofs.Instrs.{leads_to_end, leads_nowhere, leads_by}
use Rattle.code_check.proofs.numbers.leads.Goals as goal

pub returns-then-to-eq0 : goal.returns-then-to-eq0
returns-then-to-eq0 c = granted (leads_to_end (code_view c.args.code.now) c.args.procedure c.args.to c.if-to-eq0.true)

pub returns-in-Some : goal.returns-in-Some
returns-in-Some c =
    let some : 0 < c.args.to = omega arith in
    leads_by (code_view c.args.code.now) c.args.procedure c.args.to c.in-Some.statement c.entry_of.result c.requires some c.in-Some.ensures c.entry_of.ensures

pub returns-in-None : goal.returns-in-None
returns-in-None c =
    let some : 0 < c.args.to = omega arith in
    refused (leads_nowhere (code_view c.args.code.now) c.args.procedure c.args.to c.requires some c.in-None.ensures)
