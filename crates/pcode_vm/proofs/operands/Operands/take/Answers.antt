use Rattle.std.proofs.Common.{◌≤◌, length, arith, ◌∙◌}
use Rattle.pcode_vm.proofs.Takings.{took_none, took_some}
use Rattle.pcode_vm.proofs.operands.Operands.take.Goals as goal

pub returns-then-len-count : goal.returns-then-len-count
returns-then-len-count c = λ go.
    let e = c.len.ensures ∙ c.args.self.now.slots.ok.0 in
    took_none c.args.count c.args.self.now.slots.items go (omega arith)

pub returns : goal.returns
returns c = λ go.
    let e = c.len-2.ensures ∙ c.args.self.now.slots.ok.0 in
    let f = c.len.ensures ∙ c.args.self.now.slots.ok.0 in
    let le : c.args.count ≤ length c.args.self.now.slots.items = omega arith in
    rw (c.in_ok-taken.ensures.tail, c.in_ok-taken.ensures.items, e) (took_some c.args.count c.args.self.now.slots.items go le)
