use Rattle.std.proofs.Common.{◌≤◌, length, arith, ◌∙◌}
use Rattle.code_check.proofs.Takings.{took_none, took_some}
use Rattle.code_check.proofs.operands.Operands.take_any.Goals as goal

pub returns-then-len-count : goal.returns-then-len-count
returns-then-len-count c = λ go.
    let e = c.len.ensures ∙ c.args.self.now.kinds.ok.0 in
    took_none c.args.count c.args.self.now.kinds.items (λ xs js. go js) (omega arith)

pub returns : goal.returns
returns c = λ go.
    let e = c.len-2.ensures ∙ c.args.self.now.kinds.ok.0 in
    let f = c.len.ensures ∙ c.args.self.now.kinds.ok.0 in
    let le : c.args.count ≤ length c.args.self.now.kinds.items = omega arith in
    rw (c.truncate.ensures.items, e) (took_some c.args.count c.args.self.now.kinds.items (λ xs js. go js) le)
