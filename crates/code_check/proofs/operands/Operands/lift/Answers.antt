use Rattle.std.proofs.Common.{◌<◌, length, arith, ◌∙◌}
use Rattle.code_check.proofs.Takings.{lift_none, lift_path, lift_value}
use Rattle.code_check.proofs.operands.Operands.lift.Goals as goal

pub returns-then-len-count : goal.returns-then-len-count
returns-then-len-count c = λ go.
    let e = c.len.ensures ∙ c.args.self.now.kinds.ok.0 in
    lift_none c.args.count c.args.self.now.kinds.items go (omega arith)

pub returns-in_ok-push-in-Value : goal.returns-in_ok-push-in-Value
returns-in_ok-push-in-Value c = λ go.
    let e = c.len-2.ensures ∙ c.args.self.now.kinds.ok.0 in
    let f = c.len.ensures ∙ c.args.self.now.kinds.ok.0 in
    let lt : c.args.count < length c.args.self.now.kinds.items = omega arith in
    lift_value c.args.count c.args.self.now.kinds.items c.push.new.self.items go lt (rw e at c.in-Value.ensures.value) (rw (c.remove.ensures.items, e) at c.in_ok-push-in-Value.ensures.items)

pub returns-in-Path : goal.returns-in-Path
returns-in-Path c = λ go.
    let e = c.len-2.ensures ∙ c.args.self.now.kinds.ok.0 in
    let f = c.len.ensures ∙ c.args.self.now.kinds.ok.0 in
    let lt : c.args.count < length c.args.self.now.kinds.items = omega arith in
    lift_path c.args.count c.args.self.now.kinds.items go lt (rw e at c.in-Path.ensures.value)
