use Rattle.std.proofs.Common.{◌≡◌, ◌+◌, ◌≤◌, None, Some, List, length, map, take, sym, subst, ◌∙◌}
use Rattle.pcode.specs.declared.instr.Instr.{Instr}
use Rattle.pcode.specs.declared.instr.Instr.TheVariants.{Begin}
use Rattle.pcode.specs.View.{instr_view, tables_of}
use Rattle.pcode.specs.WellFormed.{along_all, no_way}
use Rattle.code_check.specs.View.{operands_view, way_of}
use Rattle.code_check.proofs.Tests.{refused}
use Rattle.code_check.proofs.Ways.{along_more, along_none, along_end}
use Rattle.code_check.proofs.way.operands_are_found.Goals as goal

pub returns-in_default : goal.returns-in_default
returns-in_default c =
    let f = instr_view (tables_of c.args.code.now) in
    let all = c.deref-instr-items.ensures.value in
    let k = c.loop-instr.instr-index in
    let before = subst (λ (l : List Instr). along_all (map f (take k l)) no_way ≡ Some (way_of c.loop-instr.is_begun (operands_view c.loop-instr.operands))) (sym all) c.loop-instr.invariant in
    let none = along_more f c.deref-instr-items.result.now k (Begin 0) (way_of c.loop-instr.is_begun (operands_view c.loop-instr.operands)) None c.loop-instr-test.true before
    (c.in_ok-step.ensures ∙ c.in_default.ensures (operands_view c.follow.new.operands)) in
    refused (λ some. along_none f c.deref-instr-items.result.now (k + 1) no_way none (subst (λ (l : List Instr). along_all (map f l) no_way ≡ Some no_way) (sym all) some))

pub loop-instr-preserved : goal.loop-instr-preserved
loop-instr-preserved c =
    let f = instr_view (tables_of c.args.code.now) in
    let all = c.deref-instr-items.ensures.value in
    let k = c.loop-instr.instr-index in
    let after = Some (way_of c.in-Some.begun (operands_view c.follow.new.operands)) in
    let before = subst (λ (l : List Instr). along_all (map f (take k l)) no_way ≡ Some (way_of c.loop-instr.is_begun (operands_view c.loop-instr.operands))) (sym all) c.loop-instr.invariant in
    subst (λ (l : List Instr). along_all (map f (take (k + 1) l)) no_way ≡ after) all
    (along_more f c.deref-instr-items.result.now k (Begin 0) (way_of c.loop-instr.is_begun (operands_view c.loop-instr.operands)) after c.loop-instr-test.true before
    (c.in_ok-step.ensures ∙ c.in-Some.ensures (operands_view c.follow.new.operands)))

pub returns : goal.returns
returns c =
    let f = instr_view (tables_of c.args.code.now) in
    let items = c.args.code.now.instrs.items in
    let end : length items ≤ c.loop-instr.instr-index = subst (λ (l : List Instr). length l ≤ c.loop-instr.instr-index) c.deref-instr-items.ensures.value c.loop-instr-test.false in
    along_end f items c.loop-instr.instr-index c.loop-instr.is_begun (operands_view c.loop-instr.operands) end c.loop-instr.invariant
