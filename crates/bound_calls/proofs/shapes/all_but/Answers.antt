use Rattle.std.proofs.Common.{ap, sym, ◌∙◌}
use Rattle.bound_calls.proofs.ShapeSteps.{but_found, but_kept, but_rest}
use Rattle.bound_calls.proofs.shapes.all_but.Goals as goal
use Rattle.bound_calls.proofs.shapes.all_but.Goals.{then-is_found+in_ok-push, else-is_found+then-is_called, else-is_found+else-is_called+in_ok-push-2}

pub loop-parameter-preserved : goal.loop-parameter-preserved
loop-parameter-preserved c =
    let all = c.args.parameters.now in
    let i = c.loop-parameter.parameter-index in
    let x = c.parameter-item.result in
    let others = c.loop-parameter.others.items in
    let new = c.if-is_found.others.items in
    let found = c.loop-parameter.is_found in
    let after = c.if-is_found.is_found in
    let fold = c.args.name.now.name in
    let lt = c.loop-parameter-test.true in
    let is = c.parameter-item.is in
    let h = c.loop-parameter.invariant in
    elim c.if-is_found.branch [
      | then-is_found+in_ok-push w ↦ but_rest all i x others new found after fold lt is w.if-is_found.true w.is_found-is (ap (λ v. v.items) w.others-is ∙ w.in_ok-push.ensures.items) h
      | else-is_found+then-is_called w ↦ but_found all i x others new found after fold lt is w.if-is_found.false w.is_found-is (ap (λ v. v.items) w.others-is) (sym w.is_called.ensures ∙ w.if-is_called.true) h
      | else-is_found+else-is_called+in_ok-push-2 w ↦
          but_kept all i x others new found after fold lt is w.if-is_found.false w.is_found-is (ap (λ v. v.items) w.others-is ∙ w.in_ok-push-2.ensures.items) (sym w.is_called.ensures ∙ w.if-is_called.false) h
    ]
