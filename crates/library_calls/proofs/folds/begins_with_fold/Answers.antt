use Rattle.std.proofs.Common.{◌≡◌, ◌<◌, ◌∙◌, false, true, nat_eq, length, sym, arith}
use Rattle.library_calls.proofs.FoldedFronts.{at_end, at_text_end, ends_there, goes_on, stops}
use Rattle.library_calls.proofs.folds.begins_with_fold.Goals as goal
use Rattle.library_calls.proofs.folds.begins_with_fold.Goals.{then-loop-rest-test+else-not-is_empty, else-loop-rest-test}

pub returns-then-ends_inside : goal.returns-then-ends_inside
returns-then-ends_inside c =
    sym (ends_there _ _ _ (rw c.first_size.ensures.value at c.split_at.ensures.front) (sym c.ends_inside.ensures ∙ c.if-ends_inside.true))
    ∙ c.loop-rest.invariant

pub returns-in-None : goal.returns-in-None
returns-in-None c =
    let some : 0 < length c.loop-rest.left.now = grind arith in
    let more : 0 < length c.loop-rest.rest.now = grind arith in
    sym (stops _ _ _ some more (rw c.first_size.ensures.value at c.split_at.ensures.front) (sym c.ends_inside.ensures ∙ c.if-ends_inside.false)
    (rw c.in-None.is at c.in_ok-fold.ensures))
    ∙ c.loop-rest.invariant

pub loop-rest-preserved : goal.loop-rest-preserved
loop-rest-preserved c =
    let some : 0 < length c.loop-rest.left.now = grind arith in
    let more : 0 < length c.loop-rest.rest.now = grind arith in
    goes_on _ _ _ _ _ some more (rw c.first_size.ensures.value at c.split_at.ensures.front) (rw c.first_size.ensures.value at c.split_at.ensures.back)
    (sym c.ends_inside.ensures ∙ c.if-ends_inside.false) (rw c.in-Some.is at c.in_ok-fold.ensures)
    ∙ c.loop-rest.invariant

pub returns : goal.returns
returns c = elim c.loop-rest-test.branch [
  | then-loop-rest-test+else-not-is_empty w ↦
      let some : nat_eq (length c.loop-rest.left.now) 0 ≡ false = sym c.is_empty.ensures ∙ w.loop-rest-test.true in
      c.is_empty-2.ensures ∙ (some ∙ (sym (at_text_end _ _ some (sym w.is_empty-in-loop-rest.ensures ∙ w.if-not-is_empty.false)) ∙ c.loop-rest.invariant))
  | else-loop-rest-test w ↦
      let none : nat_eq (length c.loop-rest.left.now) 0 ≡ true = sym c.is_empty.ensures ∙ w.loop-rest-test.false in
      c.is_empty-2.ensures ∙ (none ∙ (sym (at_end _ _ none) ∙ c.loop-rest.invariant))
]
