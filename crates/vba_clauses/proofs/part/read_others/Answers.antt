use Rattle.std.proofs.Common.{refl, sym, arith}
use Rattle.vba_clauses.proofs.Others.{more, stopped, failed, spent, last_turn}
use Rattle.vba_clauses.proofs.part.read_others.Goals as goal
use Rattle.vba_clauses.proofs.part.read_others.Goals.{else-others-test, then-others-test+in-Some+in_ok-item+in-Some-2+in_ok-push+else-counter-end}

pub returns-in_default : goal.returns-in_default
returns-in_default g c = stopped _ _ _ _ _ _ _ (omega arith) c.others.invariant (sym c.in_default.ensures.found)

pub returns-in_default-2 : goal.returns-in_default-2
returns-in_default-2 g c =
    failed _ _ _ _ _ _ _ _ _ (omega arith) c.others.invariant (sym c.in-Some.ensures.found)
    (sym (rw c.in_default-2.is at c.in_ok-item.ensures))

pub others-preserved : goal.others-preserved
others-preserved g c =
    rw c.in_ok-push.ensures.items
    (more _ _ _ _ _ _ _ _ _ _ _ _ _ (omega arith) c.others.invariant (sym c.in-Some.ensures.found)
    (sym (rw c.in-Some-2.is at c.in_ok-item.ensures)) refl)

pub returns : goal.returns
returns g c =
    elim c.others-test.branch [
      | else-others-test w ↦ spent _ _ _ _ _ _ _ (omega arith) c.others.invariant
      | then-others-test+in-Some+in_ok-item+in-Some-2+in_ok-push+else-counter-end w ↦
          last_turn _ _ _ _ _ _ _ _ _ _ _ (omega arith) (omega arith) c.others.invariant (sym w.in-Some.ensures.found)
          (sym (rw w.in-Some-2.is at w.in_ok-item.ensures))
    ]
