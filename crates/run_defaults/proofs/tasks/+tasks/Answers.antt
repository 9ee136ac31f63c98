use Rattle.run_defaults.proofs.Going.{task_last, tasks_behind, use_refused, use_then}
use Rattle.run_defaults.proofs.tasks.+tasks.Goals as goal

pub tasks_next-returns-in_err-next : goal.tasks_next-returns-in_err-next
tasks_next-returns-in_err-next t c = rw (c.in-Some.ensures.items, task_last) (use_refused _ _ _ _ _ _ _ _ c.from_residual.ensures.1 c.in_err-next.ensures)

pub tasks_next-returns : goal.tasks_next-returns
tasks_next-returns t c = rw (c.in-Some.ensures.items, task_last) (use_then _ _ _ _ _ _ _ _ _ _ c.in_ok-next.ensures c.followed.ensures)
