use Rattle.std.proofs.Common.{◌+◌, ◌*◌, vec_len}
use Rattle.run_defaults.proofs.tasks.+tasks.Given as goal

abbrev pub decreases-tasks_next : goal.decreases-tasks_next
decreases-tasks_next l = 2 * vec_len l.tasks

abbrev pub decreases-followed : goal.decreases-followed
decreases-followed l = 2 * vec_len l.tasks + 1
