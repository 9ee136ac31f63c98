use Rattle.std.proofs.Common.{◌≡◌, ◌++◌, length, map}
use Rattle.bound_project.specs.View.{class_view}
use Rattle.pcode_run.proofs.texts.push_class_names.Given as goal

abbrev pub invariant-loop-left : goal.invariant-loop-left
invariant-loop-left l = l.names.items ++ map (λ c. (class_view c).name.spelling) l.left ≡ l.fn.names.items ++ map (λ c. (class_view c).name.spelling) l.fn.left

abbrev pub decreases-loop-left : goal.decreases-loop-left
decreases-loop-left l = length l.left
