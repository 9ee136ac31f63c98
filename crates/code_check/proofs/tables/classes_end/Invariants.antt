use Rattle.std.proofs.Common.{map, take}
use Rattle.bound_project.specs.View.{class_view, declarations_view}
use Rattle.bound_project.specs.Whole.{All, WholeClass}
use Rattle.code_check.proofs.tables.classes_end.Given as goal

abbrev pub invariant-loop-class : goal.invariant-loop-class
invariant-loop-class l = All (WholeClass (declarations_view l.code.declared)) (map class_view (take l.class-index l.code.declared.classes.items))
