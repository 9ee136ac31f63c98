use Rattle.std.proofs.Common.{length, map, take}
use Rattle.bound_project.specs.Project.{Named}
use Rattle.bound_project.specs.View.{class_view, declarations_view, named_view}
use Rattle.bound_project.specs.Whole.{All, WholeMember}
use Rattle.code_check.proofs.tables.are_whole_members.Given as goal

abbrev pub invariant-loop-named : goal.invariant-loop-named
invariant-loop-named l = All (λ (x : Named). WholeMember (declarations_view l.code.declared) (length (class_view l.class).fields) x.member) (map named_view (take l.named-index l.class.members.items))
