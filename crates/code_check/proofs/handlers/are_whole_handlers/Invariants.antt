use Rattle.std.proofs.Common.{map, take}
use Rattle.bound_project.specs.View.{class_view, declarations_view, handler_view}
use Rattle.bound_project.specs.Whole.{All, WholeHandler}
use Rattle.code_check.proofs.handlers.are_whole_handlers.Given as goal

abbrev pub invariant-loop-handler : goal.invariant-loop-handler
invariant-loop-handler l = All (WholeHandler (declarations_view l.code.declared) (class_view l.class)) (map handler_view (take l.handler-index l.class.handlers.items))
