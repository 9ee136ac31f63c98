use Rattle.std.proofs.Common.{List, map, sym, subst}
use Rattle.std.proofs.lemmas.Bool.{iff_false}
use Rattle.bound_project.specs.declared.declarations.Handler.{Handler}
use Rattle.bound_project.specs.View.{class_view, declarations_view, handler_view}
use Rattle.bound_project.specs.Whole.{All, WholeHandler}
use Rattle.code_check.proofs.Tests.{refused}
use Rattle.code_check.proofs.Entries.{all_at}
use Rattle.code_check.proofs.handlers.are_whole_handlers.Goals as goal

pub returns-then-not-is_whole_handler : goal.returns-then-not-is_whole_handler
returns-then-not-is_whole_handler c =
    let P = WholeHandler (declarations_view c.args.code.now.declared) (class_view c.args.class.now) in
    refused (λ all. (
    let items = subst (λ (l : List Handler). All P (map handler_view l)) (sym c.deref-handler-items.ensures.value) all in
    iff_false c.is_whole_handler.ensures c.if-not-is_whole_handler.true
    (all_at P handler_view c.deref-handler-items.result.now c.loop-handler.handler-index _ c.loop-handler-test.true items)))
