use Rattle.std.proofs.Common.{◌∙◌}
use Rattle.bound_project.specs.Project.{class_at}
use Rattle.bound_project.specs.View.{declarations_view}
use Rattle.pcode.specs.Machine.{terminates_by, ends_by, looking}
use Rattle.pcode.specs.View.{code_view}
use Rattle.pcode_vm.specs.View.{after_view, backs_view, state_view}
use Rattle.run_host.specs.View.{told_view}
use Rattle.pcode_vm.proofs.Carried.{carried}
use Rattle.pcode_run.proofs.Moves.{ends_untold}
use Rattle.pcode_run.proofs.letting.end_object.Goals as goal

pub returns : goal.returns
returns c = λ b is_told is_class.
    let old = c.args.machine.now in
    let new = record old { told = c.push.new.self } in
    let code = code_view c.args.code.now in
    let o = c.args.object in
    let after = after_view c.args.after in
    carried c.args.turns
    (ends_by looking code b o c.args.count after (backs_view old.backs) (state_view old))
    (terminates_by looking code (class_at (declarations_view c.args.code.now.declared) c.args.class).terminate o c.args.count after (backs_view old.backs) (state_view old))
    old new c.terminate.new.machine c.terminate.result
    (λ more. ends_untold code c.args.turns b c.args.class o c.args.count after (backs_view old.backs) (state_view old) (told_view old.told) (told_view new.told) more
    (is_told ∙ c.if-told.false) is_class c.in_ok-push.ensures)
    c.terminate.ensures
