use Rattle.std.proofs.Common.{◌≡◌, [], drop}
use Rattle.declared_names.specs.binder.specs.LeftOut.{said_left_out}
use Rattle.declared_names.specs.View.{scope_view}
use Rattle.declared_names.specs.module_parts.specs.View.{parts_view}
use Rattle.use_rules.specs.Found.{noted}
use Rattle.use_rules.specs.Walked.{walked}
use Rattle.use_rules.proofs.body.note_left_out_body.Given as goal

abbrev pub invariant-loop-part : goal.invariant-loop-part
invariant-loop-part l =
    noted 23 l.least (walked (λ within. said_left_out (scope_view l.scope)) l.is_static [] (parts_view (drop l.part-index l.parts)))
    ≡ noted 23 l.fn.least (walked (λ within. said_left_out (scope_view l.scope)) l.is_static [] (parts_view l.parts))
