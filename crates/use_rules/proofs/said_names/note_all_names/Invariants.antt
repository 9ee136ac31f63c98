use Rattle.std.proofs.Common.{◌≡◌, drop}
use Rattle.std.specs.Prelude.{flat_map}
use Rattle.declared_names.specs.View.{scope_view}
use Rattle.said_parts.specs.View.{all_said}
use Rattle.use_rules.specs.Asked.{rule_of, said_faults}
use Rattle.use_rules.specs.Found.{noted}
use Rattle.use_rules.proofs.said_names.note_all_names.Given as goal

abbrev pub invariant-loop-one : goal.invariant-loop-one
invariant-loop-one l =
    noted (rule_of l.question) l.least (flat_map (said_faults (scope_view l.scope) l.question) (all_said (drop l.one-index l.said)))
    ≡ noted (rule_of l.question) l.fn.least (flat_map (said_faults (scope_view l.scope) l.question) (all_said l.said))
