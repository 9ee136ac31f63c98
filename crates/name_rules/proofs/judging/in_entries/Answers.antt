use Rattle.std.proofs.Common.{List, None, false, map, ap, ◌∙◌}
use Rattle.std.specs.Prelude.{flat_map}
use Rattle.constant_values.specs.declared_names.specs.binder.specs.Declarations as plain
use Rattle.constant_values.specs.declared_names.specs.binder.specs.Said.{entry_said}
use Rattle.constant_values.specs.declared_names.specs.binder.specs.Violations.{names_said, types_said}
use Rattle.constant_values.specs.declared_names.specs.View.{entry_view, scope_view}
use Rattle.constant_values.specs.declared_names.specs.declared.entry.Entry.{Entry}
use Rattle.use_rules.specs.Found.{noted}
use Rattle.name_rules.proofs.judging.in_entries.Goals as goal

pub returns-clause-types : goal.returns-clause-types
returns-clause-types c =
    c.in_ok-note_entries.ensures.types
    ∙ ap (λ (es : List Entry). noted 16 None (flat_map (λ (e : plain.Entry). flat_map (types_said (scope_view c.args.scope)) (entry_said e.what)) (map entry_view es))) c.as_slice-entries.ensures.value

pub returns-clause-names : goal.returns-clause-names
returns-clause-names c =
    c.in_ok-note_entries.ensures.names
    ∙ ap (λ (es : List Entry). noted 17 None (flat_map (λ (e : plain.Entry). flat_map (names_said (scope_view c.args.scope) false) (entry_said e.what)) (map entry_view es))) c.as_slice-entries.ensures.value
