use Rattle.std.proofs.Common.{◌≡◌, [], drop, map}
use Rattle.std.specs.Prelude.{flat_map}
use Rattle.constant_values.specs.declared_names.specs.binder.specs.Declarations.{Written}
use Rattle.constant_values.specs.declared_names.specs.binder.specs.Names.{scope_in}
use Rattle.constant_values.specs.declared_names.specs.binder.specs.Said.{said_in_body}
use Rattle.constant_values.specs.declared_names.specs.binder.specs.Violations.{in_body, label_said, labels_in, later, names_said, place_of_label, procedure_faults, procedures_in, same_label, twice_in_procedure, types_said}
use Rattle.constant_values.specs.declared_names.specs.View.{entry_view, scope_view}
use Rattle.use_rules.specs.Found.{noted}
use Rattle.name_rules.proofs.procedures.note_procedures.Given as goal

abbrev pub invariant-loop-entry : goal.invariant-loop-entry
invariant-loop-entry l = record {
  twice : noted 15 l.found.twice (flat_map (λ (p : Written). twice_in_procedure (scope_in (scope_view l.scope) p) p) (procedures_in (map entry_view (drop l.entry-index l.entries))))
      ≡ noted 15 l.fn.found.twice (flat_map (λ (p : Written). twice_in_procedure (scope_in (scope_view l.scope) p) p) (procedures_in (map entry_view l.entries)));
  types : noted 16 l.found.body.types (flat_map (λ (p : Written). in_body (λ within. types_said (scope_in (scope_view l.scope) p)) p) (procedures_in (map entry_view (drop l.entry-index l.entries))))
      ≡ noted 16 l.fn.found.body.types (flat_map (λ (p : Written). in_body (λ within. types_said (scope_in (scope_view l.scope) p)) p) (procedures_in (map entry_view l.entries)));
  names : noted 17 l.found.body.names (flat_map (λ (p : Written). in_body (names_said (scope_in (scope_view l.scope) p)) p) (procedures_in (map entry_view (drop l.entry-index l.entries))))
      ≡ noted 17 l.fn.found.body.names (flat_map (λ (p : Written). in_body (names_said (scope_in (scope_view l.scope) p)) p) (procedures_in (map entry_view l.entries)));
  labels : noted 18 l.found.body.labels (flat_map (λ (p : Written). flat_map (label_said (labels_in p.body)) (said_in_body p)) (procedures_in (map entry_view (drop l.entry-index l.entries))))
      ≡ noted 18 l.fn.found.body.labels (flat_map (λ (p : Written). flat_map (label_said (labels_in p.body)) (said_in_body p)) (procedures_in (map entry_view l.entries)));
  labelled : noted 19 l.found.labelled (flat_map (λ (p : Written). later same_label place_of_label [] (labels_in p.body)) (procedures_in (map entry_view (drop l.entry-index l.entries))))
      ≡ noted 19 l.fn.found.labelled (flat_map (λ (p : Written). later same_label place_of_label [] (labels_in p.body)) (procedures_in (map entry_view l.entries)));
  constants : noted 20 l.found.constants (flat_map (λ (p : Written). procedure_faults (scope_in (scope_view l.scope) p) p) (procedures_in (map entry_view (drop l.entry-index l.entries))))
      ≡ noted 20 l.fn.found.constants (flat_map (λ (p : Written). procedure_faults (scope_in (scope_view l.scope) p) p) (procedures_in (map entry_view l.entries)));
}
