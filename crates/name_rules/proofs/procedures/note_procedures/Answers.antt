use Rattle.std.proofs.Common.{[]}
use Rattle.std.specs.Prelude.{flat_map}
use Rattle.constant_values.specs.declared_names.specs.binder.specs.Declarations.{Written}
use Rattle.constant_values.specs.declared_names.specs.binder.specs.Names.{scope_in}
use Rattle.constant_values.specs.declared_names.specs.binder.specs.Said.{said_in_body}
use Rattle.constant_values.specs.declared_names.specs.binder.specs.Violations.{in_body, label_said, labels_in, later, names_said, place_of_label, procedure_faults, same_label, twice_in_procedure, types_said}
use Rattle.constant_values.specs.declared_names.specs.View.{scope_view}
use Rattle.name_rules.proofs.Gathered.{procedure_noted}
use Rattle.name_rules.proofs.procedures.note_procedures.Goals as goal

pub loop-entry-preserved : goal.loop-entry-preserved
loop-entry-preserved c = record {
  twice =
      procedure_noted 15 (λ (p : Written). twice_in_procedure (scope_in (scope_view c.args.scope) p) p) c.loop-entry.found.twice c.note_entry.new.found.twice _
      c.args.entries.now c.loop-entry.entry-index c.entry-item.result c.loop-entry-test.true c.entry-item.is c.in_ok-note_entry.ensures.twice c.loop-entry.invariant.twice;
  types =
      procedure_noted 16 (λ (p : Written). in_body (λ within. types_said (scope_in (scope_view c.args.scope) p)) p) c.loop-entry.found.body.types c.note_entry.new.found.body.types _
      c.args.entries.now c.loop-entry.entry-index c.entry-item.result c.loop-entry-test.true c.entry-item.is c.in_ok-note_entry.ensures.types c.loop-entry.invariant.types;
  names =
      procedure_noted 17 (λ (p : Written). in_body (names_said (scope_in (scope_view c.args.scope) p)) p) c.loop-entry.found.body.names c.note_entry.new.found.body.names _
      c.args.entries.now c.loop-entry.entry-index c.entry-item.result c.loop-entry-test.true c.entry-item.is c.in_ok-note_entry.ensures.names c.loop-entry.invariant.names;
  labels =
      procedure_noted 18 (λ (p : Written). flat_map (label_said (labels_in p.body)) (said_in_body p)) c.loop-entry.found.body.labels c.note_entry.new.found.body.labels _
      c.args.entries.now c.loop-entry.entry-index c.entry-item.result c.loop-entry-test.true c.entry-item.is c.in_ok-note_entry.ensures.labels c.loop-entry.invariant.labels;
  labelled =
      procedure_noted 19 (λ (p : Written). later same_label place_of_label [] (labels_in p.body)) c.loop-entry.found.labelled c.note_entry.new.found.labelled _
      c.args.entries.now c.loop-entry.entry-index c.entry-item.result c.loop-entry-test.true c.entry-item.is c.in_ok-note_entry.ensures.labelled c.loop-entry.invariant.labelled;
  constants =
      procedure_noted 20 (λ (p : Written). procedure_faults (scope_in (scope_view c.args.scope) p) p) c.loop-entry.found.constants c.note_entry.new.found.constants _
      c.args.entries.now c.loop-entry.entry-index c.entry-item.result c.loop-entry-test.true c.entry-item.is c.in_ok-note_entry.ensures.constants c.loop-entry.invariant.constants;
}
