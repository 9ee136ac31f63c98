use Rattle.std.proofs.Common.{List, [], None, false, map, ap, ◌∙◌}
use Rattle.std.specs.Prelude.{flat_map}
use Rattle.constant_values.specs.declared_names.specs.binder.specs.Declarations as plain
use Rattle.constant_values.specs.declared_names.specs.binder.specs.Declarations.{Written}
use Rattle.constant_values.specs.declared_names.specs.binder.specs.Names.{scope_in}
use Rattle.constant_values.specs.declared_names.specs.binder.specs.Said.{entry_said}
use Rattle.constant_values.specs.declared_names.specs.binder.specs.Violations.{clashes, entry_faults, in_body, later, module_named_twice, names_said, place_of_name, procedure_faults, twice_in_procedure, twice_inside, types_said}
use Rattle.constant_values.specs.declared_names.specs.View.{entry_view, scope_view}
use Rattle.constant_values.specs.declared_names.specs.declared.entry.Entry.{Entry}
use Rattle.use_rules.specs.Found.{noted}
use Rattle.name_rules.proofs.Gathered.{after_noted, behind_noted}
use Rattle.name_rules.proofs.judging.in_module.Goals as goal

pub returns-clause-twice : goal.returns-clause-twice
returns-clause-twice c =
    let s = scope_view c.args.scope in
    behind_noted 15 (module_named_twice s) (later clashes (λ (e : plain.Entry). place_of_name e.name) [] s.here.entries) (flat_map (twice_inside s) s.here.entries)
    (λ (p : Written). twice_in_procedure (scope_in s p) p) _ c.note_procedures.new.found.twice c.as_slice-entries.result.now c.args.scope.here.now.entries.items
    c.as_slice-entries.ensures.value c.in_ok-outside.ensures.twice c.in_ok-note_procedures.ensures.twice

pub returns-clause-types : goal.returns-clause-types
returns-clause-types c =
    let s = scope_view c.args.scope in
    after_noted 16 (flat_map (λ (e : plain.Entry). flat_map (types_said s) (entry_said e.what)) s.here.entries)
    (λ (p : Written). in_body (λ within. types_said (scope_in s p)) p) _ c.note_procedures.new.found.body.types c.as_slice-entries.result.now c.args.scope.here.now.entries.items
    c.as_slice-entries.ensures.value c.in_ok-outside.ensures.types c.in_ok-note_procedures.ensures.types

pub returns-clause-names : goal.returns-clause-names
returns-clause-names c =
    let s = scope_view c.args.scope in
    after_noted 17 (flat_map (λ (e : plain.Entry). flat_map (names_said s false) (entry_said e.what)) s.here.entries)
    (λ (p : Written). in_body (names_said (scope_in s p)) p) _ c.note_procedures.new.found.body.names c.as_slice-entries.result.now c.args.scope.here.now.entries.items
    c.as_slice-entries.ensures.value c.in_ok-outside.ensures.names c.in_ok-note_procedures.ensures.names

pub returns-clause-constants : goal.returns-clause-constants
returns-clause-constants c =
    let s = scope_view c.args.scope in
    after_noted 20 (flat_map (entry_faults s) s.here.entries) (λ (p : Written). procedure_faults (scope_in s p) p) _ c.note_procedures.new.found.constants
    c.as_slice-entries.result.now c.args.scope.here.now.entries.items c.as_slice-entries.ensures.value
    (c.in_ok-note_constants.ensures ∙ ap (λ (es : List Entry). noted 20 None (flat_map (entry_faults s) (map entry_view es))) c.as_slice-entries.ensures.value)
    c.in_ok-note_procedures.ensures.constants
