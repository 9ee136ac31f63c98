use Rattle.std.proofs.Common.{◌≡◌, ◌++◌, ap, ◌∙◌, rules}
use Rattle.std.specs.Prelude.{is_some}
use Rattle.constant_values.specs.declared_names.specs.binder.specs.LeftOut.{said_left_out}
use Rattle.constant_values.specs.declared_names.specs.binder.specs.Said.{header_said}
use Rattle.constant_values.specs.declared_names.specs.View.{scope_view, written_view}
use Rattle.constant_values.specs.declared_names.specs.module_parts.specs.View.{parts_view}
use Rattle.said_parts.specs.View.{all_said}
use Rattle.name_rules.proofs.Inside.{inside_noted}
use Rattle.name_rules.proofs.LeftOut.{procedure_noted}
use Rattle.name_rules.proofs.left_out.note_inside.Goals as goal

pub returns : goal.returns
returns c =
    let s = scope_view c.args.scope in
    let p = written_view c.args.written in
    let static : c.is_some-is_static.result ≡ is_some p.static_word = search rules in
    let parts : parts_view c.slice.result.now ≡ p.body = ap parts_view c.slice.ensures in
    let said : all_said c.as_slice.result.now ≡ header_said p =
    ap all_said c.as_slice.ensures.value ∙ (c.in_ok-push_header.ensures ∙ ap (λ items. all_said items ++ header_said p) c.new-said.ensures.items) in
    procedure_noted c.note_left_out_body.result s p c.note_left_out_body.new.least c.note_parameters.new.least c.args.least.now c.in_ok-note_parameters.ensures
    (inside_noted 23 (said_left_out s) c.note_left_out_body.result c.note_left_out_body.new.least c.note_all_names.new.least c.note_parameters.new.least p
    (all_said c.as_slice.result.now) c.is_some-is_static.result (parts_view c.slice.result.now) static parts said c.in_ok-note_all_names.ensures c.note_left_out_body.ensures)
