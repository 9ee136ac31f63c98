use Rattle.std.proofs.Common.{◌≡◌, ◌++◌, ap, ◌∙◌}
use Rattle.constant_values.specs.declared_names.specs.binder.specs.Said.{entry_said}
use Rattle.constant_values.specs.declared_names.specs.View.{scope_view, what_view}
use Rattle.said_parts.specs.View.{all_said}
use Rattle.name_rules.proofs.LeftOut.{entry_ended}
use Rattle.name_rules.proofs.left_out.note_entry.Goals as goal

pub returns : goal.returns
returns c =
    let w = what_view c.args.entry.what in
    let said : all_said c.as_slice.result.now ≡ entry_said w =
    ap all_said c.as_slice.ensures.value ∙ (c.in_ok-push_entry.ensures ∙ ap (λ items. all_said items ++ entry_said w) c.new-said.ensures.items) in
    entry_ended c.note_all_names.result (scope_view c.args.scope) c.args.entry.name.now c.args.entry.is_public w (all_said c.as_slice.result.now) c.note_all_names.new.least c.note_event.new.least
    c.note_suffix.new.least c.args.least.now said c.note_suffix.ensures c.in_ok-note_event.ensures c.note_all_names.ensures
