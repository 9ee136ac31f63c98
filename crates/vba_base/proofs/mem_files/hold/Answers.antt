use Rattle.std.proofs.Common.{◌≡◌, Some, None, position, set, sym, ap, ◌∙◌}
use Rattle.std.specs.FinMap.{from_entries}
use Rattle.vba_base.specs.Map.{with_bytes}
use Rattle.vba_base.specs.Memory.{entries_of}
use Rattle.vba_base.proofs.Entries.{replaced, added, has_name}
use Rattle.vba_base.proofs.mem_files.hold.Goals as goal

pub returns-in-Some-clause-ok : goal.returns-in-Some-clause-ok
returns-in-Some-clause-ok c =
    let place : position (has_name c.args.name.now) c.args.entries.now.items ≡ Some c.in-Some.place = sym (ap (position (has_name c.args.name.now)) c.as_slice.ensures.value) ∙ sym c.place_of.ensures ∙ c.in-Some.is in
    ap (λ name. from_entries (entries_of (set c.args.entries.now.items c.in-Some.place (name, c.in_ok-bytes.bytes)))) (ap (λ e. e.0) c.index_mut.ensures.value)
    ∙ replaced c.args.name.now c.args.entries.now.items c.in-Some.place c.index_mut.result.now c.in_ok-bytes.bytes place
    ∙ ap (with_bytes (from_entries (entries_of c.args.entries.now.items)) c.args.name.now) c.in_ok-bytes.ensures.items

pub returns-in_ok-push-in-None-clause-ok : goal.returns-in_ok-push-in-None-clause-ok
returns-in_ok-push-in-None-clause-ok c =
    let none : position (has_name c.args.name.now) c.args.entries.now.items ≡ None = sym (ap (position (has_name c.args.name.now)) c.as_slice.ensures.value) ∙ sym c.place_of.ensures ∙ c.in-None.is in
    ap (λ entries. from_entries (entries_of entries)) c.in_ok-push-in-None.ensures.items
    ∙ added c.args.name.now c.args.entries.now.items (c.in_ok-from_str-in-None.field-0, c.in_ok-bytes.bytes) c.in_ok-from_str-in-None.ensures.ok none
    ∙ ap (with_bytes (from_entries (entries_of c.args.entries.now.items)) c.args.name.now) c.in_ok-bytes.ensures.items
