use Rattle.std.proofs.Common.{◌-◌, ◌<◌, [], length, chars, flat_map, sym, subst}
use Rattle.std.specs.Prelude.{slice_index_or}
use Rattle.std.specs.Char.Escape.{encode_utf16}
use Rattle.sheet_host.specs.Sheets.{SheetContent}
use Rattle.sheet_host.proofs.Fields.{kept_field}
use Rattle.sheet_host.proofs.sheet.Sheet.push_text.Goals as goal

pub invariant_of-self : goal.invariant_of-self
invariant_of-self c =
    kept_field c.push_text.result c.self.inside.rows c.push_text.new.self (flat_map encode_utf16 (chars c.args.text.now)) c.self.inside.pages.entries c.self.inside.written c.self.invariant
    c.push_text.ensures.ok c.push_text.ensures.err (subst (λ (s : SheetContent). length (slice_index_or s.rows (length s.rows - 1) []) < 16384) (sym c.self.view_is) c.requires.room)
