use Rattle.std.proofs.Common.{◌-◌, ◌<◌, [], length, sym, subst}
use Rattle.std.specs.Prelude.{slice_index_or}
use Rattle.sheet_host.specs.Sheets.{SheetContent}
use Rattle.sheet_host.proofs.Fields.{kept_field}
use Rattle.sheet_host.proofs.sheet.Sheet.push_field.Goals as goal

pub invariant_of-self : goal.invariant_of-self
invariant_of-self c =
    kept_field c.push_field.result c.self.inside.rows c.push_field.new.self c.args.text.now c.self.inside.pages.entries c.self.inside.written c.self.invariant
    c.push_field.ensures.ok c.push_field.ensures.err (subst (λ (s : SheetContent). length (slice_index_or s.rows (length s.rows - 1) []) < 16384) (sym c.self.view_is) c.requires.room)
