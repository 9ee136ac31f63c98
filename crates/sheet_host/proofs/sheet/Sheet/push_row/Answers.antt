use Rattle.std.proofs.Common.{◌<◌, length, sym, subst}
use Rattle.sheet_host.specs.Sheets.{SheetContent}
use Rattle.sheet_host.proofs.Fields.{kept_row}
use Rattle.sheet_host.proofs.sheet.Sheet.push_row.Goals as goal

pub invariant_of-self : goal.invariant_of-self
invariant_of-self c =
    kept_row c.push_row.result c.self.inside.rows c.push_row.new.self c.self.inside.pages.entries c.self.inside.written c.self.invariant
    c.push_row.ensures.ok c.push_row.ensures.err (subst (λ (s : SheetContent). length s.rows < 1048576) (sym c.self.view_is) c.requires.room)
