use Rattle.std.proofs.Common.{rules, ap, ◌∙◌}
use Rattle.vba_base.specs.Fold.{folded}
use Rattle.sheet_host.proofs.Shelves.{shelf_push}
use Rattle.sheet_host.proofs.book.Book.add.Goals as goal

pub invariant_of-self-2 : goal.invariant_of-self-2
invariant_of-self-2 c =
    shelf_push c.self.inside.sheets.items c.push.new.self.items _ c.self.inside.written c.in-Ok-Some.written c.self.invariant c.in_ok-push.ensures.items
    (c.in_ok-folded.ensures ∙ ap folded c.units.ensures) (search rules) (search rules)
