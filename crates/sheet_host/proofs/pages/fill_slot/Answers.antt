use Rattle.std.proofs.Common.{sym, ap, ◌∙◌, Some}
use Rattle.sheet_host.specs.Pages.{Page}
use Rattle.sheet_host.proofs.Changes.{set_absent}
use Rattle.sheet_host.proofs.pages.fill_slot.Goals as goal

pub returns-in_default : goal.returns-in_default
returns-in_default c =
    ap (λ (page : Page). page.entries) c.get_mut.follows.holds-at-none
    ∙ sym (set_absent (c.args.row, c.args.column) c.args.page.now.entries (Some c.args.value) (sym c.in_default.ensures.value))
