use Rattle.std.proofs.Common.{Some, None, sym, ap, ◌∙◌}
use Rattle.std.specs.Option.{option_copied}
use Rattle.sheet_host.proofs.Changes.{slot_found}
use Rattle.sheet_host.proofs.Kept.{held, get_kept}
use Rattle.sheet_host.proofs.pages.written.Goals as goal

pub returns-in_err-page : goal.returns-in_err-page
returns-in_err-page c =
    ap option_copied c.from_residual.ensures
    ∙ sym (get_kept c.args.pages.now.entries (c.args.row, c.args.column) c.requires.pages
    ∙ ap held (slot_found c.args.pages.now.entries None c.page_of.result (c.args.row, c.args.column) (sym c.in_err-page.ensures.value) c.page_of.ensures))

pub returns-in_err-slot : goal.returns-in_err-slot
returns-in_err-slot c =
    ap option_copied c.from_residual-in_err-slot.ensures
    ∙ sym (get_kept c.args.pages.now.entries (c.args.row, c.args.column) c.requires.pages
    ∙ ap held (slot_found c.args.pages.now.entries (Some c.in_ok-page.page.now) c.page_of.result (c.args.row, c.args.column) (sym c.in_ok-page.ensures.value) c.page_of.ensures
    ∙ sym c.in_err-slot.ensures.value))

pub returns : goal.returns
returns c =
    c.as_ref.ensures.value
    ∙ sym (get_kept c.args.pages.now.entries (c.args.row, c.args.column) c.requires.pages
    ∙ ap held (slot_found c.args.pages.now.entries (Some c.in_ok-page.page.now) c.page_of.result (c.args.row, c.args.column) (sym c.in_ok-page.ensures.value) c.page_of.ensures
    ∙ sym c.in_ok-slot.ensures.value))
