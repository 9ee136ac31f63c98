use Rattle.std.proofs.Common.{rules, ℕ, sym, ap, subst, ◌∙◌, ◌≡◌}
use Rattle.std.specs.BTreeMap.{BTreeMap}
use Rattle.sheet_host.specs.OneCell.{WritesSlot}
use Rattle.sheet_host.specs.Pages.{Page, cells_of_slots}
use Rattle.sheet_host.proofs.Changes.{added_found, added_new, are_insert, are_set, found_page, if_ok, kept_new, kept_put, kept_set, new_page, on_err, on_ok, PutsPage}
use Rattle.sheet_host.proofs.pages.put.Goals as goal

pub returns-in-Some-clause-pages : goal.returns-in-Some-clause-pages
returns-in-Some-clause-pages c =
    are_set c.page_of-number.result _ _ c.put_slot.new.page c.requires.pages (c.get_mut.follows.holds c.put_slot.new.page).0
    (c.put_slot.ensures.page c.page_of-number.result c.page_of-number.ensures
    (found_page c.page_of-number.result c.args.pages.now.entries c.in-Some.page.now c.requires.pages.each (sym c.in-Some.ensures.value)))
    (c.get_mut.follows.holds c.put_slot.new.page).4

pub returns-in-Some-clause-cell : goal.returns-in-Some-clause-cell
returns-in-Some-clause-cell c =
    on_ok (WritesSlot c.in-Some.page.now.entries c.put_slot.new.page.entries (c.args.row, c.args.column) c.args.value) _ c.put_slot.result c.put_slot.ensures.cell
    (kept_put c.args.pages.now.entries _ c.page_of-number.result c.in-Some.page.now c.put_slot.new.page (c.args.row, c.args.column) c.args.value
    c.requires.pages (returns-in-Some-clause-pages c) c.page_of-number.ensures (sym c.in-Some.ensures.value) ((c.get_mut.follows.holds c.put_slot.new.page).3 (search rules)).0)

pub returns-in-Some-clause-added : goal.returns-in-Some-clause-added
returns-in-Some-clause-added c =
    if_ok _ _ c.put_slot.result
    (λ added is. is ∙ added_found c.args.pages.now.entries c.in-Some.page.now c.page_of-number.result (c.args.row, c.args.column) c.requires.pages (sym c.in-Some.ensures.value) c.page_of-number.ensures)
    c.put_slot.ensures.added

pub returns-in-Some-clause-err : goal.returns-in-Some-clause-err
returns-in-Some-clause-err c =
    on_err (c.put_slot.new.page.entries ≡ c.in-Some.page.now.entries) _ c.put_slot.result c.put_slot.ensures.err
    (λ same. kept_set c.page_of-number.result c.args.pages.now.entries _ c.in-Some.page.now c.put_slot.new.page
    (c.get_mut.follows.holds c.put_slot.new.page).0 (sym c.in-Some.ensures.value) (ap cells_of_slots same))

pub returns-clause-pages : goal.returns-clause-pages
returns-clause-pages c =
    are_insert c.page_of-number.result c.args.pages.now.entries _ _ c.put_slot-2.new.page c.requires.pages
    (ap (λ (pages : BTreeMap ℕ Page). pages.entries) c.get_mut.follows.holds-at-none) c.in_ok-insert.ensures.entries
    (c.put_slot-2.ensures.page c.page_of-number.result c.page_of-number.ensures
    (new_page c.page_of-number.result c.new-page.result.entries c.new-page.ensures.empty c.new-page.ensures.ordered))
    c.in_ok-insert.ensures.ordered

pub returns-clause-cell : goal.returns-clause-cell
returns-clause-cell c =
    kept_new c.args.pages.now.entries _ c.page_of-number.result c.new-page.result.entries c.put_slot-2.new.page (c.args.row, c.args.column) c.args.value
    c.requires.pages (returns-clause-pages c) c.page_of-number.ensures (sym c.in_default.ensures.value) c.new-page.ensures.empty
    (subst (λ (old : BTreeMap ℕ Page). PutsPage old.entries c.insert.new.self.entries c.page_of-number.result c.put_slot-2.new.page)
    c.get_mut.follows.holds-at-none c.in_ok-insert.ensures.updates.0)
    c.in_ok-added.ensures.cell

pub returns-clause-added : goal.returns-clause-added
returns-clause-added c =
    c.in_ok-added.ensures.added
    ∙ added_new c.args.pages.now.entries c.new-page.result.entries c.page_of-number.result (c.args.row, c.args.column) c.requires.pages (sym c.in_default.ensures.value) c.page_of-number.ensures
    c.new-page.ensures.empty
