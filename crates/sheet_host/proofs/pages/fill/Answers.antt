use Rattle.std.proofs.Common.{rules, sym, subst}
use Rattle.std.specs.Prelude.{IsTrue, is_some}
use Rattle.sheet_host.proofs.Changes.{found_page, are_set, page_with, kept_put, keeps_put, has_found, slot_written, some_cond, no_slot}
use Rattle.sheet_host.proofs.pages.fill.Goals as goal

pub returns-in-Some-clause-pages : goal.returns-in-Some-clause-pages
returns-in-Some-clause-pages c =
    are_set c.page_of.result _ _ c.fill_slot.new.page c.requires.pages (c.get_mut.follows.holds c.fill_slot.new.page).0
    (page_with c.page_of.result (c.args.row, c.args.column) c.args.value c.in-Some.page.now.entries _ c.fill_slot.ensures
    (found_page c.page_of.result c.args.pages.now.entries c.in-Some.page.now c.requires.pages.each (sym c.in-Some.ensures.value)))
    (c.get_mut.follows.holds c.fill_slot.new.page).4

pub returns-in-Some-clause-cell : goal.returns-in-Some-clause-cell
returns-in-Some-clause-cell c =
    kept_put c.args.pages.now.entries _ c.page_of.result c.in-Some.page.now c.fill_slot.new.page (c.args.row, c.args.column) c.args.value
    c.requires.pages (returns-in-Some-clause-pages c) c.page_of.ensures (sym c.in-Some.ensures.value)
    ((c.get_mut.follows.holds c.fill_slot.new.page).3 (search rules)).0
    (slot_written (c.args.row, c.args.column) c.args.value c.in-Some.page.now.entries _ c.fill_slot.ensures
    (has_found c.args.pages.now.entries c.in-Some.page.now c.page_of.result (c.args.row, c.args.column) (sym c.in-Some.ensures.value) c.page_of.ensures c.requires.room))

pub returns-in-Some-clause-keeps : goal.returns-in-Some-clause-keeps
returns-in-Some-clause-keeps c = keeps_put c.args.pages.now.entries _ c.page_of.result c.fill_slot.new.page ((c.get_mut.follows.holds c.fill_slot.new.page).3 (search rules)).0
    (λ q is has.
    subst (λ o. IsTrue (is_some o))
    (sym (slot_written (c.args.row, c.args.column) c.args.value c.in-Some.page.now.entries c.fill_slot.new.page.entries c.fill_slot.ensures
    (has_found c.args.pages.now.entries c.in-Some.page.now c.page_of.result (c.args.row, c.args.column) (sym c.in-Some.ensures.value) c.page_of.ensures c.requires.room) q))
    (some_cond _ _ _ (has_found c.args.pages.now.entries c.in-Some.page.now c.page_of.result q (sym c.in-Some.ensures.value) is has)))

pub returns-in_default-clause-cell : goal.returns-in_default-clause-cell
returns-in_default-clause-cell c =
    absurd (no_slot c.args.pages.now.entries c.page_of.result (c.args.row, c.args.column) (sym c.in_default.ensures.value) c.page_of.ensures c.requires.room)
