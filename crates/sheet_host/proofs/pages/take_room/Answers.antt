use Rattle.std.proofs.Common.{ℕ, sym, ap, subst, ◌∙◌}
use Rattle.std.specs.BTreeMap.{BTreeMap}
use Rattle.sheet_host.specs.Pages.{Page, cells_of_slots}
use Rattle.sheet_host.proofs.Changes.{found_page, are_set, are_insert, kept_set, kept_insert, new_page, room_put, keeps_put, no_slot, PutsPage}
use Rattle.sheet_host.proofs.pages.take_room.Goals as goal

pub returns-in-Some-clause-pages : goal.returns-in-Some-clause-pages
returns-in-Some-clause-pages c =
    are_set c.page_of-number.result _ _ c.take_slot.new.page c.requires.pages (c.get_mut.follows.holds c.take_slot.new.page).0
    (c.take_slot.ensures.page c.page_of-number.result c.page_of-number.ensures
    (found_page c.page_of-number.result c.args.pages.now.entries c.in-Some.page.now c.requires.pages.each (sym c.in-Some.ensures.value)))
    (c.get_mut.follows.holds c.take_slot.new.page).4

pub returns-in-Some-clause-same : goal.returns-in-Some-clause-same
returns-in-Some-clause-same c =
    kept_set c.page_of-number.result c.args.pages.now.entries _ c.in-Some.page.now c.take_slot.new.page
    (c.get_mut.follows.holds c.take_slot.new.page).0 (sym c.in-Some.ensures.value) c.take_slot.ensures.same

pub returns-clause-pages : goal.returns-clause-pages
returns-clause-pages c =
    are_insert c.page_of-number.result c.args.pages.now.entries _ _ c.take_slot-2.new.page c.requires.pages
    (ap (λ (pages : BTreeMap ℕ Page). pages.entries) c.get_mut.follows.holds-at-none) c.in_ok-insert.ensures.entries
    (c.take_slot-2.ensures.page c.page_of-number.result c.page_of-number.ensures
    (new_page c.page_of-number.result c.new-page.result.entries c.new-page.ensures.empty c.new-page.ensures.ordered))
    c.in_ok-insert.ensures.ordered

pub returns-clause-same : goal.returns-clause-same
returns-clause-same c =
    kept_insert c.page_of-number.result c.args.pages.now.entries _ _ c.take_slot-2.new.page
    (ap (λ (pages : BTreeMap ℕ Page). pages.entries) c.get_mut.follows.holds-at-none) c.in_ok-insert.ensures.entries
    (sym c.in_default.ensures.value) (c.take_slot-2.ensures.same ∙ ap cells_of_slots c.new-page.ensures.empty)

pub returns-clause-room : goal.returns-clause-room
returns-clause-room c =
    room_put c.get_mut.follows.lender-at-none.entries _ c.page_of-number.result c.take_slot-2.new.page c.in_ok-insert.ensures.updates.0
    (c.args.row, c.args.column) c.page_of-number.ensures c.in_ok-take_slot.ensures.room

pub returns-clause-keeps : goal.returns-clause-keeps
returns-clause-keeps c = keeps_put c.args.pages.now.entries c.insert.new.self.entries c.page_of-number.result c.take_slot-2.new.page
    (subst (λ (old : BTreeMap ℕ Page). PutsPage old.entries c.insert.new.self.entries c.page_of-number.result c.take_slot-2.new.page)
    c.get_mut.follows.holds-at-none c.in_ok-insert.ensures.updates.0)
    (λ q is has. absurd (no_slot c.args.pages.now.entries c.page_of-number.result q (sym c.in_default.ensures.value) is has))
