use Rattle.std.proofs.Common.{◌≡◌, sym, ap, subst, ◌∙◌}
use Rattle.sheet_host.specs.declared.area.Area.{Area}
use Rattle.sheet_host.specs.Books.{content_at}
use Rattle.sheet_host.specs.Sheets.{SheetContent, area_of_corners, used_area, used_corners}
use Rattle.sheet_host.specs.Smallest.{CountFromOne, HoldsAllFilled, IsPartOf}
use Rattle.sheet_host.proofs.Smallest.{holds_filled, none_filled, smallest}
use Rattle.sheet_host.proofs.book.Book.used.Goals as goal

pub returns-clause-holds : goal.returns-clause-holds
returns-clause-holds c =
    let content = content_at c.args.self.now c.args.sheet in
    let is : c.area_of_corners.result ≡ used_area c.args.sheet content =
    c.area_of_corners.ensures.value ∙ ap (area_of_corners c.args.sheet) (c.used_corners.ensures.corners ∙ ap (λ (s : SheetContent). used_corners s) c.sheet.ensures) in
    subst (λ (area : Area). HoldsAllFilled content area) (sym is) (holds_filled c.args.sheet content)

pub returns-clause-smallest : goal.returns-clause-smallest
returns-clause-smallest c =
    let content = content_at c.args.self.now c.args.sheet in
    let is : c.area_of_corners.result ≡ used_area c.args.sheet content =
    c.area_of_corners.ensures.value ∙ ap (area_of_corners c.args.sheet) (c.used_corners.ensures.corners ∙ ap (λ (s : SheetContent). used_corners s) c.sheet.ensures) in
    let count = subst (λ (s : SheetContent). CountFromOne s) c.sheet.ensures c.used_corners.ensures.places in
    λ area first filled holds. subst (λ (part : Area). IsPartOf part area) (sym is) (smallest c.args.sheet content area first count filled holds)

pub returns-clause-none : goal.returns-clause-none
returns-clause-none c =
    let content = content_at c.args.self.now c.args.sheet in
    let is : c.area_of_corners.result ≡ used_area c.args.sheet content =
    c.area_of_corners.ensures.value ∙ ap (area_of_corners c.args.sheet) (c.used_corners.ensures.corners ∙ ap (λ (s : SheetContent). used_corners s) c.sheet.ensures) in
    let count = subst (λ (s : SheetContent). CountFromOne s) c.sheet.ensures c.used_corners.ensures.places in
    λ none. is ∙ none_filled c.args.sheet content count none
