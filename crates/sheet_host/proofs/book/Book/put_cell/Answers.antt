use Rattle.std.proofs.Common.{refl, sym, ap, ◌∙◌, ◌+◌, ◌-◌, ◌≡◌, ◌∷◌, [], cond}
use Rattle.sheet_host.specs.AreaCells.{one_cell}
use Rattle.sheet_host.specs.Books.{written_count}
use Rattle.sheet_host.specs.Sheets.{Position}
use Rattle.sheet_host.proofs.Puts.{one_if, one_unwritten, one_value}
use Rattle.sheet_host.proofs.Shelves.{keeps_limit, passes_limit, place_inside, puts_nothing, same_sheets, sheets_with_area, shelf_set, total}
use Rattle.sheet_host.proofs.book.Book.put_cell.Goals as goal

pub returns-then-is_full_for : goal.returns-then-is_full_for
returns-then-is_full_for c = (
  passes_limit c.args.self.now c.args.sheet (c.args.row, c.args.column) c.args.cell c.requires.sheet.first c.requires.sheet.last (sym c.is_full_for.ensures ∙ c.if-is_full_for.true),
  refl,
  refl,
)

pub returns-in_err-added : goal.returns-in_err-added
returns-in_err-added c =
    let p : Position = (c.args.row, c.args.column) in
    let same = same_sheets c.self.inside.sheets.items c.args.self.now (c.args.sheet.0 - 1) c.index_mut.result.now c.put_value.new.self c.self.view_is c.index_mut.ensures.value c.in_err-added.ensures.err in
    puts_nothing c.from_residual.result c.args.self.now (one_cell c.args.sheet p) (c.args.cell ∷ []) _ c.from_residual.ensures.1
    (keeps_limit c.args.self.now c.args.sheet p c.args.cell c.requires.sheet.first c.requires.sheet.last (sym c.is_full_for.ensures ∙ c.if-is_full_for.false)) same

pub invariant_of-self-2 : goal.invariant_of-self-2
invariant_of-self-2 c =
    let p : Position = (c.args.row, c.args.column) in
    let area = one_cell c.args.sheet p in
    let items = c.self.inside.sheets.items in
    let lt = place_inside items c.args.self.now area c.self.view_is c.requires.sheet.first c.requires.sheet.last in
    let added : c.from.result ≡ cond c.in_ok-added.added 1 0 = one_if c.from.result c.in_ok-added.added c.from.ensures in
    let sum = total items c.args.self.now area (c.args.cell ∷ []) c.index_mut.result.now c.self.inside.written c.from.result 1 c.self.invariant c.self.view_is
    c.requires.sheet.first c.requires.sheet.last c.index_mut.ensures.value
    (added ∙ ap (λ b. cond b 1 0) c.in_ok-added.ensures.added ∙ sym (one_unwritten c.index_mut.result.now.sheet.cells c.args.sheet p)) refl in
    let same = sheets_with_area items c.args.self.now area (c.args.cell ∷ []) c.index_mut.result.now c.put_value.new.self c.self.view_is lt c.index_mut.ensures.value
    (c.in_ok-added.ensures.ok ∙ one_value c.index_mut.result.now.sheet c.args.sheet p c.args.cell) in
    shelf_set items (c.args.sheet.0 - 1) c.self.inside.written (c.self.inside.written + c.from.result) c.index_mut.result.now c.put_value.new.self c.self.invariant lt c.index_mut.ensures.value
    (sym sum ∙ ap written_count (sym same))

pub returns : goal.returns
returns c =
    let p : Position = (c.args.row, c.args.column) in
    let area = one_cell c.args.sheet p in
    let items = c.self.inside.sheets.items in
    let lt = place_inside items c.args.self.now area c.self.view_is c.requires.sheet.first c.requires.sheet.last in (
      keeps_limit c.args.self.now c.args.sheet p c.args.cell c.requires.sheet.first c.requires.sheet.last (sym c.is_full_for.ensures ∙ c.if-is_full_for.false),
      sheets_with_area items c.args.self.now area (c.args.cell ∷ []) c.index_mut.result.now c.put_value.new.self c.self.view_is lt c.index_mut.ensures.value
          (c.in_ok-added.ensures.ok ∙ one_value c.index_mut.result.now.sheet c.args.sheet p c.args.cell),
    )
