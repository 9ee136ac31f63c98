use Rattle.std.proofs.Common.{refl, arith, sym, ap, ◌∙◌, ◌+◌, ◌-◌, ◌≤◌, ◌≡◌}
use Rattle.sheet_host.specs.Books.{with_area, written_count}
use Rattle.sheet_host.proofs.Shelves.{total, place_inside, cells_counted, same_sheets, sheets_with_area, shelf_set, puts_nothing}
use Rattle.sheet_host.proofs.book.Book.put.Goals as goal

pub returns-then-written-gt-CELLS : goal.returns-then-written-gt-CELLS
returns-then-written-gt-CELLS c = (
  omega (
    arith,
    c.if-written-gt-CELLS.true,
    c.saturating_add-written.ensures,
    total c.self.inside.sheets.items c.args.self.now c.args.area c.args.cells.items c.index.result.now
        c.self.inside.written c.unwritten_in-added.result _ c.self.invariant c.self.view_is c.requires.sheet.first c.requires.sheet.last c.index.ensures c.unwritten_in-added.ensures c.requires.count,
  ),
  refl,
  refl,
)

pub put_values-requires-clause-fits : goal.put_values-requires-clause-fits
put_values-requires-clause-fits c =
    let lt = place_inside c.self.inside.sheets.items c.args.self.now c.args.area c.self.view_is c.requires.sheet.first c.requires.sheet.last in
    omega (arith, c.if-written-gt-CELLS.false, c.saturating_add-written.ensures, cells_counted c.self.inside.sheets.items (c.args.area.sheet.0 - 1) c.self.inside.written c.index_mut.result.now c.self.invariant lt c.index_mut.ensures.value)

pub returns-in_err-put_values : goal.returns-in_err-put_values
returns-in_err-put_values c =
    let same = same_sheets c.self.inside.sheets.items c.args.self.now (c.args.area.sheet.0 - 1) c.index_mut.result.now c.put_values.new.self c.self.view_is c.index_mut.ensures.value c.in_err-put_values.ensures.err in
    let sum = total c.self.inside.sheets.items c.args.self.now c.args.area c.args.cells.items c.index.result.now
    c.self.inside.written c.unwritten_in-added.result _ c.self.invariant c.self.view_is c.requires.sheet.first c.requires.sheet.last c.index.ensures c.unwritten_in-added.ensures c.requires.count in
    let few : written_count (with_area c.args.self.now c.args.area c.args.cells.items) ≤ 4000000 = omega (arith, c.if-written-gt-CELLS.false, c.saturating_add-written.ensures, sum) in
    puts_nothing c.from_residual.result c.args.self.now c.args.area c.args.cells.items _ c.from_residual.ensures.1 few same

pub invariant_of-self-2 : goal.invariant_of-self-2
invariant_of-self-2 c =
    let items = c.self.inside.sheets.items in
    let lt = place_inside items c.args.self.now c.args.area c.self.view_is c.requires.sheet.first c.requires.sheet.last in
    let sum = total items c.args.self.now c.args.area c.args.cells.items c.index.result.now
    c.self.inside.written c.unwritten_in-added.result _ c.self.invariant c.self.view_is c.requires.sheet.first c.requires.sheet.last c.index.ensures c.unwritten_in-added.ensures c.requires.count in
    let same = sheets_with_area items c.args.self.now c.args.area c.args.cells.items c.index_mut.result.now c.put_values.new.self c.self.view_is lt c.index_mut.ensures.value c.in_ok-put_values.ensures.ok in
    let is : c.saturating_add-written.result ≡ c.self.inside.written + c.unwritten_in-added.result = omega (arith, c.if-written-gt-CELLS.false, c.saturating_add-written.ensures) in
    shelf_set items (c.args.area.sheet.0 - 1) c.self.inside.written c.saturating_add-written.result c.index_mut.result.now c.put_values.new.self c.self.invariant lt c.index_mut.ensures.value
    (is ∙ sym sum ∙ ap written_count (sym same))

pub returns : goal.returns
returns c =
    let items = c.self.inside.sheets.items in
    let lt = place_inside items c.args.self.now c.args.area c.self.view_is c.requires.sheet.first c.requires.sheet.last in
    let sum = total items c.args.self.now c.args.area c.args.cells.items c.index.result.now
    c.self.inside.written c.unwritten_in-added.result _ c.self.invariant c.self.view_is c.requires.sheet.first c.requires.sheet.last c.index.ensures c.unwritten_in-added.ensures c.requires.count in (
      omega (arith, c.if-written-gt-CELLS.false, c.saturating_add-written.ensures, sum),
      sheets_with_area items c.args.self.now c.args.area c.args.cells.items c.index_mut.result.now c.put_values.new.self c.self.view_is lt c.index_mut.ensures.value c.in_ok-put_values.ensures.ok,
    )
