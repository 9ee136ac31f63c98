-- Each turn adds the line of a row.
use Rattle.std.proofs.Common.{◌+◌, ◌++◌, map, sym, ap, ◌∙◌, arith}
use Rattle.std.specs.List.{range_with_len}
use Rattle.std.proofs.lemmas.List.FromFn.{map-range_with_len_more}
use Rattle.csv_book.specs.Writing.{line_of, saved_row, text_of_rows}
use Rattle.csv_book.proofs.Again.{lines_more}
use Rattle.csv_book.proofs.write.write_sheet.Goals as goal

pub loop-row-preserved : goal.loop-row-preserved
loop-row-preserved c =
    let row = saved_row c.args.sheet.now (c.loop-row.row + 1) in
    let rows = map (saved_row c.args.sheet.now) (range_with_len 1 c.loop-row.row) in
    let next = ap text_of_rows (map-range_with_len_more (saved_row c.args.sheet.now) 1 c.loop-row.row (c.loop-row.row + 1) (omega arith)) ∙ lines_more rows row in
    c.in_ok-write_row.ensures ∙ ap (λ bytes. bytes ++ line_of row) c.loop-row.invariant ∙ sym next
