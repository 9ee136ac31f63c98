use Rattle.std.specs.Prelude.{◌*◌}
use Rattle.vba_meaning.specs.Host.{cleared}
use Rattle.run_memory.specs.View.{memory_view}
use Rattle.run_host.specs.View.{told_view}
use Rattle.run_host.proofs.Clears.{all_cleared, next_cleared, next_refused, next_smaller}
use Rattle.run_host.proofs.Telling.{tells_fault}
use Rattle.run_host.proofs.Written.{put_keeps}
use Rattle.vba_meaning.specs.Effects.{Fine, area_in}
use Rattle.std.proofs.Common.{[], ◌∷◌}
use Rattle.sheet_host.specs.declared.cell.CellValue.TheVariants as cell
use Rattle.run_host.proofs.clearing.cleared.Goals as goal

pub returns-in_err-cell_put : goal.returns-in_err-cell_put
returns-in_err-cell_put c =
    let old = told_view c.args.told.now in
    let mid = told_view c.loop-row.told in
    let new = told_view c.cell_put.new.told in
    let m0 = memory_view c.args.memory.now in
    tells_fault (λ done. done) c.from_residual.result c.in_err-cell_put.field-0.0 old new (memory_view c.cell_put.new.memory) (cleared c.args.area
    (c.args.area.rows * c.args.area.columns) m0)
    c.from_residual.ensures.1
    (next_refused c.args.area c.loop-row.after (c.in-Some.row, c.in-Some.column) c.in_err-cell_put.field-0.0 old mid new m0 (memory_view
    c.loop-row.memory) (memory_view c.cell_put.new.memory)
    c.requires.inside c.loop-row.invariant.so c.in-Some.ensures c.in_err-cell_put.ensures)

pub loop-row-smaller : goal.loop-row-smaller
loop-row-smaller c = next_smaller c.args.area c.loop-row.after (c.in-Some.row, c.in-Some.column) c.loop-row.invariant.so.inside
    c.in-Some.ensures.0.inside c.in-Some.ensures.0.behind

pub loop-row-preserved : goal.loop-row-preserved
loop-row-preserved c =
    let m = memory_view c.loop-row.memory in
    let n = memory_view c.cell_put.new.memory in
    let place = area_in c.args.area.sheet.0 c.in-Some.row c.in-Some.column 1 1 in record {
      sheet = put_keeps place (cell.Empty ∷ []) m n c.args.area.sheet c.in_ok-cell_put.ensures.behind c.loop-row.invariant.sheet;
      so = record {
        inside = c.in-Some.ensures.0.inside;
        cleared =
            next_cleared c.args.area c.loop-row.after (c.in-Some.row, c.in-Some.column) (told_view c.args.told.now) (told_view c.loop-row.told)
            (told_view c.cell_put.new.told)
            (memory_view c.args.memory.now) m (Fine tt n) c.requires.inside c.loop-row.invariant.so c.in-Some.ensures c.in_ok-cell_put.ensures;
      };
    }

pub returns : goal.returns
returns c =
    all_cleared c.args.area c.loop-row.after (told_view c.args.told.now) (told_view c.loop-row.told) (memory_view c.args.memory.now) (memory_view
    c.loop-row.memory) c.requires.inside
    c.loop-row.invariant.so c.in_default.ensures
