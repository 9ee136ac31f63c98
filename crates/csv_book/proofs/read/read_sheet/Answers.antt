-- Each turn reads one row: it has a fault, or is added; at last there is none.
use Rattle.std.proofs.Common.{◌∙◌, sym, arith}
use Rattle.csv_book.proofs.Steps.{read_added, read_all, read_refused}
use Rattle.csv_book.proofs.read.read_sheet.Goals as goal

pub returns-in-Some-fault : goal.returns-in-Some-fault
returns-in-Some-fault c =
    let reads = rw c.in-Some.is at c.in_ok-taken.ensures in
    read_refused c.args.bytes.now c.loop-sheet.rest.now c.loop-sheet.sheet c.loop-sheet.invariant c.in-Some.taken c.read_row.new.row c.read_row.new.sheet
    c.in-Some-fault.fault
    reads (sym c.fault.ensures ∙ c.in-Some-fault.is)

pub loop-sheet-preserved : goal.loop-sheet-preserved
loop-sheet-preserved c =
    let reads = rw c.in-Some.is at c.in_ok-taken.ensures in
    let more = read_added c.args.bytes.now c.loop-sheet.rest.now c.loop-sheet.sheet c.loop-sheet.invariant c.in-Some.taken c.read_row.new.row
    c.read_row.new.sheet
    reads (sym c.fault.ensures ∙ c.in_default-fault.is) in
    rw c.behind-rest.ensures more.0

pub loop-sheet-smaller : goal.loop-sheet-smaller
loop-sheet-smaller c =
    let reads = rw c.in-Some.is at c.in_ok-taken.ensures in
    let more = read_added c.args.bytes.now c.loop-sheet.rest.now c.loop-sheet.sheet c.loop-sheet.invariant c.in-Some.taken c.read_row.new.row
    c.read_row.new.sheet
    reads (sym c.fault.ensures ∙ c.in_default-fault.is) in
    omega (arith, more.1, more.2)

pub returns : goal.returns
returns c =
    let reads = rw c.in_default.is at c.in_ok-taken.ensures in
    read_all c.args.bytes.now c.loop-sheet.rest.now c.loop-sheet.sheet c.loop-sheet.invariant c.read_row.new.row c.read_row.new.sheet reads
