use Rattle.std.proofs.Common.{FitsSigned, w64, rules}
use Rattle.currency.proofs.PrintedLaws.{same_from_printed}
use Rattle.currency.proofs.printing.printed_differs.Goals as goal

pub returns : goal.returns
returns c =
    let left : FitsSigned w64 c.count.result = search rules in
    let right : FitsSigned w64 c.count-2.result = search rules in
    same_from_printed c.args.left c.args.right (rw c.count.ensures at left) (rw c.count-2.ensures at right)
