use Rattle.std.proofs.Common.{FitsSigned, w64, rules}
use Rattle.currency.proofs.PrintedLaws.{parsed_printed}
use Rattle.currency.proofs.printing.printed_parses.Goals as goal

pub returns : goal.returns
returns c =
    let fits : FitsSigned w64 c.count-count.result = search rules in
    parsed_printed c.args.value (rw c.count-count.ensures at fits)
