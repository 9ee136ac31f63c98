use Rattle.statement_nodes.proofs.case_lines.selected_value.Goals as goal

pub returns-in-Some-SelectCase : goal.returns-in-Some-SelectCase
returns-in-Some-SelectCase c =
    let line = rw c.in-Some-SelectCase.field-0-is at c.in-Some-SelectCase.ensures in
    let block = c.in-Some.ensures in
    record { outside = block.0; header = _; select_word = _; case_word = _; is = block.1; opened = line }
