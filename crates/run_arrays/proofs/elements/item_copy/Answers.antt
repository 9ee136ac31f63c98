use Rattle.std.proofs.Common.{sym, ◌∙◌, arith, rules}
use Rattle.vba_values.specs.declared.value.Value.{the_lemmas}
use Rattle.run_arrays.proofs.Found.{item_past}
use Rattle.run_arrays.proofs.elements.item_copy.Goals as goal

pub returns-else-offset-len : goal.returns-else-offset-len
returns-else-offset-len c =
    let e = c.len.ensures in
    search (rules, the_lemmas) ∙ sym (item_past c.args.items.now.items c.args.offset (omega arith))
