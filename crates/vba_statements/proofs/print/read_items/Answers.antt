use Rattle.std.proofs.Common.{drop, refl, sym}
use Rattle.std.proofs.lemmas.List.{take_rest}
use Rattle.vba_statements.proofs.Fronts.{begins_with}
use Rattle.vba_statements.proofs.Prints.{more, fewer}
use Rattle.vba_statements.proofs.print.read_items.Goals as goal

pub items-smaller : goal.items-smaller
items-smaller c =
    let left = c.items.left.now in
    let t = c.token-item.result in
    fewer left t (drop 1 left) _ _ (begins_with left t c.in-len1-up.len_at_least c.token-item.is)
    (sym (rw (c.in-Some-2.is, take_rest) at c.in_ok-value.ensures))

pub items-preserved : goal.items-preserved
items-preserved c =
    let left = c.items.left.now in
    let t = c.token-item.result in
    rw c.in_ok-push.ensures.items
    (more _ _ _ left t (drop 1 left) _ _ _ c.items.invariant (begins_with left t c.in-len1-up.len_at_least c.token-item.is) (sym c.in-Some.ensures)
    (sym (rw (c.in-Some-2.is, take_rest) at c.in_ok-value.ensures)) refl)
