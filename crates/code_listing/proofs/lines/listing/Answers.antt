use Rattle.std.proofs.Common.{◌+◌, ap, get_or, map, sym, take, ◌∙◌, ◌++◌}
use Rattle.pcode.specs.declared.instr.Instr.TheVariants.{Begin}
use Rattle.pcode.specs.View.{instr_view, tables_of}
use Rattle.code_listing.specs.Listing.{line_of, lines_from, listed}
use Rattle.code_listing.proofs.Listed.{one_more}
use Rattle.code_listing.proofs.lines.listing.Goals as goal

pub loop-address-preserved : goal.loop-address-preserved
loop-address-preserved c =
    let f = instr_view (tables_of c.args.code.now) in
    let instrs = c.deref-instr-items.result.now in
    let address = c.loop-address.address in
    let all = c.deref-instr-items.ensures.value in
    let text = c.in_ok-text.ensures ∙ ap (line_of address) c.listed.ensures in
    c.in_ok-extend_from_slice.ensures.items
    ∙ ap (λ bytes. c.loop-address.bytes.items ++ bytes) (c.as_bytes.ensures.value ∙ text)
    ∙ ap (λ bytes. bytes ++ line_of address (listed (f (get_or instrs address (Begin 0))))) (c.loop-address.invariant ∙ ap (λ is. lines_from 0 (map f (take address is))) (sym all))
    ∙ one_more f instrs address (Begin 0) c.loop-address-test.true
    ∙ ap (λ is. lines_from 0 (map f (take (address + 1) is))) all
