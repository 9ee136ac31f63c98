-- At the end every character of the text was read.
use Rattle.std.proofs.Common.{length, flat_map, min, sym, ap, ◌∙◌, map-id}
use Rattle.std.proofs.lemmas.Iterator.{YieldsList-from_chars}
use Rattle.std.proofs.lemmas.Iterator.Consumers.{YieldsList-end}
use Rattle.std.specs.Char.Escape.{encode_utf16}
use Rattle.field_table.proofs.frame.unit_count.Goals as goal

pub returns : goal.returns
returns c =
    let end = YieldsList-end (YieldsList-from_chars c.args.text.now c.utf8.text cc) c.loop-character.yielded _ c.loop-character.yielded_by _ _ c.in-None.is
    c.next.ensures.steps in
    c.loop-character.invariant ∙ ap (λ cs. min 18446744073709551615 (length (flat_map encode_utf16 cs))) (sym (map-id c.loop-character.yielded) ∙ end.0)
