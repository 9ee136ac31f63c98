-- The text is that of the form which the bytes have, and no text of a source has a lone surrogate.
use Rattle.std.proofs.Common.{sym, ◌∙◌, ap, subst, arith, IsUtf8, chars, flat_map}
use Rattle.std.proofs.lemmas.Result.{IfOk-weaker}
use Rattle.std.specs.Char.Escape.{encode_utf16}
use Rattle.std.specs.Char.Utf16.{has_unpaired_surrogate}
use Rattle.vba_base.proofs.Sources.{decoded-utf8, decoded-windows_1252, decoded_paired}
use Rattle.vba_base.proofs.decode.decode_source.Goals as goal

pub returns-in-Ok-clause-text : goal.returns-in-Ok-clause-text
returns-in-Ok-clause-text c =
    let marked = c.past_mark.ensures in
    let same = ap (λ bs. flat_map encode_utf16 (chars bs)) (c.in-Ok.ensures.cases.0 ∙ marked) in
    IfOk-weaker c.units_of_utf8.result _ _
    (λ text is. is ∙ same ∙ sym (decoded-utf8 c.args.bytes.now (subst IsUtf8 marked c.in-Ok.ensures.cases.1)))
    c.units_of_utf8.ensures

pub returns-in-Ok-clause-paired : goal.returns-in-Ok-clause-paired
returns-in-Ok-clause-paired c =
    IfOk-weaker c.units_of_utf8.result _ _
    (λ text is. ap has_unpaired_surrogate is ∙ decoded_paired c.args.bytes.now (λ i. omega (arith, c.type_inv.bytes i)))
    (returns-in-Ok-clause-text c)

pub returns-in-Err-clause-text : goal.returns-in-Err-clause-text
returns-in-Err-clause-text c =
    IfOk-weaker c.units_of_windows_1252.result _ _
    (λ text is. is ∙ sym (decoded-windows_1252 c.args.bytes.now (λ are. c.in-Err.ensures.cases.0 (subst IsUtf8 (sym c.past_mark.ensures) are))))
    c.units_of_windows_1252.ensures

pub returns-in-Err-clause-paired : goal.returns-in-Err-clause-paired
returns-in-Err-clause-paired c =
    IfOk-weaker c.units_of_windows_1252.result _ _
    (λ text is. ap has_unpaired_surrogate is ∙ decoded_paired c.args.bytes.now (λ i. omega (arith, c.type_inv.bytes i)))
    (returns-in-Err-clause-text c)
