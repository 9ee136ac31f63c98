-- Each turn takes the first character off the text.
use Rattle.std.proofs.Common.{◌++◌, sym, ap, ◌∙◌, append_assoc}
use Rattle.std.specs.Char.{encode_utf8}
use Rattle.std.proofs.lemmas.List.{append-nil}
use Rattle.csv.specs.Writing.{default_writer, escaped}
use Rattle.csv.proofs.WriteFacts.{escaped-append}
use Rattle.vba_base.specs.Text.{encoded}
use Rattle.csv_book.proofs.field.write_text.Goals as goal

pub loop-character-preserved : goal.loop-character-preserved
loop-character-preserved c =
    let file = c.loop-character.file.items in
    let behind = encoded c.in-Some.behind.now in
    let parts = ap (escaped default_writer) c.in-Some.ensures.text ∙ escaped-append default_writer (encode_utf8 c.in-Some.character) behind in
    ap (λ bytes. bytes ++ escaped default_writer behind) c.in_ok-write_character.ensures
    ∙ append_assoc file _ _ ∙ ap (λ bytes. file ++ bytes) (sym parts) ∙ c.loop-character.invariant

pub returns : goal.returns
unfolding escaped
returns c = sym (append-nil _) ∙ rw c.in_default.ensures.text at c.loop-character.invariant
