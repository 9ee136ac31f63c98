use Rattle.std.proofs.Common.{◌∙◌, Ok, ap, sym}
use Rattle.library_calls.proofs.JoinLaws.{joined_elements, short_answer, view_text}
use Rattle.vba_lib.specs.Arguments.{text_answer}
use Rattle.library_calls.proofs.arrays.joined_texts.Goals as goal

pub returns : goal.returns
returns c =
    joined_elements c.args.separator.now _ c.in_ok-check_texts.ensures
    ∙ (ap text_answer (sym c.in_ok-append_joined.ensures.0)
    ∙ (short_answer _ c.in_ok-append_joined.ensures.1 ∙ ap (λ v. Ok v) (view_text c.append_joined.new.text)))
