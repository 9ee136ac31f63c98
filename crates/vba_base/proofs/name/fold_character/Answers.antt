-- At the end every character of the fold was added.
use Rattle.std.proofs.Common.{◌++◌, [], ◌∷◌, Some, flat_map, sym, ap, subst, ◌∙◌, map-id}
use Rattle.std.proofs.lemmas.Iterator.Adapters.{YieldsList-from_once}
use Rattle.std.proofs.lemmas.Iterator.Consumers.{YieldsList-end}
use Rattle.std.specs.Char.Escape.{encode_utf16}
use Rattle.std.specs.Iterator.Adapters.{once_steps}
use Rattle.caseless.specs.CaseFold.{FoldsCaseTo, CaseFoldSteps}
use Rattle.caseless.specs.Caseless.{default_case_fold}
use Rattle.caseless.proofs.CaselessLemmas.{Spells-CaseFold}
use Rattle.vba_base.proofs.name.fold_character.Goals as goal

pub returns : goal.returns
returns c =
    let source = YieldsList-from_once (Some c.args.character) c.once.ensures.item in
    let all = c.default_case_fold-part-items.ensures.text (c.args.character ∷ []) source.runs in
    let walked = subst (λ s. FoldsCaseTo once_steps s (default_case_fold (c.args.character ∷ []))) (sym c.into_iter-part-iterator.ensures.into_iter_gives) all in
    let end = YieldsList-end {steps = CaseFoldSteps once_steps} {s = c.into_iter-part-iterator.result} (record { runs = Spells-CaseFold walked }) c.loop-part.yielded _ c.loop-part.yielded_by _ _ c.in-None.is c.next.ensures.steps in
    c.loop-part.invariant ∙ ap (λ cs. c.args.units.now ++ flat_map encode_utf16 cs) (sym (map-id c.loop-part.yielded) ∙ end.0)
