use Rattle.std.proofs.Common.{◌≡◌, List, [], ◌∷◌, ◌++◌, map, ap, ◌∙◌}
use Rattle.bound_project.specs.View.{parameter_view}
use Rattle.bound_project.specs.declared.declarations.Parameter.{Parameter}
use Rattle.statement_terms.proofs.Folding.{description_folded, number_folded, source_folded, three_raised}
use Rattle.statement_terms.proofs.raising.raise_parameters.Goals as goal

pub returns : goal.returns
returns c =
    let a = c.in_ok-number.number in
    let b = c.in_ok-source.source in
    let d = c.in_ok-description.description in
    let first : c.push.new.self.items ≡ a ∷ [] = c.in_ok-push.ensures.items ∙ ap (λ (l : List Parameter). l ++ a ∷ []) c.in_ok-parameters.ensures.items in
    let second : c.push-2.new.self.items ≡ a ∷ b ∷ [] = c.in_ok-push-2.ensures.items ∙ ap (λ (l : List Parameter). l ++ b ∷ []) first in
    let all : c.push-3.new.self.items ≡ a ∷ b ∷ d ∷ [] = c.in_ok-push-3.ensures.items ∙ ap (λ (l : List Parameter). l ++ d ∷ []) second in
    ap (λ (l : List Parameter). map parameter_view l) all ∙ three_raised a b d (c.in_ok-number.ensures number_folded) (c.in_ok-source.ensures source_folded) (c.in_ok-description.ensures description_folded)
