-- One parameter more of a signature.
use Rattle.std.proofs.Common.{◌≡◌, ℕ, suc, arith, ◌==◌, Bool, true, false, ◌&&◌, List, [], ◌∷◌, ◌++◌, append_assoc, length, refl, sym, ap, ◌∙◌}
use Rattle.std.proofs.lemmas.List.{map-append}
use Rattle.bound_declarations.specs.constant_values.specs.declared_names.specs.binder.specs.Scopes.{Scope}
use Rattle.bound_declarations.specs.Parameters.{next_items}
use Rattle.signature_rules.specs.Signatures.{Passed, all_passed, passed}
use Rattle.signature_rules.specs.View.{passed_view, signature_view}
use Rattle.signature_rules.specs.declared.passed.Passed.{Passed as Made}
use Rattle.vba_tree.specs.declared.list.Next.{Next}
use Rattle.vba_tree.specs.declared.procedure.Parameter.{Parameter}
use Rattle.vba_tree.specs.Tree as tree
use Rattle.vba_tree.specs.View.{parameter_view}

pub passed_push : (ps : List Made) (p : Made) → signature_view (ps ++ p ∷ []) ≡ signature_view ps ++ passed_view p ∷ []
passed_push ps p = map-append passed_view ps (p ∷ [])

pub append_nothing : (ps : List Passed) → ps ++ [] ≡ ps
append_nothing [] = refl
append_nothing (p ∷ ps) = ap (λ others. p ∷ others) (append_nothing ps)

last_by : (s : Scope) (takes : Bool) (p : tree.Parameter) → all_passed s takes (p ∷ []) ≡ passed s (takes && true) p ∷ []
last_by s true p = refl
last_by s false p = refl

before_others : (s : Scope) (takes : Bool) (p q : tree.Parameter) (ps : List tree.Parameter)
    → all_passed s takes (p ∷ q ∷ ps) ≡ passed s (takes && false) p ∷ all_passed s takes (q ∷ ps)
before_others s true p q ps = refl
before_others s false p q ps = refl

more_than_none : (n : ℕ) → (suc n == 0) ≡ false
more_than_none n = grind arith

passed_next : (s : Scope) (takes value : Bool) (p : tree.Parameter) (behind : List (Next Parameter)) → value ≡ (takes && (length behind == 0))
    → all_passed s takes (p ∷ next_items behind) ≡ passed s value p ∷ all_passed s takes (next_items behind)
passed_next s takes value p [] last = last_by s takes p ∙ ap (λ v. passed s v p ∷ []) (sym last)
passed_next s takes value p (next ∷ behind) last =
    before_others s takes p (parameter_view next.item) (next_items behind)
    ∙ ap (λ v. passed s v p ∷ all_passed s takes (next_items (next ∷ behind)))
    (sym (last ∙ ap (λ b. takes && b) (more_than_none (length behind))))

pub passed_step : (after before : List Passed) (s : Scope) (takes value : Bool) (p : tree.Parameter) (behind : List (Next Parameter))
    → after ≡ before ++ passed s value p ∷ [] → value ≡ (takes && (length behind == 0))
    → after ++ all_passed s takes (next_items behind) ≡ before ++ all_passed s takes (p ∷ next_items behind)
passed_step after before s takes value p behind is last =
    ap (λ xs. xs ++ all_passed s takes (next_items behind)) is
    ∙ append_assoc before (passed s value p ∷ []) (all_passed s takes (next_items behind))
    ∙ ap (λ xs. before ++ xs) (sym (passed_next s takes value p behind last))
