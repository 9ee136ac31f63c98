-- Items between marks.
use Rattle.std.proofs.Common.{◌≡◌, suc, Bool, false, List, [], ◌∷◌, length, map, Option, is_some, refl, ap, subst, sym}
use Rattle.vba_base.specs.declared.place.Refusal.{Refusal}
use Rattle.vba_lexer.specs.declared.token.Token.{Token}
use Rattle.vba_tree.specs.declared.list.Listed.{Listed}
use Rattle.vba_tree.specs.declared.list.Next.{Next}
use Rattle.vba_tree.specs.declared.procedure.Parameter.{Parameter}
use Rattle.vba_tree.specs.View.{listed_view, parameter_view}
use Rattle.vba_expression.specs.declared.tree.TypeName.{TypeName}
use Rattle.vba_module.specs.Headers.{items_of, all_of, parameter_faults}
use Rattle.module_rules.specs.Found.{noted}
use Rattle.module_rules.specs.Seen.{parameters_behind}

pub length_items : {X A : Type 0} (seen : X → Token × A) (xs : List X) → length (items_of (map seen xs)) ≡ length xs
length_items seen [] = refl
length_items seen (x ∷ xs) = ap suc (length_items seen xs)

-- the first parameter, and the others behind it
pub listed_start : (is_type : TypeName → Bool) (takes_value : Bool) (found new : Option Refusal) (list : Listed Parameter) (behind_optional : Bool) (left : List (Next Parameter))
    → left ≡ list.others.items → behind_optional ≡ is_some list.first.optional_word
    → noted 14 new (parameter_faults is_type takes_value (is_some list.first.optional_word) (parameters_behind left))
    ≡ noted 14 found (parameter_faults is_type takes_value false (parameter_view list.first ∷ parameters_behind left))
    → noted 14 new (parameter_faults is_type takes_value behind_optional (parameters_behind left))
    ≡ noted 14 found (parameter_faults is_type takes_value false (all_of (listed_view parameter_view list)))
listed_start is_type takes_value found new list behind_optional left same is e =
    let F : Bool → List (Next Parameter) → Type 0 = λ b ps.
    noted 14 new (parameter_faults is_type takes_value b (parameters_behind left))
    ≡ noted 14 found (parameter_faults is_type takes_value false (parameter_view list.first ∷ parameters_behind ps)) in
    subst (λ b. F b list.others.items) (sym is) (subst (F (is_some list.first.optional_word)) same e)
