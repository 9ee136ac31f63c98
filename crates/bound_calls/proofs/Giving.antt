-- Values that are given to what has a type, and marked where that breaks a rule.
use Rattle.std.proofs.Common.{◌≡◌, ℕ, Bool, Option, Some, None, option_map, refl, sym, ap, subst, ◌∙◌}
use Rattle.vba_base.specs.declared.place.Place.{Place}
use Rattle.vba_values.specs.Types.{Declared}
use Rattle.bound_project.specs.declared.declared_type.DeclaredType.{DeclaredType}
use Rattle.bound_project.specs.View.{declared_view}
use Rattle.bound_project.specs.Expressions.{operand_type, no_exprs, also}
use Rattle.bound_project.specs.Expressions as bound
use Rattle.bound_project.specs.Pieces.{put}
use Rattle.bound_project.specs.Drafts.{Drafted}
use Rattle.bound_forms.specs.Terms.{broken_rule, given_rule, given_to, unless_broken}
use Rattle.bound_calls.specs.Calls.{node_of, MarksGiven}
use Rattle.bound_calls.proofs.Growing.{grown_same, grown_pieces}
use Rattle.bound_calls.proofs.Referring.{variant}
use Rattle.bound_calls.proofs.Arguing.{behind, marked_by}

-- a value of a type, by the rule that it breaks
given_by : (of : Declared) (bounded : Bool) (place : Place) (given : DeclaredType) (rule : Option ℕ) (e : bound.Expr) → given_rule of bounded (declared_view given) ≡ rule → operand_type e ≡ declared_view given
    → given_to of bounded place e ≡ unless_broken rule place e
given_by of bounded place given rule e h is = ap (λ u. unless_broken (given_rule of bounded u) place e) is ∙ ap (λ r. unless_broken r place e) h

found_by : (of : Declared) (bounded : Bool) (place : Place) (given : DeclaredType) (rule : Option ℕ) (e : bound.Expr) (found : Option bound.Expr) → given_rule of bounded (declared_view given) ≡ rule → operand_type e ≡ declared_view given
    → found ≡ Some e → option_map (given_to of bounded place) found ≡ Some (unless_broken rule place e)
found_by of bounded place given rule e found h is there = ap (λ o. option_map (given_to of bounded place) o) there ∙ ap (λ x. Some x) (given_by of bounded place given rule e h is)

pub unmarked : (of : Declared) (bounded : Bool) (place : Place) (given : DeclaredType) (d : Drafted) → given_rule of bounded (declared_view given) ≡ None → MarksGiven of bounded place given d d given
unmarked of bounded place given d none = record {
  grown = grown_same d;
  stands = λ found below h. record { made = h.made; is = found_by of bounded place given None h.made found none h.operand h.is; operand = h.operand; on_top = h.on_top };
}

pub marked : (of : Declared) (bounded : Bool) (place : Place) (given : DeclaredType) (rule : ℕ) (d e : Drafted) → given_rule of bounded (declared_view given) ≡ Some rule → e ≡ behind (marked_by rule place) place variant d
    → MarksGiven of bounded place given d e variant
marked of bounded place given rule d e some b =
    let n = node_of (marked_by rule place) place variant in
    let P : Drafted → Type 0 = λ x. MarksGiven of bounded place given d x variant in
    subst P (sym b) (record {
      grown = grown_pieces d (put d.tables n d.pieces);
      stands = λ found below h. record {
        made = broken_rule rule place (also h.made no_exprs);
        is = found_by of bounded place given (Some rule) h.made found some h.operand h.is;
        operand = refl;
        on_top = ap (λ st. put d.tables n st) h.on_top;
      };
    })
