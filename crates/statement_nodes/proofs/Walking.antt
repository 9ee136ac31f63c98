-- What a For Each goes over.
use Rattle.std.proofs.Common.{◌≡◌, Bool, true, false, ◌∷◌, refl, ◌∙◌, sym, ap, subst}
use Rattle.std.proofs.lemmas.Option.{IfSome_then}
use Rattle.std.specs.Prelude.{Option, IfSome, if◌then◌else◌}
use Rattle.vba_base.specs.declared.place.Place.{Place}
use Rattle.vba_values.specs.Types as type
use Rattle.vba_expression.specs.Tree.{Expr}
use Rattle.bound_project.specs.declared.declared_type.DeclaredType.{DeclaredType}
use Rattle.bound_project.specs.declared.declared_type.DeclaredType.TheVariants.{ArrayOf, Plain}
use Rattle.bound_project.specs.declared.declared_type.ElementType.{ElementType}
use Rattle.bound_project.specs.declared.declared_type.ElementType.TheVariants as element
use Rattle.bound_project.specs.declared.declared_type.ElementType.TheVariants.{Variant}
use Rattle.bound_project.specs.declared.node.NodeKind.TheVariants as node
use Rattle.bound_project.specs.Expressions as bound
use Rattle.bound_project.specs.Expressions.{expr, enumerated, no_exprs, also}
use Rattle.bound_project.specs.Pieces.{an_expr, put}
use Rattle.bound_project.specs.Drafts.{Drafted}
use Rattle.bound_project.specs.View.{declared_view, element_view}
use Rattle.bound_calls.specs.bound_forms.specs.Terms.{Env, broken_rule, expression_of}
use Rattle.bound_calls.specs.bound_forms.specs.Operands.{given_as, may_be_instance, place_told}
use Rattle.bound_calls.specs.bound_forms.specs.ExpressionsBound.{term_of}
use Rattle.bound_calls.specs.bound_forms.specs.StatementsBound.{walked}
use Rattle.bound_calls.specs.declared.term.Tree.{Tree}
use Rattle.bound_calls.specs.Calls.{node_of}
use Rattle.bound_calls.specs.References.{IsInstance, TakesGiven}
use Rattle.bound_calls.specs.Standing.{EndingIs}
use Rattle.bound_calls.specs.declared.term.Ending.{Ending}
use Rattle.bound_calls.specs.bound_declarations.specs.constant_values.specs.declared_names.specs.binder.specs.Classes.{has_class}
use Rattle.bound_calls.specs.Steps.{Leaves}
use Rattle.statement_nodes.specs.Actions.{GroupPushed, Walks, holds_types, is_enumerated}

-- an array of a Type's values is marked, and what may be an object of a class gives way
abbrev walked_so : (env : Env) (place : Place) (e : bound.Expr) (marked by_enumerator : Bool) → bound.Expr
walked_so env place e marked by_enumerator = if marked then broken_rule 27 place (also e no_exprs) else if by_enumerator then expression_of (enumerated e) place type.variant else e

walked_by_type : (env : Env) (place : Place) (e : bound.Expr) → walked env place e ≡ walked_so env place e (holds_types (bound.operand_type e)) (is_enumerated (bound.operand_type e) (may_be_instance env e))
walked_by_type env place (expr made at written (type.array_of of)) = refl
walked_by_type env place (expr made at written of) = refl

walked_as : (env : Env) (place : Place) (e : bound.Expr) (of : DeclaredType) (may marked by_enumerator : Bool) → may_be_instance env e ≡ may → bound.operand_type e ≡ declared_view of → holds_types (declared_view of) ≡ marked
    → is_enumerated (declared_view of) may ≡ by_enumerator → walked env place e ≡ walked_so env place e marked by_enumerator
walked_as env place e of may marked by_enumerator may_is operand holds gives =
    walked_by_type env place e ∙ ap (λ (b : Bool). walked_so env place e b (is_enumerated (bound.operand_type e) (may_be_instance env e))) (ap holds_types operand ∙ holds)
    ∙ ap (λ (b : Bool). walked_so env place e marked b) (ap (λ (u : type.Declared). is_enumerated u (may_be_instance env e)) operand ∙ ap (λ (b : Bool). is_enumerated (declared_view of) b) may_is ∙ gives)

-- whether it gives way, by its type
pub array_stays : (group : DeclaredType) (of : ElementType) (may : Bool) → group ≡ ArrayOf of → false ≡ is_enumerated (declared_view group) may
array_stays group of may is = sym (ap (λ (g : DeclaredType). is_enumerated (declared_view g) may) is)

plain_enumerated : (of : ElementType) (may : Bool) → is_enumerated (element_view of) may ≡ may
plain_enumerated element.Boolean may = refl
plain_enumerated of may = refl

pub plain_gives : (group : DeclaredType) (of : ElementType) (may : Bool) → group ≡ Plain of → may ≡ is_enumerated (declared_view group) may
plain_gives group of may is = sym (ap (λ (g : DeclaredType). is_enumerated (declared_view g) may) is ∙ plain_enumerated of may)

pub walks_others : (may : Bool) (of : DeclaredType) (place : Place) (d : Drafted) → holds_types (declared_view of) ≡ false → is_enumerated (declared_view of) may ≡ false → Walks may of place d d
walks_others may of place d holds gives = record {
  same = record { statements = refl; bodies = refl };
  stands = λ env made below may_is operand on_top. on_top ∙ ap (λ (e : bound.Expr). an_expr e ∷ below) (sym (walked_as env place made of may false false may_is operand holds gives));
}

pub walks_types : (may : Bool) (of : DeclaredType) (place : Place) (d e : Drafted) → holds_types (declared_view of) ≡ true
    → e ≡ record d { pieces = put d.tables (node_of (node.Marked (record { rule = 27; place = place }) 1) place (Plain Variant)) d.pieces }
    → Walks may of place d e
walks_types may of place d e holds is =
    let n = node_of (node.Marked (record { rule = 27; place = place }) 1) place (Plain Variant) in
    subst (λ (x : Drafted). Walks may of place d x) (sym is) (record {
      same = record { statements = refl; bodies = refl };
      stands = λ env made below may_is operand on_top.
          ap (put d.tables n) on_top
          ∙ ap (λ (e : bound.Expr). an_expr e ∷ below) (sym (walked_as env place made of may true (is_enumerated (declared_view of) may) may_is operand holds refl));
    })

pub walks_objects : (may : Bool) (of : DeclaredType) (place : Place) (d e : Drafted) → holds_types (declared_view of) ≡ false → is_enumerated (declared_view of) may ≡ true
    → e ≡ record d { pieces = put d.tables (node_of node.Enumerated place (Plain Variant)) d.pieces } → Walks may of place d e
walks_objects may of place d e holds gives is =
    let n = node_of node.Enumerated place (Plain Variant) in
    subst (λ (x : Drafted). Walks may of place d x) (sym is) (record {
      same = record { statements = refl; bodies = refl };
      stands = λ env made below may_is operand on_top.
          ap (put d.tables n) on_top ∙ ap (λ (e : bound.Expr). an_expr e ∷ below) (sym (walked_as env place made of may false true may_is operand holds gives));
    })

-- a value that was pushed as it is
pub group_pushed : (env : Env) (tree : Expr) (x : Tree) (v : Ending) (may : Option Bool) (place : Place) (d e m g : Drafted) → Leaves env tree d e x → TakesGiven x.term x.place e m v → IfSome may (λ (b : Bool). IsInstance (has_class env.scope.spaces) m.tables v b)
    → g ≡ record m { pieces = put m.tables (node_of v.kind x.place v.of) m.pieces } → place ≡ x.place → GroupPushed env tree v.of place may d g
group_pushed env tree x v may place d e m g l t may_is eq is =
    let n = node_of v.kind x.place v.of in
    let P : Drafted → Type 0 = λ (z : Drafted). GroupPushed env tree v.of place may d z in
    let s = t.stands env (term_of env tree) d.pieces l.stands.term_is in
    let A : Place → Type 0 = λ (q : Place). EndingIs m.tables v q (given_as env (term_of env tree) q) m.pieces d.pieces in
    let told = subst A l.stands.place_is s in
    let made = expression_of told.made (place_told tree) (declared_view v.of) in
    subst P (sym eq) (record {
      pushed = record {
        same = record { statements = t.grown.statements ∙ l.grown.statements; bodies = t.grown.bodies ∙ l.grown.bodies };
        pushed = record {
          made = made;
          is = told.is;
          operand = refl;
          on_top = told.ends n ∙ ap (λ (q : Place). an_expr (expression_of told.made q (declared_view v.of)) ∷ d.pieces) l.stands.place_is;
        };
      };
      place_is = is ∙ l.stands.place_is;
      may_is = IfSome_then may may_is (λ b h. h env told.made (place_told tree) m.pieces d.pieces refl told.ends);
    })
