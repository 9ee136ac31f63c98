-- Objects without a default member with arguments, before brackets.
use Rattle.std.proofs.Common.{◌≡◌, Bool, ◌∷◌, ap, subst, ◌∙◌}
use Rattle.vba_base.specs.declared.place.Place.{Place}
use Rattle.bound_project.specs.View.{declared_view}
use Rattle.bound_project.specs.Pieces.{an_expr}
use Rattle.bound_project.specs.Drafts.{Drafted}
use Rattle.declared_names.specs.binder.specs.Classes.{has_class}
use Rattle.bound_accesses.specs.bound_names.specs.bound_members.specs.bound_calls.specs.bound_forms.specs.Terms.{Env, expression_of}
use Rattle.bound_accesses.specs.bound_names.specs.bound_members.specs.bound_calls.specs.bound_forms.specs.Operands.{place_told}
use Rattle.bound_accesses.specs.bound_names.specs.bound_members.specs.bound_calls.specs.bound_forms.specs.Members.{item_of}
use Rattle.bound_accesses.specs.bound_names.specs.bound_members.specs.bound_calls.specs.bound_forms.specs.ExpressionsBound.{callee, term_of}
use Rattle.bound_accesses.specs.bound_names.specs.bound_members.specs.bound_calls.specs.declared.term.Ending.{Ending}
use Rattle.bound_accesses.specs.bound_names.specs.bound_members.specs.bound_calls.specs.declared.term.Indexed.{Indexed}
use Rattle.bound_accesses.specs.bound_names.specs.bound_members.specs.bound_calls.specs.declared.term.Item.TheVariants as items
use Rattle.bound_accesses.specs.bound_names.specs.bound_members.specs.bound_calls.specs.declared.term.Term.{Term}
use Rattle.bound_accesses.specs.bound_names.specs.bound_members.specs.bound_calls.specs.declared.term.Term.TheVariants as term
use Rattle.bound_accesses.specs.bound_names.specs.bound_members.specs.bound_calls.specs.declared.term.Tree.{Tree}
use Rattle.bound_accesses.specs.bound_names.specs.bound_members.specs.bound_calls.specs.Standing.{TermStands, ValueStands}
use Rattle.bound_accesses.specs.bound_names.specs.bound_members.specs.bound_calls.proofs.Growing.{grown_twice}
use Rattle.bound_accesses.specs.Items.{MakesItem}
use Rattle.bound_operands.specs.Indexing.{OpensBehind, PushesWhole}
use Rattle.bound_operands.proofs.Elements.{indexed_given, opens_whole, whole_stands}

-- what is told of one is indexed
pub opens_lacking : (b : Bool) (env : Env) (has : Bool) (x : Tree) (y : Term) (v : Ending) (i : Indexed) (d e f : Drafted) → has_class env.scope.spaces ≡ has → MakesItem env x.place y d e (term.Value v) → PushesWhole has v x.place e f i
    → OpensBehind b env x y d f (items.Indexed i)
opens_lacking b env has x y v i d e f known m p =
    opens_whole b env x y i d f (grown_twice d e f m.grown p.grown) p.is (λ tree below z at before h.
    let place = place_told tree in
    let called = callee env tree (term_of env tree) in
    let A : Place → Type 0 = λ (q : Place). TermStands env e.tables (term.Value v) (item_of env q z) e.pieces below in
    let t : ValueStands e.tables v (item_of env place z) e.pieces below = subst A at (m.stands z below h) in
    whole_stands env has e.tables v i.target i.of place called t.made e.pieces f.pieces below known p.how t.ends (indexed_given b env place called z t.made (declared_view v.of) before t.is)
    (p.stands t.made below t.ends ∙ ap (λ (q : Place). an_expr (expression_of t.made q (declared_view v.of)) ∷ below) at))
