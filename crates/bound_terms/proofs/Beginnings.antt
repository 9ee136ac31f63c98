-- Values in brackets: what begins before them.
use Rattle.std.proofs.Common.{◌≡◌, Bool, true, false, List, [], ◌∷◌, refl, sym, ap, subst, ◌∙◌}
use Rattle.vba_base.specs.declared.place.Place.{Place}
use Rattle.vba_expression.specs.Tree.{no_args}
use Rattle.vba_expression.specs.Nodes as nodes
use Rattle.vba_expression.specs.Nodes.{behind_node}
use Rattle.vba_expression.specs.declared.node.ExpressionNode.TheVariants as node
use Rattle.bound_project.specs.Pieces.{Piece}
use Rattle.bound_project.specs.Drafts.{Drafted}
use Rattle.bound_accesses.specs.bound_names.specs.bound_members.specs.bound_calls.specs.bound_forms.specs.Terms.{Env}
use Rattle.bound_accesses.specs.bound_names.specs.bound_members.specs.bound_calls.specs.bound_forms.specs.Terms as terms
use Rattle.bound_accesses.specs.bound_names.specs.bound_members.specs.bound_calls.specs.bound_forms.specs.Operands.{place_told}
use Rattle.bound_accesses.specs.bound_names.specs.bound_members.specs.bound_calls.specs.bound_forms.specs.Members.{item_of}
use Rattle.bound_accesses.specs.bound_names.specs.bound_members.specs.bound_calls.specs.bound_forms.specs.ExpressionsBound.{callee, term_of}
use Rattle.bound_accesses.specs.bound_names.specs.bound_members.specs.bound_calls.specs.declared.term.Term.{Term}
use Rattle.bound_accesses.specs.bound_names.specs.bound_members.specs.bound_calls.specs.declared.term.Term.TheVariants as term
use Rattle.bound_accesses.specs.bound_names.specs.bound_members.specs.bound_calls.specs.declared.term.Tree.{Tree}
use Rattle.bound_accesses.specs.bound_names.specs.bound_members.specs.bound_calls.specs.declared.term.HostMember.{HostMember}
use Rattle.bound_accesses.specs.bound_names.specs.bound_members.specs.bound_calls.specs.declared.term.Item.{Item}
use Rattle.bound_accesses.specs.bound_names.specs.bound_members.specs.bound_calls.specs.declared.term.Item.TheVariants as items
use Rattle.bound_accesses.specs.bound_names.specs.bound_members.specs.bound_calls.specs.Standing.{TermStands, HostMemberStands, Stands, TakesMember, AllNamed, Base, member_is}
use Rattle.bound_accesses.specs.bound_names.specs.bound_members.specs.bound_calls.specs.Steps.{Goes}
use Rattle.bound_accesses.specs.bound_names.specs.Callee.{CalleeIs}
use Rattle.bound_accesses.specs.Items.{MakesItem}
use Rattle.bound_accesses.specs.bound_names.specs.bound_members.specs.bound_calls.specs.Indexing.{Opens, OpensTerm}
use Rattle.bound_operands.specs.Indexing.{IsBefore, OpensBehind}
use Rattle.bound_terms.specs.Indexing.{OpensItem}
use Rattle.bound_accesses.specs.bound_names.specs.bound_members.specs.bound_calls.proofs.Growing.{grown_twice, all_named, stands_grows}

-- behind a term by itself
pub behind_plain : (env : Env) (x : Tree) (y : Term) (i : Item) (d e : Drafted) → OpensTerm env x y d e i → OpensBehind false env x y d e i
behind_plain env x y i d e o = record {
  grown = o.grown;
  named = o.named;
  stands = λ tree others is below base z at before h s.
      let A : terms.Term → Type 0 = λ (t : terms.Term). TermStands env d.tables y t d.pieces below in o.stands tree others is below base at (subst A (sym before) h) s;
}

pub opens : (env : Env) (x : Tree) (y : Term) (i : Item) (d e f : Drafted) → CalleeIs env x d e y → OpensBehind false env x y e f i → Opens env x d f i
opens env x y i d e f c o = record {
  grown = grown_twice d e f c.grown o.grown;
  named = o.named;
  stands = λ tree others is below base h s.
      let A : List Piece → Type 0 = λ (qs : List Piece). TermStands env e.tables y (callee env tree (term_of env tree)) qs below in
      o.stands tree others is below base (callee env tree (term_of env tree)) h.place_is refl (subst A (sym c.pieces) (c.stands tree d.pieces below h)) s;
}

-- arguments of a member begin, whose object was pushed
takes_before : (b : Bool) (env : Env) (place : Place) (z y m : terms.Term) → IsBefore b env place z y → item_of env place y ≡ m → TakesMember b env place z m
takes_before false env place z y m before is = ap (λ (t : terms.Term). item_of env place t) before ∙ is
takes_before true env place z y m before is = λ g gs. before g gs ∙ is

pub opens_item : (b : Bool) (env : Env) (x : Tree) (y : Term) (m : HostMember) (j : Item) (d e f : Drafted) → MakesItem env x.place y d e (term.HostMember m) → OpensItem b env x m e f j → OpensBehind b env x y d f j
opens_item b env x y m j d e f i o = record {
  grown = grown_twice d e f i.grown o.grown;
  named = o.named;
  stands = λ tree xs is below base z at before h s.
      let place = place_told tree in
      let P : Place → Type 0 = λ (q : Place). TermStands env e.tables (term.HostMember m) (item_of env q z) e.pieces below in
      let k : HostMemberStands e.tables m (item_of env place z) e.pieces below = subst P at (i.stands z below h) in
      o.stands tree xs is k.object below base at (takes_before b env place (callee env tree (term_of env tree)) z (terms.a_host_member k.object (member_is e.tables m)) before k.is) k.on_top s;
}

begin_stands : (env : Env) (x : Tree) (i : Item) (xs : List Item) (d e : Drafted) → AllNamed d.tables xs → Opens env x d e i → (is : List nodes.Item) (base : Base) → Stands env d.tables (items.Tree x ∷ xs) is d.pieces base
    → Stands env e.tables (i ∷ xs) (nodes.arguments no_args ∷ is) e.pieces base
begin_stands env x i xs d e k o [] base h = absurd h
begin_stands env x i xs d e k o (nodes.arguments args ∷ is) base h = absurd h
begin_stands env x i xs d e k o (nodes.tree tree ∷ is) base h = o.stands tree xs is h.0 base h.1.0 (stands_grows env d.tables e.tables o.grown.tables xs k is h.0 base h.1.1)

pub goes_begin : (env : Env) (x : Tree) (i : Item) (xs old new : List Item) (d e : Drafted) → old ≡ items.Tree x ∷ xs → new ≡ i ∷ xs → AllNamed d.tables old → Opens env x d e i → Goes env d old e new (behind_node node.NoArguments)
goes_begin env x i xs old new d e o n k c =
    let g = behind_node node.NoArguments in
    let N : List Item → Type 0 = λ (l : List Item). AllNamed d.tables l in
    let A : List Item → Type 0 = λ (l : List Item). Goes env d l e new g in
    let B : List Item → Type 0 = λ (l : List Item). Goes env d (items.Tree x ∷ xs) e l g in
    let all = subst N o k in
    subst A (sym o) (subst B (sym n) (record {
      grown = c.grown;
      named = (c.named, all_named d.tables e.tables c.grown.tables xs all.1);
      stands = λ is base h. begin_stands env x i xs d e all.1 c is base h;
    }))
