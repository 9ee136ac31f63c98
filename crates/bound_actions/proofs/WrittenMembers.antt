-- Members of objects that are assigned to.
use Rattle.std.proofs.Common.{◌≡◌, Bool, false, List, [], ◌∷◌, Option, refl, sym, subst}
use Rattle.vba_base.specs.declared.place.Place.{Place}
use Rattle.vba_expression.specs.Tree.{no_args}
use Rattle.vba_expression.specs.Nodes as nodes
use Rattle.vba_expression.specs.Nodes.{behind_nodes, last_tree}
use Rattle.vba_expression.specs.declared.node.ExpressionNode.{ExpressionNode}
use Rattle.vba_expression.specs.declared.node.ExpressionNode.TheVariants as node
use Rattle.bound_project.specs.declared.statement.ActionKind.{ActionKind}
use Rattle.bound_project.specs.Drafts.{Drafted}
use Rattle.declared_names.specs.binder.specs.Classes.{has_class}
use Rattle.bound_terms.specs.bound_accesses.specs.bound_names.specs.bound_members.specs.bound_calls.specs.bound_forms.specs.Terms.{Env}
use Rattle.bound_terms.specs.bound_accesses.specs.bound_names.specs.bound_members.specs.bound_calls.specs.bound_forms.specs.Members.{item_of}
use Rattle.bound_terms.specs.bound_accesses.specs.bound_names.specs.bound_members.specs.bound_calls.specs.bound_forms.specs.ExpressionsBound.{callee, term_of}
use Rattle.bound_terms.specs.bound_accesses.specs.bound_names.specs.bound_members.specs.bound_calls.specs.declared.term.HostMember.{HostMember}
use Rattle.bound_terms.specs.bound_accesses.specs.bound_names.specs.bound_members.specs.bound_calls.specs.declared.term.MemberCall.{MemberCall}
use Rattle.bound_terms.specs.bound_accesses.specs.bound_names.specs.bound_members.specs.bound_calls.specs.declared.term.Item.{Item}
use Rattle.bound_terms.specs.bound_accesses.specs.bound_names.specs.bound_members.specs.bound_calls.specs.declared.term.Term.{Term}
use Rattle.bound_terms.specs.bound_accesses.specs.bound_names.specs.bound_members.specs.bound_calls.specs.declared.term.Term.TheVariants as term
use Rattle.bound_terms.specs.bound_accesses.specs.bound_names.specs.bound_members.specs.bound_calls.specs.Standing.{HostMemberStands, TermStands, on_pieces}
use Rattle.bound_terms.specs.bound_accesses.specs.bound_names.specs.bound_members.specs.bound_calls.proofs.Growing.{grown_twice}
use Rattle.bound_terms.specs.bound_accesses.specs.bound_names.specs.bound_members.specs.MemberCalls.{OpensMember}
use Rattle.bound_terms.specs.bound_accesses.specs.Items.{MakesItem}
use Rattle.statement_terms.specs.Called.{item_before}
use Rattle.statement_terms.specs.Members.{AssignsItem, GivesMember, ReadsOnto, WritesCall}
use Rattle.statement_terms.proofs.NodeTrees.{behind_push}
use Rattle.statement_terms.proofs.WrittenMembers.{member_given}

-- ---- with arguments

pub item_assigned : (has : Bool) (env : Env) (may : Option Bool) → has_class env.scope.spaces ≡ has → (place : Place) (y : Term) (m : HostMember) (c x : MemberCall) (ns : List ExpressionNode) (kind : ActionKind) (d h i j e : Drafted) → MakesItem env place y d h (term.HostMember m) → OpensMember has false place m h i c
    → ReadsOnto env c ns i j x → WritesCall may x j e kind → AssignsItem env may place y ns d e kind
item_assigned has env may known place y m c x ns kind d h i j e made opened r w =
    let L : List ExpressionNode → Type 0 = λ (l : List ExpressionNode). AssignsItem env may place y l d e kind in
    subst L (sym r.is) (record {
      grown = grown_twice d h e made.grown (grown_twice h i e opened.grown (grown_twice i j e r.goes.grown w.grown));
      named = w.named;
      stands = λ tree left right below at k.
          let A : Place → Type 0 = λ (p : Place). TermStands env h.tables (term.HostMember m) (item_of env p (callee env tree (term_of env tree))) h.pieces below in
          let there : HostMemberStands h.tables m (item_before env tree) h.pieces below = subst A at (made.stands (callee env tree (term_of env tree)) below k) in
          let start = opened.stands env known tree [] [] there.object below (on_pieces below) at there.is there.on_top (refl, refl) in
          let is = behind_nodes (nodes.arguments no_args ∷ nodes.tree tree ∷ []) r.behind in
          let done = member_given env may x kind left right j e is below r.no_property w (r.goes.stands (nodes.arguments no_args ∷ nodes.tree tree ∷ []) (on_pieces below) start) in
          let T : List nodes.Item → Type 0 = λ (l : List nodes.Item). GivesMember env may (last_tree l) kind e.tables e.pieces below in
          subst T (sym (behind_push (nodes.tree tree ∷ []) (node.NoArguments ∷ r.behind) (node.Index left right))) done;
    })
