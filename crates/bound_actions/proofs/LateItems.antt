-- What arguments lead to in a value, where it is assigned to or set.
use Rattle.std.proofs.Common.{◌≡◌, ◌≢◌, ℕ, zero, suc, ◌<◌, Bool, true, List, [], ◌∷◌, ◌++◌, map, length, refl, sym, ap, subst, ◌∙◌, arith}
use Rattle.vba_base.specs.declared.place.Place.{Place}
use Rattle.vba_lexer.specs.declared.token.Token.{Token}
use Rattle.vba_expression.specs.Tree.{Expr, no_args}
use Rattle.vba_expression.specs.Nodes as nodes
use Rattle.vba_expression.specs.Nodes.{behind_node, behind_nodes, last_tree}
use Rattle.vba_expression.specs.declared.node.ExpressionNode.{ExpressionNode}
use Rattle.vba_expression.specs.declared.node.ExpressionNode.TheVariants as node
use Rattle.bound_project.specs.Drafts.{Drafted}
use Rattle.bound_project.specs.Expressions.{value_place}
use Rattle.bound_project.specs.Lists.{above, exprs_of}
use Rattle.bound_project.specs.Pieces.{Piece, a_place, an_expr}
use Rattle.declared_names.specs.binder.specs.Classes.{has_class}
use Rattle.bound_terms.specs.bound_accesses.specs.bound_names.specs.bound_members.specs.bound_calls.specs.bound_forms.specs.Terms.{Env}
use Rattle.bound_terms.specs.bound_accesses.specs.bound_names.specs.bound_members.specs.bound_calls.specs.bound_forms.specs.Operands.{place_told}
use Rattle.bound_terms.specs.bound_accesses.specs.bound_names.specs.bound_members.specs.bound_calls.specs.bound_forms.specs.ExpressionsBound.{callee, givens, term_of}
use Rattle.bound_terms.specs.bound_accesses.specs.bound_names.specs.bound_members.specs.bound_calls.specs.declared.term.Ending.{Ending}
use Rattle.bound_terms.specs.bound_accesses.specs.bound_names.specs.bound_members.specs.bound_calls.specs.declared.term.Indexed.{Indexed}
use Rattle.bound_terms.specs.bound_accesses.specs.bound_names.specs.bound_members.specs.bound_calls.specs.declared.term.Item.TheVariants as item
use Rattle.bound_terms.specs.bound_accesses.specs.bound_names.specs.bound_members.specs.bound_calls.specs.declared.term.Target.{Target}
use Rattle.bound_terms.specs.bound_accesses.specs.bound_names.specs.bound_members.specs.bound_calls.specs.declared.term.Target.TheVariants as target
use Rattle.bound_terms.specs.bound_accesses.specs.bound_names.specs.bound_members.specs.bound_calls.specs.References.{IsFoundLate}
use Rattle.bound_terms.specs.bound_accesses.specs.bound_names.specs.bound_members.specs.bound_calls.specs.Standing.{IndexedStands, NumbersStand, Stands, TargetStands, on_pieces}
use Rattle.bound_terms.specs.bound_accesses.specs.bound_names.specs.bound_members.specs.bound_calls.proofs.Growing.{grown_twice}
use Rattle.bound_terms.specs.bound_operands.specs.Indexing.{PushesAsPlace}
use Rattle.bound_terms.specs.bound_operands.proofs.Elements.{along_are}
use Rattle.statement_terms.specs.Heights.{AddsOne}
use Rattle.statement_terms.proofs.NodeTrees.{behind_push}
use Rattle.bound_actions.specs.LateItems.{ItemLed, LeadsFrom, ReadsIndexed}

positive : (n : ℕ) → n ≢ 0 → 0 < n
positive zero h = absurd (h refl)
positive (suc n) h = omega arith

-- numbers that are some
pub some_numbers : (count n : ℕ) → count ≢ 0 → count ≡ n → 0 < n
some_numbers count n some is = let N : ℕ → Type 0 = λ (k : ℕ). k ≢ 0 in positive n (subst N is some)

-- the arguments that were read behind a place of a value
led_at : (env : Env) (more : Indexed) (e : Drafted) (base : Expr) (added : nodes.Item) (left right : Token) (below : List Piece) → more.target ≡ target.ValueAsPlace → more.count ≢ 0
    → Stands env e.tables (item.Indexed more ∷ []) (added ∷ nodes.tree base ∷ []) e.pieces (on_pieces below) → ItemLed env base (last_tree (behind_node (node.Index left right) (added ∷ nodes.tree base ∷ []))) left right more.count e.pieces below
led_at env more e base (nodes.tree u) left right below is some h = absurd h
led_at env more e base (nodes.arguments args) left right below is some h =
    let s : IndexedStands env more base args e.pieces h.0 = h.1.0 in
    let gs = givens env args in
    let es = exprs_of s.made in
    let T : Target → Type 0 = λ (z : Target). TargetStands env z more.of more.bounds more.lends more.makes (place_told base) (callee env base (term_of env base)) s.between h.0 in
    let N : Target → Type 0 = λ (z : Target). NumbersStand env z gs s.made in
    let q = subst T is s.target_is in
    record {
      args = args;
      whole_is = refl;
      value = q.whole;
      numbers = s.made;
      count_is = s.count_is;
      indexed_is = q.is gs es (along_are env gs s.made (subst N is s.numbers) (some_numbers more.count (length s.made) some s.count_is));
      on_top = s.on_top ∙ ap (λ (ps : List Piece). above (map an_expr s.made) ps) (q.on_top ∙ ap (λ (ps : List Piece). a_place (value_place q.whole) ∷ ps) h.1.1.1);
    }

pub leads_from : (has : Bool) (env : Env) → has_class env.scope.spaces ≡ has → (x : Ending) (place : Place) (ns : List ExpressionNode) (indexed more : Indexed) (d e f : Drafted) → IsFoundLate has d.tables x true → AddsOne ns → PushesAsPlace x place d e indexed
    → ReadsIndexed env indexed ns e f more → more.target ≡ target.ValueAsPlace → more.count ≢ 0 → LeadsFrom env x place ns d f more.count
leads_from has env known x place ns indexed more d e f late one p r is some =
    let H : Bool → Type 0 = λ (b : Bool). IsFoundLate b d.tables x true in
    record {
      grown = grown_twice d e f p.grown r.goes.grown;
      stands = λ base left right below at k.
          let items = nodes.tree base ∷ [] in
          let start = p.stands env (subst H (sym known) late) base below at k in
          let s = r.goes.stands (nodes.arguments no_args ∷ items) (on_pieces below) (below, (start, (refl, refl))) in
          let same : behind_nodes (nodes.arguments no_args ∷ items) r.behind ≡ one.added ∷ items = sym (ap (λ (l : List ExpressionNode). behind_nodes items l) r.is) ∙ one.is items in
          let S : List nodes.Item → Type 0 = λ (l : List nodes.Item). Stands env f.tables (item.Indexed more ∷ []) l f.pieces (on_pieces below) in
          let led = led_at env more f base one.added left right below is some (subst S same s) in
          let whole : last_tree (behind_nodes items (ns ++ node.Index left right ∷ [])) ≡ last_tree (behind_node (node.Index left right) (one.added ∷ items)) =
          ap last_tree (behind_push items ns (node.Index left right)) ∙ ap (λ (l : List nodes.Item). last_tree (behind_node (node.Index left right) l)) (one.is items) in
          let W : Expr → Type 0 = λ (t : Expr). ItemLed env base t left right more.count f.pieces below in
          subst W (sym whole) led;
    }
