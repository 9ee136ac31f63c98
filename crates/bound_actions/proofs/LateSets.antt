-- Members of objects that are set.
use Rattle.std.proofs.Common.{◌≡◌, Bool, true, false, List, [], ◌∷◌, ◌++◌, length, ◌<◌, not, Option, Some, None, is_some, if◌then◌else◌, refl, sym, ap, subst, ◌∙◌}
use Rattle.std.proofs.lemmas.Bool.{not-false, not-true}
use Rattle.vba_base.specs.declared.place.Place.{Place}
use Rattle.vba_lexer.specs.declared.token.Token.{Token}
use Rattle.vba_expression.specs.Tree.{Args, Expr, index, no_args}
use Rattle.vba_expression.specs.Nodes as nodes
use Rattle.vba_expression.specs.Nodes.{behind_node, behind_nodes, last_arguments, last_tree}
use Rattle.vba_expression.specs.declared.node.ExpressionNode.{ExpressionNode}
use Rattle.vba_expression.specs.declared.node.ExpressionNode.TheVariants as node
use Rattle.bound_project.specs.declared.statement.ActionKind.{ActionKind}
use Rattle.bound_project.specs.Drafts.{Drafted}
use Rattle.bound_project.specs.Expressions.{ByName}
use Rattle.bound_project.specs.Expressions as bound
use Rattle.bound_project.specs.Pieces.{Piece, Tables, an_expr}
use Rattle.bound_project.specs.Statements.{Action, set_late}
use Rattle.declared_names.specs.binder.specs.Classes.{has_class}
use Rattle.declared_names.specs.binder.specs.Options.{from_two, or_else}
use Rattle.bound_terms.specs.bound_accesses.specs.bound_names.specs.bound_members.specs.bound_calls.specs.bound_forms.specs.Terms.{Env, Given, a_host_member, given_by_name}
use Rattle.bound_terms.specs.bound_accesses.specs.bound_names.specs.bound_members.specs.bound_calls.specs.bound_forms.specs.Terms as plain
use Rattle.bound_terms.specs.bound_accesses.specs.bound_names.specs.bound_members.specs.bound_calls.specs.bound_forms.specs.Operands.{place_told}
use Rattle.bound_terms.specs.bound_accesses.specs.bound_names.specs.bound_members.specs.bound_calls.specs.bound_forms.specs.Members.{item_of}
use Rattle.bound_terms.specs.bound_accesses.specs.bound_names.specs.bound_members.specs.bound_calls.specs.bound_forms.specs.ExpressionsBound.{callee, givens, indexed, late_arguments, term_of}
use Rattle.bound_terms.specs.bound_accesses.specs.bound_names.specs.bound_members.specs.bound_calls.specs.bound_forms.specs.Targets.{class_of_term, set_by, set_to}
use Rattle.bound_terms.specs.bound_accesses.specs.bound_names.specs.bound_members.specs.bound_calls.specs.declared.term.HostMember.{HostMember}
use Rattle.bound_terms.specs.bound_accesses.specs.bound_names.specs.bound_members.specs.bound_calls.specs.declared.term.Item.TheVariants as item
use Rattle.bound_terms.specs.bound_accesses.specs.bound_names.specs.bound_members.specs.bound_calls.specs.declared.term.MemberCall.{MemberCall}
use Rattle.bound_terms.specs.bound_accesses.specs.bound_names.specs.bound_members.specs.bound_calls.specs.declared.term.Term.{Term}
use Rattle.bound_terms.specs.bound_accesses.specs.bound_names.specs.bound_members.specs.bound_calls.specs.declared.term.Term.TheVariants as term
use Rattle.bound_terms.specs.bound_accesses.specs.bound_names.specs.bound_members.specs.bound_calls.specs.Taking.{PushesSheet}
use Rattle.bound_terms.specs.bound_accesses.specs.bound_names.specs.bound_members.specs.bound_calls.specs.Standing.{HostMemberStands, MemberStands, Stands, TermStands, member_is, on_pieces}
use Rattle.bound_terms.specs.bound_accesses.specs.bound_names.specs.bound_members.specs.bound_calls.proofs.Growing.{grown_twice}
use Rattle.bound_terms.specs.bound_accesses.specs.bound_names.specs.bound_members.specs.bound_calls.proofs.Taking.{sheet_stands}
use Rattle.bound_terms.specs.bound_accesses.specs.bound_names.specs.bound_members.specs.bound_calls.specs.declared.term.Ending.{Ending}
use Rattle.bound_terms.specs.bound_accesses.specs.bound_names.specs.bound_members.specs.MemberCalls.{EndsMember, OpensMember}
use Rattle.bound_terms.specs.bound_accesses.specs.Items.{MakesItem}
use Rattle.statement_terms.specs.Called.{ActionIs, args_on, item_before}
use Rattle.statement_terms.specs.Heights.{AddsOne}
use Rattle.statement_terms.specs.Late.{SetsCall, SetsLate}
use Rattle.statement_terms.specs.Members.{ReadsOnto}
use Rattle.statement_terms.specs.Setting.{SetsTerm, set_there, set_with}
use Rattle.statement_terms.proofs.NodeTrees.{behind_push}
use Rattle.statement_terms.proofs.SetTargets.{member_set, set_there_is, split_set}
use Rattle.statement_terms.proofs.TargetsBefore.{before_member}
use Rattle.statement_terms.proofs.WrittenMembers.{member_there, no_member_sub}
use Rattle.bound_actions.specs.LateSets.{SetsGiven, SetsIndexed, SetsItem, SetsMember, SetsSheet, SetsTaken, TakenSet}
use Rattle.bound_actions.specs.Refused.{RefusesSet}

-- a member of the host isn't set by what the run finds
unset_early : (env : Env) (place : Place) (gs : List Given) (value : bound.Expr) (t : plain.Term) (object : bound.Expr) (m : plain.HostMember) → t ≡ a_host_member object m → m.late ≡ false → set_by env place gs t value ≡ None
unset_early env place gs value t object m is early =
    let found : Option Action = from_two (λ (by : ByName) (given : bound.Given). set_late object m.name by given value) (given_by_name gs) (late_arguments env gs) in
    ap (λ (y : plain.Term). set_by env place gs y value) is ∙ ap (λ (b : Bool). if b then found else None) early

-- ---- without arguments

pub member_late : (word place : Place) (m : HostMember) (d e : Drafted) (kind : ActionKind) → SetsLate m d e kind → SetsMember word place m d e kind
member_late word place m d e kind s = record {
  grown = s.grown;
  named = s.named;
  stands = λ env y value h.
      let done = s.stands env place y value h in
      record { made = done.made; is = ap (λ (o : Option Action). or_else o (set_to env word place y value)) done.is; fits = done.fits };
}

pub member_early : (word place : Place) (m : HostMember) (d e : Drafted) (kind : ActionKind) → m.is_late ≡ false → SetsTerm word place (term.HostMember m) d e kind → SetsMember word place m d e kind
member_early word place m d e kind early s = record {
  grown = s.grown;
  named = s.named;
  stands = λ env y value h.
      let done = s.stands env y value h in
      record { made = done.made; is = ap (λ (o : Option Action). or_else o (set_to env word place y value)) (unset_early env place [] value y h.object (member_is d.tables m) h.is early) ∙ done.is; fits = done.fits };
}

-- one of the active sheet, which was pushed
pub member_sheet : (word place : Place) (m : HostMember) (d f e : Drafted) (kind : ActionKind) → PushesSheet d f → SetsMember word place m f e kind → SetsSheet word place m d e kind
member_sheet word place m d f e kind p s = record {
  grown = grown_twice d f e p.grown s.grown;
  named = s.named;
  stands = λ env y value h. s.stands env y value (sheet_stands m d f p env y (an_expr value ∷ []) h);
}

-- the tables are the same behind that
pub sheet_named : (m : HostMember) (d f : Drafted) → PushesSheet d f → m.name < length d.tables.constants → m.name < length f.tables.constants
sheet_named m d f s h = let P : Tables → Type 0 = λ (t : Tables). m.name < length t.constants in subst P (sym s.tables_are) h

-- ---- with arguments

-- what is done with a member that stands before arguments
set_before : (word : Place) (env : Env) (base : Expr) (left right : Token) (args : Args) (value object : bound.Expr) (m : plain.HostMember) → item_before env base ≡ a_host_member object m
    → set_there env word (index base left args right) value
    ≡ or_else (set_by env (place_told base) (givens env args) (a_host_member object m) value) (set_to env word (place_told base) (set_with env (place_told base) (givens env args) (a_host_member object m)) value)
set_before word env base left right args value object m is =
    let p = place_told base in
    let gs = givens env args in
    let z = callee env base (term_of env base) in
    let before = before_member env p gs z object m is in
    set_there_is word env (index base left args right) value (no_member_sub env p z object m is) ∙ split_set word env base left right args value (ap class_of_term before)
    ∙ ap (λ (t : plain.Term). or_else (set_by env p gs t value) (set_to env word p (set_with env p gs t) value)) before

-- one that the run finds, by the nodes of its arguments
member_read : (word : Place) (env : Env) (x : MemberCall) (kind : ActionKind) (left right : Token) (d : Drafted) (is : List nodes.Item) (below : List Piece) → x.of_property ≡ false → SetsCall x d kind → Stands env d.tables (item.Member x ∷ []) is d.pieces (on_pieces below)
    → SetsIndexed env word (last_tree (behind_node (node.Index left right) is)) kind d.tables d.pieces below
member_read word env x kind left right d [] below plainly w h = absurd h
member_read word env x kind left right d (nodes.tree u ∷ is) below plainly w h = absurd h
member_read word env x kind left right d (nodes.arguments args ∷ []) below plainly w h = absurd h
member_read word env x kind left right d (nodes.arguments args ∷ nodes.arguments more ∷ is) below plainly w h = absurd h
member_read word env x kind left right d (nodes.arguments args ∷ nodes.tree base ∷ is) below plainly w h = λ value alone.
    let p = place_told base in
    let gs = givens env args in
    let M = member_is d.tables x.member in
    let s : MemberStands env d.tables x base args d.pieces h.0 = h.1.0 in
    let S : List Piece → Type 0 = λ (l : List Piece). MemberStands env d.tables x base args d.pieces l in
    let there : MemberStands env d.tables x base args d.pieces (an_expr value ∷ []) = subst S (h.1.1.1 ∙ alone) s in
    let done = w.stands env p base args value there in
    let others = set_to env word p (set_with env p gs (a_host_member there.object M)) value in
    record { made = done.made; is = set_before word env base left right args value there.object M (member_there env d.tables x base args d.pieces (an_expr value ∷ []) plainly there) ∙ ap (λ (o : Option Action). or_else o others) done.is; fits = done.fits }

-- a member was opened, and its arguments read behind it
opened_read : (has : Bool) (env : Env) → has_class env.scope.spaces ≡ has → (place : Place) (m : HostMember) (c x : MemberCall) (ns : List ExpressionNode) (d i j : Drafted) → OpensMember has false place m d i c → ReadsOnto env c ns i j x
    → (base : Expr) (below : List Piece) → place ≡ place_told base → TermStands env d.tables (term.HostMember m) (item_before env base) d.pieces below → Stands env j.tables (item.Member x ∷ []) (behind_nodes (nodes.tree base ∷ []) ns) j.pieces (on_pieces below)
opened_read has env known place m c x ns d i j opened r base below at k =
    let items = nodes.arguments no_args ∷ nodes.tree base ∷ [] in
    let start = opened.stands env known base [] [] k.object below (on_pieces below) at k.is k.on_top (refl, refl) in
    let T : List ExpressionNode → Type 0 = λ (l : List ExpressionNode). Stands env j.tables (item.Member x ∷ []) (behind_nodes (nodes.tree base ∷ []) l) j.pieces (on_pieces below) in
    subst T (sym r.is) (r.goes.stands items (on_pieces below) start)

pub sets_given : (has : Bool) (env : Env) → has_class env.scope.spaces ≡ has → (place : Place) (m : HostMember) (c x : MemberCall) (ns : List ExpressionNode) (kind : ActionKind) (d i j : Drafted) → OpensMember has false place m d i c → ReadsOnto env c ns i j x
    → SetsCall x j kind → SetsGiven env place m ns d j kind
sets_given has env known place m c x ns kind d i j opened r w = record {
  grown = grown_twice d i j opened.grown r.goes.grown;
  named = w.named;
  stands = λ word base left right below at k.
      let items = nodes.tree base ∷ [] in
      let done = member_read word env x kind left right j (behind_nodes items ns) below r.no_property w (opened_read has env known place m c x ns d i j opened r base below at k) in
      let T : List nodes.Item → Type 0 = λ (l : List nodes.Item). SetsIndexed env word (last_tree l) kind j.tables j.pieces below in
      subst T (sym (behind_push items ns (node.Index left right))) done;
}

-- one that is known before the run, with arguments that it takes
taken_at : (word place : Place) (env : Env) (x : MemberCall) (kind : ActionKind) (ending : Ending) (left right : Token) (j e : Drafted) (added : nodes.Item) (base : Expr) (below : List Piece) → EndsMember j.tables x (term.Value ending)
    → SetsTerm word place (term.Value ending) j e kind → place ≡ place_told base → Stands env j.tables (item.Member x ∷ []) (added ∷ nodes.tree base ∷ []) j.pieces (on_pieces below)
    → TakenSet env word base (last_tree (behind_node (node.Index left right) (added ∷ nodes.tree base ∷ []))) left right kind e.tables e.pieces below
taken_at word place env x kind ending left right j e (nodes.tree u) base below m s at h = absurd h
taken_at word place env x kind ending left right j e (nodes.arguments args) base below m s at h = record {
  args = args;
  whole_is = refl;
  does = λ value alone.
      let y = indexed env (place_told base) (item_before env base) (givens env args) in
      let S : List Piece → Type 0 = λ (l : List Piece). MemberStands env j.tables x base args j.pieces l in
      let there : MemberStands env j.tables x base args j.pieces (an_expr value ∷ []) = subst S (h.1.1.1 ∙ alone) h.1.0 in
      let A : Place → Type 0 = λ (p : Place). ActionIs kind (set_to env word p y value) e.tables e.pieces in
      subst A at (s.stands env y value (m.stands env base args j.pieces (an_expr value ∷ []) there));
}

pub sets_taken : (has : Bool) (env : Env) → has_class env.scope.spaces ≡ has → (word place : Place) (m : HostMember) (c x : MemberCall) (ns : List ExpressionNode) (ending : Ending) (kind : ActionKind) (d i j e : Drafted) → AddsOne ns → OpensMember has false place m d i c
    → ReadsOnto env c ns i j x → EndsMember j.tables x (term.Value ending) → SetsTerm word place (term.Value ending) j e kind → SetsTaken env word place m ns d e kind
sets_taken has env known word place m c x ns ending kind d i j e one opened r ends s = record {
  grown = grown_twice d j e (grown_twice d i j opened.grown r.goes.grown) s.grown;
  named = s.named;
  stands = λ base left right below at k.
      let items = nodes.tree base ∷ [] in
      let I : List nodes.Item → Type 0 = λ (l : List nodes.Item). Stands env j.tables (item.Member x ∷ []) l j.pieces (on_pieces below) in
      let there = subst I (one.is items) (opened_read has env known place m c x ns d i j opened r base below at k) in
      let T : Expr → Type 0 = λ (q : Expr). TakenSet env word base q left right kind e.tables e.pieces below in
      subst T (sym (ap last_tree (behind_push items ns (node.Index left right)) ∙ ap (λ (l : List nodes.Item). last_tree (behind_node (node.Index left right) l)) (one.is items)))
      (taken_at word place env x kind ending left right j e one.added base below ends s at there);
}

-- what brackets take is that member
member_made : (env : Env) (place : Place) (y : Term) (m : HostMember) (d h : Drafted) (base : Expr) (below : List Piece) → MakesItem env place y d h (term.HostMember m) → place ≡ place_told base
    → TermStands env d.tables y (callee env base (term_of env base)) d.pieces below → HostMemberStands h.tables m (item_before env base) h.pieces below
member_made env place y m d h base below made at k =
    let z = callee env base (term_of env base) in
    let A : Place → Type 0 = λ (p : Place). TermStands env h.tables (term.HostMember m) (item_of env p z) h.pieces below in
    subst A at (made.stands z below k)

pub item_given : (env : Env) (word place : Place) (y : Term) (m : HostMember) (ns : List ExpressionNode) (kind : ActionKind) (d h e : Drafted) → MakesItem env place y d h (term.HostMember m) → SetsGiven env place m ns h e kind → SetsItem env word place y ns d e kind
item_given env word place y m ns kind d h e made s = record {
  grown = grown_twice d h e made.grown s.grown;
  named = s.named;
  stands = λ base left right below at k. s.stands word base left right below at (member_made env place y m d h base below made at k);
}

-- what is done with one that isn't late, by what is set with these arguments
set_early : (word : Place) (env : Env) (base : Expr) (left right : Token) (args : Args) (value object : bound.Expr) (m : plain.HostMember) (u : plain.Term) → m.late ≡ false → item_before env base ≡ a_host_member object m
    → set_with env (place_told base) (givens env args) (a_host_member object m) ≡ u → set_there env word (index base left args right) value ≡ set_to env word (place_told base) u value
set_early word env base left right args value object m u early is same =
    let p = place_told base in
    let gs = givens env args in
    set_before word env base left right args value object m is
    ∙ ap (λ (o : Option Action). or_else o (set_to env word p (set_with env p gs (a_host_member object m)) value)) (unset_early env p gs value (a_host_member object m) object m refl early) ∙ ap (λ (q : plain.Term). set_to env word p q value) same

known_with : (env : Env) (place : Place) (gs : List Given) (object : bound.Expr) (m : plain.HostMember) → not (is_some m.greatest) ≡ false → set_with env place gs (a_host_member object m) ≡ indexed env place (a_host_member object m) gs
known_with env place gs object m known = ap (λ (b : Bool). if b then indexed env place (a_host_member object m) gs else a_host_member object m) (not-false (is_some m.greatest) known)

-- one of the host whose object is known in the run alone: its arguments aren't looked at
pub item_found : (env : Env) (word place : Place) (y : Term) (m : HostMember) (ns : List ExpressionNode) (kind : ActionKind) (d h e : Drafted) → m.is_late ≡ false → not (is_some m.greatest) ≡ true → AddsOne ns → MakesItem env place y d h (term.HostMember m)
    → SetsTerm word place (term.HostMember m) h e kind → SetsItem env word place y ns d e kind
item_found env word place y m ns kind d h e early found one made s = record {
  grown = grown_twice d h e made.grown s.grown;
  named = s.named;
  stands = λ base left right below at k value alone.
      let items = nodes.tree base ∷ [] in
      let args = last_arguments (one.added ∷ items) in
      let p = place_told base in
      let gs = givens env args in
      let whole : last_tree (behind_nodes items (ns ++ node.Index left right ∷ [])) ≡ index base left args right =
      ap last_tree (behind_push items ns (node.Index left right)) ∙ ap (λ (l : List nodes.Item). last_tree (behind_node (node.Index left right) l)) (one.is items) in
      let there = member_made env place y m d h base below made at k in
      let S : List Piece → Type 0 = λ (ps : List Piece). HostMemberStands h.tables m (item_before env base) h.pieces ps in
      let A : Place → Type 0 = λ (q : Place). ActionIs kind (set_to env word q (item_before env base) value) e.tables e.pieces in
      let done = subst A at (s.stands env (item_before env base) value (subst S alone there)) in
      let M = member_is h.tables m in
      let same = member_set env p gs there.object M (not-true (is_some m.greatest) found) in
      let P : Expr → Type 0 = λ (q : Expr). ActionIs kind (set_there env word q value) e.tables e.pieces in
      subst P (sym whole) (record {
        made = done.made;
        is = set_early word env base left right args value there.object M (a_host_member there.object M) early there.is same ∙ sym (ap (λ (q : plain.Term). set_to env word p q value) there.is) ∙ done.is;
        fits = done.fits;
      });
}

-- one that takes these arguments
pub item_taken : (env : Env) (word place : Place) (y : Term) (m : HostMember) (ns : List ExpressionNode) (kind : ActionKind) (d h e : Drafted) → m.is_late ≡ false → not (is_some m.greatest) ≡ false → MakesItem env place y d h (term.HostMember m)
    → SetsTaken env word place m ns h e kind → SetsItem env word place y ns d e kind
item_taken env word place y m ns kind d h e early known made s = record {
  grown = grown_twice d h e made.grown s.grown;
  named = s.named;
  stands = λ base left right below at k.
      let p = place_told base in
      let there = member_made env place y m d h base below made at k in
      let t = s.stands base left right below at there in
      let gs = givens env t.args in
      let M = member_is h.tables m in
      let W : Expr → Type 0 = λ (q : Expr). SetsIndexed env word q kind e.tables e.pieces below in
      subst W (sym t.whole_is) (λ value alone.
      let done = t.does value alone in
      let u = indexed env p (a_host_member there.object M) gs in
      record {
        made = done.made;
        is = set_early word env base left right t.args value there.object M u early there.is (known_with env p gs there.object M known) ∙ sym (ap (λ (q : plain.Term). set_to env word p (indexed env p q gs) value) there.is) ∙ done.is;
        fits = done.fits;
      });
}

-- and one that doesn't
pub item_refused : (env : Env) (word place : Place) (y : Term) (m : HostMember) (ns : List ExpressionNode) (kind : ActionKind) (d h e : Drafted) → m.is_late ≡ false → not (is_some m.greatest) ≡ false → MakesItem env place y d h (term.HostMember m)
    → RefusesSet env word place m ns h e kind → SetsItem env word place y ns d e kind
item_refused env word place y m ns kind d h e early known made r = record {
  grown = grown_twice d h e made.grown r.grown;
  named = r.named;
  stands = λ base left right below at k value alone.
      let items = nodes.tree base ∷ [] in
      let args = args_on items ns in
      let p = place_told base in
      let gs = givens env args in
      let whole : last_tree (behind_nodes items (ns ++ node.Index left right ∷ [])) ≡ index base left args right =
      ap last_tree (behind_push items ns (node.Index left right)) ∙ ap (λ (l : List nodes.Item). last_tree (behind_node (node.Index left right) l)) (r.framed items) in
      let there = member_made env place y m d h base below made at k in
      let M = member_is h.tables m in
      let t = a_host_member there.object M in
      let D : Place → Type 0 = λ (q : Place). ActionIs kind (set_to env word q (indexed env q t gs) value) e.tables e.pieces in
      let done = subst D at (r.does items there.object value (there.on_top ∙ ap (λ (ps : List Piece). an_expr there.object ∷ ps) alone)) in
      let P : Expr → Type 0 = λ (q : Expr). ActionIs kind (set_there env word q value) e.tables e.pieces in
      subst P (sym whole) (record {
        made = done.made;
        is = set_early word env base left right args value there.object M (indexed env p t gs) early there.is (known_with env p gs there.object M known) ∙ done.is;
        fits = done.fits;
      });
}
