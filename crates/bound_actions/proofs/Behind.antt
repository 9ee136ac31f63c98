-- What arguments in brackets at the end of a target stand behind.
use Rattle.std.proofs.Common.{◌≡◌, ℕ, Bool, true, false, List, [], ◌∷◌, ◌++◌, Option, Some, None, if◌then◌else◌, refl, sym, ap, subst, ◌∙◌}
use Rattle.std.specs.Prelude.{◌||◌}
use Rattle.vba_base.specs.declared.place.Place.{Place}
use Rattle.vba_lexer.specs.declared.token.Token.{Token}
use Rattle.vba_expression.specs.Tree.{Args, Expr, index, no_args}
use Rattle.vba_expression.specs.Nodes as nodes
use Rattle.vba_expression.specs.Nodes.{as_arguments, behind_node, behind_nodes, last_arguments, last_tree, tree_in}
use Rattle.vba_expression.specs.declared.node.ExpressionNode.{ExpressionNode}
use Rattle.vba_expression.specs.declared.node.ExpressionNode.TheVariants as node
use Rattle.bound_project.specs.Expressions as bound
use Rattle.bound_project.specs.Pieces.{Piece, Tables, expr_of}
use Rattle.bound_project.specs.Drafts.{Drafted}
use Rattle.bound_project.specs.Statements.{Action}
use Rattle.bound_project.specs.View.{declared_view}
use Rattle.declared_names.specs.View.{space_view, written_view}
use Rattle.declared_names.specs.binder.specs.Declarations.{Written}
use Rattle.declared_names.specs.binder.specs.Scopes.{Space}
use Rattle.declared_names.specs.binder.specs.Signatures.{reader}
use Rattle.bound_project.specs.declared.statement.ActionKind.{ActionKind}
use Rattle.bound_terms.specs.bound_accesses.specs.bound_names.specs.bound_members.specs.bound_calls.specs.bound_forms.specs.Terms.{Env, Given, a_value, routine_term}
use Rattle.bound_terms.specs.bound_accesses.specs.bound_names.specs.bound_members.specs.bound_calls.specs.bound_forms.specs.Terms as plain
use Rattle.bound_terms.specs.bound_accesses.specs.bound_names.specs.bound_members.specs.bound_calls.specs.bound_forms.specs.Operands.{alone, place_told}
use Rattle.bound_terms.specs.bound_accesses.specs.bound_names.specs.bound_members.specs.bound_calls.specs.bound_forms.specs.Members.{item_of}
use Rattle.bound_terms.specs.bound_accesses.specs.bound_names.specs.bound_members.specs.bound_calls.specs.bound_forms.specs.ExpressionsBound.{callee, givens, indexed, indexes_value, term_of}
use Rattle.bound_terms.specs.bound_accesses.specs.bound_names.specs.bound_members.specs.bound_calls.specs.bound_forms.specs.ClassDefaults.{class_set, declared_in}
use Rattle.bound_terms.specs.bound_accesses.specs.bound_names.specs.bound_members.specs.bound_calls.specs.bound_forms.specs.Targets.{assigned, class_of_term, index_assigned, is_indexed_late, is_no_target, is_param_array, is_sub, led_set, set_by, set_to, takes_value, target_before, target_term, value_before}
use Rattle.declared_names.specs.binder.specs.Options.{or_else}
use Rattle.bound_terms.specs.bound_accesses.specs.bound_names.specs.bound_members.specs.bound_calls.specs.declared.term.Ending.{Ending}
use Rattle.bound_terms.specs.bound_accesses.specs.bound_names.specs.bound_members.specs.bound_calls.specs.declared.term.Tree.{Tree}
use Rattle.bound_terms.specs.bound_accesses.specs.bound_names.specs.bound_members.specs.bound_calls.specs.declared.term.Routine.{Routine}
use Rattle.bound_terms.specs.bound_accesses.specs.bound_names.specs.bound_members.specs.bound_calls.specs.declared.term.Term.{Term}
use Rattle.bound_terms.specs.bound_accesses.specs.bound_names.specs.bound_members.specs.bound_calls.specs.declared.term.Term.TheVariants as term
use Rattle.bound_terms.specs.bound_accesses.specs.bound_names.specs.bound_members.specs.bound_calls.specs.Standing.{on_pieces, RoutineIs, RoutineStands, TermNamed, TermStands, TreeStands, ValueStands}
use Rattle.bound_terms.specs.bound_accesses.specs.bound_names.specs.bound_members.specs.bound_calls.specs.Taking.{CallsRoutine}
use Rattle.bound_terms.specs.bound_accesses.specs.bound_names.specs.bound_members.specs.bound_calls.proofs.CallSteps.{routine_item}
use Rattle.bound_terms.specs.bound_accesses.specs.bound_names.specs.bound_members.specs.bound_calls.proofs.Growing.{grown_same, grown_twice, tree_grows}
use Rattle.bound_terms.specs.bound_accesses.specs.bound_names.specs.bound_members.specs.bound_calls.proofs.Lacking.{calls_taken}
use Rattle.bound_terms.specs.bound_accesses.specs.bound_names.specs.bound_members.specs.bound_calls.proofs.LastNodes.{any_node}
use Rattle.bound_terms.specs.bound_accesses.specs.bound_names.specs.Callee.{CalleeIs}
use Rattle.bound_terms.specs.Indexing.{IndexesValue, NotIndexed}
use Rattle.bound_terms.proofs.IndexedProperties.{gives_value}
use Rattle.bound_terms.proofs.Refused.{not_indexed}
use Rattle.statement_terms.specs.Called.{AssignsTo, Continues, Framed, LeavesAlone, SplitAt, args_on}
use Rattle.statement_terms.specs.Heights.{AddsOne, GivesSome, bracket}
use Rattle.statement_terms.specs.Setting.{SetsTo, set_there, set_with}
use Rattle.statement_terms.specs.Takers.{TakenBy}
use Rattle.statement_terms.specs.declared.takers.Taker.{Taker}
use Rattle.statement_terms.specs.declared.trees.Split.{Split}
use Rattle.statement_terms.proofs.Assigned.{a_target, all_is}
use Rattle.statement_terms.proofs.IndexedCalls.{args_given}
use Rattle.statement_terms.proofs.Takings.{as_taken}
use Rattle.statement_terms.proofs.NodeTrees.{behind_push, only_tree}
use Rattle.statement_terms.proofs.SetTargets.{set_there_is, split_led, split_set}
use Rattle.statement_terms.proofs.TargetsBefore.{before_other, is_procedure_term}
use Rattle.bound_actions.specs.Behind.{AssignsBehind, AssignsWhole, KeepsBase, SetsBehind, StandsBefore, TakenBehind, whole_at}
use Rattle.bound_actions.specs.NoTargets.{IsSub}
use Rattle.bound_actions.specs.LateSets.{SetsIndexed}
use Rattle.bound_actions.specs.declared.property_targets.Before.{Before}

-- ---- expressions with arguments in brackets

pub whole_framed : (base : Expr) (ns closed : List ExpressionNode) (left right : Token) → closed ≡ ns ++ node.Index left right ∷ [] → Framed ns → whole_at base closed ≡ index base left (args_on (nodes.tree base ∷ []) ns) right
whole_framed base ns closed left right is framed =
    let items = nodes.tree base ∷ [] in
    ap (λ (l : List ExpressionNode). last_tree (behind_nodes items l)) is ∙ ap last_tree (behind_push items ns (node.Index left right))
    ∙ ap (λ (l : List nodes.Item). last_tree (behind_node (node.Index left right) l)) (framed items)

-- arguments that are one more item
abbrev pub args_of : (ns : List ExpressionNode) → AddsOne ns → Args
args_of ns one = as_arguments one.added

pub these_args : (ns : List ExpressionNode) (one : AddsOne ns) (items : List nodes.Item) → args_on items ns ≡ args_of ns one
these_args ns one items = ap last_arguments (one.is items)

pub whole_added : (base : Expr) (ns closed : List ExpressionNode) (left right : Token) (one : AddsOne ns) → closed ≡ ns ++ node.Index left right ∷ [] → whole_at base closed ≡ index base left (args_of ns one) right
whole_added base ns closed left right one is =
    let items = nodes.tree base ∷ [] in
    ap (λ (l : List ExpressionNode). last_tree (behind_nodes items l)) is ∙ ap last_tree (behind_push items ns (node.Index left right))
    ∙ ap (λ (l : List nodes.Item). last_tree (behind_node (node.Index left right) l)) (one.is items)

same_args : (base : Expr) (l m r s : Token) (a b : Args) → index base l a r ≡ index base m b s → a ≡ b
same_args base l m r s a b h = cc

-- arguments behind which nothing else is read, however an expression with them is told
pub kept_args : (env : Env) (base : Expr) (ns closed : List ExpressionNode) (left right : Token) (one : AddsOne ns) (args : Args) → closed ≡ ns ++ node.Index left right ∷ [] → whole_at base closed ≡ index base left args right
    → ((items : List nodes.Item) → KeepsBase env base (givens env (args_on items ns))) → KeepsBase env base (givens env args)
kept_args env base ns closed left right one args is whole kept =
    let K : Args → Type 0 = λ (a : Args). KeepsBase env base (givens env a) in
    let same : args ≡ args_of ns one = same_args base left left right right args (args_of ns one) (sym whole ∙ whole_added base ns closed left right one is) in
    subst K (these_args ns one (nodes.tree base ∷ []) ∙ sym same) (kept (nodes.tree base ∷ []))

-- the same where they are told with their brackets
pub whole_closed : (base : Expr) (ns closed : List ExpressionNode) (left right : Token) → closed ≡ ns ++ node.Index left right ∷ [] → whole_at base closed ≡ last_tree (behind_nodes (nodes.tree base ∷ []) (ns ++ node.Index left right ∷ []))
whole_closed base ns closed left right is = ap (λ (l : List ExpressionNode). last_tree (behind_nodes (nodes.tree base ∷ []) l)) is

pub kept_added : (env : Env) (base : Expr) (ns : List ExpressionNode) (one : AddsOne ns) → ((items : List nodes.Item) → KeepsBase env base (givens env (args_on items ns))) → KeepsBase env base (givens env (args_of ns one))
kept_added env base ns one kept =
    let K : Args → Type 0 = λ (a : Args). KeepsBase env base (givens env a) in subst K (these_args ns one []) (kept [])

-- what stands before them is what is indexed
pub indexed_whole : (env : Env) (base : Expr) (left right : Token) (args : Args) → KeepsBase env base (givens env args) → indexed env (place_told base) (target_before env base (givens env args)) (givens env args) ≡ term_of env (index base left args right)
indexed_whole env base left right args same = ap (λ (t : plain.Term). indexed env (place_told base) t (givens env args)) same

-- an expression goes on with them
pub tree_behind : (env : Env) (x : Tree) (ns : List ExpressionNode) (d e : Drafted) (y : Tree) → Continues env x ns d e y → (base : Expr) (below : List Piece) → TreeStands env d.tables x base d.pieces below → TreeStands env e.tables y (whole_at base ns) e.pieces below
tree_behind env x ns d e y c base below there =
    let items = nodes.tree base ∷ [] in
    only_tree env e.tables y (behind_nodes items ns) e.pieces below (c.goes.stands items (on_pieces below) (below, (there, (refl, refl))))

-- ---- what stands before them

-- a value is what its last node makes
same_value : (t : Tables) (v : Ending) (x y : plain.Term) (ps below : List Piece) → ValueStands t v x ps below → ValueStands t v y ps below → x ≡ y
same_value t v x y ps below a b =
    let e : expr_of any_node a.made ∷ below ≡ expr_of any_node b.made ∷ below = sym (a.ends any_node) ∙ b.ends any_node in
    let same : a.made ≡ b.made = cc in
    a.is ∙ ap (λ (n : bound.Node). a_value n (declared_view v.of)) same ∙ sym b.is

-- arguments index no property's value behind what isn't read, and behind what takes them itself
unread_before : (env : Env) (place : Place) (gs : List Given) (base : Option bound.Expr) (space : Space) (number : ℕ) (w : Written) → reader env.scope space number w ≡ None → value_before env place gs (routine_term base space number w) ≡ routine_term base space number w
unread_before env place gs None space number w h = rw h refl
unread_before env place gs (Some b) space number w h = rw h refl

unindexed_before : (env : Env) (place : Place) (gs : List Given) (base : Option bound.Expr) (space : Space) (number : ℕ) (w : Written) (read : ℕ × Written) → reader env.scope space number w ≡ Some read → indexes_value read.1 gs ≡ false
    → value_before env place gs (routine_term base space number w) ≡ routine_term base space number w
unindexed_before env place gs None space number w read h none = rw (h, none) refl
unindexed_before env place gs (Some b) space number w read h none = rw (h, none) refl

-- a procedure is taken by brackets as it is
itself_before : (env : Env) (place : Place) (gs : List Given) (z : plain.Term) (base : Option bound.Expr) (space : Space) (number : ℕ) (w : Written) → z ≡ routine_term base space number w
    → value_before env place gs (routine_term base space number w) ≡ routine_term base space number w → value_before env place gs z ≡ item_of env place z
itself_before env place gs z base space number w is same =
    ap (λ (q : plain.Term). value_before env place gs q) is ∙ same ∙ sym is ∙ sym (routine_item env place z base space number w is)

pub routine_kept : (env : Env) (place : Place) (gs : List Given) (r : Routine) (z : plain.Term) (s : RoutineIs env r z) → indexes_value s.read.1 gs ≡ false → value_before env place gs z ≡ item_of env place z
routine_kept env place gs r z s none = itself_before env place gs z s.base s.space s.number s.written s.is (unindexed_before env place gs s.base s.space s.number s.written s.read s.reads none)

-- and so is what is no procedure
pub term_kept : (env : Env) (place : Place) (gs : List Given) (t : Tables) (x : Term) (z : plain.Term) (ps below : List Piece) → ((r : Routine) → (x ≡ term.Routine r) → ⊥) → TermStands env t x z ps below → value_before env place gs z ≡ item_of env place z
term_kept env place gs t (term.Place kind of bounds lends makes) z ps below n h = before_other env place gs z (ap is_procedure_term h.is)
term_kept env place gs t (term.Value e) z ps below n h = before_other env place gs z (ap is_procedure_term h.is)
term_kept env place gs t (term.Routine r) z ps below n h = absurd (n r refl)
term_kept env place gs t (term.Property p) z ps below n h =
    let s = h.property in
    let space = space_view p.space.now in
    let w = written_view p.written in
    itself_before env place gs z s.base space s.number w s.is (unread_before env place gs s.base space s.number w h.unread)
term_kept env place gs t (term.Function f) z ps below n h = before_other env place gs z (ap is_procedure_term h.0.is)
term_kept env place gs t (term.HostMember m) z ps below n h = before_other env place gs z (ap is_procedure_term h.is)
term_kept env place gs t (term.SheetMember m) z ps below n h = before_other env place gs z (ap is_procedure_term h.0)
term_kept env place gs t term.Err z ps below n h = before_other env place gs z (ap is_procedure_term h.0)
term_kept env place gs t term.ErrRaise z ps below n h = before_other env place gs z (ap is_procedure_term h.0)
term_kept env place gs t term.ErrClear z ps below n h = before_other env place gs z (ap is_procedure_term h.0)
term_kept env place gs t term.ErrorWord z ps below n h = before_other env place gs z (ap is_procedure_term h.0)
term_kept env place gs t term.Nothing z ps below n h = before_other env place gs z (ap is_procedure_term h)

-- an expression stands there itself
pub stays_before : (x : Before) (ns : List ExpressionNode) (d : Drafted) → TermNamed d.tables x.tree.term → TermNamed d.tables x.term
    → ((env : Env) (base : Expr) (below : List Piece) → TermStands env d.tables x.term (callee env base (term_of env base)) d.pieces below → (items : List nodes.Item) → KeepsBase env base (givens env (args_on items ns))) → StandsBefore x ns d d x
stays_before x ns d named_tree named_term kept = record {
  grown = grown_same d;
  tree_named = named_tree;
  named = named_term;
  stands = λ env base below there called no_sub.
      record { other = base; told = refl; same = λ items. refl; behind = record { there = there; called = called; kept = kept env base below called; no_sub = no_sub } };
}

-- one that is a procedure's, which these arguments don't index
routine_stays : (x : Before) (r : Routine) (ns : List ExpressionNode) (d : Drafted) → x.term ≡ term.Routine r → TermNamed d.tables x.tree.term
    → ((env : Env) (z : plain.Term) (s : RoutineIs env r z) (items : List nodes.Item) → indexes_value s.read.1 (givens env (args_on items ns)) ≡ false) → StandsBefore x ns d d x
routine_stays x r ns d is named_tree none =
    let N : Term → Type 0 = λ (y : Term). TermNamed d.tables y in
    stays_before x ns d named_tree (subst N (sym is) tt) (λ env base below called items.
    let z = callee env base (term_of env base) in
    let T : Term → Type 0 = λ (y : Term). TermStands env d.tables y z d.pieces below in
    let h : RoutineStands env r z d.pieces below = subst T is called in
    routine_kept env (place_told base) (givens env (args_on items ns)) r z h.routine (none env z h.routine items))

pub plain_routine : (x : Before) (r : Routine) (ns : List ExpressionNode) (d : Drafted) → x.term ≡ term.Routine r → TermNamed d.tables x.tree.term → NotIndexed r → StandsBefore x ns d d x
plain_routine x r ns d is named_tree n = routine_stays x r ns d is named_tree (λ env z s items. not_indexed env r s n (givens env (args_on items ns)))

pub bare_routine : (x : Before) (r : Routine) (ns : List ExpressionNode) (d : Drafted) → x.term ≡ term.Routine r → TermNamed d.tables x.tree.term → ns ≡ node.NoArguments ∷ [] → StandsBefore x ns d d x
bare_routine x r ns d is named_tree empty =
    let S : List ExpressionNode → Type 0 = λ (l : List ExpressionNode). StandsBefore x l d d x in
    subst S (sym empty) (routine_stays x r (node.NoArguments ∷ []) d is named_tree (λ env z s items. refl))

pub other_stays : (x : Before) (ns : List ExpressionNode) (d : Drafted) → TermNamed d.tables x.tree.term → TermNamed d.tables x.term → ((r : Routine) → (x.term ≡ term.Routine r) → ⊥) → StandsBefore x ns d d x
other_stays x ns d named_tree named_term n =
    stays_before x ns d named_tree named_term (λ env base below called items. term_kept env (place_told base) (givens env (args_on items ns)) d.tables x.term (callee env base (term_of env base)) d.pieces below n called)

-- ---- what a property gives that these arguments index: as if empty brackets stood behind it

abbrev pub with_value : Before → Ending → Before
with_value x v = record { tree = record { place = x.tree.place; name = None; dotted = None; term = term.Value v; declared = x.tree.declared }; term = term.Value v }

pub property_replaced : (x : Before) (r : Routine) (v : Ending) (ns : List ExpressionNode) (d m : Drafted) → x.term ≡ term.Routine r → IndexesValue r → GivesSome ns → CallsRoutine r d m v → StandsBefore x ns d m (with_value x v)
property_replaced x r v ns d m is indexes some calls = record {
  grown = calls.grown;
  tree_named = calls.named;
  named = calls.named;
  stands = λ env base below there called no_sub.
      let z = callee env base (term_of env base) in
      let p = place_told base in
      let T : Term → Type 0 = λ (y : Term). TermStands env d.tables y z d.pieces below in
      let h : RoutineStands env r z d.pieces below = subst T is called in
      let q = h.routine in
      let g = gives_value env p z r v d m below indexes calls h in
      let other = index base (bracket p) no_args (bracket p) in
      let c = (calls_taken r p d m v calls).stands env z below h in
      let term_is : term_of env other ≡ alone env p z = ap (λ (y : plain.Term). indexed env p y []) (routine_item env p z q.base q.space q.number q.written q.is) ∙ c.indexed_is in
      let V : plain.Term → Type 0 = λ (y : plain.Term). ValueStands m.tables v y m.pieces below in
      let value : ValueStands m.tables v (term_of env other) m.pieces below = subst V (sym term_is) c.called in
      let given_is : g.given ≡ term_of env other = same_value m.tables v g.given (term_of env other) m.pieces below g.stands value in
      let kept : (gs : List Given) → value_before env p gs (term_of env other) ≡ item_of env p (term_of env other) = λ gs. before_other env p gs (term_of env other) (ap is_procedure_term value.is) in
      record {
        other = other;
        told = refl;
        same = λ items.
            let gs = givens env (args_on items ns) in
            let s = args_given env ns some items in
            ap (λ (l : List Given). value_before env p l z) s.is ∙ g.behind s.first s.others ∙ ap (λ (y : plain.Term). item_of env p y) given_is ∙ sym (kept gs);
        behind = record {
          there = record { term_is = value; place_is = there.place_is; name_is = refl; qualifier_is = refl; leaf = tt; declared_is = there.declared_is };
          called = value;
          kept = λ items. kept (givens env (args_on items ns));
          no_sub = ap is_sub value.is;
        };
      };
}

-- ---- one expression for another one

-- is given a value, and takes it, as that does
abbrev given_by : Env → Place → plain.Term → Bool
given_by env p t = takes_value env t || is_indexed_late env p t

abbrev done_by : Env → List Given → bound.Expr → Place → plain.Term → Option Action
done_by env gs v p t = if takes_value env t then assigned env p v gs t else index_assigned env p t gs v

pub index_target : (env : Env) (base : Expr) (left right : Token) (args : Args) → is_sub (callee env base (term_of env base)) ≡ false → is_no_target env (index base left args right) ≡ false
index_target env base left right args no_sub = ap (λ (b : Bool). b || is_param_array env (index base left args right)) no_sub

replaced_assigns : (env : Env) (may : Option Bool) (base other : Expr) (left right : Token) (args : Args) (kind : ActionKind) (given : Bool) (t : Tables) (ps below : List Piece) → place_told other ≡ place_told base
    → target_before env base (givens env args) ≡ target_before env other (givens env args) → is_sub (callee env base (term_of env base)) ≡ false → is_sub (callee env other (term_of env other)) ≡ false
    → AssignsWhole env may (index other left args right) kind given t ps below → AssignsWhole env may (index base left args right) kind given t ps below
replaced_assigns env may base other left right args kind given t ps below told same none other_none w =
    let gs = givens env args in
    record {
      takes = ap (λ (y : plain.Term). given_by env (place_told base) y) same ∙ ap (λ (p : Place). given_by env p (target_before env other gs)) (sym told) ∙ w.takes;
      does = λ value goes alone.
          let done = w.does value goes alone in
          record {
            made = done.made;
            is = a_target env (index base left args right) value (index_target env base left right args none) ∙ ap (λ (y : plain.Term). done_by env gs value (place_told base) y) same
                ∙ ap (λ (p : Place). done_by env gs value p (target_before env other gs)) (sym told) ∙ sym (a_target env (index other left args right) value (index_target env other left right args other_none)) ∙ done.is;
            fits = done.fits;
          };
    }

-- is set as that is
abbrev set_by_or : Env → Place → List Given → bound.Expr → Place → plain.Term → Option Action
set_by_or env word gs v p t = or_else (set_by env p gs t v) (set_to env word p (set_with env p gs t) v)

replaced_set : (word : Place) (env : Env) (base other : Expr) (left right : Token) (args : Args) (v : bound.Expr) → place_told other ≡ place_told base → target_before env base (givens env args) ≡ target_before env other (givens env args)
    → is_sub (callee env base (term_of env base)) ≡ false → is_sub (callee env other (term_of env other)) ≡ false → set_there env word (index base left args right) v ≡ set_there env word (index other left args right) v
replaced_set word env base other left right args v told same none other_none = by (class_of_term (target_before env other (givens env args))) refl
  where
    by : (o : Option ℕ) → class_of_term (target_before env other (givens env args)) ≡ o → set_there env word (index base left args right) v ≡ set_there env word (index other left args right) v
    by None c =
        set_there_is word env (index base left args right) v none ∙ split_set word env base left right args v (ap class_of_term same ∙ c)
        ∙ ap (λ (y : plain.Term). set_by_or env word (givens env args) v (place_told base) y) same ∙ ap (λ (p : Place). set_by_or env word (givens env args) v p (target_before env other (givens env args))) (sym told)
        ∙ sym (split_set word env other left right args v c) ∙ sym (set_there_is word env (index other left args right) v other_none)
    by (Some number) c =
        let known = class_set (declared_in env.scope) number (givens env args) in
        set_there_is word env (index base left args right) v none ∙ split_led word env base left right args v number (ap class_of_term same ∙ c)
        ∙ ap (λ (y : plain.Term). led_set env known (place_told base) y (givens env args) v) same ∙ ap (λ (p : Place). led_set env known p (target_before env other (givens env args)) (givens env args) v) (sym told)
        ∙ sym (split_led word env other left right args v number c) ∙ sym (set_there_is word env (index other left args right) v other_none)

-- has its value taken as that has
abbrev term_by : Env → List Given → Place → plain.Term → plain.Term
term_by env gs p t = if takes_value env t then t else indexed env p t gs

replaced_term : (env : Env) (base other : Expr) (left right : Token) (args : Args) → place_told other ≡ place_told base → target_before env base (givens env args) ≡ target_before env other (givens env args)
    → target_term env (index base left args right) ≡ target_term env (index other left args right)
replaced_term env base other left right args told same =
    let gs = givens env args in
    ap (λ (y : plain.Term). term_by env gs (place_told base) y) same ∙ ap (λ (p : Place). term_by env gs p (target_before env other gs)) (sym told)

-- ---- the whole

-- what was read, and looked at as what is called
there_called : (env : Env) (ns : List ExpressionNode) (x : Tree) (y : Term) (d f g : Drafted) → LeavesAlone env ns d f x → CalleeIs env x f g y → TreeStands env g.tables x (tree_in ns) g.pieces d.pieces
there_called env ns x y d f g l c =
    let T : List Piece → Type 0 = λ (ps : List Piece). TreeStands env g.tables x (tree_in ns) ps d.pieces in
    subst T (sym c.pieces) (tree_grows env f.tables g.tables c.grown.tables x l.leaves.named (tree_in ns) f.pieces d.pieces l.leaves.stands)

pub term_called : (env : Env) (ns : List ExpressionNode) (x : Tree) (y : Term) (d f g : Drafted) → LeavesAlone env ns d f x → CalleeIs env x f g y → TermStands env g.tables y (callee env (tree_in ns) (term_of env (tree_in ns))) g.pieces d.pieces
term_called env ns x y d f g l c =
    let z = callee env (tree_in ns) (term_of env (tree_in ns)) in
    let T : List Piece → Type 0 = λ (ps : List Piece). TermStands env g.tables y z ps d.pieces in
    subst T (sym c.pieces) (c.stands (tree_in ns) f.pieces d.pieces l.leaves.stands)

no_sub_there : (env : Env) (ns : List ExpressionNode) (x : Tree) (y : Term) (d f g : Drafted) → LeavesAlone env ns d f x → CalleeIs env x f g y → IsSub y false → is_sub (callee env (tree_in ns) (term_of env (tree_in ns))) ≡ false
no_sub_there env ns x y d f g l c none = none env g.tables (callee env (tree_in ns) (term_of env (tree_in ns))) g.pieces d.pieces (term_called env ns x y d f g l c)

all_whole : (split : Split) (all : List ExpressionNode) (at : SplitAt split all) → behind_nodes [] split.target.now ≡ nodes.tree (tree_in split.target.now) ∷ [] → (one : AddsOne split.arguments.now)
    → tree_in all ≡ index (tree_in split.target.now) at.left (args_of split.arguments.now one) at.right
all_whole split all at alone one =
    all_is split all at alone ∙ whole_added (tree_in split.target.now) split.arguments.now (split.arguments.now ++ node.Index at.left at.right ∷ []) at.left at.right one refl

same_before : (env : Env) (ns : List ExpressionNode) (one : AddsOne ns) (base other : Expr) → ((items : List nodes.Item) → target_before env base (givens env (args_on items ns)) ≡ target_before env other (givens env (args_on items ns)))
    → target_before env base (givens env (args_of ns one)) ≡ target_before env other (givens env (args_of ns one))
same_before env ns one base other h =
    let P : Args → Type 0 = λ (a : Args). target_before env base (givens env a) ≡ target_before env other (givens env a) in subst P (these_args ns one []) (h [])

pub assigns_from : (env : Env) (may : Option Bool) (split : Split) (all : List ExpressionNode) (x : Tree) (y : Term) (b : Before) (d f g m e : Drafted) (kind : ActionKind) (given : Bool) → SplitAt split all → AddsOne split.arguments.now
    → LeavesAlone env split.target.now d f x → CalleeIs env x f g y → IsSub y false → StandsBefore (record { tree = x; term = y }) split.arguments.now g m b → AssignsBehind env may b split m e kind given → AssignsTo env may (tree_in all) d e kind given
assigns_from env may split all x y b d f g m e kind given at one l c none s a =
    let ns = split.arguments.now in
    let target = split.target.now in
    let base = tree_in target in
    let args = args_of ns one in
    let no_sub = no_sub_there env target x y d f g l c none in
    let r = s.stands env base d.pieces (there_called env target x y d f g l c) (term_called env target x y d f g l c) no_sub in
    let W : Expr → Type 0 = λ (t : Expr). AssignsWhole env may t kind given e.tables e.pieces d.pieces in
    let w = subst W (whole_added r.other ns split.closed.now at.left at.right one at.closed_is) (a.stands r.other at.left at.right d.pieces at.closed_is r.behind) in
    let done = replaced_assigns env may base r.other at.left at.right args kind given e.tables e.pieces d.pieces r.told (same_before env ns one base r.other r.same) no_sub r.behind.no_sub w in
    let P : Expr → Type 0 = λ (t : Expr). AssignsTo env may t d e kind given in
    subst P (sym (all_whole split all at l.alone one)) (record {
      grown = grown_twice d m e (grown_twice d g m (grown_twice d f g l.leaves.grown c.grown) s.grown) a.grown;
      named = a.named;
      takes = done.takes;
      stands = done.does;
    })

pub sets_from : (word : Place) (env : Env) (split : Split) (all : List ExpressionNode) (x : Tree) (y : Term) (b : Before) (d f g m e : Drafted) (kind : ActionKind) → SplitAt split all → AddsOne split.arguments.now
    → LeavesAlone env split.target.now d f x → CalleeIs env x f g y → IsSub y false → StandsBefore (record { tree = x; term = y }) split.arguments.now g m b → SetsBehind env word b split m e kind → SetsTo word env (tree_in all) d e kind
sets_from word env split all x y b d f g m e kind at one l c none s a =
    let ns = split.arguments.now in
    let target = split.target.now in
    let base = tree_in target in
    let args = args_of ns one in
    let no_sub = no_sub_there env target x y d f g l c none in
    let r = s.stands env base d.pieces (there_called env target x y d f g l c) (term_called env target x y d f g l c) no_sub in
    let W : Expr → Type 0 = λ (t : Expr). SetsIndexed env word t kind e.tables e.pieces d.pieces in
    let w = subst W (whole_added r.other ns split.closed.now at.left at.right one at.closed_is) (a.stands r.other at.left at.right d.pieces at.closed_is r.behind) in
    let same = same_before env ns one base r.other r.same in
    let P : Expr → Type 0 = λ (t : Expr). SetsTo word env t d e kind in
    subst P (sym (all_whole split all at l.alone one)) (record {
      grown = grown_twice d m e (grown_twice d g m (grown_twice d f g l.leaves.grown c.grown) s.grown) a.grown;
      named = a.named;
      stands = λ value alone.
          let done = w value alone in
          record { made = done.made; is = replaced_set word env base r.other at.left at.right args value r.told same no_sub r.behind.no_sub ∙ done.is; fits = done.fits };
    })

pub taken_from : (env : Env) (split : Split) (all : List ExpressionNode) (x : Tree) (y : Term) (b : Before) (taker : Option Taker) (d f g m : Drafted) → SplitAt split all → AddsOne split.arguments.now
    → LeavesAlone env split.target.now d f x → CalleeIs env x f g y → IsSub y false → StandsBefore (record { tree = x; term = y }) split.arguments.now g m b → TakenBehind env b split m taker → TakenBy env (target_term env (tree_in all)) taker
taken_from env split all x y b taker d f g m at one l c none s a =
    let ns = split.arguments.now in
    let target = split.target.now in
    let base = tree_in target in
    let args = args_of ns one in
    let no_sub = no_sub_there env target x y d f g l c none in
    let r = s.stands env base d.pieces (there_called env target x y d f g l c) (term_called env target x y d f g l c) no_sub in
    let W : Expr → Type 0 = λ (t : Expr). TakenBy env (target_term env t) taker in
    let w = subst W (whole_added r.other ns split.closed.now at.left at.right one at.closed_is) (a r.other at.left at.right d.pieces at.closed_is r.behind) in
    subst W (sym (all_whole split all at l.alone one))
    (as_taken env (target_term env (index base at.left args at.right)) (target_term env (index r.other at.left args at.right)) taker
    (replaced_term env base r.other at.left at.right args r.told (same_before env ns one base r.other r.same)) w)

-- what an assignment says
pub behind_is : (env : Env) (may : Option Bool) (x : Before) (split : Split) (d e : Drafted) (kind k : ActionKind) (given g : Bool) → k ≡ kind → g ≡ given → AssignsBehind env may x split d e kind given → AssignsBehind env may x split d e k g
behind_is env may x split d e kind k given g same is a =
    let K : ActionKind → Type 0 = λ (q : ActionKind). AssignsBehind env may x split d e q given in
    let G : Bool → Type 0 = λ (b : Bool). AssignsBehind env may x split d e k b in
    subst G (sym is) (subst K (sym same) a)
