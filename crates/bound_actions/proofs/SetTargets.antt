-- What is given a reference to an object.
use Rattle.std.proofs.Common.{◌≡◌, ℕ, Bool, true, false, List, [], ◌∷◌, map, Option, Some, None, if◌then◌else◌, refl, sym, ap, subst, ◌∙◌}
use Rattle.std.specs.Prelude.{option_and_then}
use Rattle.vba_base.specs.declared.place.Place.{Place}
use Rattle.vba_values.specs.Types.{Declared}
use Rattle.vba_expression.specs.Tree.{Expr, index}
use Rattle.vba_expression.specs.Nodes as nodes
use Rattle.vba_expression.specs.Nodes.{tree_in}
use Rattle.vba_expression.specs.declared.node.ExpressionNode.{ExpressionNode}
use Rattle.vba_values.specs.Types as type
use Rattle.bound_project.specs.declared.declared_type.DeclaredType.{DeclaredType}
use Rattle.bound_project.specs.declared.statement.ActionKind.{ActionKind}
use Rattle.bound_project.specs.declared.statement.ActionKind.TheVariants as action
use Rattle.bound_project.specs.Bodies.{action_of}
use Rattle.bound_project.specs.Drafts.{Drafted}
use Rattle.bound_project.specs.Expressions.{also, no_exprs, value_place}
use Rattle.bound_project.specs.Expressions as bound
use Rattle.bound_project.specs.Lists.{above, exprs_of}
use Rattle.bound_project.specs.View.{declared_view}
use Rattle.bound_project.specs.Pieces.{Piece, Tables, a_place, an_expr}
use Rattle.bound_project.specs.Statements.{Action, set_element}
use Rattle.declared_names.specs.binder.specs.Declarations.{Written}
use Rattle.declared_names.specs.binder.specs.Options.{or_else}
use Rattle.declared_names.specs.binder.specs.Scopes.{Space}
use Rattle.declared_names.specs.binder.specs.Signatures.{is_property}
use Rattle.declared_names.specs.View.{space_view, written_view}
use Rattle.bound_terms.specs.bound_accesses.specs.bound_names.specs.bound_members.specs.bound_calls.specs.bound_forms.specs.Terms.{Env, Given, a_method, a_routine, a_host_member, routine_term}
use Rattle.bound_terms.specs.bound_accesses.specs.bound_names.specs.bound_members.specs.bound_calls.specs.bound_forms.specs.Terms as plain
use Rattle.bound_terms.specs.bound_accesses.specs.bound_names.specs.bound_members.specs.bound_calls.specs.bound_forms.specs.Operands.{alone, behind_base, place_told}
use Rattle.bound_terms.specs.bound_accesses.specs.bound_names.specs.bound_members.specs.bound_calls.specs.bound_forms.specs.Members.{item_of}
use Rattle.bound_terms.specs.bound_accesses.specs.bound_names.specs.bound_members.specs.bound_calls.specs.bound_forms.specs.ExpressionsBound.{callee, givens, indexed, term_of}
use Rattle.bound_terms.specs.bound_accesses.specs.bound_names.specs.bound_members.specs.bound_calls.specs.bound_forms.specs.Targets.{broken_target, class_of_term, given_behind, is_sub, may_refer, no_reference, object_set, property_type, set_by, set_target, set_to, sub_object, target_before, target_of_call}
use Rattle.bound_terms.specs.bound_accesses.specs.bound_names.specs.bound_members.specs.bound_calls.specs.declared.term.HostMember.{HostMember}
use Rattle.bound_terms.specs.bound_accesses.specs.bound_names.specs.bound_members.specs.bound_calls.specs.declared.term.Property.{Property}
use Rattle.bound_terms.specs.bound_accesses.specs.bound_names.specs.bound_members.specs.bound_calls.specs.declared.term.Receiver.{Receiver}
use Rattle.bound_terms.specs.bound_accesses.specs.bound_names.specs.bound_members.specs.bound_calls.specs.declared.term.Routine.{Routine}
use Rattle.bound_terms.specs.bound_accesses.specs.bound_names.specs.bound_members.specs.bound_calls.specs.declared.term.Term.{Term}
use Rattle.bound_terms.specs.bound_accesses.specs.bound_names.specs.bound_members.specs.bound_calls.specs.declared.term.Term.TheVariants as term
use Rattle.bound_terms.specs.bound_accesses.specs.bound_names.specs.bound_members.specs.bound_calls.specs.declared.term.Tree.{Tree}
use Rattle.bound_terms.specs.bound_accesses.specs.bound_names.specs.bound_members.specs.bound_calls.specs.Standing.{HostMemberStands, PropertyStands, ReceiverStands, RoutineStands, TermStands, TreeStands, member_is}
use Rattle.bound_terms.specs.bound_accesses.specs.bound_names.specs.bound_members.specs.bound_calls.specs.Steps.{Leaves}
use Rattle.bound_terms.specs.bound_accesses.specs.bound_names.specs.bound_members.specs.bound_calls.proofs.CallSteps.{routine_item}
use Rattle.bound_terms.specs.bound_accesses.specs.bound_names.specs.bound_members.specs.bound_calls.proofs.Growing.{grown_twice}
use Rattle.bound_terms.specs.bound_accesses.specs.bound_names.specs.declared.properties.Part.TheVariants as part
use Rattle.bound_terms.specs.bound_accesses.specs.bound_names.specs.declared.properties.Writer.{Writer}
use Rattle.bound_terms.specs.bound_accesses.specs.bound_names.specs.Callee.{CalleeIs, NoWriter, Unwritten, WriterOf}
use Rattle.bound_terms.specs.bound_accesses.specs.Items.{ItemKept, KeepsItem, is_member, lacks_item}
use Rattle.statement_terms.specs.declared.trees.Split.{Split}
use Rattle.statement_terms.specs.Called.{ActionIs, Continues, IsBare, LeavesAlone, Lets, LetsOn, SplitAt, args_on, item_before}
use Rattle.statement_terms.specs.Heights.{AddsOne}
use Rattle.statement_terms.specs.Setting.{SetsTerm, SetsTo, set_bare, set_there, set_with}
use Rattle.statement_terms.specs.Targets.{IsLateValue}
use Rattle.bound_terms.specs.bound_accesses.specs.bound_names.specs.bound_members.specs.bound_calls.specs.declared.term.Ending.{Ending}
use Rattle.declared_names.specs.binder.specs.Classes.{has_class}
use Rattle.statement_terms.proofs.Assigned.{index_at, item_itself, property_of}
use Rattle.statement_terms.proofs.SetTargets.{bare_callee, bare_set, bare_target, is_apart, other_set, set_other, set_there_is, sets_bare, split_other, split_set}
use Rattle.bound_actions.specs.NoTargets.{IsProperty, IsSub, RefusesTarget, SetsProperty, SetsRoutine, TypesProperty, is_property_term, unset_property}
use Rattle.bound_actions.specs.ClassItems.{term_class}
use Rattle.bound_actions.specs.LateItems.{LeadsFrom}
use Rattle.bound_actions.proofs.ClassTerms.{class_stands, kept_class, kept_led, routine_class}
use Rattle.bound_actions.specs.LateSets.{SetsIndexed, SetsItem, SetsMember, SetsSheet}
use Rattle.bound_actions.proofs.Behind.{args_of, kept_args, term_called, tree_behind, whole_added, whole_closed, whole_framed}
use Rattle.bound_actions.specs.Behind.{SetsBehind, SetsIndexedTerm}
use Rattle.bound_actions.specs.declared.property_targets.Before.{Before}
use Rattle.bound_actions.proofs.Assigned.{item_action, property_stands, set_of}
use Rattle.bound_actions.proofs.NoTargets.{property_by, property_property, sub_done}

-- ---- Subs

pub sets_bare_sub : (word : Place) (env : Env) (place : Expr) (x : Tree) (d f e : Drafted) (kind : ActionKind) → IsBare place → IsSub x.term true → Leaves env place d f x → RefusesTarget x.term x.place f e kind → SetsTo word env place d e kind
sets_bare_sub word env place x d f e kind bare sub l r =
    let y = term_of env place in
    let p = place_told place in
    let is : is_sub y ≡ true = sub env f.tables y f.pieces d.pieces l.stands.term_is in
    let same = bare_callee env place bare in
    record {
      grown = grown_twice d f e l.grown r.grown;
      named = r.named;
      stands = λ value alone_there.
          record {
            made = broken_target 27 p value (sub_object y);
            is = ap (λ (b : Bool). if b then Some (broken_target 27 p value (sub_object (target_of_call env place))) else object_set env word place value) (ap is_sub same ∙ is) ∙ ap (λ (t : plain.Term). Some (broken_target 27 p value (sub_object t))) same;
            fits = sub_done env x.term y x.place p d.pieces value f e kind r is l.stands.term_is alone_there l.stands.place_is;
          };
    }

pub sets_split_sub : (word : Place) (env : Env) (split : Split) (all : List ExpressionNode) (x : Tree) (y : Term) (d f g e : Drafted) (kind : ActionKind) → SplitAt split all → AddsOne split.arguments.now → LeavesAlone env split.target.now d f x
    → CalleeIs env x f g y → IsSub y true → RefusesTarget y x.place g e kind → SetsTo word env (tree_in all) d e kind
sets_split_sub word env split all x y d f g e kind at one l c sub r =
    let base = tree_in split.target.now in
    let z = callee env base (term_of env base) in
    let at_index = index_at split all at l.alone one in
    let args = at_index.0 in
    let tree = index base at.left args at.right in
    let p = place_told base in
    let there = term_called env split.target.now x y d f g l c in
    let is : is_sub z ≡ true = sub env g.tables z g.pieces d.pieces there in
    let P : Expr → Type 0 = λ (t : Expr). SetsTo word env t d e kind in
    subst P (sym at_index.1) (record {
      grown = grown_twice d f e l.leaves.grown (grown_twice f g e c.grown r.grown);
      named = r.named;
      stands = λ value alone_there.
          record {
            made = broken_target 27 p value (sub_object z);
            is = ap (λ (b : Bool). if b then Some (broken_target 27 p value (sub_object z)) else object_set env word tree value) is;
            fits = sub_done env y z x.place p d.pieces value g e kind r is there alone_there l.leaves.stands.place_is;
          };
    })

-- ---- the Set of a property

-- a property without a Set is given nothing by it
unwritten_property : (env : Env) (place : Place) (gs : List Given) (v : bound.Expr) (p : Property) (z : plain.Term) (ps below : List Piece) → Unwritten part.Set env.scope (Some p) → PropertyStands env p z ps below → set_by env place gs z v ≡ None
unwritten_property env place gs v p z ps below n s =
    let space = space_view p.space.now in
    ap (λ (q : plain.Term). set_by env place gs q v) s.is ∙ set_of env place gs v s.base space s.number (written_view p.written)
    ∙ ap (λ (o : Option (ℕ × Written)). option_and_then (given_behind (λ (of : Declared). true) env s.base place space gs v) o) n

-- and what is no property
unset : (env : Env) (t : Tables) (place : Place) (gs : List Given) (v : bound.Expr) (x : Term) (z : plain.Term) (ps below : List Piece) → is_member x ≡ false → NoWriter part.Set env.scope x → TermStands env t x z ps below → set_by env place gs z v ≡ None
unset env t place gs v (term.Place kind of bounds lends makes) z ps below i n h = ap (λ (q : plain.Term). set_by env place gs q v) h.is
unset env t place gs v (term.Value e) z ps below i n h = ap (λ (q : plain.Term). set_by env place gs q v) h.is
unset env t place gs v (term.Routine r) z ps below i n h =
    unwritten_property env place gs v (record { receiver = r.receiver; space = r.space; written = r.written }) z ps below n (property_of env r z ps below h)
unset env t place gs v (term.Property p) z ps below i n h = unwritten_property env place gs v p z ps below n h.property
unset env t place gs v (term.Function f) z ps below i n h = ap (λ (q : plain.Term). set_by env place gs q v) h.0.is
unset env t place gs v (term.HostMember m) z ps below i n h = let e : true ≡ false = i in absurd cc
unset env t place gs v (term.SheetMember m) z ps below i n h = let e : true ≡ false = i in absurd cc
unset env t place gs v term.Err z ps below i n h = ap (λ (q : plain.Term). set_by env place gs q v) h.0
unset env t place gs v term.ErrRaise z ps below i n h = ap (λ (q : plain.Term). set_by env place gs q v) h.0
unset env t place gs v term.ErrClear z ps below i n h = ap (λ (q : plain.Term). set_by env place gs q v) h.0
unset env t place gs v term.ErrorWord z ps below i n h = ap (λ (q : plain.Term). set_by env place gs q v) h.0
unset env t place gs v term.Nothing z ps below i n h = ap (λ (q : plain.Term). set_by env place gs q v) h

-- what brackets take of an object is no property
kept_unset : (lacks : Bool) (env : Env) (place : Place) (gs : List Given) (v : bound.Expr) (z : plain.Term) → ItemKept lacks env place z → set_by env place gs z v ≡ None → set_by env place gs (item_of env place z) v ≡ None
kept_unset true env place gs v z m n = ap (λ (q : plain.Term). set_by env place gs q v) m.is
kept_unset false env place gs v z same n = ap (λ (q : plain.Term). set_by env place gs q v) same ∙ n

unset_item : (has : Bool) (env : Env) → has_class env.scope.spaces ≡ has → (t : Tables) (place : Place) (gs : List Given) (v : bound.Expr) (x : Term) (z : plain.Term) (ps below : List Piece) → KeepsItem has t x → NoWriter part.Set env.scope x
    → TermStands env t x z ps below → set_by env place gs (item_of env place z) v ≡ None
unset_item has env known t place gs v x z ps below k n h = kept_unset (lacks_item x) env place gs v z (k.kept env known place z ps below h) (unset env t place gs v x z ps below k.other n h)

by_type : (b : Bool) (x y : Action) → (if b then Some x else Some y) ≡ Some (if b then x else y)
by_type true x y = refl
by_type false x y = refl

abbrev of_host : plain.Term → Bool
of_host (plain.a_host_member e m) = true
of_host t = false

routine_host : (base : Option bound.Expr) (space : Space) (number : ℕ) (w : Written) → of_host (routine_term base space number w) ≡ false
routine_host None space number w = refl
routine_host (Some b) space number w = refl

-- what is no procedure
abbrev is_procedure : plain.Term → Bool
is_procedure (a_routine space number w) = true
is_procedure (a_method base space number w) = true
is_procedure t = false

no_procedure : (env : Env) (t : Tables) (x : Term) (z : plain.Term) (ps below : List Piece) → ((r : Routine) → (x ≡ term.Routine r) → ⊥) → is_property_term z ≡ false → TermStands env t x z ps below → is_procedure z ≡ false
no_procedure env t (term.Place kind of bounds lends makes) z ps below n p h = ap is_procedure h.is
no_procedure env t (term.Value e) z ps below n p h = ap is_procedure h.is
no_procedure env t (term.Routine r) z ps below n p h = absurd (n r refl)
no_procedure env t (term.Property q) z ps below n p h = let e : true ≡ false = sym (property_property q env t z ps below h) ∙ p in absurd cc
no_procedure env t (term.Function f) z ps below n p h = ap is_procedure h.0.is
no_procedure env t (term.HostMember m) z ps below n p h = ap is_procedure h.is
no_procedure env t (term.SheetMember m) z ps below n p h = ap is_procedure h.0
no_procedure env t term.Err z ps below n p h = ap is_procedure h.0
no_procedure env t term.ErrRaise z ps below n p h = ap is_procedure h.0
no_procedure env t term.ErrClear z ps below n p h = ap is_procedure h.0
no_procedure env t term.ErrorWord z ps below n p h = ap is_procedure h.0
no_procedure env t term.Nothing z ps below n p h = ap is_procedure h

-- a property itself is set, which has no Set
pub property_set : (word : Place) (env : Env) (place : Place) (base : Option bound.Expr) (space : Space) (number : ℕ) (w : Written) (of : Declared) (value : bound.Expr) → property_type env space number w ≡ of
    → set_to env word place (routine_term base space number w) value ≡ Some (unset_property word place base of value)
property_set word env place None space number w of value h =
    ap (λ (u : Declared). if may_refer u then Some (broken_target 27 place value (behind_base None no_exprs)) else Some (no_reference word (also value (behind_base None no_exprs)))) h
    ∙ by_type (may_refer of) (broken_target 27 place value (behind_base None no_exprs)) (no_reference word (also value (behind_base None no_exprs)))
property_set word env place (Some b) space number w of value h =
    ap (λ (u : Declared). if may_refer u then Some (broken_target 27 place value (behind_base (Some b) no_exprs)) else Some (no_reference word (also value (behind_base (Some b) no_exprs)))) h
    ∙ by_type (may_refer of) (broken_target 27 place value (behind_base (Some b) no_exprs)) (no_reference word (also value (behind_base (Some b) no_exprs)))

pub routine_with : (env : Env) (place : Place) (gs : List Given) (base : Option bound.Expr) (space : Space) (number : ℕ) (w : Written)
    → set_with env place gs (routine_term base space number w) ≡ (if is_property w.kind then routine_term base space number w else indexed env place (routine_term base space number w) gs)
routine_with env place gs None space number w = refl
routine_with env place gs (Some b) space number w = refl

-- a term that is a procedure is no member
property_other : (env : Env) (t : Tables) (x : Term) (z : plain.Term) (ps below : List Piece) (base : Option bound.Expr) (space : Space) (number : ℕ) (w : Written) → z ≡ routine_term base space number w → TermStands env t x z ps below → is_member x ≡ false
property_other env t (term.HostMember m) z ps below base space number w is h = let e : true ≡ false = sym (ap of_host h.is) ∙ ap of_host is ∙ routine_host base space number w in absurd cc
property_other env t (term.SheetMember m) z ps below base space number w is h = let e : true ≡ false = sym (ap of_host h.0) ∙ ap of_host is ∙ routine_host base space number w in absurd cc
property_other env t (term.Place kind of bounds lends makes) z ps below base space number w is h = refl
property_other env t (term.Value e) z ps below base space number w is h = refl
property_other env t (term.Routine r) z ps below base space number w is h = refl
property_other env t (term.Property p) z ps below base space number w is h = refl
property_other env t (term.Function f) z ps below base space number w is h = refl
property_other env t term.Err z ps below base space number w is h = refl
property_other env t term.ErrRaise z ps below base space number w is h = refl
property_other env t term.ErrClear z ps below base space number w is h = refl
property_other env t term.ErrorWord z ps below base space number w is h = refl
property_other env t term.Nothing z ps below base space number w is h = refl

-- without arguments
pub sets_property_bare : (word : Place) (env : Env) (place : Expr) (x : Tree) (w : Writer) (d f e : Drafted) (kind : ActionKind) → IsBare place → IsSub x.term false → Leaves env place d f x → WriterOf part.Set env.scope x.term w
    → Lets true env w.property x.place [] f e kind → SetsTo word env place d e kind
sets_property_bare word env place x w d f e kind bare none l is h =
    let y = term_of env place in
    let p = place_told place in
    let s = property_stands env f.tables x.term w.property y f.pieces d.pieces is.is l.stands.term_is in
    let no_sub : is_sub y ≡ false = none env f.tables y f.pieces d.pieces l.stands.term_is in
    record {
      grown = grown_twice d f e l.grown h.grown;
      named = h.named;
      stands = λ value alone.
          let S : List Piece → Type 0 = λ (ps : List Piece). PropertyStands env w.property y f.pieces ps in
          let A : Place → Type 0 = λ (q : Place). ActionIs kind (set_by env q [] y value) e.tables e.pieces in
          let m = subst A l.stands.place_is (h.stands y value (subst S alone s)) in
          record {
            made = m.made;
            is = set_there_is word env place value (ap is_sub (bare_callee env place bare) ∙ no_sub) ∙ bare_set word env place value bare
                ∙ ap (λ (o : Option Action). or_else o (set_to env word p (set_target env place) value)) m.is;
            fits = m.fits;
          };
    }

-- with arguments
pub sets_let : (word : Place) (env : Env) (x : Before) (split : Split) (w : Writer) (d e : Drafted) (kind : ActionKind) → WriterOf part.Set env.scope x.term w → LetsOn true env w.property x.tree.place split.arguments.now d e kind → SetsBehind env word x split d e kind
sets_let word env x split w d e kind is h =
    let ns = split.arguments.now in
    record {
      grown = (h.lets []).grown;
      named = (h.lets []).named;
      stands = λ base left right below closed b.
          let items = nodes.tree base ∷ [] in
          let args = args_on items ns in
          let gs = givens env args in
          let p = place_told base in
          let tree = index base left args right in
          let z = callee env base (term_of env base) in
          let s = property_stands env d.tables x.term w.property z d.pieces below is.is b.called in
          let space = space_view w.property.space.now in
          let written = written_view w.property.written in
          let t = target_before env base gs in
          let same : t ≡ z = b.kept items ∙ item_itself env p z s.base space s.number written s.is in
          let W : Expr → Type 0 = λ (q : Expr). SetsIndexed env word q kind e.tables e.pieces below in
          subst W (sym (whole_framed base ns split.closed.now left right closed h.framed)) (λ value alone.
          let S : List Piece → Type 0 = λ (ps : List Piece). PropertyStands env w.property z d.pieces ps in
          let A : Place → Type 0 = λ (q : Place). ActionIs kind (set_by env q gs z value) e.tables e.pieces in
          let done = subst A b.there.place_is ((h.lets items).stands z value (subst S alone s)) in
          let others = set_to env word p (set_with env p gs t) value in
          record {
            made = done.made;
            is = set_there_is word env tree value b.no_sub ∙ split_set word env base left right args value (ap class_of_term (same ∙ s.is) ∙ routine_class s.base space s.number written)
                ∙ ap (λ (q : plain.Term). or_else (set_by env p gs q value) others) same ∙ ap (λ (o : Option Action). or_else o others) done.is;
            fits = done.fits;
          });
    }

-- ---- without arguments

-- a property is set itself, and what another procedure gives
routine_bare : (env : Env) (place : Place) (base : Option bound.Expr) (space : Space) (number : ℕ) (w : Written)
    → set_bare env place (routine_term base space number w) ≡ (if is_property w.kind then routine_term base space number w else alone env place (routine_term base space number w))
routine_bare env place None space number w = refl
routine_bare env place (Some b) space number w = refl

if_property : (b : Bool) (t u : plain.Term) (c : Bool) → b ≡ c → (if b then t else u) ≡ (if c then t else u)
if_property b t u c h = ap (λ (q : Bool). if q then t else u) h

-- a procedure, which is called
pub sets_bare_routine : (word : Place) (env : Env) (place : Expr) (x : Tree) (r : Routine) (d f e : Drafted) (kind : ActionKind) → IsBare place → x.term ≡ term.Routine r → IsSub x.term false → NoWriter part.Set env.scope x.term → IsProperty x.term false
    → Leaves env place d f x → SetsRoutine word x.place r f e kind → SetsTo word env place d e kind
sets_bare_routine word env place x r d f e kind bare is none unwritten property l s =
    let y = term_of env place in
    let p = place_told place in
    let T : Term → Type 0 = λ (u : Term). TermStands env f.tables u y f.pieces d.pieces in
    let there : RoutineStands env r y f.pieces d.pieces = subst T is l.stands.term_is in
    let q = there.routine in
    let z = routine_term q.base q.space q.number q.written in
    let other : is_property q.written.kind ≡ false = sym (property_by q.base q.space q.number q.written) ∙ ap is_property_term (sym q.is) ∙ property env f.tables y f.pieces d.pieces l.stands.term_is in
    let target : set_bare env p y ≡ alone env p y =
    ap (λ (t : plain.Term). set_bare env p t) q.is ∙ routine_bare env p q.base q.space q.number q.written ∙ if_property (is_property q.written.kind) z (alone env p z) false other ∙ ap (λ (t : plain.Term). alone env p t) (sym q.is) in
    let no_sub : is_sub y ≡ false = none env f.tables y f.pieces d.pieces l.stands.term_is in
    record {
      grown = grown_twice d f e l.grown s.grown;
      named = s.named;
      stands = λ value alone_there.
          let R : List Piece → Type 0 = λ (ps : List Piece). RoutineStands env r y f.pieces ps in
          let A : Place → Type 0 = λ (u : Place). ActionIs kind (set_to env word u (alone env u y) value) e.tables e.pieces in
          let m = subst A l.stands.place_is (s.stands env y value (subst R alone_there there)) in
          let no = unset env f.tables p [] value x.term y f.pieces d.pieces (ap is_member is) unwritten l.stands.term_is in
          record {
            made = m.made;
            is = set_other word env place value bare (ap is_sub (bare_callee env place bare) ∙ no_sub) no ∙ ap (λ (t : plain.Term). set_to env word p t value) (bare_target env place bare ∙ target) ∙ m.is;
            fits = m.fits;
          };
    }

-- a property without a Set
property_bare : (word : Place) (env : Env) (place : Place) (y : plain.Term) (base : Option bound.Expr) (space : Space) (number : ℕ) (w : Written) (of : Declared) (value : bound.Expr) → y ≡ routine_term base space number w → is_property w.kind ≡ true → property_type env space number w ≡ of
    → set_to env word place (set_bare env place y) value ≡ Some (unset_property word place base of value)
property_bare word env place y base space number w of value is property type_is =
    let z = routine_term base space number w in
    ap (λ (t : plain.Term). set_to env word place (set_bare env place t) value) is ∙ ap (λ (t : plain.Term). set_to env word place t value) (routine_bare env place base space number w ∙ if_property (is_property w.kind) z (alone env place z) true property)
    ∙ property_set word env place base space number w of value type_is

pub sets_bare_property : (word : Place) (env : Env) (place : Expr) (x : Tree) (r : Receiver) (of : DeclaredType) (d f e : Drafted) (kind : ActionKind) → IsBare place → IsSub x.term false → NoWriter part.Set env.scope x.term → TypesProperty env x.term (Some (r, of))
    → Leaves env place d f x → SetsProperty word x.place r of f e kind → SetsTo word env place d e kind
sets_bare_property word env place x r of d f e kind bare none unwritten typed l s =
    let y = term_of env place in
    let p = place_told place in
    let q = typed f.tables y f.pieces d.pieces l.stands.term_is in
    let no_sub : is_sub y ≡ false = none env f.tables y f.pieces d.pieces l.stands.term_is in
    record {
      grown = grown_twice d f e l.grown s.grown;
      named = s.named;
      stands = λ value alone_there.
          let R : List Piece → Type 0 = λ (ps : List Piece). ReceiverStands r q.base f.pieces ps in
          let A : Place → Type 0 = λ (u : Place). action_of e.tables kind e.pieces ≡ Some (unset_property word u q.base (declared_view of) value) in
          let no = unset env f.tables p [] value x.term y f.pieces d.pieces (property_other env f.tables x.term y f.pieces d.pieces q.base q.space q.number q.written q.is l.stands.term_is) unwritten l.stands.term_is in
          record {
            made = unset_property word p q.base (declared_view of) value;
            is = set_other word env place value bare (ap is_sub (bare_callee env place bare) ∙ no_sub) no ∙ ap (λ (t : plain.Term). set_to env word p t value) (bare_target env place bare)
                ∙ property_bare word env p y q.base q.space q.number q.written (declared_view of) value q.is q.property q.type_is;
            fits = subst A l.stands.place_is (s.does value q.base q.received (subst R alone_there q.pushed));
          };
    }

-- nothing else is called
bare_apart : (env : Env) (p : Place) (y : plain.Term) → is_property_term y ≡ false → is_procedure y ≡ false → set_bare env p y ≡ y
bare_apart env p (a_routine space number w) n h = let e : true ≡ false = h in absurd cc
bare_apart env p (a_method base space number w) n h = let e : true ≡ false = h in absurd cc
bare_apart env p y n h = refl

pub sets_other : (word : Place) (env : Env) (place : Expr) (x : Tree) (d f e : Drafted) (kind : ActionKind) → IsBare place → is_member x.term ≡ false → ((r : Routine) → (x.term ≡ term.Routine r) → ⊥) → IsSub x.term false → NoWriter part.Set env.scope x.term
    → IsProperty x.term false → Leaves env place d f x → SetsTerm word x.place x.term f e kind → SetsTo word env place d e kind
sets_other word env place x d f e kind bare other no_routine none unwritten property l s =
    let y = term_of env place in
    let p = place_told place in
    let no_sub : is_sub y ≡ false = none env f.tables y f.pieces d.pieces l.stands.term_is in
    let no = λ (v : bound.Expr). unset env f.tables p [] v x.term y f.pieces d.pieces other unwritten l.stands.term_is in
    let no_property = property env f.tables y f.pieces d.pieces l.stands.term_is in
    let itself = bare_apart env p y no_property (no_procedure env f.tables x.term y f.pieces d.pieces no_routine no_property l.stands.term_is) in
    sets_bare word env place x d f e kind bare no_sub itself no l s

-- what is no member of an object
pub other_member : (x : Term) → ((m : HostMember) → (x ≡ term.HostMember m) → ⊥) → ((m : HostMember) → (x ≡ term.SheetMember m) → ⊥) → is_member x ≡ false
other_member (term.HostMember m) n o = absurd (n m refl)
other_member (term.SheetMember m) n o = absurd (o m refl)
other_member x n o = refl

-- a member, of an object that was pushed, or of the active sheet
member_bare : (word : Place) (env : Env) (place : Expr) (object : bound.Expr) (m : plain.HostMember) (value : bound.Expr) → IsBare place → term_of env place ≡ a_host_member object m
    → set_there env word place value ≡ or_else (set_by env (place_told place) [] (term_of env place) value) (set_to env word (place_told place) (term_of env place) value)
member_bare word env place object m value bare is =
    let y = term_of env place in
    let p = place_told place in
    let I : plain.Term → Type 0 = λ (t : plain.Term). set_bare env p t ≡ t in
    let itself : set_bare env p y ≡ y = subst I (sym is) refl in
    set_there_is word env place value (ap is_sub (bare_callee env place bare) ∙ ap is_sub is) ∙ bare_set word env place value bare
    ∙ ap (λ (t : plain.Term). or_else (set_by env p [] y value) (set_to env word p t value)) (bare_target env place bare ∙ itself)

pub sets_bare_member : (word : Place) (env : Env) (place : Expr) (x : Tree) (m : HostMember) (d f e : Drafted) (kind : ActionKind) → IsBare place → x.term ≡ term.HostMember m → Leaves env place d f x → SetsMember word x.place m f e kind
    → SetsTo word env place d e kind
sets_bare_member word env place x m d f e kind bare is l s =
    let y = term_of env place in
    let T : Term → Type 0 = λ (u : Term). TermStands env f.tables u y f.pieces d.pieces in
    let there : HostMemberStands f.tables m y f.pieces d.pieces = subst T is l.stands.term_is in
    record {
      grown = grown_twice d f e l.grown s.grown;
      named = s.named;
      stands = λ value alone.
          let S : List Piece → Type 0 = λ (ps : List Piece). HostMemberStands f.tables m y f.pieces ps in
          let A : Place → Type 0 = λ (p : Place). ActionIs kind (or_else (set_by env p [] y value) (set_to env word p y value)) e.tables e.pieces in
          let done = subst A l.stands.place_is (s.stands env y value (subst S alone there)) in
          record { made = done.made; is = member_bare word env place there.object (member_is f.tables m) value bare there.is ∙ done.is; fits = done.fits };
    }

pub sets_bare_sheet : (word : Place) (env : Env) (place : Expr) (x : Tree) (m : HostMember) (d f e : Drafted) (kind : ActionKind) → IsBare place → x.term ≡ term.SheetMember m → Leaves env place d f x → SetsSheet word x.place m f e kind
    → SetsTo word env place d e kind
sets_bare_sheet word env place x m d f e kind bare is l s =
    let y = term_of env place in
    let T : Term → Type 0 = λ (u : Term). TermStands env f.tables u y f.pieces d.pieces in
    let there : TermStands env f.tables (term.SheetMember m) y f.pieces d.pieces = subst T is l.stands.term_is in
    record {
      grown = grown_twice d f e l.grown s.grown;
      named = s.named;
      stands = λ value alone.
          let S : List Piece → Type 0 = λ (ps : List Piece). TermStands env f.tables (term.SheetMember m) y f.pieces ps in
          let A : Place → Type 0 = λ (p : Place). ActionIs kind (or_else (set_by env p [] y value) (set_to env word p y value)) e.tables e.pieces in
          let done = subst A l.stands.place_is (s.stands env y value (subst S alone there)) in
          record { made = done.made; is = member_bare word env place _ (member_is f.tables m) value bare there.0 ∙ done.is; fits = done.fits };
    }

-- ---- with arguments

-- other arguments: of what is no member and no property
routine_apart : (base : Option bound.Expr) (space : Space) (number : ℕ) (w : Written) → is_apart (routine_term base space number w) ≡ is_property_term (routine_term base space number w)
routine_apart None space number w = refl
routine_apart (Some b) space number w = refl

term_apart : (env : Env) (t : Tables) (x : Term) (z : plain.Term) (ps below : List Piece) → is_member x ≡ false → is_property_term z ≡ false → TermStands env t x z ps below → is_apart z ≡ false
term_apart env t (term.Place kind of bounds lends makes) z ps below i n h = ap is_apart h.is
term_apart env t (term.Value e) z ps below i n h = ap is_apart h.is
term_apart env t (term.Routine r) z ps below i n h =
    let q = h.routine in ap is_apart q.is ∙ routine_apart q.base q.space q.number q.written ∙ ap is_property_term (sym q.is) ∙ n
term_apart env t (term.Property p) z ps below i n h =
    let q = h.property in ap is_apart q.is ∙ routine_apart q.base (space_view p.space.now) q.number (written_view p.written) ∙ ap is_property_term (sym q.is) ∙ n
term_apart env t (term.Function f) z ps below i n h = ap is_apart h.0.is
term_apart env t (term.HostMember m) z ps below i n h = let e : true ≡ false = i in absurd cc
term_apart env t (term.SheetMember m) z ps below i n h = let e : true ≡ false = i in absurd cc
term_apart env t term.Err z ps below i n h = ap is_apart h.0
term_apart env t term.ErrRaise z ps below i n h = ap is_apart h.0
term_apart env t term.ErrClear z ps below i n h = ap is_apart h.0
term_apart env t term.ErrorWord z ps below i n h = ap is_apart h.0
term_apart env t term.Nothing z ps below i n h = ap is_apart h

kept_apart : (lacks : Bool) (env : Env) (place : Place) (z : plain.Term) → ItemKept lacks env place z → is_apart z ≡ false → is_apart (item_of env place z) ≡ false
kept_apart true env place z m n = ap is_apart m.is
kept_apart false env place z same n = ap is_apart same ∙ n

no_member : (has : Bool) (env : Env) → has_class env.scope.spaces ≡ has → (t : Tables) (place : Place) (x : Term) (z : plain.Term) (ps below : List Piece) → KeepsItem has t x → is_property_term z ≡ false → TermStands env t x z ps below
    → is_apart (item_of env place z) ≡ false
no_member has env known t place x z ps below k n h = kept_apart (lacks_item x) env place z (k.kept env known place z ps below h) (term_apart env t x z ps below k.other n h)

-- what arguments lead to in a value, as the run says
pub sets_led : (word : Place) (has : Bool) (env : Env) → has_class env.scope.spaces ≡ has → (x : Before) (split : Split) (v : Ending) (d e : Drafted) (numbers : ℕ) → AddsOne split.arguments.now → NoWriter part.Set env.scope x.term → KeepsItem has d.tables x.term
    → term_class x.term ≡ None → IsLateValue has d.tables x.term v → LeadsFrom env v x.tree.place split.arguments.now d e numbers → SetsBehind env word x split d e (action.SetElement numbers)
sets_led word has env known x split v d e numbers one unwritten item class late led =
    let ns = split.arguments.now in
    record {
      grown = led.grown;
      named = tt;
      stands = λ base left right below closed b.
          let z = callee env base (term_of env base) in
          let p = place_told base in
          let keeps = item.kept env known p z d.pieces below b.called in
          let Y : Term → Type 0 = λ (q : Term). TermStands env d.tables q z d.pieces below in
          let q = subst Y late.is b.called in
          let m = led.stands base left right below b.there.place_is q in
          let gs = givens env m.args in
          let t = target_before env base gs in
          let before = item_before env base in
          let whole = whole_closed base ns split.closed.now left right closed in
          let same : t ≡ before = kept_args env base ns split.closed.now left right one m.args closed (whole ∙ m.whole_is) b.kept in
          let property : is_property_term z ≡ false = ap is_property_term q.is in
          let kept : is_apart before ≡ false = no_member has env known d.tables p x.term z d.pieces below item property b.called in
          let apart : class_of_term t ≡ None = ap class_of_term same ∙ kept_class (lacks_item x.term) env p z keeps (class_stands env d.tables x.term z d.pieces below b.called ∙ class) in
          let with_is : set_with env p gs t ≡ indexed env p before gs = ap (λ (y : plain.Term). set_with env p gs y) same ∙ other_set env p gs before kept in
          let W : Expr → Type 0 = λ (q : Expr). SetsIndexed env word q (action.SetElement numbers) e.tables e.pieces below in
          subst W (sym (whole ∙ m.whole_is)) (λ value alone.
          let no : set_by env p gs t value ≡ None = ap (λ (y : plain.Term). set_by env p gs y value) same ∙ unset_item has env known d.tables p gs value x.term z d.pieces below item unwritten b.called in
          let C : Term → Type 0 = λ (q : Term). term_class q ≡ None in
          let other_led = kept_led (lacks_item x.term) env p z q.made (declared_view v.of) keeps q.is (subst C late.is class) gs m.value (exprs_of m.numbers) type.variant m.indexed_is in
          record {
            made = set_element (value_place m.value) (exprs_of m.numbers) value;
            is = split_other word env base left right m.args value b.no_sub apart no ∙ ap (λ (y : plain.Term). set_to env word p y value) (with_is ∙ m.indexed_is)
                ∙ ap (λ (b : Bool). if b then None else Some (set_element (value_place m.value) (exprs_of m.numbers) value)) other_led;
            fits = item_action e.tables (λ q es w. set_element q es w) (value_place m.value) value numbers m.numbers e.pieces m.count_is (m.on_top ∙ ap (λ (ps : List Piece). above (map an_expr m.numbers) (a_place (value_place m.value) ∷ ps)) alone);
          });
    }

-- a member with its arguments
pub sets_item : (word : Place) (env : Env) (x : Before) (split : Split) (d e : Drafted) (kind : ActionKind) → SetsItem env word x.tree.place x.term split.arguments.now d e kind → SetsBehind env word x split d e kind
sets_item word env x split d e kind s = record {
  grown = s.grown;
  named = s.named;
  stands = λ base left right below closed b.
      let W : Expr → Type 0 = λ (t : Expr). SetsIndexed env word t kind e.tables e.pieces below in
      subst W (sym (whole_closed base split.arguments.now split.closed.now left right closed)) (s.stands base left right below b.there.place_is b.called);
}

-- ---- what is no member

-- a property itself
pub indexed_property : (word : Place) (env : Env) (x : Before) (split : Split) (r : Receiver) (of : DeclaredType) (d e : Drafted) (kind : ActionKind) → AddsOne split.arguments.now → TypesProperty env x.term (Some (r, of)) → SetsProperty word x.tree.place r of d e kind
    → SetsIndexedTerm env word x split d e kind
indexed_property word env x split r of d e kind one typed s = record {
  grown = s.grown;
  named = s.named;
  stands = λ base left right below closed b.
      let z = callee env base (term_of env base) in
      let p = place_told base in
      let ns = split.arguments.now in
      let args = args_of ns one in
      let gs = givens env args in
      let q = typed d.tables z d.pieces below b.called in
      let u = routine_term q.base q.space q.number q.written in
      record {
        args = args;
        whole_is = whole_added base ns split.closed.now left right one closed;
        does = λ value alone.
            let R : List Piece → Type 0 = λ (ps : List Piece). ReceiverStands r q.base d.pieces ps in
            let A : Place → Type 0 = λ (w : Place). action_of e.tables kind e.pieces ≡ Some (unset_property word w q.base (declared_view of) value) in
            record {
              made = unset_property word p q.base (declared_view of) value;
              is = ap (λ (t : plain.Term). set_to env word p (set_with env p gs t) value) (routine_item env p z q.base q.space q.number q.written q.is ∙ q.is)
                  ∙ ap (λ (t : plain.Term). set_to env word p t value) (routine_with env p gs q.base q.space q.number q.written ∙ if_property (is_property q.written.kind) u (indexed env p u gs) true q.property)
                  ∙ property_set word env p q.base q.space q.number q.written (declared_view of) value q.type_is;
              fits = subst A b.there.place_is (s.does value q.base q.received (subst R alone q.pushed));
            };
      };
}

-- what arguments make of another term
pub indexed_other : (word : Place) (has : Bool) (env : Env) → has_class env.scope.spaces ≡ has → (x : Before) (split : Split) (more : Tree) (d h e : Drafted) (kind : ActionKind) → AddsOne split.arguments.now → IsProperty x.term false → KeepsItem has d.tables x.term
    → Continues env x.tree split.closed.now d h more → SetsTerm word more.place more.term h e kind → SetsIndexedTerm env word x split d e kind
indexed_other word has env known x split more d h e kind one property item c s = record {
  grown = grown_twice d h e c.goes.grown s.grown;
  named = s.named;
  stands = λ base left right below closed b.
      let z = callee env base (term_of env base) in
      let p = place_told base in
      let ns = split.arguments.now in
      let args = args_of ns one in
      let gs = givens env args in
      let tree = index base left args right in
      let whole_is = whole_added base ns split.closed.now left right one closed in
      let S : Expr → Type 0 = λ (t : Expr). TreeStands env h.tables more t h.pieces below in
      let there = subst S whole_is (tree_behind env x.tree split.closed.now d h more c base below b.there) in
      let kept : is_apart (item_before env base) ≡ false = no_member has env known d.tables p x.term z d.pieces below item (property env d.tables z d.pieces below b.called) b.called in
      record {
        args = args;
        whole_is = whole_is;
        does = λ value alone.
            let T : List Piece → Type 0 = λ (ps : List Piece). TermStands env h.tables more.term (term_of env tree) h.pieces ps in
            let A : Place → Type 0 = λ (q : Place). ActionIs kind (set_to env word q (term_of env tree) value) e.tables e.pieces in
            let m = subst A there.place_is (s.stands env (term_of env tree) value (subst T alone there.term_is)) in
            record { made = m.made; is = ap (λ (t : plain.Term). set_to env word p t value) (other_set env p gs (item_before env base) kept) ∙ m.is; fits = m.fits };
      };
}

pub sets_indexed : (word : Place) (has : Bool) (env : Env) → has_class env.scope.spaces ≡ has → (x : Before) (split : Split) (d e : Drafted) (kind : ActionKind) → AddsOne split.arguments.now → NoWriter part.Set env.scope x.term → KeepsItem has d.tables x.term
    → term_class x.term ≡ None → SetsIndexedTerm env word x split d e kind → SetsBehind env word x split d e kind
sets_indexed word has env known x split d e kind one unwritten item class s = record {
  grown = s.grown;
  named = s.named;
  stands = λ base left right below closed b.
      let z = callee env base (term_of env base) in
      let p = place_told base in
      let m = s.stands base left right below closed b in
      let gs = givens env m.args in
      let t = target_before env base gs in
      let same : t ≡ item_before env base = kept_args env base split.arguments.now split.closed.now left right one m.args closed m.whole_is b.kept in
      let apart : class_of_term t ≡ None = ap class_of_term same ∙ kept_class (lacks_item x.term) env p z (item.kept env known p z d.pieces below b.called) (class_stands env d.tables x.term z d.pieces below b.called ∙ class) in
      let W : Expr → Type 0 = λ (q : Expr). SetsIndexed env word q kind e.tables e.pieces below in
      subst W (sym m.whole_is) (λ value alone.
      let done = m.does value alone in
      let no : set_by env p gs t value ≡ None = ap (λ (y : plain.Term). set_by env p gs y value) same ∙ unset_item has env known d.tables p gs value x.term z d.pieces below item unwritten b.called in
      record {
        made = done.made;
        is = split_other word env base left right m.args value b.no_sub apart no ∙ ap (λ (y : plain.Term). set_to env word p (set_with env p gs y) value) same ∙ done.is;
        fits = done.fits;
      });
}
