-- What has no Let and no arguments, and is assigned to.
use Rattle.std.proofs.Common.{◌≡◌, ℕ, Bool, true, false, List, [], ◌∷◌, Option, Some, None, is_some, not, ◌&&◌, if◌then◌else◌, refl, sym, ap, subst, ◌∙◌}
use Rattle.vba_base.specs.declared.place.Place.{Place}
use Rattle.vba_values.specs.Types.{Declared}
use Rattle.vba_expression.specs.Tree.{Expr}
use Rattle.bound_project.specs.declared.statement.ActionKind.{ActionKind}
use Rattle.bound_project.specs.Drafts.{Drafted}
use Rattle.bound_project.specs.Expressions.{no_exprs}
use Rattle.bound_project.specs.Expressions as bound
use Rattle.bound_project.specs.Pieces.{Piece, an_expr}
use Rattle.bound_project.specs.Statements.{Action}
use Rattle.bound_project.specs.Project as project
use Rattle.bound_project.specs.View.{declarations_view, declared_view}
use Rattle.declared_names.specs.binder.specs.Classes.{has_class}
use Rattle.declared_names.specs.binder.specs.Declarations.{Written}
use Rattle.declared_names.specs.binder.specs.Scopes.{Space}
use Rattle.declared_names.specs.binder.specs.Signatures.{reader, writer}
use Rattle.declared_names.specs.View.{space_view, written_view}
use Rattle.bound_terms.specs.bound_accesses.specs.bound_names.specs.bound_members.specs.bound_calls.specs.bound_forms.specs.Terms.{Env, a_value, routine_term}
use Rattle.bound_terms.specs.bound_accesses.specs.bound_names.specs.bound_members.specs.bound_calls.specs.bound_forms.specs.Terms as plain
use Rattle.bound_terms.specs.bound_accesses.specs.bound_names.specs.bound_members.specs.bound_calls.specs.bound_forms.specs.ClassDefaults.{declared_in}
use Rattle.bound_terms.specs.bound_accesses.specs.bound_names.specs.bound_members.specs.bound_calls.specs.bound_forms.specs.Operands.{alone, behind_base}
use Rattle.bound_terms.specs.bound_accesses.specs.bound_names.specs.bound_members.specs.bound_calls.specs.bound_forms.specs.ExpressionsBound.{indexed, term_of}
use Rattle.bound_terms.specs.bound_accesses.specs.bound_names.specs.bound_members.specs.bound_calls.specs.bound_forms.specs.Targets.{assigned, broken_target, is_no_target, is_sub_kind, let_to, takes_value, value_written}
use Rattle.bound_terms.specs.bound_accesses.specs.bound_names.specs.bound_members.specs.bound_calls.specs.declared.term.Ending.{Ending}
use Rattle.bound_terms.specs.bound_accesses.specs.bound_names.specs.bound_members.specs.bound_calls.specs.declared.term.Property.{Property}
use Rattle.bound_terms.specs.bound_accesses.specs.bound_names.specs.bound_members.specs.bound_calls.specs.declared.term.Receiver.{Receiver}
use Rattle.bound_terms.specs.bound_accesses.specs.bound_names.specs.bound_members.specs.bound_calls.specs.declared.term.Routine.{Routine}
use Rattle.bound_terms.specs.bound_accesses.specs.bound_names.specs.bound_members.specs.bound_calls.specs.declared.term.Term.{Term}
use Rattle.bound_terms.specs.bound_accesses.specs.bound_names.specs.bound_members.specs.bound_calls.specs.declared.term.Term.TheVariants as term
use Rattle.bound_terms.specs.bound_accesses.specs.bound_names.specs.bound_members.specs.bound_calls.specs.declared.term.Tree.{Tree}
use Rattle.bound_terms.specs.bound_accesses.specs.bound_names.specs.bound_members.specs.bound_calls.specs.Standing.{IsReceiver, PropertyStands, ReceiverStands, RoutineIs, RoutineStands, TermStands, TreeStands, UnreadStands}
use Rattle.bound_terms.specs.bound_accesses.specs.bound_names.specs.bound_members.specs.bound_calls.specs.Steps.{Leaves}
use Rattle.bound_terms.specs.bound_accesses.specs.bound_names.specs.bound_members.specs.bound_calls.specs.Taking.{CallsAt}
use Rattle.bound_terms.specs.bound_accesses.specs.bound_names.specs.bound_members.specs.bound_calls.proofs.Growing.{grown_twice}
use Rattle.bound_terms.specs.bound_accesses.specs.bound_names.specs.declared.properties.Part.TheVariants as part
use Rattle.bound_terms.specs.bound_accesses.specs.bound_names.specs.declared.properties.Writer.{Writer}
use Rattle.bound_terms.specs.bound_accesses.specs.bound_names.specs.Callee.{NoWriter, Unwritten, WriterOf}
use Rattle.statement_terms.specs.Called.{ActionIs, AssignsTo, IsBare, MayBe}
use Rattle.statement_terms.specs.Members.{AssignsIn, AssignsTree}
use Rattle.statement_terms.proofs.Assigned.{bare_assigned, bare_given, property_of}
use Rattle.bound_actions.specs.Assigning.{AssignsOther, TakesLet, is_member}
use Rattle.bound_actions.specs.NoTargets.{BreaksProcedure}
use Rattle.bound_actions.proofs.Assigned.{has_writer, property_stands, routine_takes}

-- ---- whether there is a Let

pub let_there : (env : Env) (x : Term) (w : Writer) → WriterOf part.Let env.scope x w → TakesLet env x true
let_there env x w is = λ t y ps below other h. has_writer env w y ps below is.writer (property_stands env t x w.property y ps below is.is h)

takes_other : (env : Env) (y z : plain.Term) → y ≡ z → takes_value env z ≡ false → takes_value env y ≡ false
takes_other env y z e h = ap (λ (q : plain.Term). takes_value env q) e ∙ h

-- a property without a Let
property_absent : (env : Env) (p : Property) (y : plain.Term) (ps below : List Piece) → Unwritten part.Let env.scope (Some p) → PropertyStands env p y ps below → takes_value env y ≡ false
property_absent env p y ps below n s =
    let space = space_view p.space.now in
    let written = written_view p.written in
    takes_other env y (routine_term s.base space s.number written) s.is (routine_takes env s.base space s.number written ∙ ap (λ o. is_some o) n)

pub let_absent : (env : Env) (x : Term) → NoWriter part.Let env.scope x → TakesLet env x false
let_absent env (term.Place kind of bounds lends makes) n = λ t y ps below other h. takes_other env y _ h.is refl
let_absent env (term.Value e) n = λ t y ps below other h. takes_other env y _ h.is refl
let_absent env (term.Routine r) n = λ t y ps below other h. property_absent env (record { receiver = r.receiver; space = r.space; written = r.written }) y ps below n (property_of env r y ps below h)
let_absent env (term.Property p) n = λ t y ps below other h. property_absent env p y ps below n h.property
let_absent env (term.Function f) n = λ t y ps below other h. takes_other env y _ h.0.is refl
let_absent env (term.HostMember m) n = λ t y ps below other h. let e : true ≡ false = sym (ap is_member h.is) ∙ other in absurd cc
let_absent env (term.SheetMember m) n = λ t y ps below other h. let e : true ≡ false = sym (ap is_member h.0) ∙ other in absurd cc
let_absent env term.Err n = λ t y ps below other h. takes_other env y plain.err_object h.0 refl
let_absent env term.ErrRaise n = λ t y ps below other h. takes_other env y plain.err_raise h.0 refl
let_absent env term.ErrClear n = λ t y ps below other h. takes_other env y plain.err_clear h.0 refl
let_absent env term.ErrorWord n = λ t y ps below other h. takes_other env y plain.error_word h.0 refl
let_absent env term.Nothing n = λ t y ps below other h. takes_other env y plain.no_term h refl

-- ---- what a procedure gives

abbrev value_of_call : Env → Place → bound.Expr → plain.Term → Option Action
value_of_call env place v (a_value node of) = value_written env place v node of
value_of_call env place v t = None

-- whether a value is assigned to what a procedure gives, which has no Let
abbrev gives : Env → Space → ℕ → Written → Bool
gives env space number w = not (is_sub_kind w.kind) && is_some (reader env.scope space number w)

abbrev with_writer : (env : Env) (place : Place) (v : bound.Expr) (base : Option bound.Expr) (space : Space) (number : ℕ) (w : Written) → Option (ℕ × Written) → Option Action
with_writer env place v base space number w (Some f) = let_to env base place space [] v f
with_writer env place v base space number w None =
    if gives env space number w then value_of_call env place v (indexed env place (routine_term base space number w) []) else Some (broken_target 27 place v (behind_base base no_exprs))

assigned_parts : (env : Env) (place : Place) (v : bound.Expr) (base : Option bound.Expr) (space : Space) (number : ℕ) (w : Written) → assigned env place v [] (routine_term base space number w) ≡ with_writer env place v base space number w (writer env.scope space w)
assigned_parts env place v None space number w = refl
assigned_parts env place v (Some b) space number w = refl

called_assigned : (env : Env) (place : Place) (v : bound.Expr) (base : Option bound.Expr) (space : Space) (number : ℕ) (w : Written) (made : bound.Node) (of : Declared) → writer env.scope space w ≡ None → gives env space number w ≡ true
    → indexed env place (routine_term base space number w) [] ≡ a_value made of → assigned env place v [] (routine_term base space number w) ≡ assigned env place v [] (a_value made of)
called_assigned env place v base space number w made of none given is =
    assigned_parts env place v base space number w ∙ ap (λ (o : Option (ℕ × Written)). with_writer env place v base space number w o) none
    ∙ ap (λ (b : Bool). if b then value_of_call env place v (indexed env place (routine_term base space number w) []) else Some (broken_target 27 place v (behind_base base no_exprs))) given ∙ ap (λ (y : plain.Term). value_of_call env place v y) is

-- one that gives nothing can't be assigned to
none_assigned : (env : Env) (place : Place) (v : bound.Expr) (base : Option bound.Expr) (space : Space) (number : ℕ) (w : Written) → writer env.scope space w ≡ None → gives env space number w ≡ false
    → assigned env place v [] (routine_term base space number w) ≡ Some (broken_target 27 place v (behind_base base no_exprs))
none_assigned env place v base space number w none given =
    assigned_parts env place v base space number w ∙ ap (λ (o : Option (ℕ × Written)). with_writer env place v base space number w o) none
    ∙ ap (λ (b : Bool). if b then value_of_call env place v (indexed env place (routine_term base space number w) []) else Some (broken_target 27 place v (behind_base base no_exprs))) given

sub_gives : (sub some : Bool) → sub ≡ true → (not sub && some) ≡ false
sub_gives true some h = refl
sub_gives false some h = let e : false ≡ true = h in absurd cc

none_gives : (sub some : Bool) → some ≡ false → (not sub && some) ≡ false
none_gives true some h = refl
none_gives false some h = h

some_gives : (sub some : Bool) → sub ≡ false → some ≡ true → (not sub && some) ≡ true
some_gives true some h k = let e : true ≡ false = h in absurd cc
some_gives false some h k = k

no_let : (env : Env) (r : Routine) (y : plain.Term) → NoWriter part.Let env.scope (term.Routine r) → (s : RoutineIs env r y) → writer env.scope s.space s.written ≡ None
no_let env r y n s = ap (λ (q : Space). writer env.scope q s.written) s.space_is ∙ ap (λ (q : Written). writer env.scope (space_view r.space.now) q) s.written_is ∙ n

routine_assigned : (has : Bool) (env : Env) (may : Option Bool) (r : Routine) (place : Place) (y : plain.Term) (value : bound.Expr) (ending : Ending) (kind : ActionKind) (d m e : Drafted) → has_class env.scope.spaces ≡ has → MayBe env may value
    → NoWriter part.Let env.scope (term.Routine r) → is_sub_kind (written_view r.written).kind ≡ false → CallsAt r place d m ending → (all : project.Declarations) → declared_in env.scope ≡ all → AssignsIn all has may place (term.Value ending) m e kind false → RoutineStands env r y d.pieces (an_expr value ∷ [])
    → ActionIs kind (assigned env place value [] y) e.tables e.pieces
routine_assigned has env may r place y value ending kind d m e known goes n no_sub c all alike a s =
    let q = s.routine in
    let z = routine_term q.base q.space q.number q.written in
    let all_called = c.stands env y (an_expr value ∷ []) s in
    let called = all_called.called in
    let made : indexed env place z [] ≡ a_value called.made (declared_view ending.of) = ap (λ (t : plain.Term). indexed env place t []) (sym q.is) ∙ all_called.indexed_is ∙ called.is in
    let no_sub_here : is_sub_kind q.written.kind ≡ false = ap (λ (w : Written). is_sub_kind w.kind) q.written_is ∙ no_sub in
    let given = some_gives (is_sub_kind q.written.kind) (is_some (reader env.scope q.space q.number q.written)) no_sub_here (ap (λ (o : Option (ℕ × Written)). is_some o) q.reads) in
    let same : assigned env place value [] y ≡ assigned env place value [] (alone env place y) =
    ap (λ (t : plain.Term). assigned env place value [] t) q.is ∙ called_assigned env place value q.base q.space q.number q.written called.made (declared_view ending.of) (no_let env r y n q) given made
    ∙ ap (λ (t : plain.Term). assigned env place value [] t) (sym called.is) in
    let done = a.stands env known alike (alone env place y) value goes called in
    record { made = done.made; is = same ∙ done.is; fits = done.fits }

-- a procedure is no member of the host
routine_member : (base : Option bound.Expr) (space : Space) (number : ℕ) (w : Written) → is_member (routine_term base space number w) ≡ false
routine_member None space number w = refl
routine_member (Some b) space number w = refl

pub assigns_routine : (has : Bool) (may : Option Bool) (x : Tree) (r : Routine) (ending : Ending) (kind : ActionKind) (d m e : Drafted) → x.term ≡ term.Routine r → is_sub_kind (written_view r.written).kind ≡ false → CallsAt r x.place d m ending
    → AssignsIn (declarations_view x.declared.now) has may x.place (term.Value ending) m e kind false → AssignsOther has may x d e kind false
assigns_routine has may x r ending kind d m e is no_sub c a = record {
  grown = grown_twice d m e c.grown a.grown;
  named = a.named;
  takes = λ env tree below n bare h.
      let T : Term → Type 0 = λ (q : Term). TermStands env d.tables q (term_of env tree) d.pieces below in
      let s : RoutineStands env r (term_of env tree) d.pieces below = subst T is h.term_is in
      let q = s.routine in
      bare_given env tree bare ∙ let_absent env x.term n d.tables (term_of env tree) d.pieces below (ap is_member q.is ∙ routine_member q.base q.space q.number q.written) h.term_is;
  stands = λ env known tree value goes n bare target h.
      let below = an_expr value ∷ [] in
      let T : Term → Type 0 = λ (q : Term). TermStands env d.tables q (term_of env tree) d.pieces below in
      let N : Term → Type 0 = λ (q : Term). NoWriter part.Let env.scope q in
      let A : Place → Type 0 = λ (p : Place). ActionIs kind (assigned env p value [] (term_of env tree)) e.tables e.pieces in
      let done = subst A h.place_is (routine_assigned has env may r x.place (term_of env tree) value ending kind d m e known goes (subst N is n) no_sub c (declarations_view x.declared.now) h.declared_is a (subst T is h.term_is)) in
      record { made = done.made; is = bare_assigned env tree value bare target ∙ done.is; fits = done.fits };
}

-- a Sub, and a property that has neither a Let nor a Get
breaks_assigned : (env : Env) (place : Place) (r : Receiver) (y : plain.Term) (base : Option bound.Expr) (space : Space) (number : ℕ) (w : Written) (d e : Drafted) (kind : ActionKind) (value : bound.Expr) → y ≡ routine_term base space number w → writer env.scope space w ≡ None
    → gives env space number w ≡ false → BreaksProcedure r 27 place d e kind → IsReceiver r base → ReceiverStands r base d.pieces (an_expr value ∷ []) → ActionIs kind (assigned env place value [] y) e.tables e.pieces
breaks_assigned env place r y base space number w d e kind value is none given b received there = record {
  made = broken_target 27 place value (behind_base base no_exprs);
  is = ap (λ (t : plain.Term). assigned env place value [] t) is ∙ none_assigned env place value base space number w none given;
  fits = b.does value base received there;
}

-- a term that has no Let and isn't assigned to as it is
assigns_broken : (has : Bool) (may : Option Bool) (x : Tree) (r : Receiver) (d e : Drafted) (kind : ActionKind) → BreaksProcedure r 27 x.place d e kind
    → ((env : Env) (tree : Expr) (below : List Piece) → TreeStands env d.tables x tree d.pieces below → is_member (term_of env tree) ≡ false)
    → ((env : Env) (tree : Expr) (value : bound.Expr) → NoWriter part.Let env.scope x.term → TreeStands env d.tables x tree d.pieces (an_expr value ∷ []) → ActionIs kind (assigned env x.place value [] (term_of env tree)) e.tables e.pieces)
    → AssignsOther has may x d e kind false
assigns_broken has may x r d e kind b other does = record {
  grown = b.grown;
  named = b.named;
  takes = λ env tree below n bare h. bare_given env tree bare ∙ let_absent env x.term n d.tables (term_of env tree) d.pieces below (other env tree below h) h.term_is;
  stands = λ env known tree value goes n bare target h.
      let A : Place → Type 0 = λ (p : Place). ActionIs kind (assigned env p value [] (term_of env tree)) e.tables e.pieces in
      let done = subst A h.place_is (does env tree value n h) in
      record { made = done.made; is = bare_assigned env tree value bare target ∙ done.is; fits = done.fits };
}

pub assigns_sub : (has : Bool) (may : Option Bool) (x : Tree) (r : Routine) (d e : Drafted) (kind : ActionKind) → x.term ≡ term.Routine r → is_sub_kind (written_view r.written).kind ≡ true → BreaksProcedure r.receiver 27 x.place d e kind → AssignsOther has may x d e kind false
assigns_sub has may x r d e kind is sub b =
    assigns_broken has may x r.receiver d e kind b
    (λ env tree below h.
    let T : Term → Type 0 = λ (q : Term). TermStands env d.tables q (term_of env tree) d.pieces below in
    let s : RoutineStands env r (term_of env tree) d.pieces below = subst T is h.term_is in
    let q = s.routine in
    ap is_member q.is ∙ routine_member q.base q.space q.number q.written)
    (λ env tree value n h.
    let below = an_expr value ∷ [] in
    let T : Term → Type 0 = λ (q : Term). TermStands env d.tables q (term_of env tree) d.pieces below in
    let N : Term → Type 0 = λ (q : Term). NoWriter part.Let env.scope q in
    let s : RoutineStands env r (term_of env tree) d.pieces below = subst T is h.term_is in
    let q = s.routine in
    let sub_here : is_sub_kind q.written.kind ≡ true = ap (λ (w : Written). is_sub_kind w.kind) q.written_is ∙ sub in
    let given = sub_gives (is_sub_kind q.written.kind) (is_some (reader env.scope q.space q.number q.written)) sub_here in
    breaks_assigned env x.place r.receiver (term_of env tree) q.base q.space q.number q.written d e kind value q.is (no_let env r (term_of env tree) (subst N is n) q) given b q.received s.pushed)

pub assigns_unread : (has : Bool) (may : Option Bool) (x : Tree) (p : Property) (d e : Drafted) (kind : ActionKind) → x.term ≡ term.Property p → BreaksProcedure p.receiver 27 x.place d e kind → AssignsOther has may x d e kind false
assigns_unread has may x p d e kind is b =
    let space = space_view p.space.now in
    let w = written_view p.written in
    assigns_broken has may x p.receiver d e kind b
    (λ env tree below h.
    let T : Term → Type 0 = λ (q : Term). TermStands env d.tables q (term_of env tree) d.pieces below in
    let s : UnreadStands env p (term_of env tree) d.pieces below = subst T is h.term_is in
    ap is_member s.property.is ∙ routine_member s.property.base space s.property.number w)
    (λ env tree value n h.
    let below = an_expr value ∷ [] in
    let T : Term → Type 0 = λ (q : Term). TermStands env d.tables q (term_of env tree) d.pieces below in
    let N : Term → Type 0 = λ (q : Term). NoWriter part.Let env.scope q in
    let s : UnreadStands env p (term_of env tree) d.pieces below = subst T is h.term_is in
    let q = s.property in
    let given = none_gives (is_sub_kind w.kind) (is_some (reader env.scope space q.number w)) (ap (λ (o : Option (ℕ × Written)). is_some o) s.unread) in
    breaks_assigned env x.place p.receiver (term_of env tree) q.base space q.number w d e kind value q.is (subst N is n) given b q.received q.pushed)

pub assigns_plainly : (has : Bool) (may : Option Bool) (x : Tree) (d e : Drafted) (kind : ActionKind) (given : Bool) → AssignsTree has may x d e kind given → AssignsOther has may x d e kind given
assigns_plainly has may x d e kind given a = record {
  grown = a.grown;
  named = a.named;
  takes = λ env tree below n bare h. a.takes env tree below bare h;
  stands = λ env known tree value goes n bare target h. a.stands env known tree value goes bare target h;
}

-- what an assignment says
pub other_is : (has : Bool) (may : Option Bool) (x : Tree) (d e : Drafted) (kind k : ActionKind) (given g : Bool) → k ≡ kind → g ≡ given → AssignsOther has may x d e kind given → AssignsOther has may x d e k g
other_is has may x d e kind k given g same is a =
    let K : ActionKind → Type 0 = λ (q : ActionKind). AssignsOther has may x d e q given in
    let G : Bool → Type 0 = λ (b : Bool). AssignsOther has may x d e k b in
    subst G (sym is) (subst K (sym same) a)

pub assigns_other : (has : Bool) (env : Env) (may : Option Bool) (place : Expr) (x : Tree) (d f e : Drafted) (kind : ActionKind) (given : Bool) → has_class env.scope.spaces ≡ has → IsBare place → is_no_target env place ≡ false → NoWriter part.Let env.scope x.term
    → Leaves env place d f x → AssignsOther has may x f e kind given → AssignsTo env may place d e kind given
assigns_other has env may place x d f e kind given known bare target n l a = record {
  grown = grown_twice d f e l.grown a.grown;
  named = a.named;
  takes = a.takes env place d.pieces n bare l.stands;
  stands = λ value goes alone.
      let T : List Piece → Type 0 = λ (ps : List Piece). TreeStands env f.tables x place f.pieces ps in
      a.stands env known place value goes n bare target (subst T alone l.stands);
}
