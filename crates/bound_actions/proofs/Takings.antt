-- What takes the value that an expression is assigned.
use Rattle.std.proofs.Common.{◌≡◌, ℕ, Bool, true, false, List, [], ◌∷◌, ◌++◌, map, Option, Some, None, refl, sym, ap, subst, ◌∙◌}
use Rattle.std.proofs.lemmas.List.{map-append}
use Rattle.vba_base.specs.declared.place.Place.{Place}
use Rattle.vba_expression.specs.Tree.{Expr, index}
use Rattle.bound_project.specs.declared.declarations.Parameter.{Parameter}
use Rattle.bound_project.specs.declared.declared_type.DeclaredType.{DeclaredType}
use Rattle.bound_project.specs.declared.declared_type.DeclaredType.TheVariants.{Plain}
use Rattle.bound_project.specs.declared.declared_type.ElementType.TheVariants.{Variant}
use Rattle.bound_project.specs.Drafts.{Drafted}
use Rattle.bound_project.specs.Expressions as bound
use Rattle.bound_project.specs.Pieces.{Piece, Tables}
use Rattle.bound_project.specs.Parameters.{last_type}
use Rattle.bound_project.specs.Project as project
use Rattle.bound_project.specs.View.{declared_view, parameter_view}
use Rattle.declared_names.specs.binder.specs.Classes.{has_class}
use Rattle.declared_names.specs.binder.specs.Declarations.{Written}
use Rattle.declared_names.specs.binder.specs.Scopes.{Space}
use Rattle.declared_names.specs.binder.specs.Signatures.{parameters_in, writer}
use Rattle.declared_names.specs.View.{space_view, written_view}
use Rattle.bound_terms.specs.bound_accesses.specs.bound_names.specs.bound_members.specs.bound_calls.specs.bound_forms.specs.Terms.{Env, routine_term}
use Rattle.bound_terms.specs.bound_accesses.specs.bound_names.specs.bound_members.specs.bound_calls.specs.bound_forms.specs.Terms as plain
use Rattle.bound_terms.specs.bound_accesses.specs.bound_names.specs.bound_members.specs.bound_calls.specs.bound_forms.specs.Operands.{place_told}
use Rattle.bound_terms.specs.bound_accesses.specs.bound_names.specs.bound_members.specs.bound_calls.specs.bound_forms.specs.Members.{item_of}
use Rattle.bound_terms.specs.bound_accesses.specs.bound_names.specs.bound_members.specs.bound_calls.specs.bound_forms.specs.ExpressionsBound.{callee, givens, term_of}
use Rattle.bound_terms.specs.bound_accesses.specs.bound_names.specs.bound_members.specs.bound_calls.specs.bound_forms.specs.Targets.{property_takes, takes_value, target_before, target_term}
use Rattle.bound_terms.specs.bound_accesses.specs.bound_names.specs.bound_members.specs.bound_calls.specs.declared.term.HostMember.{HostMember}
use Rattle.bound_terms.specs.bound_accesses.specs.bound_names.specs.bound_members.specs.bound_calls.specs.declared.term.Property.{Property}
use Rattle.bound_terms.specs.bound_accesses.specs.bound_names.specs.bound_members.specs.bound_calls.specs.declared.term.Routine.{Routine}
use Rattle.bound_terms.specs.bound_accesses.specs.bound_names.specs.bound_members.specs.bound_calls.specs.declared.term.Term.{Term}
use Rattle.bound_terms.specs.bound_accesses.specs.bound_names.specs.bound_members.specs.bound_calls.specs.declared.term.Term.TheVariants as term
use Rattle.bound_terms.specs.bound_accesses.specs.bound_names.specs.bound_members.specs.bound_calls.specs.declared.term.Tree.{Tree}
use Rattle.bound_terms.specs.bound_accesses.specs.bound_names.specs.bound_members.specs.bound_calls.specs.Standing.{HostMemberStands, PropertyStands, TermStands, TreeStands}
use Rattle.bound_terms.specs.bound_accesses.specs.bound_names.specs.bound_members.specs.bound_calls.specs.Steps.{Leaves}
use Rattle.bound_terms.specs.bound_accesses.specs.bound_names.specs.declared.properties.Part.TheVariants as part
use Rattle.bound_terms.specs.bound_accesses.specs.bound_names.specs.declared.properties.Writer.{Writer}
use Rattle.bound_terms.specs.bound_accesses.specs.bound_names.specs.Callee.{IsWriter, NoWriter, Unwritten, WriterOf}
use Rattle.bound_terms.specs.bound_accesses.specs.Items.{KeepsItem, MakesItem}
use Rattle.statement_terms.specs.declared.assigning.PropertyLet.{PropertyLet}
use Rattle.statement_terms.specs.declared.takers.Taker.{Taker}
use Rattle.statement_terms.specs.declared.trees.Split.{Split}
use Rattle.statement_terms.specs.Called.{Continues, IsBare, item_before}
use Rattle.statement_terms.specs.Heights.{AddsOne}
use Rattle.statement_terms.specs.Takers.{TakenBy, taker_of}
use Rattle.statement_terms.proofs.Assigned.{item_itself, property_of}
use Rattle.statement_terms.proofs.Takings.{as_taken, routine_taken, taken_bare, taken_there, target_before_is, target_indexed}
use Rattle.statement_terms.proofs.TargetsBefore.{before_member}
use Rattle.bound_actions.specs.Assigning.{GivesProperty}
use Rattle.bound_actions.specs.Behind.{PropertyTaken, TakenBehind, TakesType, TermTaken}
use Rattle.bound_actions.specs.declared.property_targets.Before.{Before}
use Rattle.bound_actions.proofs.Assigned.{has_writer, property_stands, untaken}
use Rattle.bound_actions.proofs.Behind.{args_of, indexed_whole, kept_added, tree_behind, whole_added}

-- ---- properties

last_is : (front : List project.Parameter) (last : project.Parameter) → last_type (front ++ last ∷ []) ≡ last.of
last_is [] last = refl
last_is (p ∷ []) last = refl
last_is (p ∷ q ∷ front) last = last_is (q ∷ front) last

-- by a Let
let_type : (env : Env) (space : Space) (w : Written) (found : ℕ × Written) → writer env.scope space w ≡ Some found → property_takes env space w ≡ last_type (parameters_in env.scope space found.1)
let_type env space w found h = rw h refl

pub let_takes : (env : Env) (w : Writer) (given : PropertyLet) (front : List Parameter) → IsWriter part.Let env.scope w → GivesProperty env false w given front → TakesType env w.property given.of
let_takes env w given front is g placed =
    let space = space_view w.property.space.now in
    let_type env space (written_view w.property.written) (w.number, written_view w.written) is.found ∙ ap last_type (sym (g.parameters_are placed) ∙ map-append parameter_view front (g.last ∷ []))
    ∙ last_is (map parameter_view front) (parameter_view g.last) ∙ ap declared_view (sym g.of_is)

-- without one
variant_type : (env : Env) (space : Space) (w : Written) → writer env.scope space w ≡ None → property_takes env space w ≡ declared_view (Plain Variant)
variant_type env space w h = rw h refl

pub none_takes : (env : Env) (p : Property) → NoWriter part.Let env.scope (term.Property p) → TakesType env p (Plain Variant)
none_takes env p n placed = variant_type env (space_view p.space.now) (written_view p.written) n

pub writer_property : (p : Property) (w : Writer) → Some p ≡ Some w.property → w.property ≡ p
writer_property p w h = cc

pub property_taken : (env : Env) (p : Property) (of : DeclaredType) → TakesType env p of → PropertyTaken env p (Some (record { of = of; is_bounded = false }))
property_taken env p of takes = λ t y ps below s.
    let space = space_view p.space.now in
    let w = written_view p.written in
    as_taken env y (routine_term s.base space s.number w) (Some (record { of = of; is_bounded = false })) s.is (routine_taken env s.base space s.number w of (takes s.placed))

-- ---- terms

pub routine_term_taken : (env : Env) (x : Term) (r : Routine) (taker : Option Taker) → x ≡ term.Routine r → PropertyTaken env (record { receiver = r.receiver; space = r.space; written = r.written }) taker → TermTaken env x taker
routine_term_taken env x r taker is h =
    let P : Term → Type 0 = λ (z : Term). TermTaken env z taker in
    subst P (sym is) (λ t y ps below s. h t y ps below (property_of env r y ps below s))

pub property_term_taken : (env : Env) (x : Term) (p : Property) (taker : Option Taker) → x ≡ term.Property p → PropertyTaken env p taker → TermTaken env x taker
property_term_taken env x p taker is h =
    let P : Term → Type 0 = λ (z : Term). TermTaken env z taker in
    subst P (sym is) (λ t y ps below s. h t y ps below s.property)

pub other_term_taken : (env : Env) (x : Term) (taker : Option Taker) → ((r : Routine) → (x ≡ term.Routine r) → ⊥) → ((p : Property) → (x ≡ term.Property p) → ⊥) → taker ≡ taker_of x → TermTaken env x taker
other_term_taken env x taker n o is =
    let P : Option Taker → Type 0 = λ (z : Option Taker). TermTaken env x z in
    subst P (sym is) (λ t y ps below s. taken_there env t x y ps below n o s)

-- ---- expressions

-- without arguments in brackets at its end
pub tree_taken : (env : Env) (place : Expr) (x : Tree) (taker : Option Taker) (d f : Drafted) → IsBare place → Leaves env place d f x → TermTaken env x.term taker → TakenBy env (target_term env place) taker
tree_taken env place x taker d f bare l h = taken_bare env place taker bare (h f.tables (term_of env place) f.pieces d.pieces l.stands.term_is)

-- a property with arguments
pub let_taken : (env : Env) (x : Before) (split : Split) (d : Drafted) (w : Writer) (taker : Option Taker) → AddsOne split.arguments.now → WriterOf part.Let env.scope x.term w → PropertyTaken env w.property taker → TakenBehind env x split d taker
let_taken env x split d w taker one is h = λ base left right below closed b.
    let ns = split.arguments.now in
    let args = args_of ns one in
    let gs = givens env args in
    let z = callee env base (term_of env base) in
    let s = property_stands env d.tables x.term w.property z d.pieces below is.is b.called in
    let same : target_before env base gs ≡ z = kept_added env base ns one b.kept ∙ item_itself env (place_told base) z s.base (space_view w.property.space.now) s.number (written_view w.property.written) s.is in
    let taken : takes_value env (target_before env base gs) ≡ true = ap (λ (q : plain.Term). takes_value env q) same ∙ has_writer env w z d.pieces below is.writer s in
    let W : Expr → Type 0 = λ (t : Expr). TakenBy env (target_term env t) taker in
    subst W (sym (whole_added base ns split.closed.now left right one closed))
    (as_taken env (target_term env (index base left args right)) z taker (target_before_is env base left right args taken ∙ same) (h d.tables z d.pieces below s))

-- a member of an object with arguments
pub member_taken : (env : Env) (x : Before) (split : Split) (m : HostMember) (taker : Option Taker) (d h : Drafted) → AddsOne split.arguments.now → MakesItem env x.tree.place x.term d h (term.HostMember m) → taker ≡ taker_of (term.HostMember m) → TakenBehind env x split d taker
member_taken env x split m taker d h one made is = λ base left right below closed b.
    let ns = split.arguments.now in
    let args = args_of ns one in
    let gs = givens env args in
    let z = callee env base (term_of env base) in
    let A : Place → Type 0 = λ (p : Place). TermStands env h.tables (term.HostMember m) (item_of env p z) h.pieces below in
    let s : HostMemberStands h.tables m (item_before env base) h.pieces below = subst A b.there.place_is (made.stands z below b.called) in
    let before = before_member env (place_told base) gs z s.object _ s.is in
    let taken : takes_value env (target_before env base gs) ≡ true = ap (λ (q : plain.Term). takes_value env q) before in
    let W : Expr → Type 0 = λ (t : Expr). TakenBy env (target_term env t) taker in
    let Q : Option Taker → Type 0 = λ (o : Option Taker). TakenBy env (target_term env (index base left args right)) o in
    subst W (sym (whole_added base ns split.closed.now left right one closed))
    (subst Q (sym is) (as_taken env (target_term env (index base left args right)) (item_before env base) (taker_of (term.HostMember m)) (target_before_is env base left right args taken ∙ before ∙ sym s.is)
    (other_term_taken env (term.HostMember m) (taker_of (term.HostMember m)) (λ r e. absurd cc) (λ p e. absurd cc) refl h.tables (item_before env base) h.pieces below s)))

-- what brackets make of what takes no value with arguments
pub indexed_taken : (has : Bool) (env : Env) → has_class env.scope.spaces ≡ has → (x : Before) (split : Split) (more : Tree) (taker : Option Taker) (d h : Drafted) → AddsOne split.arguments.now → NoWriter part.Let env.scope x.term → KeepsItem has d.tables x.term
    → Continues env x.tree split.closed.now d h more → TermTaken env more.term taker → TakenBehind env x split d taker
indexed_taken has env known x split more taker d h one none item c taken = λ base left right below closed b.
    let ns = split.arguments.now in
    let args = args_of ns one in
    let z = callee env base (term_of env base) in
    let tree = index base left args right in
    let whole_is = whole_added base ns split.closed.now left right one closed in
    let S : Expr → Type 0 = λ (t : Expr). TreeStands env h.tables more t h.pieces below in
    let there = subst S whole_is (tree_behind env x.tree split.closed.now d h more c base below b.there) in
    let same = kept_added env base ns one b.kept in
    let takes : takes_value env (target_before env base (givens env args)) ≡ false = ap (λ (q : plain.Term). takes_value env q) same ∙ untaken has env known d.tables (place_told base) x.term z d.pieces below item none b.called in
    let W : Expr → Type 0 = λ (t : Expr). TakenBy env (target_term env t) taker in
    subst W (sym whole_is)
    (as_taken env (target_term env tree) (term_of env tree) taker (target_indexed env base left right args takes ∙ indexed_whole env base left right args same) (taken h.tables (term_of env tree) h.pieces below there.term_is))
