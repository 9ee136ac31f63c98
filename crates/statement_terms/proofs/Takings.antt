-- What takes the values of assignments.
use Rattle.std.proofs.Common.{◌≡◌, ℕ, Bool, true, false, List, Option, Some, None, refl, sym, ap, subst}
use Rattle.std.specs.Prelude.{option_map, if◌then◌else◌}
use Rattle.vba_base.specs.declared.place.Place.{Place}
use Rattle.vba_lexer.specs.declared.token.Token.{Token}
use Rattle.vba_expression.specs.Tree.{Args, Expr, index}
use Rattle.bound_project.specs.declared.declared_type.DeclaredType.{DeclaredType}
use Rattle.bound_project.specs.Drafts.{Drafted}
use Rattle.bound_project.specs.Expressions as bound
use Rattle.bound_project.specs.Pieces.{Piece, Tables}
use Rattle.bound_project.specs.View.{declared_view}
use Rattle.bound_members.specs.bound_calls.specs.bound_declarations.specs.constant_values.specs.declared_names.specs.binder.specs.Declarations.{Written}
use Rattle.bound_members.specs.bound_calls.specs.bound_declarations.specs.constant_values.specs.declared_names.specs.binder.specs.Scopes.{Space}
use Rattle.bound_members.specs.bound_calls.specs.bound_forms.specs.Terms.{Env, given_to, routine_term}
use Rattle.bound_members.specs.bound_calls.specs.bound_forms.specs.Terms as plain
use Rattle.bound_members.specs.bound_calls.specs.bound_forms.specs.Operands.{place_told}
use Rattle.bound_members.specs.bound_calls.specs.bound_forms.specs.ExpressionsBound.{givens, indexed, term_of}
use Rattle.bound_members.specs.bound_calls.specs.bound_forms.specs.Targets.{property_takes, takes_value, target_before, target_term}
use Rattle.bound_members.specs.bound_calls.specs.declared.term.Property.{Property}
use Rattle.bound_members.specs.bound_calls.specs.declared.term.Routine.{Routine}
use Rattle.bound_members.specs.bound_calls.specs.declared.term.Term.{Term}
use Rattle.bound_members.specs.bound_calls.specs.declared.term.Term.TheVariants as term
use Rattle.bound_members.specs.bound_calls.specs.Calls.{MarksGiven}
use Rattle.bound_members.specs.bound_calls.specs.Standing.{TermStands}
use Rattle.bound_members.specs.bound_calls.proofs.Growing.{grown_same}
use Rattle.statement_terms.specs.declared.takers.Taker.{Taker}
use Rattle.statement_terms.specs.Called.{IsBare}
use Rattle.statement_terms.specs.Takers.{MarksTaken, TakenBy, taker_of}

-- ---- terms

pub as_taken : (env : Env) (z y : plain.Term) (taker : Option Taker) → z ≡ y → TakenBy env y taker → TakenBy env z taker
as_taken env z y taker is h = let P : plain.Term → Type 0 = λ (t : plain.Term). TakenBy env t taker in subst P (sym is) h

-- a procedure, by what its Let takes
pub routine_taken : (env : Env) (base : Option bound.Expr) (space : Space) (number : ℕ) (w : Written) (of : DeclaredType) → property_takes env space w ≡ declared_view of → TakenBy env (routine_term base space number w) (Some (record { of = of; is_bounded = false }))
routine_taken env None space number w of h place v = ap (λ u. given_to u false place v) h
routine_taken env (Some b) space number w of h place v = ap (λ u. given_to u false place v) h

-- another term
pub taken_there : (env : Env) (t : Tables) (x : Term) (z : plain.Term) (ps below : List Piece) → ((r : Routine) → (x ≡ term.Routine r) → ⊥) → ((p : Property) → (x ≡ term.Property p) → ⊥) → TermStands env t x z ps below → TakenBy env z (taker_of x)
taken_there env t (term.Place kind of bounds lends makes) z ps below n o h = as_taken env z _ (taker_of (term.Place kind of bounds lends makes)) h.is (λ place v. refl)
taken_there env t (term.Value e) z ps below n o h = as_taken env z _ None h.is (λ place v. refl)
taken_there env t (term.Routine r) z ps below n o h = absurd (n r refl)
taken_there env t (term.Property p) z ps below n o h = absurd (o p refl)
taken_there env t (term.Function f) z ps below n o h = as_taken env z _ None h.0.is (λ place v. refl)
taken_there env t (term.HostMember m) z ps below n o h = as_taken env z _ (taker_of (term.HostMember m)) h.is (λ place v. refl)
taken_there env t (term.SheetMember m) z ps below n o h = as_taken env z _ (taker_of (term.SheetMember m)) h.0 (λ place v. refl)
taken_there env t term.Err z ps below n o h = as_taken env z _ None h.0 (λ place v. refl)
taken_there env t term.ErrRaise z ps below n o h = as_taken env z _ None h.0 (λ place v. refl)
taken_there env t term.ErrClear z ps below n o h = as_taken env z _ None h.0 (λ place v. refl)
taken_there env t term.ErrorWord z ps below n o h = as_taken env z _ None h.0 (λ place v. refl)
taken_there env t term.Nothing z ps below n o h = as_taken env z _ None h (λ place v. refl)

-- an expression that doesn't end with arguments in brackets is assigned to as the term that it is
bare_target : (env : Env) (place : Expr) → IsBare place → target_term env place ≡ term_of env place
bare_target env (index base left args right) h = absurd h
bare_target env e h = refl

pub taken_bare : (env : Env) (place : Expr) (taker : Option Taker) → IsBare place → TakenBy env (term_of env place) taker → TakenBy env (target_term env place) taker
taken_bare env place taker bare h = as_taken env (target_term env place) (term_of env place) taker (bare_target env place bare) h

-- one with arguments takes them with its value, or is what brackets make of it
pub target_before_is : (env : Env) (base : Expr) (left right : Token) (args : Args) → takes_value env (target_before env base (givens env args)) ≡ true → target_term env (index base left args right) ≡ target_before env base (givens env args)
target_before_is env base left right args h =
    let t = target_before env base (givens env args) in
    ap (λ (b : Bool). if b then t else indexed env (place_told base) t (givens env args)) h

pub target_indexed : (env : Env) (base : Expr) (left right : Token) (args : Args) → takes_value env (target_before env base (givens env args)) ≡ false
    → target_term env (index base left args right) ≡ indexed env (place_told base) (target_before env base (givens env args)) (givens env args)
target_indexed env base left right args h =
    let t = target_before env base (givens env args) in
    ap (λ (b : Bool). if b then t else indexed env (place_told base) t (givens env args)) h

-- ---- marks

pub none_taken : (taker : Option Taker) (place : Place) (given : DeclaredType) (d : Drafted) → taker ≡ None → MarksTaken taker place given d d
none_taken taker place given d is =
    let P : Option Taker → Type 0 = λ (o : Option Taker). MarksTaken o place given d d in
    subst P (sym is) (record {
      grown = grown_same d;
      stands = λ found below p. record { made = p.made; is = ap (λ (o : Option bound.Expr). option_map (λ v. v) o) p.is; on_top = p.on_top };
    })

pub some_taken : (taker : Option Taker) (x : Taker) (place : Place) (given after : DeclaredType) (d e : Drafted) → taker ≡ Some x → MarksGiven (declared_view x.of) x.is_bounded place given d e after → MarksTaken taker place given d e
some_taken taker x place given after d e is m =
    let P : Option Taker → Type 0 = λ (o : Option Taker). MarksTaken o place given d e in
    subst P (sym is) (record {
      grown = m.grown;
      stands = λ found below p. let q = m.stands found below p in record { made = q.made; is = q.is; on_top = q.on_top };
    })
