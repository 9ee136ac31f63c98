-- Functions of the library: what their names are, and calls of them.
use Rattle.std.proofs.Common.{◌≡◌, ℕ, ◌==◌, Bool, true, false, List, [], Option, Some, None, if◌then◌else◌, refl, sym, ap, subst, ◌∙◌}
use Rattle.std.specs.Prelude.{bytes_eq, codes}
use Rattle.vba_words.specs.declared.identifier.Identifier.{Identifier}
use Rattle.vba_lib.specs.declared.function.LibraryFunction.{LibraryFunction}
use Rattle.vba_lib.specs.declared.function.LibraryFunction.TheVariants as function
use Rattle.vba_lib.specs.Names.{function_named}
use Rattle.bound_project.specs.Expressions as bound
use Rattle.bound_project.specs.Pieces.{Piece, Tables}
use Rattle.bound_project.specs.Drafts.{Drafted}
use Rattle.bound_members.specs.bound_calls.specs.bound_declarations.specs.constant_values.specs.declared_names.specs.binder.specs.Declarations.{Written}
use Rattle.bound_members.specs.bound_calls.specs.bound_declarations.specs.constant_values.specs.declared_names.specs.binder.specs.Scopes.{Space, has_dollar, of_library}
use Rattle.bound_members.specs.bound_calls.specs.bound_declarations.specs.constant_values.specs.declared_names.specs.binder.specs.Sources.{Source, base_of, has_choice, is_base_one}
use Rattle.bound_members.specs.bound_calls.specs.bound_declarations.specs.constant_values.specs.declared_names.specs.binder.specs.Constants.{compare_in}
use Rattle.bound_members.specs.bound_calls.specs.bound_forms.specs.Terms.{Env, a_function, error_word, routine_term}
use Rattle.bound_members.specs.bound_calls.specs.bound_forms.specs.Terms as terms
use Rattle.bound_members.specs.bound_calls.specs.bound_forms.specs.ExpressionsBound.{array_base, constant_term, from_zero, library_term}
use Rattle.bound_members.specs.bound_calls.specs.bound_declarations.specs.constant_values.specs.declared_names.specs.View.{space_view, written_view}
use Rattle.bound_members.specs.bound_calls.specs.declared.term.Function.{Function}
use Rattle.bound_members.specs.bound_calls.specs.declared.term.Term.{Term}
use Rattle.bound_members.specs.bound_calls.specs.declared.term.Term.TheVariants as term
use Rattle.bound_members.specs.bound_calls.specs.Standing.{TermStands, base_number}
use Rattle.bound_members.specs.bound_calls.specs.Steps.{MakesLeaf}
use Rattle.bound_members.specs.bound_calls.proofs.Growing.{grown_same}

-- ---- names

pub function_leaf : (env : Env) (d : Drafted) (f : Function) (y : terms.Term) → y ≡ a_function f.function f.is_text_form (base_number f.is_base_one) → f.compare ≡ compare_in env.scope → MakesLeaf env d d (term.Function f) y
function_leaf env d f y is compare = record { grown = grown_same d; pieces = refl; named = tt; stands = λ ps. (record { is = is; compare_is = compare }, refl) }

pub library_error : (env : Env) (x : Identifier) → bytes_eq x.name (codes "error") ≡ true → library_term env x ≡ error_word
library_error env x h = rw h refl

pub library_function : (env : Env) (x : Identifier) (f : LibraryFunction) → bytes_eq x.name (codes "error") ≡ false → function_named x.name ≡ Some f → library_term env x ≡ a_function f (has_dollar x) (array_base env f)
library_function env x f h k = rw (h, k) refl

pub library_constant : (env : Env) (x : Identifier) → bytes_eq x.name (codes "error") ≡ false → function_named x.name ≡ None → library_term env x ≡ constant_term env x (Some of_library)
library_constant env x h k = rw (h, k) refl

pub word_is : (text : List ℕ) (x : Identifier) (b found : Bool) → text ≡ x.name → found ≡ bytes_eq text (codes "error") → found ≡ b → bytes_eq x.name (codes "error") ≡ b
word_is text x b found t f is = ap (λ (u : List ℕ). bytes_eq u (codes "error")) (sym t) ∙ sym f ∙ is

pub error_leaf : (env : Env) (d : Drafted) (x : Identifier) → bytes_eq x.name (codes "error") ≡ true → MakesLeaf env d d term.ErrorWord (library_term env x)
error_leaf env d x h = record { grown = grown_same d; pieces = refl; named = tt; stands = λ ps. (library_error env x h, refl) }

routine_zero : (base : Option bound.Expr) (space : Space) (number : ℕ) (written : Written) → from_zero (routine_term base space number written) ≡ routine_term base space number written
routine_zero None space number written = refl
routine_zero (Some b) space number written = refl

-- behind VBA nothing changes but the base of a function
zero_same : (env : Env) (t : Tables) (x : Term) → ((f : Function) → (x ≡ term.Function f) → ⊥) → (y : terms.Term) (ps below : List Piece) → TermStands env t x y ps below → from_zero y ≡ y
zero_same env t (term.Place kind of bounds lends makes) n y ps below h = let P : terms.Term → Type 0 = λ (z : terms.Term). from_zero z ≡ z in subst P (sym h.is) refl
zero_same env t (term.Value e) n y ps below h = let P : terms.Term → Type 0 = λ (z : terms.Term). from_zero z ≡ z in subst P (sym h.is) refl
zero_same env t (term.Routine r) n y ps below h =
    let P : terms.Term → Type 0 = λ (z : terms.Term). from_zero z ≡ z in subst P (sym h.routine.is) (routine_zero h.routine.base h.routine.space h.routine.number h.routine.written)
zero_same env t (term.Property p) n y ps below h =
    let P : terms.Term → Type 0 = λ (z : terms.Term). from_zero z ≡ z in subst P (sym h.property.is) (routine_zero h.property.base (space_view p.space.now) h.property.number (written_view p.written))
zero_same env t (term.Function f) n y ps below h = absurd (n f refl)
zero_same env t (term.HostMember m) n y ps below h = let P : terms.Term → Type 0 = λ (z : terms.Term). from_zero z ≡ z in subst P (sym h.is) refl
zero_same env t (term.SheetMember m) n y ps below h = let P : terms.Term → Type 0 = λ (z : terms.Term). from_zero z ≡ z in subst P (sym h.0) refl
zero_same env t term.Err n y ps below h = let P : terms.Term → Type 0 = λ (z : terms.Term). from_zero z ≡ z in subst P (sym h.0) refl
zero_same env t term.ErrRaise n y ps below h = let P : terms.Term → Type 0 = λ (z : terms.Term). from_zero z ≡ z in subst P (sym h.0) refl
zero_same env t term.ErrClear n y ps below h = let P : terms.Term → Type 0 = λ (z : terms.Term). from_zero z ≡ z in subst P (sym h.0) refl
zero_same env t term.ErrorWord n y ps below h = let P : terms.Term → Type 0 = λ (z : terms.Term). from_zero z ≡ z in subst P (sym h.0) refl
zero_same env t term.Nothing n y ps below h = let P : terms.Term → Type 0 = λ (z : terms.Term). from_zero z ≡ z in subst P (sym h) refl

pub zero_leaf : (env : Env) (d e : Drafted) (x : Term) (y : terms.Term) → ((f : Function) → (x ≡ term.Function f) → ⊥) → MakesLeaf env d e x y → MakesLeaf env d e x (from_zero y)
zero_leaf env d e x y n m = let P : terms.Term → Type 0 = λ (z : terms.Term). MakesLeaf env d e x z in subst P (sym (zero_same env e.tables x n y [] [] (m.stands []))) m

pub zero_function : (env : Env) (d e : Drafted) (x : Term) (f : Function) (y : terms.Term) → x ≡ term.Function f → MakesLeaf env d e x y → MakesLeaf env d e (term.Function (record f { is_base_one = false })) (from_zero y)
zero_function env d e x f y is m =
    let P : Term → Type 0 = λ (z : Term). MakesLeaf env d e z y in
    let k = subst P is m in record {
      grown = k.grown;
      pieces = k.pieces;
      named = tt;
      stands = λ ps. (record { is = ap (λ (z : terms.Term). from_zero z) (k.stands ps).0.is; compare_is = (k.stands ps).0.compare_is }, refl);
    }

-- from where the array counts that Array makes
pub base_one_is : (source : Source) → base_number (base_of source == 1) ≡ base_of source
base_one_is source = at (has_choice is_base_one source.parts)
  where
    at : (b : Bool) → base_number ((if b then 1 else 0) == 1) ≡ (if b then 1 else 0)
    at true = refl
    at false = refl

pub no_array : (env : Env) (f : LibraryFunction) → ((f ≡ function.Array) → ⊥) → array_base env f ≡ 0
no_array env function.Array n = absurd (n refl)
no_array env f n = refl
