-- What names of procedures and modules are.
use Rattle.std.proofs.Common.{◌≡◌, ℕ, Bool, true, false, Option, Some, refl, ap, subst, ◌∙◌, None}
use Rattle.std.specs.Prelude.{if◌then◌else◌, length, option_map}
use Rattle.vba_values.specs.Val.{Val}
use Rattle.vba_values.specs.Types.{Declared}
use Rattle.vba_values.specs.Types as type
use Rattle.vba_words.specs.declared.identifier.Identifier.{Identifier}
use Rattle.vba_tree.specs.Tree.{Variable, Constant, Parameter, TypeClause}
use Rattle.vba_expression.specs.Tree.{Expr}
use Rattle.bound_project.specs.Expressions.{Storage, constant, own}
use Rattle.bound_project.specs.Drafts.{Drafted}
use Rattle.bound_members.specs.bound_calls.specs.bound_declarations.specs.constant_values.specs.declared_names.specs.binder.specs.Declarations.{Written, the_result, a_parameter, a_local, an_array, undeclared, a_variable, a_constant, a_member, a_procedure}
use Rattle.bound_members.specs.bound_calls.specs.bound_declarations.specs.constant_values.specs.declared_names.specs.binder.specs.Scopes.{Space, Scope, Meant, of_module}
use Rattle.bound_members.specs.bound_calls.specs.bound_declarations.specs.constant_values.specs.declared_names.specs.binder.specs.Constants.{Known, home, meant_by, names_in}
use Rattle.bound_project.specs.View.{declared_view}
use Rattle.bound_members.specs.bound_calls.specs.bound_declarations.specs.constant_values.specs.declared_names.specs.binder.specs.Storage.{result_type, parameter_type, plain_clause_type, declared_variable, own_storage, module_storage}
use Rattle.bound_members.specs.bound_calls.specs.bound_forms.specs.Terms.{Env, a_routine, a_value, a_method}
use Rattle.bound_members.specs.bound_calls.specs.bound_forms.specs.Terms as plain
use Rattle.bound_members.specs.bound_calls.specs.bound_forms.specs.Operands.{if_there}
use Rattle.bound_members.specs.bound_calls.specs.bound_forms.specs.Members.{made_place}
use Rattle.bound_members.specs.bound_calls.specs.bound_forms.specs.ExpressionsBound.{entry_term, constant_term, own_object, parameter_term, variable_term}
use Rattle.bound_members.specs.bound_calls.specs.declared.term.Term.{Term}
use Rattle.bound_names.specs.declared.names.Shape.{Shape}
use Rattle.bound_names.specs.Owned.{IsShape, OwnShaped, kept_at, made_term, making_of, making_through}
use Rattle.bound_members.specs.bound_calls.specs.Steps.{MakesLeaf}
use Rattle.bound_members.specs.bound_calls.specs.bound_declarations.specs.constant_values.specs.declared_names.specs.binder.specs.Classes.{field_number, has_new, made_by, made_class, made_through, may_be_made}
use Rattle.bound_names.specs.declared.names.Making.{Making}
use Rattle.bound_names.specs.declared.names.Making.TheVariants as making

-- a variable by its type
pub shaped : (m : Making) (kept : Storage) (of : Declared) (bounds : ℕ) (x : Shape) → IsShape of bounds x → made_term m kept of bounds ≡ made_term m kept (declared_view x.of) x.bounds
shaped m kept of bounds x k = ap (λ (u : Declared). made_term m kept u bounds) k.of_is ∙ ap (λ (n : ℕ). made_term m kept (declared_view x.of) n) k.bounds_are

-- a parameter, and a variable that is declared
through_term : (has : Bool) (kept : Storage) (of : Declared) → plain.a_place (kept_at kept of 0) of 0 true has ≡ made_term (making_through has) kept of 0
through_term true kept of = refl
through_term false kept of = refl

pub made_kept : (o : Option ℕ) (kept : Storage) (of : Declared) (bounds : ℕ) → made_place o (kept_at kept of bounds) of bounds true ≡ made_term (making_of o) kept of bounds
made_kept None kept of bounds = refl
made_kept (Some number) kept of bounds = refl

-- a variable that is declared, by the class that its type says
pub declared_kept : (s : Scope) (v : Variable) (kept : Storage) (x : Shape) → IsShape (declared_variable s v).of (length (declared_variable s v).bounds) x
    → variable_term s kept v ≡ made_term (making_of (made_by v.type_clause (declared_view x.of))) kept (declared_view x.of) x.bounds
declared_kept s v kept x k =
    let d = declared_variable s v in
    made_kept (made_class s v) kept d.of (length d.bounds) ∙ ap (λ (u : Declared). made_term (making_of (made_by v.type_clause u)) kept d.of (length d.bounds)) k.of_is
    ∙ shaped (making_of (made_by v.type_clause (declared_view x.of))) kept d.of (length d.bounds) x k

pub own_result : (s : Scope) (n : Identifier) (w : Written) (x : Shape) → IsShape (result_type s w) 0 x → OwnShaped s (record { name = n; own = the_result w }) (declared_view x.of) x.bounds making.Never
own_result s n w x k env y number h =
    let kept = own_storage env.scope env.first number (the_result w) in
    ap (λ (t : Scope). made_term making.Never kept (result_type t w) 0) h ∙ shaped making.Never kept (result_type s w) 0 x k

pub own_parameter : (s : Scope) (n : Identifier) (p : Parameter) (has : Bool) (x : Shape) → has_new s.spaces ≡ has → IsShape (parameter_type s p) 0 x
    → OwnShaped s (record { name = n; own = a_parameter p }) (declared_view x.of) x.bounds (making_through (made_through has p (declared_view x.of)))
own_parameter s n p has x known k env y number h =
    let kept = own_storage env.scope env.first number (a_parameter p) in
    ap (λ (t : Scope). parameter_term t kept p) h ∙ through_term (may_be_made s p) kept (parameter_type s p)
    ∙ ap (λ (b : Bool). made_term (making_through (made_through b p (parameter_type s p))) kept (parameter_type s p) 0) known
    ∙ ap (λ (u : Declared). made_term (making_through (made_through has p u)) kept (parameter_type s p) 0) k.of_is
    ∙ shaped (making_through (made_through has p (declared_view x.of))) kept (parameter_type s p) 0 x k

pub own_variable : (s : Scope) (n : Identifier) (v : Variable) (static : Bool) (x : Shape) → IsShape (declared_variable s v).of (length (declared_variable s v).bounds) x
    → OwnShaped s (record { name = n; own = a_local v static }) (declared_view x.of) x.bounds (making_of (made_by v.type_clause (declared_view x.of)))
own_variable s n v static x k env y number h =
    let kept = own_storage env.scope env.first number (a_local v static) in ap (λ (t : Scope). variable_term t kept v) h ∙ declared_kept s v kept x k

pub own_array : (s : Scope) (n : Identifier) (clause : Option TypeClause) (static : Bool) (x : Shape) → IsShape (type.array_of (plain_clause_type s n clause)) 0 x
    → OwnShaped s (record { name = n; own = an_array clause static }) (declared_view x.of) x.bounds making.Never
own_array s n clause static x k env y number h =
    let kept = own_storage env.scope env.first number (an_array clause static) in
    ap (λ (t : Scope). made_term making.Never kept (type.array_of (plain_clause_type t n clause)) 0) h ∙ shaped making.Never kept (type.array_of (plain_clause_type s n clause)) 0 x k

pub own_undeclared : (s : Scope) (n : Identifier) (static : Bool) (x : Shape) → IsShape type.variant 0 x → OwnShaped s (record { name = n; own = undeclared static }) (declared_view x.of) x.bounds making.Never
own_undeclared s n static x k env y number h = shaped making.Never (own_storage env.scope env.first number (undeclared static)) type.variant 0 x k

-- ---- entries

if_same : (b : Bool) (x : plain.Term) → (if b then x else x) ≡ x
if_same true x = refl
if_same false x = refl

pub entry_constant : (env : Env) (x : Identifier) (space : Space) (number : ℕ) (name : Identifier) (public : Bool) (c : Constant)
    → entry_term env x space number (record { name = name; is_public = public; what = a_constant c }) ≡ constant_term env x (Some (of_module space number (record { name = name; is_public = public; what = a_constant c })))
entry_constant env x space number name public c = if_same space.source.is_class (constant_term env x (Some (of_module space number (record { name = name; is_public = public; what = a_constant c }))))

pub entry_member : (env : Env) (x : Identifier) (space : Space) (number : ℕ) (name : Identifier) (public : Bool) (value : Option Expr) (steps : ℕ)
    → entry_term env x space number (record { name = name; is_public = public; what = a_member value steps }) ≡ constant_term env x (Some (of_module space number (record { name = name; is_public = public; what = a_member value steps })))
entry_member env x space number name public value steps =
    if_same space.source.is_class (constant_term env x (Some (of_module space number (record { name = name; is_public = public; what = a_member value steps }))))

-- those of a standard module
pub entry_variable : (env : Env) (x : Identifier) (space : Space) (number : ℕ) (name : Identifier) (public : Bool) (v : Variable) → space.source.is_class ≡ false
    → entry_term env x space number (record { name = name; is_public = public; what = a_variable v }) ≡ variable_term (home env.scope space) (module_storage env.scope space number) v
entry_variable env x space number name public v h =
    ap (λ (b : Bool). if b then variable_term (home env.scope space) (own (field_number space number)) v else variable_term (home env.scope space) (module_storage env.scope space number) v) h

pub entry_procedure : (env : Env) (x : Identifier) (space : Space) (number : ℕ) (name : Identifier) (public : Bool) (w : Written) → space.source.is_class ≡ false
    → entry_term env x space number (record { name = name; is_public = public; what = a_procedure w }) ≡ a_routine space number w
entry_procedure env x space number name public w h = ap (λ (b : Bool). if b then a_method (own_object env) space number w else a_routine space number w) h

-- those of a class
pub own_entry_variable : (env : Env) (x : Identifier) (space : Space) (number : ℕ) (name : Identifier) (public : Bool) (v : Variable) → space.source.is_class ≡ true
    → entry_term env x space number (record { name = name; is_public = public; what = a_variable v }) ≡ variable_term (home env.scope space) (own (field_number space number)) v
own_entry_variable env x space number name public v h =
    ap (λ (b : Bool). if b then variable_term (home env.scope space) (own (field_number space number)) v else variable_term (home env.scope space) (module_storage env.scope space number) v) h

pub own_entry_procedure : (env : Env) (x : Identifier) (space : Space) (number : ℕ) (name : Identifier) (public : Bool) (w : Written) → space.source.is_class ≡ true
    → entry_term env x space number (record { name = name; is_public = public; what = a_procedure w }) ≡ a_method (own_object env) space number w
own_entry_procedure env x space number name public w h = ap (λ (b : Bool). if b then a_method (own_object env) space number w else a_routine space number w) h

-- ---- a term by another name of it

pub leaf_as : (env : Env) (d e : Drafted) (x : Term) (y z : plain.Term) → y ≡ z → MakesLeaf env d e x y → MakesLeaf env d e x z
leaf_as env d e x y z eq m = let A : plain.Term → Type 0 = λ (t : plain.Term). MakesLeaf env d e x t in subst A eq m

-- a constant, by its value
pub constant_leaf : (env : Env) (x : Identifier) (m : Option Meant) (d e : Drafted) (t : Term) (known : Known) (v : Val) → Some known ≡ meant_by (names_in env.scope) env.scope x m → v ≡ known.value
    → MakesLeaf env d e t (a_value (constant v) known.of) → MakesLeaf env d e t (constant_term env x m)
constant_leaf env x m d e t known v k eq leaf =
    let V : Val → Type 0 = λ (w : Val). MakesLeaf env d e t (a_value (constant w) known.of) in
    leaf_as env d e t (a_value (constant known.value) known.of) (constant_term env x m) (ap (λ (o : Option Known). if_there (option_map (λ (i : Known). a_value (constant i.value) i.of) o)) k) (subst V eq leaf)
