-- Values are the same where names have the same values.
use Rattle.std.proofs.Common.{◌≡◌, ℕ, zero, suc, List, [], ◌∷◌, map, Option, Some, None, refl, sym, ap, ◌∙◌}
use Rattle.std.specs.Prelude.{slice_get, ℤ}
use Rattle.vba_lexer.specs.declared.number.TypeSuffix.{TypeSuffix}
use Rattle.vba_values.specs.Types.{Declared}
use Rattle.vba_expression.specs.Tree.{Expr, literal, me, name, with_member, member, index, parenthesised, new, type_of, unary, binary}
use Rattle.vba_tree.specs.Tree.{DeclaredType, named, fixed_text, TypeClause, Constant}
use Rattle.declared_names.specs.binder.specs.Declarations.{What, a_variable, a_constant, an_enum, a_member, a_type, an_event, a_procedure, Own, the_result, a_parameter, a_local, a_local_constant, an_array, undeclared}
use Rattle.declared_names.specs.binder.specs.Scopes.{Scope}
use Rattle.declared_names.specs.binder.specs.Types.{written_type, clause_type}
use Rattle.declared_names.specs.binder.specs.Constants.{Known, with_one, with_two, compare_in, value_by, coerced, as_length, long_of, length_by, constant_by, stepped, first_by, entry_by, own_by}

-- names have the same values in a scope
pub record SameNames (m n : Scope → Expr → Option Known) (s : Scope) : Type 0 where
  pub same : (e : Expr) → m s e ≡ n s e

pub value_same : (m n : Scope → Expr → Option Known) (s : Scope) → SameNames m n s → (e : Expr) → value_by m s e ≡ value_by n s e
value_same m n s h (literal l) = refl
value_same m n s h (me token) = refl
value_same m n s h (name x) = h.same (name x)
value_same m n s h (with_member dot x) = refl
value_same m n s h (member base dot x) = h.same (member base dot x)
value_same m n s h (index base left args right) = refl
value_same m n s h (parenthesised left e right) = value_same m n s h e
value_same m n s h (new word t) = refl
value_same m n s h (type_of word e is_word t) = refl
value_same m n s h (unary o token e) = ap (with_one o) (value_same m n s h e)
value_same m n s h (binary l o token r) = rw (value_same m n s h l, value_same m n s h r) refl

pub length_same : (m n : Scope → Expr → Option Known) (s : Scope) → SameNames m n s → (e : Expr) → length_by m s e ≡ length_by n s e
length_same m n s h e = rw (value_same m n s h e) refl

pub written_same : (m n : Scope → Expr → Option Known) (s : Scope) → SameNames m n s → (t : DeclaredType)
    → written_type (length_by m s) s t ≡ written_type (length_by n s) s t
written_same m n s h (named t) = refl
written_same m n s h (fixed_text string_word times e) = rw (length_same m n s h e) refl

pub clause_same : (m n : Scope → Expr → Option Known) (s : Scope) → SameNames m n s → (x : Option TypeSuffix) (c : Option TypeClause)
    → clause_type (length_by m s) s x c ≡ clause_type (length_by n s) s x c
clause_same m n s h x None = refl
clause_same m n s h x (Some c) = written_same m n s h c.declared_type

pub constant_same : (m n : Scope → Expr → Option Known) (s : Scope) → SameNames m n s → (c : Constant) → constant_by m s c ≡ constant_by n s c
constant_same m n s h c = at c.name.suffix c.type_clause
  where
    at : (x : Option TypeSuffix) (clause : Option TypeClause)
        → constant_by m s (record c { name = record c.name { suffix = x }; type_clause = clause })
        ≡ constant_by n s (record c { name = record c.name { suffix = x }; type_clause = clause })
    at None None = value_same m n s h c.value
    at None (Some clause) = rw (clause_same m n s h None (Some clause), value_same m n s h c.value) refl
    at (Some x) clause = rw (clause_same m n s h (Some x) clause, value_same m n s h c.value) refl

pub first_same : (m n : Scope → Expr → Option Known) (s : Scope) → SameNames m n s → (e : Option Expr) → first_by m s e ≡ first_by n s e
first_same m n s h None = refl
first_same m n s h (Some e) = ap long_of (value_same m n s h e)

pub entry_same : (m n : Scope → Expr → Option Known) (s : Scope) → SameNames m n s → (w : What) → entry_by m s w ≡ entry_by n s w
entry_same m n s h (a_variable v) = refl
entry_same m n s h (a_constant c) = constant_same m n s h c
entry_same m n s h an_enum = refl
entry_same m n s h (a_member e steps) = ap (stepped steps) (first_same m n s h e)
entry_same m n s h (a_type fields) = refl
entry_same m n s h (an_event ps) = refl
entry_same m n s h (a_procedure p) = refl

pub own_same : (m n : Scope → Expr → Option Known) (s : Scope) → SameNames m n s → (o : Own) → own_by m s o ≡ own_by n s o
own_same m n s h (the_result w) = refl
own_same m n s h (a_parameter p) = refl
own_same m n s h (a_local v static) = refl
own_same m n s h (a_local_constant c) = constant_same m n s h c
own_same m n s h (an_array clause static) = refl
own_same m n s h (undeclared static) = refl

-- what is the same of each element
pub map_same : {A B : Type 0} (f g : A → B) (xs : List A) → ((i : ℕ) (x : A) → slice_get xs i ≡ Some x → f x ≡ g x) → map f xs ≡ map g xs
map_same f g [] h = refl
map_same f g (x ∷ xs) h = rw (h 0 x refl, map_same f g xs (λ i y e. h (suc i) y e)) refl
