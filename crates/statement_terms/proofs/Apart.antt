-- Places that are no variables of other objects, and no parts of such: those that are lent, and where there is no class all.
use Rattle.std.proofs.Common.{◌≡◌, ℕ, suc, Bool, true, false, List, [], ◌∷◌, length, Option, Some, None, option_map, if◌then◌else◌, refl, sym, ap, ◌∙◌}
use Rattle.std.specs.Prelude.{◌&&◌, ◌||◌, ◌==◌, not, bytes_eq, codes, option_and_then, unwrap_or}
use Rattle.vba_base.specs.declared.place.Place.{Place}
use Rattle.vba_values.specs.Types.{Declared}
use Rattle.vba_values.specs.Types as type
use Rattle.vba_values.specs.declared.object.HostRef.TheVariants as host
use Rattle.vba_words.specs.declared.identifier.Identifier.{Identifier}
use Rattle.vba_expression.specs.declared.operator.BinaryOperator.TheVariants as operator
use Rattle.vba_expression.specs.Tree.{Expr, literal, me, name, with_member, member, index, parenthesised, new, type_of, unary, binary}
use Rattle.vba_lib.specs.declared.function.LibraryFunction.{LibraryFunction}
use Rattle.vba_lib.specs.Names.{function_named}
use Rattle.bound_project.specs.Expressions.{Lvalue, variable, field, object_field, as_new, Exprs, also, Storage, active_sheet, element_along, element_value, err_description, err_number, err_source, err_value, field_value, host_object, late_item, own}
use Rattle.bound_project.specs.Expressions as bound
use Rattle.bound_project.specs.Project.{Declaration, nowhere}
use Rattle.bound_members.specs.bound_calls.specs.bound_declarations.specs.constant_values.specs.declared_names.specs.binder.specs.Classes.{class_space, field_number, found_at, has_class, made_class, member_entry}
use Rattle.bound_members.specs.bound_calls.specs.bound_declarations.specs.constant_values.specs.declared_names.specs.binder.specs.Constants.{compare_in, home, meant_by, names_in, operator_kind, unary_kind}
use Rattle.bound_members.specs.bound_calls.specs.bound_declarations.specs.constant_values.specs.declared_names.specs.binder.specs.Declarations.{Entry, Own, What, Written, a_constant, a_local, a_local_constant, a_member, a_parameter, a_procedure, a_variable, the_result}
use Rattle.bound_members.specs.bound_calls.specs.bound_declarations.specs.constant_values.specs.declared_names.specs.binder.specs.Options.{from_three, from_two}
use Rattle.bound_members.specs.bound_calls.specs.bound_declarations.specs.constant_values.specs.declared_names.specs.binder.specs.Scopes.{Meant, Qualifier, Space, behind, called, declares, first_at, has_dollar, of_host, of_library, of_module, of_procedure, plainly, qualifier_of}
use Rattle.bound_members.specs.bound_calls.specs.bound_declarations.specs.constant_values.specs.declared_names.specs.binder.specs.Signatures.{call_type, parameters_in, reader}
use Rattle.bound_members.specs.bound_calls.specs.bound_declarations.specs.constant_values.specs.declared_names.specs.binder.specs.Storage.{declared_variable, has_bounds, module_storage, own_declaration, own_storage, procedure_number}
use Rattle.bound_members.specs.bound_calls.specs.bound_declarations.specs.constant_values.specs.declared_names.specs.binder.specs.Types.{class_number, is_object, meant_type, type_meant}
use Rattle.bound_members.specs.bound_calls.specs.bound_forms.specs.Terms.{Env, Given, HostMember, Term, Within, a_function, a_host_member, a_method, a_place, a_routine, a_value, bound_arguments, broken_call, broken_value, err_clear, err_object, err_raise, error_word, expression_of, member_read, no_term, read_of, takes}
use Rattle.bound_members.specs.bound_calls.specs.bound_forms.specs.Operands.{HostKind, along_of, along_type, argument_of, bare_call, called_alone, lacking_call, read_alone, with_type, fits_bounds, behind_base, call_node, call_value, element_place, function_takes, function_value, given_as, host_kind, is_found_late, if_there, indexed_type, indexed_value, numbers_of, operand_of, place_told, reference_of, term_or, workbook}
use Rattle.bound_members.specs.bound_calls.specs.bound_forms.specs.Members.{behind_alone, class_member, err_member, field_named, field_of_place, field_of_value, found_member, has_item_member, host_behind, item_of, kept_member, made_place, member_in, member_of, member_of_kind, member_of_other, object_behind, object_member, object_term, sheets_value, unknown_member}
use Rattle.bound_members.specs.bound_calls.specs.bound_forms.specs.ExpressionsBound.{element_of_place, host_called, value_indexed, wrong_member, wrong_value, along_value, array_base, arguments_rule, behind_term, call_with, callee, constant_term, declared_place, entry_term, from_zero, function_values, givens, host_term, indexed, indexed_place, indexes_value, library_term, may_index, meant_term, member_called, member_takes, new_term, node_or, own_object, own_term, result_of, sheet_term, taken_by_term, takes_arguments, term_of, value_term, variable_term, variant_arguments, wrong_arguments, wrong_call, wrong_index, wrong_led, wrong_some, wrong_term}
use Rattle.bound_members.specs.bound_calls.specs.bound_forms.specs.ClassDefaults.{Known, breaks, class_led, declared_in}
use Rattle.bound_members.specs.bound_calls.specs.bound_forms.specs.StatementsBound.{is_of_object}

-- what is no place of another object, but for one that isn't lent in a project with a class
abbrev is_free : (has : Bool) → Term → Bool
is_free has (a_place x of bounds lends makes) = (has && not lends) || not (is_of_object x)
is_free has t = true

or_true : (b : Bool) → (b || true) ≡ true
or_true true = refl
or_true false = refl

-- ---- one of two, and what there may be

free_if : (has b : Bool) (t u : Term) → is_free has t ≡ true → is_free has u ≡ true → is_free has (if b then t else u) ≡ true
free_if has true t u h k = h
free_if has false t u h k = k

free_or : (has : Bool) (t u : Term) → is_free has t ≡ true → is_free has u ≡ true → is_free has (term_or t u) ≡ true
free_or has no_term u h k = k
free_or has t u h k = h

free_option : {A : Type 0} (has : Bool) (f : A → Term) (o : Option A) → ((a : A) → is_free has (f a) ≡ true) → is_free has (if_there (option_map f o)) ≡ true
free_option has f None h = refl
free_option has f (Some a) h = h a

free_two : {A B : Type 0} (has : Bool) (f : A → B → Term) (a : Option A) (b : Option B) → ((x : A) (y : B) → is_free has (f x y) ≡ true) → is_free has (if_there (from_two f a b)) ≡ true
free_two has f None b h = refl
free_two has f (Some a) None h = refl
free_two has f (Some a) (Some b) h = h a b

free_three : {A B C : Type 0} (has : Bool) (f : A → B → C → Term) (a : Option A) (b : Option B) (c : Option C) → ((x : A) (y : B) (z : C) → is_free has (f x y z) ≡ true) → is_free has (if_there (from_three f a b c)) ≡ true
free_three has f None b c h = refl
free_three has f (Some a) None c h = refl
free_three has f (Some a) (Some b) None h = refl
free_three has f (Some a) (Some b) (Some c) h = h a b c

free_unwrap : {A : Type 0} (has : Bool) (f : A → Term) (o : Option A) (t : Term) → ((a : A) → is_free has (f a) ≡ true) → is_free has t ≡ true → is_free has (unwrap_or (option_map f o) t) ≡ true
free_unwrap has f None t h k = k
free_unwrap has f (Some a) t h k = h a

free_found : {A : Type 0} (has : Bool) (f : A → Option Term) (o : Option A) (t : Term) → ((a : A) → o ≡ Some a → is_free has (unwrap_or (f a) t) ≡ true) → is_free has t ≡ true → is_free has (unwrap_or (option_and_then f o) t) ≡ true
free_found has f None t h k = k
free_found has f (Some a) t h k = h a refl

free_node : (has : Bool) (t : Term) (f : bound.Node → Declared → Term) → ((node : bound.Node) (of : Declared) → is_free has (f node of) ≡ true) → is_free has (node_or t f) ≡ true
free_node has (a_value node of) f h = h node of
free_node has t f h = refl

-- ---- variables

free_place : (has : Bool) (x : Lvalue) (of : Declared) (bounds : ℕ) (lends makes : Bool) → is_of_object x ≡ false → is_free has (a_place x of bounds lends makes) ≡ true
free_place has x of bounds lends makes h = ap (λ (b : Bool). (has && not lends) || not b) h ∙ or_true (has && not lends)

free_made : (has : Bool) (o : Option ℕ) (x : Lvalue) (of : Declared) (bounds : ℕ) (lends : Bool) → is_of_object x ≡ false → is_free has (made_place o x of bounds lends) ≡ true
free_made has None x of bounds lends h = free_place has x of bounds lends false h
free_made has (Some number) x of bounds lends h = free_place has (as_new number x) of bounds lends true h

-- a variable of another object isn't lent
free_field : (has : Bool) (o : Option ℕ) (x : Lvalue) (of : Declared) (bounds : ℕ) → has ≡ true → is_free has (made_place o x of bounds false) ≡ true
free_field has None x of bounds h = ap (λ (b : Bool). (b && true) || not (is_of_object x)) h
free_field has (Some number) x of bounds h = ap (λ (b : Bool). (b && true) || not (is_of_object x)) h

free_declared : (has : Bool) (storage : Storage) (found : Option Declaration) → is_free has (declared_place storage found) ≡ true
free_declared has storage None = refl
free_declared has storage (Some d) = or_true (has && false)

free_constant : (has : Bool) (env : Env) (x : Identifier) (meant : Option Meant) → is_free has (constant_term env x meant) ≡ true
free_constant has env x meant = free_option has (λ k. a_value (bound.constant k.value) k.of) (meant_by (names_in env.scope) env.scope x meant) (λ k. refl)

free_own : (has : Bool) (env : Env) (x : Identifier) (number : ℕ) (n : Identifier) (o : Own) → is_free has (own_term env x number (record { name = n; own = o })) ≡ true
free_own has env x number n (the_result p) = or_true (has && false)
free_own has env x number n (a_parameter p) = or_true (has && false)
free_own has env x number n (a_local v static) =
    let d = declared_variable env.scope v in
    free_made has (made_class env.scope v) (variable (record { storage = own_storage env.scope env.first number (a_local v static); of = d.of; bounded = has_bounds d })) d.of (length d.bounds) true refl
free_own has env x number n (a_local_constant c) = free_constant has env x (Some (of_procedure number (record { name = n; own = a_local_constant c })))
free_own has env x number n o = free_declared has (own_storage env.scope env.first number o) (own_declaration env.scope (record { name = n; own = o }))

free_entry : (has : Bool) (env : Env) (x : Identifier) (space : Space) (number : ℕ) (n : Identifier) (public : Bool) (w : What) → is_free has (entry_term env x space number (record { name = n; is_public = public; what = w })) ≡ true
free_entry has env x space number n public (a_variable v) =
    let s = home env.scope space in
    let d = declared_variable s v in
    let free : (storage : Storage) → is_free has (variable_term s storage v) ≡ true =
    λ storage. free_made has (made_class s v) (variable (record { storage = storage; of = d.of; bounded = has_bounds d })) d.of (length d.bounds) true refl in
    free_if has space.source.is_class (variable_term s (own (field_number space number)) v) (variable_term s (module_storage env.scope space number) v) (free (own (field_number space number))) (free (module_storage env.scope space number))
free_entry has env x space number n public (a_constant c) =
    let t = constant_term env x (Some (of_module space number (record { name = n; is_public = public; what = a_constant c }))) in
    let f = free_constant has env x (Some (of_module space number (record { name = n; is_public = public; what = a_constant c }))) in
    free_if has space.source.is_class t t f f
free_entry has env x space number n public (a_member value steps) =
    let t = constant_term env x (Some (of_module space number (record { name = n; is_public = public; what = a_member value steps }))) in
    let f = free_constant has env x (Some (of_module space number (record { name = n; is_public = public; what = a_member value steps }))) in
    free_if has space.source.is_class t t f f
free_entry has env x space number n public (a_procedure p) = free_if has space.source.is_class (a_method (own_object env) space number p) (a_routine space number p) refl refl
free_entry has env x space number n public w = free_if has space.source.is_class no_term no_term refl refl

-- ---- members

free_kind : (has : Bool) (kind : HostKind) (dot : Place) (e : bound.Expr) (fold : List ℕ) → is_free has (member_of_kind kind dot e fold) ≡ true
free_kind has workbook dot e fold = free_if has (bytes_eq fold (codes "worksheets") || bytes_eq fold (codes "sheets")) sheets_value (unknown_member dot e) refl refl
free_kind has kind dot e fold = free_unwrap has (λ (m : HostMember). a_host_member e m) (member_in kind fold) (unknown_member dot e) (λ m. refl) refl

free_member : (has : Bool) (place dot : Place) (node : bound.Node) (of : Declared) (fold : List ℕ) → is_free has (object_member place dot node of fold) ≡ true
free_member has place dot node of fold =
    let e = expression_of node place of in
    free_unwrap has (λ (kind : HostKind). member_of_kind kind dot e fold) (host_kind node of) (member_of_other dot e) (λ kind. free_kind has kind dot e fold) (free_if has (is_object of) no_term (unknown_member dot e) refl refl)

free_host : (has : Bool) (env : Env) (place dot : Place) (node : bound.Node) (of : Declared) (fold : List ℕ) → is_free has (host_behind env place dot node of fold) ≡ true
free_host has env place dot node of fold =
    let e = expression_of node place of in free_if has (is_found_late env e) (a_host_member e (found_member true fold)) (object_member place dot node of fold) refl (free_member has place dot node of fold)

-- a class that is found is there
class_there : (spaces : List Space) (from number : ℕ) (space : Space) → option_map found_at (first_at (λ (o : Space). o.source.is_class && (class_number spaces o == number)) from spaces) ≡ Some space → has_class spaces ≡ true
class_there spaces from number space h = among spaces from h
  where
    by : (class same : Bool) (others : Bool) (here : ℕ × Space) (more : Option (ℕ × Space)) → (option_map found_at more ≡ Some space → others ≡ true) → option_map found_at (if class && same then Some here else more) ≡ Some space → (class || others) ≡ true
    by true same others here more f k = refl
    by false same others here more f k = f k

    among : (os : List Space) (from : ℕ) → option_map found_at (first_at (λ (o : Space). o.source.is_class && (class_number spaces o == number)) from os) ≡ Some space → has_class os ≡ true
    among [] from k = let e : None ≡ Some space = k in absurd cc
    among (o ∷ os) from k =
        by o.source.is_class (class_number spaces o == number) (has_class os) (from, o) (first_at (λ (p : Space). p.source.is_class && (class_number spaces p == number)) (suc from) os) (among os (suc from)) k

free_object : (env : Env) (base : bound.Expr) (space : Space) (number : ℕ) (n : Identifier) (public : Bool) (w : What) → has_class env.scope.spaces ≡ true
    → is_free (has_class env.scope.spaces) (object_term env base space number (record { name = n; is_public = public; what = w })) ≡ true
free_object env base space number n public (a_variable v) h =
    let d = declared_variable (home env.scope space) v in
    free_field (has_class env.scope.spaces) (made_class (home env.scope space) v) (object_field base (field_number space number) d.of (has_bounds d)) d.of (length d.bounds) h
free_object env base space number n public (a_procedure p) h = refl
free_object env base space number n public w h = refl

free_class : (env : Env) (dot : Place) (base : bound.Expr) (number : ℕ) (f : Identifier) → is_free (has_class env.scope.spaces) (class_member env dot base number f) ≡ true
free_class env dot base number f =
    let has = has_class env.scope.spaces in
    let other = unknown_member dot base in
    free_found has (λ (space : Space). option_map (λ (m : ℕ × Entry). object_term env base space m.0 m.1) (member_entry env.scope space f)) (class_space env.scope.spaces number) other
    (λ space is.
    free_unwrap has (λ (m : ℕ × Entry). object_term env base space m.0 m.1) (member_entry env.scope space f) other
    (λ m. free_object env base space m.0 m.1.name m.1.is_public m.1.what (class_there env.scope.spaces 0 number space is)) refl) refl

free_behind : (env : Env) (place dot : Place) (node : bound.Node) (of : Declared) (f : Identifier) → is_free (has_class env.scope.spaces) (object_behind env place dot node of f) ≡ true
free_behind env place dot node (type.class number) f = free_class env dot (expression_of node place (type.class number)) number f
free_behind env place dot node of f = free_host (has_class env.scope.spaces) env place dot node of f.name

free_of_place : (env : Env) (place dot : Place) (x : Lvalue) (of : Declared) (lends makes : Bool) (f : Identifier) → ((has_class env.scope.spaces && not lends) || not (is_of_object x)) ≡ true
    → is_free (has_class env.scope.spaces) (field_of_place env place dot x of lends makes f) ≡ true
free_of_place env place dot x (type.udt number) lends makes f h =
    free_unwrap (has_class env.scope.spaces) (λ (d : ℕ × Declaration). a_place (field x d.0 d.1.of (has_bounds d.1)) d.1.of (length d.1.bounds) lends false) (field_named env number f)
    (unknown_member dot (expression_of (read_of makes x) place (type.udt number))) (λ d. h) refl
free_of_place env place dot x of lends makes f h = free_behind env place dot (read_of makes x) of f

free_of_value : (env : Env) (place dot : Place) (node : bound.Node) (of : Declared) (f : Identifier) → is_free (has_class env.scope.spaces) (field_of_value env place dot node of f) ≡ true
free_of_value env place dot node (type.udt number) f =
    let e = expression_of node place (type.udt number) in
    free_unwrap (has_class env.scope.spaces) (λ (d : ℕ × Declaration). a_value (field_value e d.0) d.1.of) (field_named env number f) (unknown_member dot e) (λ d. refl) refl
free_of_value env place dot node of f = free_behind env place dot node of f

free_err : (has : Bool) (dot : Place) (fold : List ℕ) → is_free has (err_member dot fold) ≡ true
free_err has dot fold = by (bytes_eq fold (codes "number")) (bytes_eq fold (codes "source")) (bytes_eq fold (codes "description")) (bytes_eq fold (codes "raise")) (bytes_eq fold (codes "clear"))
  where
    by : (a b c d e : Bool)
        → is_free has (if a then a_value (err_value err_number) type.long
        else if b then a_value (err_value err_source) type.text
        else if c then a_value (err_value err_description) type.text
        else if d then err_raise
        else if e then err_clear
        else broken_value 34 dot bound.no_exprs)
        ≡ true
    by true b c d e = refl
    by false true c d e = refl
    by false false true d e = refl
    by false false false true e = refl
    by false false false false true = refl
    by false false false false false = refl

-- ---- what stands without arguments

-- a value, or nothing
abbrev is_value : Term → Bool
is_value (a_value node of) = true
is_value no_term = true
is_value t = false

value_if : (b : Bool) (t u : Term) → is_value t ≡ true → is_value u ≡ true → is_value (if b then t else u) ≡ true
value_if true t u h k = h
value_if false t u h k = k

value_option : {A : Type 0} (f : A → Term) (o : Option A) → ((a : A) → is_value (f a) ≡ true) → is_value (if_there (option_map f o)) ≡ true
value_option f None h = refl
value_option f (Some a) h = h a

value_or : (t u : Term) → is_value t ≡ true → is_value u ≡ true → is_value (term_or t u) ≡ true
value_or no_term u h k = k
value_or (a_value node of) u h k = refl
value_or t u h k = let e : false ≡ true = h in absurd cc

value_function : (env : Env) (place : Place) (g : LibraryFunction) (text_form : Bool) (base : ℕ) (takes : Bool) → is_value (function_value env place g text_form base takes bound.no_exprs) ≡ true
value_function env place g text_form base true = refl
value_function env place g text_form base false = refl

-- what lacks the arguments that it needs
value_lacking : (env : Env) (place : Place) (base : Option bound.Expr) (space : Space) (number : ℕ) (p : Written) (o : Option (ℕ × Written))
    → is_value (if_there (option_and_then (λ (f : ℕ × Written). if takes (parameters_in env.scope space f.1) [] then None else Some (broken_call 25 place (call_type env.scope space f.1) (behind_base base bound.no_exprs))) o)) ≡ true
value_lacking env place base space number p None = refl
value_lacking env place base space number p (Some f) = by (takes (parameters_in env.scope space f.1) [])
  where
    by : (b : Bool) → is_value (if_there (if b then None else Some (broken_call 25 place (call_type env.scope space f.1) (behind_base base bound.no_exprs)))) ≡ true
    by true = refl
    by false = refl

value_called : (env : Env) (place : Place) (base : Option bound.Expr) (space : Space) (number : ℕ) (p : Written) → is_value (called_alone env place base space number p) ≡ true
value_called env place base space number p =
    let bare : ℕ × Written → Term = λ (f : ℕ × Written). call_value env base space f.0 f.1 (bound_arguments (λ of t place. None) (parameters_in env.scope space f.1) []) in
    value_or (bare_call env base space number p) (lacking_call env place base space number p)
    (value_option bare (reader env.scope space number p)
    (λ f. value_option (λ xs. a_value (call_node base (procedure_number env.scope space f.0) xs) (call_type env.scope space f.1)) (bound_arguments (λ of t place. None) (parameters_in env.scope space f.1) []) (λ xs. refl)))
    (value_lacking env place base space number p (reader env.scope space number p))

free_behind_value : (env : Env) (place dot : Place) (t : Term) (f : Identifier) → is_value t ≡ true → is_free (has_class env.scope.spaces) (behind_alone env place dot t f) ≡ true
free_behind_value env place dot (a_value node of) f h = free_of_value env place dot node of f
free_behind_value env place dot no_term f h = refl
free_behind_value env place dot t f h = let e : false ≡ true = h in absurd cc

free_called_alone : (env : Env) (place dot : Place) (base : Option bound.Expr) (space : Space) (number : ℕ) (p : Written) (f : Identifier)
    → is_free (has_class env.scope.spaces) (behind_alone env place dot (called_alone env place base space number p) f) ≡ true
free_called_alone env place dot base space number p f = free_behind_value env place dot (called_alone env place base space number p) f (value_called env place base space number p)

free_member_of : (env : Env) (place dot : Place) (t : Term) (f : Identifier) → is_free (has_class env.scope.spaces) t ≡ true → is_free (has_class env.scope.spaces) (member_of env place dot t f) ≡ true
free_member_of env place dot (a_place x of bounds lends makes) f h = free_of_place env place dot x of lends makes f h
free_member_of env place dot (a_value node of) f h = free_of_value env place dot node of f
free_member_of env place dot (a_routine space number p) f h = free_called_alone env place dot None space number p f
free_member_of env place dot (a_method base space number p) f h = free_called_alone env place dot (Some base) space number p f
free_member_of env place dot (a_host_member e m) f h =
    free_behind_value env place dot (read_alone place e m) f (value_if (m.least == 0) (a_value (member_read e m) m.of) (broken_call 25 place m.of (also e bound.no_exprs)) refl refl)
free_member_of env place dot (a_function g text_form base) f h =
    free_behind_value env place dot (function_value env place g text_form base (function_takes g []) bound.no_exprs) f (value_function env place g text_form base (function_takes g []))
free_member_of env place dot err_object f h = free_err (has_class env.scope.spaces) dot f.name
free_member_of env place dot t f h = refl

free_kept : (env : Env) (place : Place) (within : Option Within) (f : Identifier) → is_free (has_class env.scope.spaces) (kept_member env place within f) ≡ true
free_kept env place within f =
    free_option (has_class env.scope.spaces) (λ (w : Within). field_of_place env place place (bound.kept_place w.header) w.of w.lends false f) within
    (λ w. free_of_place env place place (bound.kept_place w.header) w.of w.lends false f (or_true (has_class env.scope.spaces && not w.lends)))

-- ---- brackets

element_of : (x : Lvalue) (es : Exprs) → is_of_object (element_place x es) ≡ is_of_object x
element_of (variable v) es = refl
element_of x es = refl

free_indexed_value : (has : Bool) (env : Env) (place : Place) (node : bound.Node) (of : Declared) (gs : List Given) → is_free has (indexed_value (operand_of env) (along_value env) env place node of gs) ≡ true
free_indexed_value has env place node of gs = by (along_type env (expression_of node place of) gs) refl
  where
    by : (o : Option Declared) → along_type env (expression_of node place of) gs ≡ o → is_free has (indexed_value (operand_of env) (along_value env) env place node of gs) ≡ true
    by None is =
        rw is (free_two has (λ (u : Declared) (xs : Exprs). a_value (element_value (expression_of node place of) xs) u) (indexed_type env (expression_of node place of)) (numbers_of (operand_of env) gs) (λ u xs. refl))
    by (Some u) is = rw is (free_option has (λ (es : Exprs). a_value (late_item (expression_of node place of) es) u) (along_of (along_value env) gs) (λ es. refl))

free_call_value : (has : Bool) (env : Env) (base : Option bound.Expr) (space : Space) (number : ℕ) (p : Written) (args : Option bound.Args) → is_free has (call_value env base space number p args) ≡ true
free_call_value has env base space number p args =
    free_option has (λ xs. a_value (call_node base (procedure_number env.scope space number) xs) (call_type env.scope space p)) args (λ xs. refl)

free_host_called : (has : Bool) (env : Env) (e : bound.Expr) (m : HostMember) (gs : List Given) → is_free has (host_called env e m gs) ≡ true
free_host_called has env e m gs =
    let called : Term = if_there (option_map (λ node. a_value node m.of) (member_called env e m gs)) in
    free_if has (takes_arguments m (length gs)) called no_term (free_option has (λ node. a_value node m.of) (member_called env e m gs) (λ node. refl)) refl

free_value_indexed : (has : Bool) (env : Env) (place : Place) (t : Term) (gs : List Given) → is_free has (value_indexed env place t gs) ≡ true
free_value_indexed has env place (a_host_member e m) gs = free_host_called has env e m gs
free_value_indexed has env place (a_value node of) gs = free_indexed_value has env place node of gs
free_value_indexed has env place t gs = refl

free_call : (has : Bool) (env : Env) (place : Place) (gs : List Given) (base : Option bound.Expr) (space : Space) (number : ℕ) (p : Written) → is_free has (call_with env place gs base space number p) ≡ true
free_call has env place gs base space number p =
    let bare : ℕ × Written → Term = λ (f : ℕ × Written). call_value env base space f.0 f.1 (Some bound.no_args) in
    let whole : ℕ × Written → Term = λ (f : ℕ × Written). call_value env base space f.0 f.1 (bound_arguments (argument_of env) (parameters_in env.scope space f.1) gs) in
    let at : bound.Node → Declared → Term = λ node of. value_indexed env place (item_of env place (a_value node of)) gs in
    free_option has (λ (f : ℕ × Written). if indexes_value f.1 gs then node_or (bare f) at else whole f) (reader env.scope space number p)
    (λ f.
    free_if has (indexes_value f.1 gs) (node_or (bare f) at) (whole f) (free_node has (bare f) at (λ node of. free_value_indexed has env place (item_of env place (a_value node of)) gs))
    (free_call_value has env base space f.0 f.1 (bound_arguments (argument_of env) (parameters_in env.scope space f.1) gs)))

free_function : (has : Bool) (env : Env) (place : Place) (f : LibraryFunction) (text_form : Bool) (base : ℕ) (takes : Bool) (es : Exprs) → is_free has (function_value env place f text_form base takes es) ≡ true
free_function has env place f text_form base true es = refl
free_function has env place f text_form base false es = refl

free_element : (has : Bool) (env : Env) (e : bound.Expr) (x : Lvalue) (bounds : ℕ) (lends makes : Bool) (gs : List Given) → ((has && not lends) || not (is_of_object x)) ≡ true
    → is_free has (element_of_place env e x bounds lends makes gs) ≡ true
free_element has env e x bounds lends makes gs h =
    let found : Term = with_type (indexed_type env e) (numbers_of (operand_of env) gs) (λ u es. a_place (element_place x es) u 0 lends makes) in
    free_if has (fits_bounds bounds gs) found no_term
    (free_two has (λ (u : Declared) (es : Exprs). a_place (element_place x es) u 0 lends makes) (indexed_type env e) (numbers_of (operand_of env) gs) (λ u es. ap (λ (b : Bool). (has && not lends) || not b) (element_of x es) ∙ h)) refl

free_indexed_place : (has : Bool) (env : Env) (e : bound.Expr) (x : Lvalue) (bounds : ℕ) (lends makes : Bool) (gs : List Given) → ((has && not lends) || not (is_of_object x)) ≡ true
    → is_free has (indexed_place env e x bounds lends makes gs) ≡ true
free_indexed_place has env e x bounds lends makes gs h = by (along_type env e gs) refl
  where
    by : (o : Option Declared) → along_type env e gs ≡ o → is_free has (indexed_place env e x bounds lends makes gs) ≡ true
    by None is = rw is (free_element has env e x bounds lends makes gs h)
    by (Some u) is = rw is (free_option has (λ (es : Exprs). a_place (element_along x es) u 0 lends makes) (along_of (along_value env) gs) (λ es. h))

free_taken : (has : Bool) (env : Env) (place : Place) (t : Term) (gs : List Given) → is_free has t ≡ true → is_free has (taken_by_term env place t gs) ≡ true
free_taken has env place (a_place x of bounds lends makes) gs h = free_indexed_place has env (expression_of (read_of makes x) place of) x bounds lends makes gs h
free_taken has env place (a_value node of) gs h = free_indexed_value has env place node of gs
free_taken has env place (a_routine space number p) gs h = free_call has env place gs None space number p
free_taken has env place (a_method base space number p) gs h = free_call has env place gs (Some base) space number p
free_taken has env place (a_function f text_form base) gs h =
    free_option has (λ es. function_value env place f text_form base (function_takes f gs) es) (function_values env f 0 gs) (λ es. free_function has env place f text_form base (function_takes f gs) es)
free_taken has env place (a_host_member e m) gs h = free_host_called has env e m gs
free_taken has env place t gs h = refl

-- arguments that aren't taken
free_wrong : (has : Bool) (env : Env) (place : Place) (rule : ℕ) (of : Declared) (before : Exprs → Exprs) (gs : List Given) → is_free has (wrong_arguments env place rule of before gs) ≡ true
free_wrong has env place rule of before gs = free_option has (λ es. broken_call rule place of (before es)) (variant_arguments env gs) (λ es. refl)

free_wrong_led : (has : Bool) (env : Env) (place : Place) (e : bound.Expr) (found : Known) (gs : List Given) → is_free has (wrong_led env place e found gs) ≡ true
free_wrong_led has env place e (breaks rule) gs = free_wrong has env place rule type.variant (also e) gs
free_wrong_led has env place e found gs = refl

free_wrong_index : (has : Bool) (env : Env) (place : Place) (node : bound.Node) (of : Declared) (bounds : ℕ) (gs : List Given) → is_free has (wrong_index env place node of bounds gs) ≡ true
free_wrong_index has env place node (type.class number) bounds gs = free_wrong_led has env place (expression_of node place (type.class number)) (class_led (declared_in env.scope) number gs) gs
free_wrong_index has env place node of bounds gs =
    let e = expression_of node place of in free_if has (may_index of bounds gs) no_term (wrong_arguments env place 25 type.variant (also e) gs) refl (free_wrong has env place 25 type.variant (also e) gs)

free_wrong_member : (has : Bool) (env : Env) (place : Place) (e : bound.Expr) (m : HostMember) (gs : List Given) → is_free has (wrong_member env place e m gs) ≡ true
free_wrong_member has env place e m gs =
    let wrong : Term = if_there (option_map (λ rule. wrong_arguments env place rule m.of (also e) gs) (arguments_rule m)) in
    free_if has (member_takes m gs) no_term wrong refl (free_option has (λ rule. wrong_arguments env place rule m.of (also e) gs) (arguments_rule m) (λ rule. free_wrong has env place rule m.of (also e) gs))

free_wrong_value : (has : Bool) (env : Env) (place : Place) (t : Term) (gs : List Given) → is_free has (wrong_value env place t gs) ≡ true
free_wrong_value has env place (a_host_member e m) gs = free_wrong_member has env place e m gs
free_wrong_value has env place (a_value node of) gs = free_wrong_index has env place node of 0 gs
free_wrong_value has env place t gs = refl

free_wrong_call : (has : Bool) (env : Env) (place : Place) (base : Option bound.Expr) (space : Space) (number : ℕ) (p : Written) (gs : List Given) → is_free has (wrong_call env place base space number p gs) ≡ true
free_wrong_call has env place base space number p gs =
    let bare : ℕ × Written → Term = λ (f : ℕ × Written). call_value env base space f.0 f.1 (Some bound.no_args) in
    let at : bound.Node → Declared → Term = λ node of. wrong_value env place (item_of env place (a_value node of)) gs in
    let wrong : ℕ × Written → Term = λ (f : ℕ × Written). wrong_arguments env place 25 (call_type env.scope space f.1) (behind_base base) gs in
    let other : ℕ × Written → Term = λ (f : ℕ × Written). if takes (parameters_in env.scope space f.1) gs then no_term else wrong f in
    free_option has (λ (f : ℕ × Written). if indexes_value f.1 gs then node_or (bare f) at else other f) (reader env.scope space number p)
    (λ f.
    free_if has (indexes_value f.1 gs) (node_or (bare f) at) (other f) (free_node has (bare f) at (λ node of. free_wrong_value has env place (item_of env place (a_value node of)) gs))
    (free_if has (takes (parameters_in env.scope space f.1) gs) no_term (wrong f) refl (free_wrong has env place 25 (call_type env.scope space f.1) (behind_base base) gs)))

free_wrong_some : (has : Bool) (env : Env) (place : Place) (gs : List Given) → is_free has (wrong_some env place gs) ≡ true
free_wrong_some has env place [] = refl
free_wrong_some has env place (g ∷ gs) = free_wrong has env place 25 type.variant (λ es. es) (g ∷ gs)

free_wrong_term : (has : Bool) (env : Env) (place : Place) (t : Term) (gs : List Given) → is_free has (wrong_term env place t gs) ≡ true
free_wrong_term has env place (a_place x of bounds lends makes) gs = free_wrong_index has env place (read_of makes x) of bounds gs
free_wrong_term has env place (a_value node of) gs = free_wrong_index has env place node of 0 gs
free_wrong_term has env place (a_routine space number p) gs = free_wrong_call has env place None space number p gs
free_wrong_term has env place (a_method base space number p) gs = free_wrong_call has env place (Some base) space number p gs
free_wrong_term has env place (a_host_member e m) gs = free_wrong_member has env place e m gs
free_wrong_term has env place err_object gs = free_wrong_some has env place gs
free_wrong_term has env place err_clear gs = free_wrong_some has env place gs
free_wrong_term has env place t gs = refl

free_item : (has : Bool) (env : Env) (place : Place) (t : Term) → is_free has t ≡ true → is_free has (item_of env place t) ≡ true
free_item has env place (a_place x of bounds lends makes) h =
    let made = read_of makes x in
    free_if has (has_item_member env (expression_of made place of)) (object_member place place made of (codes "item")) (a_place x of bounds lends makes) (free_member has place place made of (codes "item")) h
free_item has env place (a_value node of) h =
    free_if has (has_item_member env (expression_of node place of)) (object_member place place node of (codes "item")) (a_value node of) (free_member has place place node of (codes "item")) refl
free_item has env place t h = h

free_index : (has : Bool) (env : Env) (place : Place) (t : Term) (gs : List Given) → is_free has t ≡ true → is_free has (indexed env place (item_of env place t) gs) ≡ true
free_index has env place t gs h =
    let i = item_of env place t in free_or has (taken_by_term env place i gs) (wrong_term env place i gs) (free_taken has env place i gs (free_item has env place t h)) (free_wrong_term has env place i gs)

-- ---- names

abbrev library_at : Env → Identifier → Option LibraryFunction → Term
library_at env x (Some f) = a_function f (has_dollar x) (array_base env f)
library_at env x None = constant_term env x (Some of_library)

free_library_at : (has : Bool) (env : Env) (x : Identifier) (o : Option LibraryFunction) → is_free has (library_at env x o) ≡ true
free_library_at has env x (Some f) = refl
free_library_at has env x None = free_constant has env x (Some of_library)

free_library : (has : Bool) (env : Env) (x : Identifier) → is_free has (library_term env x) ≡ true
free_library has env x = free_if has (bytes_eq x.name (codes "error")) error_word (library_at env x (function_named x.name)) refl (free_library_at has env x (function_named x.name))

free_host_name : (has : Bool) (x : Identifier) → is_free has (host_term x) ≡ true
free_host_name has x =
    by (bytes_eq x.name (codes "err")) (bytes_eq x.name (codes "worksheets") || bytes_eq x.name (codes "sheets")) (bytes_eq x.name (codes "cells") || bytes_eq x.name (codes "range")) (bytes_eq x.name (codes "activesheet"))
    (bytes_eq x.name (codes "thisworkbook") || bytes_eq x.name (codes "activeworkbook")) (bytes_eq x.name (codes "application"))
  where
    by : (a b c d e f : Bool)
        → is_free has (if a then err_object
        else if b then sheets_value
        else if c then sheet_term x
        else if d then a_value active_sheet type.worksheet
        else if e then a_value (host_object host.Workbook) type.object
        else if f then a_value (host_object host.Application) type.object
        else no_term)
        ≡ true
    by true b c d e f = refl
    by false true c d e f = refl
    by false false true d e f = free_member has nowhere nowhere active_sheet type.worksheet x.name
    by false false false true e f = refl
    by false false false false true f = refl
    by false false false false false true = refl
    by false false false false false false = refl

free_meant : (has : Bool) (env : Env) (x : Identifier) (m : Option Meant) → is_free has (meant_term env x m) ≡ true
free_meant has env x (Some (of_procedure number l)) = free_own has env x number l.name l.own
free_meant has env x (Some (of_module space number e)) = free_entry has env x space number e.name e.is_public e.what
free_meant has env x (Some of_library) = free_library has env x
free_meant has env x (Some of_host) = free_host_name has x
free_meant has env x m = refl

free_callee : (has : Bool) (env : Env) (e : Expr) (t : Term) → is_free has t ≡ true → is_free has (callee env e t) ≡ true
free_callee has env (name x) t h = free_meant has env x (declares called env.scope x)
free_callee has env e t h = h

free_from_zero : (has : Bool) (t : Term) → is_free has t ≡ true → is_free has (from_zero t) ≡ true
free_from_zero has (a_function f text_form base) h = refl
free_from_zero has t h = h

free_behind_term : (has : Bool) (env : Env) (q : Option Qualifier) (x : Identifier) (t : Term) → is_free has t ≡ true → is_free has (behind_term env q x t) ≡ true
free_behind_term has env None x t h = h
free_behind_term has env (Some q) x t h = let m = behind plainly env.scope q x in free_from_zero has (meant_term env x m) (free_meant has env x m)

-- ---- expressions

free_value : (has : Bool) (e : bound.Expr) → is_free has (value_term e) ≡ true
free_value has (bound.expr node place of operand) = refl

free_new : (has : Bool) (of : Declared) → is_free has (new_term of) ≡ true
free_new has (type.class number) = refl
free_new has of = refl

free_term : (env : Env) (e : Expr) → is_free (has_class env.scope.spaces) (term_of env e) ≡ true
free_term env (literal l) = refl
free_term env (me token) = refl
free_term env (name x) = free_meant (has_class env.scope.spaces) env x (declares plainly env.scope x)
free_term env (with_member dot x) = free_kept env dot.place env.within x
free_term env (member base dot x) =
    free_behind_term (has_class env.scope.spaces) env (qualifier_of env.scope base) x (member_of env (place_told base) dot.place (term_of env base) x)
    (free_member_of env (place_told base) dot.place (term_of env base) x (free_term env base))
free_term env (index base left args right) =
    free_index (has_class env.scope.spaces) env (place_told base) (callee env base (term_of env base)) (givens env args) (free_callee (has_class env.scope.spaces) env base (term_of env base) (free_term env base))
free_term env (parenthesised left e right) = free_option (has_class env.scope.spaces) value_term (given_as env (term_of env e) (place_told e)) (λ v. free_value (has_class env.scope.spaces) v)
free_term env (new new_word t) = free_new (has_class env.scope.spaces) (meant_type (type_meant env.scope t))
free_term env (type_of type_of_word e is_word t) =
    free_option (has_class env.scope.spaces) (λ a. a_value (bound.is_type a (meant_type (type_meant env.scope t))) type.boolean) (given_as env (term_of env e) (place_told e)) (λ a. refl)
free_term env (unary o token e) =
    free_option (has_class env.scope.spaces) (λ a. a_value (bound.unary (unary_kind o) a) (result_of (unary_kind o) (bound.operand_type a) (bound.operand_type a))) (operand_of env (term_of env e) (place_told e)) (λ a. refl)
free_term env (binary l operator.Is token r) =
    free_two (has_class env.scope.spaces) (λ a b. a_value (bound.same a b) type.boolean) (reference_of env (term_of env l) (place_told l)) (reference_of env (term_of env r) (place_told r)) (λ a b. refl)
free_term env (binary l o token r) =
    free_three (has_class env.scope.spaces) (λ k a b. a_value (bound.binary k (compare_in env.scope) a b) (result_of k (bound.operand_type a) (bound.operand_type b))) (operator_kind o) (operand_of env (term_of env l) (place_told l))
    (operand_of env (term_of env r) (place_told r)) (λ k a b. refl)

-- a place that is lent, or where there is no class
not_true : (b : Bool) → not b ≡ true → b ≡ false
not_true false h = refl
not_true true h = let e : false ≡ true = h in absurd cc

pub no_object : (env : Env) (e : Expr) (x : Lvalue) (of : Declared) (bounds : ℕ) (lends makes : Bool) → term_of env e ≡ a_place x of bounds lends makes → (has_class env.scope.spaces && not lends) ≡ false → is_of_object x ≡ false
no_object env e x of bounds lends makes is h =
    let has = has_class env.scope.spaces in
    let free : ((has && not lends) || not (is_of_object x)) ≡ true = sym (ap (λ (t : Term). is_free has t) is) ∙ free_term env e in
    not_true (is_of_object x) (sym (ap (λ (b : Bool). b || not (is_of_object x)) h) ∙ free)
