-- One declaration or parameter more.
use Rattle.std.proofs.Common.{◌≡◌, ℕ, suc, arith, ◌==◌, Bool, true, false, ◌&&◌, List, [], ◌∷◌, ◌++◌, append_assoc, length, map, refl, sym, ap, ◌∙◌}
use Rattle.std.specs.Prelude.{if◌then◌else◌}
use Rattle.std.proofs.lemmas.List.{map-append}
use Rattle.constant_values.specs.declared_names.specs.binder.specs.Declarations.{Entry, Own, the_result, a_parameter, a_local, a_local_constant, an_array, undeclared, Local}
use Rattle.constant_values.specs.declared_names.specs.binder.specs.Scopes.{Scope}
use Rattle.constant_values.specs.declared_names.specs.binder.specs.Storage.{declarations_if, module_declarations, types_of_space, bound_parameter, bound_parameters}
use Rattle.bound_declarations.specs.Parameters.{next_items}
use Rattle.bound_project.specs.Project as project
use Rattle.bound_project.specs.View.{declaration_view, parameter_view, user_type_view}
use Rattle.bound_project.specs.declared.declarations.Declaration.{Declaration}
use Rattle.bound_project.specs.declared.declarations.Parameter.{Parameter as Bound}
use Rattle.bound_project.specs.declared.declarations.UserType.{UserType}
use Rattle.vba_tree.specs.declared.list.Next.{Next}
use Rattle.vba_tree.specs.declared.procedure.Parameter.{Parameter}
use Rattle.vba_tree.specs.Tree as tree
use Rattle.vba_tree.specs.View.{parameter_view as tree_parameter}
use Rattle.vba_words.specs.declared.identifier.Identifier.{Identifier}

pub declarations_push : (ds : List Declaration) (d : Declaration) → map declaration_view (ds ++ d ∷ []) ≡ map declaration_view ds ++ declaration_view d ∷ []
declarations_push ds d = map-append declaration_view ds (d ∷ [])

pub parameters_push : (ps : List Bound) (p : Bound) → map parameter_view (ps ++ p ∷ []) ≡ map parameter_view ps ++ parameter_view p ∷ []
parameters_push ps p = map-append parameter_view ps (p ∷ [])

pub types_push : (ts : List UserType) (t : UserType) → map user_type_view (ts ++ t ∷ []) ≡ map user_type_view ts ++ user_type_view t ∷ []
types_push ts t = map-append user_type_view ts (t ∷ [])

-- ---- one name, entry or parameter before others

kept_one : (b : Bool) (d : project.Declaration) (ds : List project.Declaration) → (if b then d ∷ ds else ds) ≡ (if b then d ∷ [] else []) ++ ds
kept_one true d ds = refl
kept_one false d ds = refl

kept_none : (b : Bool) (ds : List project.Declaration) → (if b then ds else ds) ≡ (if b then [] else []) ++ ds
kept_none true ds = refl
kept_none false ds = refl

next_by : (test : Local → Bool) (s : Scope) (x : Identifier) (own : Own) (ls : List Local)
    → declarations_if test s (record { name = x; own = own } ∷ ls) ≡ declarations_if test s (record { name = x; own = own } ∷ []) ++ declarations_if test s ls
next_by test s x (the_result p) ls = kept_none (test (record { name = x; own = the_result p })) (declarations_if test s ls)
next_by test s x (a_parameter p) ls = kept_none (test (record { name = x; own = a_parameter p })) (declarations_if test s ls)
next_by test s x (a_local v static) ls = kept_one (test (record { name = x; own = a_local v static })) _ (declarations_if test s ls)
next_by test s x (a_local_constant c) ls = kept_none (test (record { name = x; own = a_local_constant c })) (declarations_if test s ls)
next_by test s x (an_array clause static) ls = kept_one (test (record { name = x; own = an_array clause static })) _ (declarations_if test s ls)
next_by test s x (undeclared static) ls = kept_one (test (record { name = x; own = undeclared static })) _ (declarations_if test s ls)

pub declarations_next : (test : Local → Bool) (s : Scope) (l : Local) (ls : List Local)
    → declarations_if test s (l ∷ ls) ≡ declarations_if test s (l ∷ []) ++ declarations_if test s ls
declarations_next test s l ls = next_by test s l.name l.own ls

pub variables_next : (s : Scope) (e : Entry) (es : List Entry) → module_declarations s (e ∷ es) ≡ module_declarations s (e ∷ []) ++ module_declarations s es
variables_next s e es = sym (append_assoc _ [] (module_declarations s es))

pub types_next : (s : Scope) (e : Entry) (es : List Entry) → types_of_space s (e ∷ es) ≡ types_of_space s (e ∷ []) ++ types_of_space s es
types_next s e es = sym (append_assoc _ [] (types_of_space s es))

last_by : (s : Scope) (takes : Bool) (p : tree.Parameter) → bound_parameters s takes (p ∷ []) ≡ bound_parameter s (takes && true) p ∷ []
last_by s true p = refl
last_by s false p = refl

before_others : (s : Scope) (takes : Bool) (p q : tree.Parameter) (ps : List tree.Parameter)
    → bound_parameters s takes (p ∷ q ∷ ps) ≡ bound_parameter s (takes && false) p ∷ bound_parameters s takes (q ∷ ps)
before_others s true p q ps = refl
before_others s false p q ps = refl

more_than_none : (n : ℕ) → (suc n == 0) ≡ false
more_than_none n = grind arith

pub parameters_next : (s : Scope) (takes value : Bool) (p : tree.Parameter) (behind : List (Next Parameter)) → value ≡ (takes && (length behind == 0))
    → bound_parameters s takes (p ∷ next_items behind) ≡ bound_parameter s value p ∷ bound_parameters s takes (next_items behind)
parameters_next s takes value p [] last = last_by s takes p ∙ ap (λ v. bound_parameter s v p ∷ []) (sym last)
parameters_next s takes value p (next ∷ behind) last =
    before_others s takes p (tree_parameter next.item) (next_items behind)
    ∙ ap (λ v. bound_parameter s v p ∷ bound_parameters s takes (next_items (next ∷ behind)))
    (sym (last ∙ ap (λ b. takes && b) (more_than_none (length behind))))

pub parameters_step : (after before : List project.Parameter) (s : Scope) (takes value : Bool) (p : tree.Parameter) (behind : List (Next Parameter))
    → after ≡ before ++ bound_parameter s value p ∷ [] → value ≡ (takes && (length behind == 0))
    → after ++ bound_parameters s takes (next_items behind) ≡ before ++ bound_parameters s takes (p ∷ next_items behind)
parameters_step after before s takes value p behind is last =
    ap (λ xs. xs ++ bound_parameters s takes (next_items behind)) is
    ∙ append_assoc before (bound_parameter s value p ∷ []) (bound_parameters s takes (next_items behind))
    ∙ ap (λ xs. before ++ xs) (sym (parameters_next s takes value p behind last))
