-- Calls of procedures and of properties that are read.
use Rattle.std.proofs.Common.{◌≡◌, ℕ, ◌==◌, Bool, true, false, ◌&&◌, List, [], ◌∷◌, ◌++◌, length, Option, Some, None, option_map, refl, sym, ap, subst, ◌∙◌, arith, ne_eqb, if◌then◌else◌}
use Rattle.vba_base.specs.declared.place.Place.{Place}
use Rattle.vba_tree.specs.Tree.{Parameter}
use Rattle.vba_values.specs.Types.{Declared}
use Rattle.vba_values.specs.Types as type
use Rattle.bound_project.specs.Expressions as bound
use Rattle.bound_project.specs.Pieces.{Argument}
use Rattle.bound_project.specs.Project as project
use Rattle.bound_project.specs.Statements.{Action}
use Rattle.bound_declarations.specs.constant_values.specs.declared_names.specs.binder.specs.Declarations.{Written}
use Rattle.bound_declarations.specs.constant_values.specs.declared_names.specs.binder.specs.Options.{or_else}
use Rattle.bound_declarations.specs.constant_values.specs.declared_names.specs.binder.specs.Types.{is_object}
use Rattle.bound_declarations.specs.constant_values.specs.declared_names.specs.binder.specs.Scopes.{Space, Scope}
use Rattle.bound_declarations.specs.constant_values.specs.declared_names.specs.binder.specs.Constants.{home}
use Rattle.bound_declarations.specs.constant_values.specs.declared_names.specs.binder.specs.Names.{scope_in}
use Rattle.bound_declarations.specs.constant_values.specs.declared_names.specs.binder.specs.Storage.{bound_parameters, parameters_of, procedure_number}
use Rattle.bound_forms.specs.Terms.{Env, Given, routine_term, a_value, bound_arguments}
use Rattle.bound_forms.specs.Terms as plain
use Rattle.bound_declarations.specs.constant_values.specs.declared_names.specs.binder.specs.Signatures.{is_get, reader, parameters_in, call_type, writer}
use Rattle.bound_forms.specs.Operands.{bare_call, behind_base, call_node, call_value, if_there, argument_of}
use Rattle.bound_forms.specs.Members.{item_of}
use Rattle.bound_forms.specs.ExpressionsBound.{call_with, indexes_value, node_or, value_indexed}
use Rattle.bound_forms.specs.Targets.{given_behind, property_given, assigned, broken_target, let_to, untaken}
use Rattle.bound_calls.specs.Passing.{AllTaken}

and_no : (b : Bool) → (b && false) ≡ false
and_no true = refl
and_no false = refl

some_written : (value : Declared → plain.Term → Place → Option bound.Expr) (s : Scope) (takes : Bool) (qs : List Parameter) (g : Given) (gs : List Given) (xs : List Argument) (left : List project.Parameter)
    → AllTaken value (bound_parameters s takes qs) (g ∷ gs) xs left → (length qs == 0) ≡ false
some_written value s takes [] g gs xs left t = absurd t
some_written value s takes (q ∷ qs) g gs xs left t = ne_eqb (length (q ∷ qs)) 0 (λ (e : length (q ∷ qs) ≡ 0). omega (arith, e))

-- arguments that parameters take don't index a value
no_index : (value : Declared → plain.Term → Place → Option bound.Expr) (s : Scope) (w : Written) (gs : List Given) (xs : List Argument) (left : List project.Parameter) → AllTaken value (parameters_of s w) gs xs left → indexes_value w gs ≡ false
no_index value s w [] xs left t = refl
no_index value s w (g ∷ gs) xs left t = ap (λ b. is_get w.kind && b) (some_written value s _ w.parameters g gs xs left t) ∙ and_no (is_get w.kind)

-- a call of what is read, with all its arguments
pub call_valued : (env : Env) (base : Option bound.Expr) (space : Space) (read : ℕ × Written) (procedure : ℕ) (of : Declared) (args : bound.Args) → procedure ≡ procedure_number env.scope space read.0 → of ≡ call_type env.scope space read.1
    → call_value env base space read.0 read.1 (Some args) ≡ a_value (call_node base procedure args) of
call_valued env base space read procedure of args number_is of_is =
    ap (λ k. a_value (call_node base k args) (call_type env.scope space read.1)) (sym number_is) ∙ ap (λ u. a_value (call_node base procedure args) u) (sym of_is)

-- what stands behind a procedure is what its arguments make of it, or what indexes its value
abbrev pub called_as : Env → Place → List Given → Option bound.Expr → Space → ℕ × Written → plain.Term
called_as env place gs base space f =
    if indexes_value f.1 gs then node_or (call_value env base space f.0 f.1 (Some bound.no_args)) (λ node of. value_indexed env place (item_of env place (a_value node of)) gs)
    else call_value env base space f.0 f.1 (bound_arguments (argument_of env) (parameters_in env.scope space f.1) gs)

pub called_found : (env : Env) (place : Place) (gs : List Given) (base : Option bound.Expr) (space : Space) (number : ℕ) (w : Written) (read : ℕ × Written) → reader env.scope space number w ≡ Some read
    → call_with env place gs base space number w ≡ called_as env place gs base space read
called_found env place gs base space number w read reads = ap (λ o. if_there (option_map (called_as env place gs base space) o)) reads

-- with arguments that don't index a value it is a call
pub called_valued : (env : Env) (place : Place) (gs : List Given) (base : Option bound.Expr) (space : Space) (number : ℕ) (w : Written) (read : ℕ × Written) (procedure : ℕ) (of : Declared) (parameters : List project.Parameter)
    (args : bound.Args) → reader env.scope space number w ≡ Some read → procedure ≡ procedure_number env.scope space read.0 → parameters ≡ parameters_in env.scope space read.1
    → of ≡ call_type env.scope space read.1 → indexes_value read.1 gs ≡ false → bound_arguments (argument_of env) parameters gs ≡ Some args
    → call_with env place gs base space number w ≡ a_value (call_node base procedure args) of
called_valued env place gs base space number w read procedure of parameters args reads number_is parameters_are of_is none given =
    let indexed_as : plain.Term = node_or (call_value env base space read.0 read.1 (Some bound.no_args)) (λ node of. value_indexed env place (item_of env place (a_value node of)) gs) in
    let call_as : Option bound.Args → plain.Term = λ o. call_value env base space read.0 read.1 o in
    called_found env place gs base space number w read reads
    ∙ ap (λ b. if b then indexed_as else call_as (bound_arguments (argument_of env) (parameters_in env.scope space read.1) gs)) none
    ∙ ap (λ l. call_as (bound_arguments (argument_of env) l gs)) (sym parameters_are)
    ∙ ap call_as given
    ∙ call_valued env base space read procedure of args number_is of_is

pub call_is : (env : Env) (place : Place) (gs : List Given) (base : Option bound.Expr) (space : Space) (number : ℕ) (w : Written) (read : ℕ × Written) (procedure : ℕ) (of : Declared) (parameters : List project.Parameter)
    (args : bound.Args) (xs : List Argument) (left : List project.Parameter) → reader env.scope space number w ≡ Some read → procedure ≡ procedure_number env.scope space read.0 → parameters ≡ parameters_in env.scope space read.1
    → of ≡ call_type env.scope space read.1 → AllTaken (argument_of env) parameters gs xs left → bound_arguments (argument_of env) parameters gs ≡ Some args → call_with env place gs base space number w ≡ a_value (call_node base procedure args) of
call_is env place gs base space number w read procedure of parameters args xs left reads number_is parameters_are of_is taken given =
    let A : List project.Parameter → Type 0 = λ l. AllTaken (argument_of env) l gs xs left in
    called_valued env place gs base space number w read procedure of parameters args reads number_is parameters_are of_is
    (no_index (argument_of env) (scope_in (home env.scope space) read.1) read.1 gs xs left (subst A parameters_are taken)) given

-- so is one without arguments
pub bare_is : (env : Env) (base : Option bound.Expr) (space : Space) (number : ℕ) (w : Written) (read : ℕ × Written) (procedure : ℕ) (of : Declared) (parameters : List project.Parameter) (args : bound.Args) → reader env.scope space number w ≡ Some read
    → procedure ≡ procedure_number env.scope space read.0 → parameters ≡ parameters_in env.scope space read.1 → of ≡ call_type env.scope space read.1 → bound_arguments (argument_of env) parameters [] ≡ Some args
    → bare_call env base space number w ≡ a_value (call_node base procedure args) of
bare_is env base space number w read procedure of parameters args reads number_is parameters_are of_is given =
    let called : ℕ × Written → plain.Term = λ f. call_value env base space f.0 f.1 (bound_arguments (argument_of env) (parameters_in env.scope space f.1) []) in
    ap (λ o. if_there (option_map called o)) reads
    ∙ ap (λ l. call_value env base space read.0 read.1 (bound_arguments (argument_of env) l [])) (sym parameters_are)
    ∙ ap (λ o. call_value env base space read.0 read.1 o) given
    ∙ call_valued env base space read procedure of args number_is of_is

-- ---- assignments

abbrev but_last : List project.Parameter → List project.Parameter
but_last [] = []
but_last (p ∷ []) = []
but_last (p ∷ ps) = p ∷ but_last ps

abbrev value_type : List project.Parameter → Declared
value_type [] = type.variant
value_type (p ∷ []) = p.of
value_type (p ∷ ps) = value_type ps

-- a value parameter of an object type is given the object itself
-- a property that is given a value, by its parts
given_parts : (itself : Declared → Bool) (env : Env) (base : Option bound.Expr) (place : Place) (space : Space) (gs : List Given) (v : bound.Expr) (f : ℕ × Written) → given_behind itself env base place space gs v f
    ≡ or_else
    (option_map (λ args. property_given (itself (value_type (parameters_in env.scope space f.1))) base (procedure_number env.scope space f.0) args v (value_type (parameters_in env.scope space f.1)))
    (bound_arguments (argument_of env) (but_last (parameters_in env.scope space f.1)) gs))
    (option_map (λ es. broken_target 25 place v (behind_base base es)) (untaken env (but_last (parameters_in env.scope space f.1)) gs))
given_parts itself env base place space gs v f = refl

written_found : (env : Env) (place : Place) (v : bound.Expr) (gs : List Given) (base : Option bound.Expr) (space : Space) (number : ℕ) (w : Written) (f : ℕ × Written) → writer env.scope space w ≡ Some f
    → assigned env place v gs (routine_term base space number w) ≡ let_to env base place space gs v f
written_found env place v gs None space number w f found = rw found refl
written_found env place v gs (Some b) space number w f found = rw found refl

but_last_is : (front : List project.Parameter) (last : project.Parameter) → but_last (front ++ last ∷ []) ≡ front
but_last_is [] last = refl
but_last_is (p ∷ []) last = refl
but_last_is (p ∷ q ∷ ps) last = ap (λ l. p ∷ l) (but_last_is (q ∷ ps) last)

value_type_is : (front : List project.Parameter) (last : project.Parameter) → value_type (front ++ last ∷ []) ≡ last.of
value_type_is [] last = refl
value_type_is (p ∷ []) last = refl
value_type_is (p ∷ q ∷ ps) last = value_type_is (q ∷ ps) last

-- a property that is given a value, for its parameters but the last one, and for the type of that
pub given_whole : (itself : Declared → Bool) (env : Env) (place : Place) (v : bound.Expr) (gs : List Given) (base : Option bound.Expr) (space : Space) (f : ℕ × Written) (front : List project.Parameter) (last : project.Parameter)
    → parameters_in env.scope space f.1 ≡ front ++ last ∷ []
    → given_behind itself env base place space gs v f
    ≡ or_else (option_map (λ args. property_given (itself last.of) base (procedure_number env.scope space f.0) args v last.of) (bound_arguments (argument_of env) front gs))
    (option_map (λ es. broken_target 25 place v (behind_base base es)) (untaken env front gs))
given_whole itself env place v gs base space f front last parameters =
    let n = procedure_number env.scope space f.0 in
    let told : List project.Parameter → bound.Args → Action = λ ps args. property_given (itself (value_type ps)) base n args v (value_type ps) in
    let broken : List project.Parameter → Option Action = λ l. option_map (λ es. broken_target 25 place v (behind_base base es)) (untaken env l gs) in
    let done : List project.Parameter → Option Action = λ ps. or_else (option_map (told ps) (bound_arguments (argument_of env) (but_last ps) gs)) (broken (but_last ps)) in
    let all = front ++ last ∷ [] in
    given_parts itself env base place space gs v f ∙ ap done parameters
    ∙ ap (λ l. or_else (option_map (told all) (bound_arguments (argument_of env) l gs)) (broken l)) (but_last_is front last)
    ∙ ap (λ of. or_else (option_map (λ args. property_given (itself of) base n args v of) (bound_arguments (argument_of env) front gs)) (broken front)) (value_type_is front last)

-- the value and the arguments before it are given to a procedure with these parameters
pub given_is : (itself : Declared → Bool) (env : Env) (place : Place) (v : bound.Expr) (gs : List Given) (base : Option bound.Expr) (space : Space) (f : ℕ × Written) (front : List project.Parameter) (last : project.Parameter) (args : bound.Args)
    → parameters_in env.scope space f.1 ≡ front ++ last ∷ [] → bound_arguments (argument_of env) front gs ≡ Some args
    → given_behind itself env base place space gs v f ≡ Some (property_given (itself last.of) base (procedure_number env.scope space f.0) args v last.of)
given_is itself env place v gs base space f front last args parameters given =
    let n = procedure_number env.scope space f.0 in
    let broken : Option Action = option_map (λ es. broken_target 25 place v (behind_base base es)) (untaken env front gs) in
    given_whole itself env place v gs base space f front last parameters ∙ ap (λ o. or_else (option_map (λ args. property_given (itself last.of) base n args v last.of) o) broken) given

-- what a Let of a property is
pub let_whole : (env : Env) (place : Place) (v : bound.Expr) (gs : List Given) (base : Option bound.Expr) (space : Space) (number : ℕ) (w : Written) (f : ℕ × Written) (front : List project.Parameter) (last : project.Parameter)
    → writer env.scope space w ≡ Some f → parameters_in env.scope space f.1 ≡ front ++ last ∷ []
    → assigned env place v gs (routine_term base space number w)
    ≡ or_else (option_map (λ args. property_given (is_object last.of) base (procedure_number env.scope space f.0) args v last.of) (bound_arguments (argument_of env) front gs))
    (option_map (λ es. broken_target 25 place v (behind_base base es)) (untaken env front gs))
let_whole env place v gs base space number w f front last found parameters = written_found env place v gs base space number w f found ∙ given_whole is_object env place v gs base space f front last parameters
