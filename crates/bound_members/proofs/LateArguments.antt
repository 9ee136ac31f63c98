-- Arguments of late-bound members that were pushed.
use Rattle.std.proofs.lemmas.List.{map-append}
use Rattle.std.proofs.Common.{◌≡◌, ℕ, zero, suc, ◌+◌, ◌==◌, not, Bool, true, false, List, [], ◌∷◌, ◌++◌, map, length, Option, Some, None, if◌then◌else◌, refl, sym, ap, ◌∙◌, arith, length-append}
use Rattle.std.specs.Prelude.{option_and_then, option_map, slice_get}
use Rattle.vba_base.specs.declared.place.Place.{Place}
use Rattle.vba_values.specs.Types as type
use Rattle.vba_expression.specs.Tree.{Expr}
use Rattle.bound_project.specs.declared.node.LateName.{LateName}
use Rattle.bound_project.specs.declared.node.LateUse.{LateUse}
use Rattle.bound_project.specs.Expressions.{Lvalue, expr_given, place_given}
use Rattle.bound_project.specs.Expressions as bound
use Rattle.bound_project.specs.Lists.{above, given_of, given_pieces}
use Rattle.bound_project.proofs.Lists.{above_push}
use Rattle.bound_project.specs.Pieces.{GivenArgument, Piece, Sought, Tables, a_given, a_late, flags, is_there, order_in, place_there, sought_in, value_there, which_there, with_given}
use Rattle.bound_calls.specs.bound_forms.specs.Terms.{Env, Given, a_place, is_user_type}
use Rattle.bound_calls.specs.bound_forms.specs.Terms as terms
use Rattle.bound_calls.specs.bound_forms.specs.Operands.{argument_of, place_told}
use Rattle.bound_calls.specs.bound_forms.specs.ExpressionsBound.{late_argument, late_arguments, term_of}
use Rattle.bound_calls.specs.declared.term.MemberCall.{MemberCall}
use Rattle.bound_calls.specs.Standing.{AllLate, LateIs, LateStands, argument_there, missing_given, missing_value}
use Rattle.bound_calls.proofs.Arguing.{lends}
use Rattle.bound_members.specs.Late.{flag_told}
use Rattle.bound_members.specs.MemberCalls.{given_as_named}

-- ---- what the list of arguments says

then_given : (f : bound.Given → Option bound.Given) (a : GivenArgument) (o : Option bound.Given) → ((rest : bound.Given) → f rest ≡ Some (with_given a rest)) → option_and_then f o ≡ option_map (with_given a) o
then_given f a None h = refl
then_given f a (Some rest) h = h rest

pub late_is_given : (env : Env) (tree : Expr) (name : Option (List ℕ)) (a : GivenArgument) → ((rest : bound.Given) → late_argument env (term_of env tree) (place_told tree) rest ≡ Some (with_given a rest))
    → LateIs env (given_as_named env name tree) a
late_is_given env tree name a h = record { is = λ gs. then_given (λ rest. late_argument env (term_of env tree) (place_told tree) rest) a (late_arguments env gs) h }

pub late_is_missing : (env : Env) → LateIs env missing_given (value_there missing_value)
late_is_missing env = record { is = λ gs. then_given (λ rest. Some (expr_given missing_value rest)) (value_there missing_value) (late_arguments env gs) (λ rest. refl) }

-- a place is given, and a value
pub place_is_given : (env : Env) (y : terms.Term) (at : Lvalue) (of : type.Declared) (bounds : ℕ) (makes : Bool) (place : Place) (rest : bound.Given) → y ≡ a_place at of bounds true makes → is_user_type of ≡ false
    → late_argument env y place rest ≡ Some (place_given at rest)
place_is_given env y at of bounds makes place rest is plain =
    let marked : Option bound.Given = option_map (λ (e : bound.Expr). expr_given e rest) (argument_of env type.variant (a_place at of bounds true makes) place) in
    ap (λ (z : terms.Term). late_argument env z place rest) is ∙ ap (λ (b : Bool). if b then marked else Some (place_given at rest)) plain

pub marked_is_given : (env : Env) (y : terms.Term) (at : Lvalue) (of : type.Declared) (bounds : ℕ) (makes : Bool) (place : Place) (rest : bound.Given) → y ≡ a_place at of bounds true makes → is_user_type of ≡ true
    → late_argument env y place rest ≡ option_map (λ (e : bound.Expr). expr_given e rest) (argument_of env type.variant y place)
marked_is_given env y at of bounds makes place rest is user =
    let marked : terms.Term → Option bound.Given = λ z. option_map (λ (e : bound.Expr). expr_given e rest) (argument_of env type.variant z place) in
    ap (λ (z : terms.Term). late_argument env z place rest) is ∙ ap (λ (b : Bool). if b then marked (a_place at of bounds true makes) else Some (place_given at rest)) user ∙ ap marked (sym is)

pub value_is_given : (env : Env) (y : terms.Term) (place : Place) (rest : bound.Given) → lends y ≡ false → late_argument env y place rest ≡ option_map (λ (e : bound.Expr). expr_given e rest) (argument_of env type.variant y place)
value_is_given env (a_place at of bounds true makes) place rest h = let e : true ≡ false = h in absurd cc
value_is_given env y place rest h = refl

pub all_late : (env : Env) (gs : List Given) (args : List GivenArgument) → AllLate env gs args → late_arguments env gs ≡ Some (given_of args)
all_late env [] [] h = refl
all_late env [] (a ∷ args) h = absurd h
all_late env (g ∷ gs) [] h = absurd h
all_late env (g ∷ gs) (a ∷ args) h = h.0.is gs ∙ ap (λ (o : Option bound.Given). option_map (with_given a) o) (all_late env gs args h.1)

pub late_long : (env : Env) (gs : List Given) (args : List GivenArgument) → AllLate env gs args → length gs ≡ length args
late_long env [] [] h = refl
late_long env [] (a ∷ args) h = absurd h
late_long env (g ∷ gs) [] h = absurd h
late_long env (g ∷ gs) (a ∷ args) h = omega (arith, late_long env gs args h.1)

late_more : (env : Env) (gs : List Given) (args : List GivenArgument) (g : Given) (a : GivenArgument) → AllLate env gs args → LateIs env g a → AllLate env (gs ++ g ∷ []) (args ++ a ∷ [])
late_more env [] [] g a h k = (k, tt)
late_more env [] (b ∷ args) g a h k = absurd h
late_more env (f ∷ gs) [] g a h k = absurd h
late_more env (f ∷ gs) (b ∷ args) g a h k = (h.0, late_more env gs args g a h.1 k)

-- ---- which arguments are written

pub which_are : (args : List GivenArgument) → which_there (given_of args) ≡ map argument_there args
which_are [] = refl
which_are (place_there x ∷ args) = ap (λ (l : List Bool). true ∷ l) (which_are args)
which_are (value_there e ∷ args) = ap (λ (l : List Bool). is_there e ∷ l) (which_are args)

flags_more : (n : ℕ) (ks : List ℕ) → flags (suc n) ks ≡ flags n ks ++ flag_told (slice_get ks n) ∷ []
flags_more zero [] = refl
flags_more zero (k ∷ ks) = refl
flags_more (suc n) [] = ap (λ (l : List Bool). true ∷ l) (flags_more n [])
flags_more (suc n) (k ∷ ks) = ap (λ (l : List Bool). not (k == 0) ∷ l) (flags_more n ks)

-- ---- the pieces

pieces_more : (s : Sought) (i : ℕ) (args : List GivenArgument) (a : GivenArgument) → given_pieces s i (args ++ a ∷ []) ≡ given_pieces s i args ++ a_given a s (i + length args) ∷ []
pieces_more s i [] a = let e : i ≡ i + 0 = omega arith in ap (λ (k : ℕ). a_given a s k ∷ []) e
pieces_more s i (b ∷ args) a =
    let e : suc i + length args ≡ i + suc (length args) = omega arith in
    ap (λ (l : List Piece). a_given b s i ∷ l) (pieces_more s (suc i) args a ∙ ap (λ (k : ℕ). given_pieces s (suc i) args ++ a_given a s k ∷ []) e)

-- one more argument was pushed
pub late_pushed : (env : Env) (t : Tables) (x : MemberCall) (aim : LateUse) (found : LateName) (count written named : ℕ) → count ≡ x.count + 1 → (object : bound.Expr) (gs : List Given) (g : Given) (a : GivenArgument) (ps qs below : List Piece)
    → LateStands env t x aim found object gs ps below → LateIs env g a → argument_there a ≡ flag_told (slice_get (order_in t found.given) x.count) → qs ≡ a_given a (sought_in t aim found) x.count ∷ ps
    → LateStands env t (record x { count = count; written = written; named = named }) aim found object (gs ++ g ∷ []) qs below
late_pushed env t x aim found count written named c object gs g a ps qs below s is told top =
    let q = sought_in t aim found in
    let ks = order_in t found.given in
    let n = length s.made in
    let low = a_late object q ∷ below in
    let more : suc n ≡ length (s.made ++ a ∷ []) = omega (arith, length-append s.made (a ∷ [])) in
    let last : n ≡ 0 + n = omega arith in
    let flag : argument_there a ≡ flag_told (slice_get ks n) = told ∙ ap (λ (k : ℕ). flag_told (slice_get ks k)) s.count_is in
    record {
      made = s.made ++ a ∷ [];
      arguments = late_more env gs s.made g a s.arguments is;
      given_are = map-append argument_there s.made (a ∷ []) ∙ ap (λ (l : List Bool). l ++ argument_there a ∷ []) s.given_are ∙ ap (λ (b : Bool). flags n ks ++ b ∷ []) flag ∙ sym (flags_more n ks) ∙ ap (λ (k : ℕ). flags k ks) more;
      name_is = s.name_is;
      count_is = omega (arith, c, s.count_is, more);
      on_top = top ∙ ap (λ (k : ℕ). a_given a q k ∷ ps) s.count_is ∙ ap (λ (l : List Piece). a_given a q n ∷ l) s.on_top ∙ sym (above_push (given_pieces q 0 s.made) (a_given a q n) low)
          ∙ ap (λ (k : ℕ). above (given_pieces q 0 s.made ++ a_given a q k ∷ []) low) last ∙ ap (λ (l : List Piece). above l low) (sym (pieces_more q 0 s.made a));
    }
