-- Arguments in brackets behind what is declared as of a class.
use Rattle.std.proofs.Common.{◌≡◌, ℕ, zero, suc, ◌==◌, Bool, true, false, ◌&&◌, ◌||◌, not, List, [], ◌∷◌, length, is_some, Option, Some, None, option_map, option_and_then, if◌then◌else◌, refl, sym, ap, subst, ◌∙◌, arith}
use Rattle.std.proofs.lemmas.Bool.{and_parts, eqb-true}
use Rattle.vba_base.specs.declared.place.Place.{Place}
use Rattle.vba_values.specs.Types.{Declared}
use Rattle.vba_values.specs.Types as type
use Rattle.bound_project.specs.declared.declared_type.DeclaredType.{DeclaredType}
use Rattle.bound_project.specs.declared.declared_type.DeclaredType.TheVariants.{Plain}
use Rattle.bound_project.specs.declared.declared_type.ElementType.TheVariants as element_kind
use Rattle.bound_project.specs.declared.node.NodeKind.TheVariants as kinds
use Rattle.bound_project.specs.View.{declared_view}
use Rattle.bound_project.specs.Expressions.{Exprs, Lvalue, also, element_value, no_exprs, value_place}
use Rattle.bound_project.specs.Expressions as bound
use Rattle.bound_project.specs.Pieces.{Piece, Tables, a_place, an_expr, of_value, put}
use Rattle.bound_project.specs.Project.{Declarations, nowhere}
use Rattle.bound_project.specs.Drafts.{Drafted}
use Rattle.bound_members.specs.bound_calls.specs.bound_declarations.specs.constant_values.specs.declared_names.specs.binder.specs.Classes.{class_in}
use Rattle.bound_members.specs.bound_calls.specs.bound_declarations.specs.constant_values.specs.declared_names.specs.binder.specs.Constants.{is_variant}
use Rattle.bound_members.specs.bound_calls.specs.bound_declarations.specs.constant_values.specs.declared_names.specs.binder.specs.Declarations.{Written}
use Rattle.bound_members.specs.bound_calls.specs.bound_declarations.specs.constant_values.specs.declared_names.specs.binder.specs.Options.{or_else}
use Rattle.bound_members.specs.bound_calls.specs.bound_declarations.specs.constant_values.specs.declared_names.specs.binder.specs.Scopes.{Space}
use Rattle.bound_members.specs.bound_calls.specs.bound_declarations.specs.constant_values.specs.declared_names.specs.binder.specs.Signatures.{call_type, parameters_in, reader}
use Rattle.bound_members.specs.bound_calls.specs.bound_declarations.specs.constant_values.specs.declared_names.specs.binder.specs.Types.{is_object}
use Rattle.bound_members.specs.bound_calls.specs.bound_forms.specs.ClassDefaults.{breaks, class_led, declared_in, known}
use Rattle.bound_members.specs.bound_calls.specs.bound_forms.specs.Terms.{Env, Given, a_value, bound_arguments, broken_call, expression_of, given_to, has_names, member_read, read_as, read_of, routine_term, takes, typed_value}
use Rattle.bound_members.specs.bound_calls.specs.bound_forms.specs.Terms as terms
use Rattle.bound_members.specs.bound_calls.specs.bound_forms.specs.Operands.{along_type, are_numbers, are_places, bare_call, behind_base, call_value, called_alone, element_place, fits_bounds, given_as, if_there, is_host_type, is_of_class, is_reference_type, lacking_call, may_be_instance, numbers_of, operand_of, place_told, read_alone, term_or, type_known, typed_reference, with_type}
use Rattle.bound_members.specs.bound_calls.specs.bound_forms.specs.Members.{item_of}
use Rattle.bound_members.specs.bound_calls.specs.bound_forms.specs.ExpressionsBound.{callee, gives_class as given_class, indexed, term_of, wrong_arguments}
use Rattle.bound_members.specs.bound_calls.specs.declared.term.Ending.{Ending}
use Rattle.bound_members.specs.bound_calls.specs.declared.term.Term.{Term}
use Rattle.bound_members.specs.bound_calls.specs.declared.term.Term.TheVariants as term
use Rattle.bound_members.specs.bound_calls.specs.declared.term.Indexed.{Indexed}
use Rattle.bound_members.specs.bound_calls.specs.declared.term.Item.{Item}
use Rattle.bound_members.specs.bound_calls.specs.declared.term.Item.TheVariants as items
use Rattle.bound_members.specs.bound_calls.specs.declared.term.Refuser.TheVariants as refuser
use Rattle.bound_members.specs.bound_calls.specs.declared.term.Target.TheVariants as target
use Rattle.bound_members.specs.bound_calls.specs.declared.term.Tree.{Tree}
use Rattle.bound_members.specs.bound_calls.specs.declared.term.Untaken.{Untaken}
use Rattle.bound_members.specs.bound_calls.specs.Calls.{node_of}
use Rattle.bound_members.specs.bound_calls.specs.class_defaults.specs.Items.{ArePlain}
use Rattle.bound_members.specs.bound_calls.specs.class_defaults.proofs.Passed.{class_is}
use Rattle.bound_members.specs.bound_calls.specs.Indexing.{OpensTerm}
use Rattle.bound_members.specs.bound_calls.specs.Standing.{TermStands, member_is}
use Rattle.bound_members.specs.bound_calls.specs.Taking.{read_kind}
use Rattle.bound_members.specs.bound_calls.proofs.Growing.{grown_pieces, grown_twice}
use Rattle.bound_members.specs.bound_calls.proofs.Taking.{read_ends}
use Rattle.bound_operands.specs.declared.functions.Taking.TheVariants as taking
use Rattle.bound_operands.specs.Functions.{PushesMarked}
use Rattle.bound_operands.specs.Leading.{BeginsLed, Leads, LedIndexed, LedUntaken, PushesLeading, PushesLed, PushesLedPlace, RefusesLed, gives_class}
use Rattle.bound_operands.specs.Indexing.{OpensBehind, begun, whole_of}
use Rattle.bound_operands.proofs.Elements.{HasSome, brackets_given, by_led, indexed_as, indexed_given, no_item_host, opens_whole, same_value}

-- ---- arguments that aren't declared as of a class

abbrev OfNoClass : terms.Term → Type 0
OfNoClass (terms.a_place x of bounds lends makes) = is_of_class of ≡ false
OfNoClass (a_value node of) = is_of_class of ≡ false
OfNoClass t = Unit {0}

-- what a term is as it is, where it stands alone
no_given : (object refers : Bool) (e : bound.Expr) → is_of_class (bound.operand_type e) ≡ false → given_class (or_else (if object then None else Some e) (if refers then Some e else None)) ≡ false
no_given false refers e h = h
no_given true true e h = h
no_given true false e h = refl

read_no_class : (y : terms.Term) (place : Place) → OfNoClass y → given_class (or_else (read_as typed_value y place) (read_as typed_reference y place)) ≡ false
read_no_class (terms.a_place x of bounds lends makes) place h = no_given (is_object of) (is_reference_type of || is_variant of) (expression_of (read_of makes x) place of) h
read_no_class (a_value node of) place h = no_given (is_object of) (is_reference_type of || is_variant of) (expression_of node place of) h
read_no_class y place h = refl

-- what breaks a rule is of a declared type that isn't a class's either
broken_no_class : (rule : ℕ) (place : Place) (of : Declared) (es : Exprs) → is_of_class of ≡ false → OfNoClass (broken_call rule place of es)
broken_no_class rule place of es h = at (is_object of)
  where
    at : (b : Bool) → is_of_class (if b then type.variant else of) ≡ false
    at true = refl
    at false = h

no_class_or : (y z : terms.Term) → OfNoClass y → OfNoClass z → OfNoClass (term_or y z)
no_class_or terms.no_term z h k = k
no_class_or y z h k = h

abbrev no_value : Declared → terms.Term → Place → Option bound.Expr
no_value of t place = None

called_type : (env : Env) (base : Option bound.Expr) (space : Space) (read : ℕ × Written) (o : Option bound.Args) → is_of_class (call_type env.scope space read.1) ≡ false → OfNoClass (call_value env base space read.0 read.1 o)
called_type env base space read None h = tt
called_type env base space read (Some xs) h = h

bare_no_class : (env : Env) (base : Option bound.Expr) (space : Space) (number : ℕ) (w : Written) (read : ℕ × Written) → reader env.scope space number w ≡ Some read → is_of_class (call_type env.scope space read.1) ≡ false
    → OfNoClass (bare_call env base space number w)
bare_no_class env base space number w read reads h =
    let bare : ℕ × Written → terms.Term = λ (f : ℕ × Written). call_value env base space f.0 f.1 (bound_arguments no_value (parameters_in env.scope space f.1) []) in
    let P : Option (ℕ × Written) → Type 0 = λ (o : Option (ℕ × Written)). OfNoClass (if_there (option_map bare o)) in
    subst P (sym reads) (called_type env base space read (bound_arguments no_value (parameters_in env.scope space read.1) []) h)

lacks_plainly : (b : Bool) (place : Place) (of : Declared) (es : Exprs) → is_of_class of ≡ false → OfNoClass (if_there (if b then None else Some (broken_call 25 place of es)))
lacks_plainly true place of es h = tt
lacks_plainly false place of es h = broken_no_class 25 place of es h

lacking_no_class : (env : Env) (base : Option bound.Expr) (space : Space) (number : ℕ) (w : Written) (place : Place) (read : ℕ × Written) → reader env.scope space number w ≡ Some read → is_of_class (call_type env.scope space read.1) ≡ false
    → OfNoClass (lacking_call env place base space number w)
lacking_no_class env base space number w place read reads h =
    let lacking : ℕ × Written → Option terms.Term = λ (f : ℕ × Written).
    if takes (parameters_in env.scope space f.1) [] then None else Some (broken_call 25 place (call_type env.scope space f.1) (behind_base base no_exprs)) in
    let P : Option (ℕ × Written) → Type 0 = λ (o : Option (ℕ × Written)). OfNoClass (if_there (option_and_then lacking o)) in
    subst P (sym reads) (lacks_plainly (takes (parameters_in env.scope space read.1) []) place (call_type env.scope space read.1) (behind_base base no_exprs) h)

called_no_class : (env : Env) (base : Option bound.Expr) (space : Space) (number : ℕ) (w : Written) (place : Place) (read : ℕ × Written) → reader env.scope space number w ≡ Some read → is_of_class (call_type env.scope space read.1) ≡ false
    → OfNoClass (called_alone env place base space number w)
called_no_class env base space number w place read reads h =
    no_class_or (bare_call env base space number w) (lacking_call env place base space number w) (bare_no_class env base space number w read reads h) (lacking_no_class env base space number w place read reads h)

routine_no_class : (env : Env) (base : Option bound.Expr) (space : Space) (number : ℕ) (w : Written) (place : Place) (read : ℕ × Written) → reader env.scope space number w ≡ Some read → is_of_class (call_type env.scope space read.1) ≡ false
    → given_class (given_as env (routine_term base space number w) place) ≡ false
routine_no_class env None space number w place read reads h = read_no_class (called_alone env place None space number w) place (called_no_class env None space number w place read reads h)
routine_no_class env (Some b) space number w place read reads h = read_no_class (called_alone env place (Some b) space number w) place (called_no_class env (Some b) space number w place read reads h)

either_no_class : (b : Bool) (y z : terms.Term) → OfNoClass y → OfNoClass z → OfNoClass (if b then y else z)
either_no_class true y z h k = h
either_no_class false y z h k = k

member_no_class : (env : Env) (e : bound.Expr) (m : terms.HostMember) (place : Place) → is_of_class m.of ≡ false → given_class (given_as env (terms.a_host_member e m) place) ≡ false
member_no_class env e m place h =
    read_no_class (read_alone place e m) place
    (either_no_class (m.least == 0) (a_value (member_read e m) m.of) (broken_call 25 place m.of (also e no_exprs)) h (broken_no_class 25 place m.of (also e no_exprs) h))

pub not_class : (env : Env) (t : Tables) (x : Term) (y : terms.Term) (place : Place) (ps below : List Piece) → gives_class x ≡ false → TermStands env t x y ps below → given_class (given_as env y place) ≡ false
not_class env t (term.Place kind of bounds lends makes) y place ps below g h =
    let P : terms.Term → Type 0 = λ (z : terms.Term). given_class (given_as env z place) ≡ false in
    subst P (sym h.is) (read_no_class (terms.a_place h.at (declared_view of) bounds lends makes) place g)
not_class env t (term.Value e) y place ps below g h =
    let P : terms.Term → Type 0 = λ (z : terms.Term). given_class (given_as env z place) ≡ false in
    subst P (sym h.is) (read_no_class (a_value h.made (declared_view e.of)) place g)
not_class env t (term.Routine r) y place ps below g h =
    let P : terms.Term → Type 0 = λ (z : terms.Term). given_class (given_as env z place) ≡ false in
    let s = h.routine in
    subst P (sym s.is) (routine_no_class env s.base s.space s.number s.written place s.read s.reads (ap is_of_class (sym s.of_is) ∙ g))
not_class env t (term.HostMember m) y place ps below g h =
    let P : terms.Term → Type 0 = λ (z : terms.Term). given_class (given_as env z place) ≡ false in
    subst P (sym h.is) (member_no_class env h.object (member_is t m) place g)
not_class env t (term.SheetMember m) y place ps below g h =
    let P : terms.Term → Type 0 = λ (z : terms.Term). given_class (given_as env z place) ≡ false in
    subst P (sym h.0) (member_no_class env (expression_of bound.active_sheet nowhere type.worksheet) (member_is t m) place g)
not_class env t term.Err y place ps below g h =
    let P : terms.Term → Type 0 = λ (z : terms.Term). given_class (given_as env z place) ≡ false in subst P (sym h.0) refl
not_class env t x y place ps below g h = let e : true ≡ false = g in absurd cc

pub leads_marked : (x : Tree) (d e : Drafted) → gives_class x.term ≡ false → PushesMarked taking.ByDefault x d e → PushesLeading x d e
leads_marked x d e away p = record {
  grown = p.grown;
  stands = λ env tree below h.
      let t = term_of env tree in
      let place = place_told tree in
      let m = p.stands env tree below h in
      let none = not_class env d.tables x.term t place d.pieces below away h.term_is in
      record { made = m.made; is = ap (λ (b : Bool). option_map (given_to type.variant false place) (if b then None else operand_of env t place)) none ∙ m.is; on_top = m.on_top };
}

-- ---- what a class leads to, and which rule is broken behind one

pub led_type : (env : Env) (d : Declarations) (k : ℕ) (of u : Declared) (node : bound.Node) (place : Place) (gs : List Given) → declared_in env.scope ≡ d → of ≡ type.class k → class_led d k gs ≡ known u
    → along_type env (expression_of node place of) gs ≡ Some u
led_type env d k of u node place gs alike is h =
    ap (λ (v : Declared). along_type env (expression_of node place v) gs) is ∙ ap (λ (c : Declarations). type_known (class_led c k gs)) alike ∙ ap type_known h

none_typed : (b : Bool) (o : Option Exprs) (T : Declared → Exprs → terms.Term) → with_type (if b then None else None) o T ≡ terms.no_term
none_typed true o T = refl
none_typed false o T = refl

none_placed : (fits b : Bool) (o : Option Exprs) (T : Declared → Exprs → terms.Term) → (if fits then with_type (if b then None else None) o T else terms.no_term) ≡ terms.no_term
none_placed true b o T = none_typed b o T
none_placed false b o T = refl

value_broken_class : (env : Env) (place : Place) (made : bound.Node) (k : ℕ) (gs : List Given) (rule : ℕ) → class_led (declared_in env.scope) k gs ≡ breaks rule
    → indexed env place (a_value made (type.class k)) gs ≡ wrong_arguments env place rule type.variant (also (expression_of made place (type.class k))) gs
value_broken_class env place made k gs rule h =
    let e = expression_of made place (type.class k) in
    let T : Declared → Exprs → terms.Term = λ (u : Declared) (xs : Exprs). a_value (element_value e xs) u in
    rw h (ap (λ (z : terms.Term). term_or z (wrong_arguments env place rule type.variant (also e) gs)) (none_typed (may_be_instance env e) (numbers_of (operand_of env) gs) T))

value_broken : (env : Env) (d : Declarations) (place : Place) (made : bound.Node) (k : ℕ) (of : Declared) (gs : List Given) (rule : ℕ) → declared_in env.scope ≡ d → of ≡ type.class k → class_led d k gs ≡ breaks rule
    → indexed env place (item_of env place (a_value made of)) gs ≡ wrong_arguments env place rule type.variant (also (expression_of made place of)) gs
value_broken env d place made k of gs rule alike is h =
    let P : Declared → Type 0 = λ (v : Declared). indexed env place (item_of env place (a_value made v)) gs ≡ wrong_arguments env place rule type.variant (also (expression_of made place v)) gs in
    subst P (sym is) (value_broken_class env place made k gs rule (ap (λ (c : Declarations). class_led c k gs) alike ∙ h))

place_broken_class : (env : Env) (place : Place) (at : Lvalue) (bounds : ℕ) (lends makes : Bool) (k : ℕ) (gs : List Given) (rule : ℕ) → class_led (declared_in env.scope) k gs ≡ breaks rule
    → indexed env place (item_of env place (terms.a_place at (type.class k) bounds lends makes)) gs ≡ wrong_arguments env place rule type.variant (also (expression_of (read_of makes at) place (type.class k))) gs
place_broken_class env place at bounds lends makes k gs rule h =
    let e = expression_of (read_of makes at) place (type.class k) in
    let T : Declared → Exprs → terms.Term = λ (u : Declared) (xs : Exprs). terms.a_place (element_place at xs) u 0 lends makes in
    rw h (ap (λ (z : terms.Term). term_or z (wrong_arguments env place rule type.variant (also e) gs)) (none_placed (fits_bounds bounds gs) (may_be_instance env e) (numbers_of (operand_of env) gs) T))

place_broken : (env : Env) (d : Declarations) (place : Place) (at : Lvalue) (bounds : ℕ) (lends makes : Bool) (k : ℕ) (of : Declared) (gs : List Given) (rule : ℕ) → declared_in env.scope ≡ d → of ≡ type.class k → class_led d k gs ≡ breaks rule
    → indexed env place (item_of env place (terms.a_place at of bounds lends makes)) gs ≡ wrong_arguments env place rule type.variant (also (expression_of (read_of makes at) place of)) gs
place_broken env d place at bounds lends makes k of gs rule alike is h =
    let P : Declared → Type 0 = λ (v : Declared). indexed env place (item_of env place (terms.a_place at v bounds lends makes)) gs ≡ wrong_arguments env place rule type.variant (also (expression_of (read_of makes at) place v)) gs in
    subst P (sym is) (place_broken_class env place at bounds lends makes k gs rule (ap (λ (c : Declarations). class_led c k gs) alike ∙ h))

-- ---- numbers of arguments

or_parts : (a b : Bool) → (a || b) ≡ false → (a ≡ false) × (b ≡ false)
or_parts true b h = let e : true ≡ false = h in absurd cc
or_parts false b h = (refl, h)

plain_places : (n : ℕ) (gs : List Given) → are_numbers gs ≡ true → has_names gs ≡ false → length gs ≡ n → ArePlain n gs
plain_places zero [] a b e = tt
plain_places zero (g ∷ gs) a b e = absurd (omega (arith, e))
plain_places (suc n) [] a b e = absurd (omega (arith, e))
plain_places (suc n) (g ∷ []) a b e =
    let none : n ≡ 0 = omega (arith, e) in
    let A : ℕ → Type 0 = λ (m : ℕ). ArePlain m [] in (((or_parts (is_some g.name) false b).0, a), subst A (sym none) tt)
plain_places (suc n) (g ∷ f ∷ gs) a b e =
    let both = and_parts (is_some g.term) (are_numbers (f ∷ gs)) a in
    let neither = or_parts (is_some g.name) (has_names (f ∷ gs)) b in ((neither.0, both.0), plain_places n (f ∷ gs) both.1 neither.1 (omega (arith, e)))

is_no : (b : Bool) → not b ≡ true → b ≡ false
is_no true h = let e : false ≡ true = h in absurd cc
is_no false h = refl

pub places_many : (count : ℕ) (gs : List Given) → (are_places gs && (length gs == count)) ≡ true → ArePlain count gs
places_many count gs h =
    let both = and_parts (are_places gs) (length gs == count) h in
    let parts = and_parts (are_numbers gs) (not (has_names gs)) both.0 in
    plain_places count gs parts.0 (is_no (has_names gs) parts.1) (eqb-true (length gs) count both.1)

abbrev number_or : ℕ → Option ℕ → ℕ
number_or n None = n
number_or n (Some m) = m

pub led_broken : (b : Bool) (one rule : ℕ) → (if b then Some one else None) ≡ Some rule → (b ≡ true) × (one ≡ rule)
led_broken true one rule h = (refl, ap (λ (o : Option ℕ). number_or rule o) h)
led_broken false one rule h = let e : ◌≡◌ {A = Option ℕ} None (Some rule) = h in absurd cc

-- ---- arguments begin behind a value of a class

-- numbers are some
some_places : (b : Bool) (gs : List Given) (same : Bool) → (are_places gs && same) ≡ true → HasSome b gs
some_places true [] same h = let e : false ≡ true = h in absurd cc
some_places true (g ∷ gs) same h = tt
some_places false gs same h = tt

value_led : (b : Bool) (env : Env) (d : Declarations) → declared_in env.scope ≡ d → (x : Tree) (v : Ending) (k count : ℕ) (e f : Drafted) (j : Indexed) → PushesLed d k count v x.place e f (items.Indexed j) → OpensBehind b env x (term.Value v) e f (items.Indexed j)
value_led b env d alike x v k count e f j p =
    let l : LedIndexed d k count x.place j = p.leads in
    let u = declared_view v.of in
    let of_is : u ≡ type.class k = class_is u k p.of_is in
    let Q : Indexed → Type 0 = λ (z : Indexed). OpensBehind b env x (term.Value v) e f (items.Indexed z) in
    subst Q (sym l.is) (opens_whole b env x (term.Value v) (whole_of x.place (target.ValueLed count) j.of) e f p.grown refl (λ tree below z at before h.
    let place = place_told tree in
    let callee_is = callee env tree (term_of env tree) in
    let same : item_of env place z ≡ a_value h.made u = ap (λ (y : terms.Term). item_of env place y) h.is ∙ same_value env place h.made u (no_item_host env h.made place u (ap is_host_type of_is)) in
    record {
      whole = expression_of h.made place u;
      is = λ gs es plain along.
          by_led env place callee_is h.made u gs (declared_view j.of) es (indexed_given b env place callee_is z h.made u before same) (led_type env d k u (declared_view j.of) h.made place gs alike of_is (l.leads gs plain)) along;
      on_top = p.stands h.made below h.ends ∙ ap (λ (q : Place). an_expr (expression_of h.made q u) ∷ below) at;
    }))

value_untaken : (b : Bool) (env : Env) (d : Declarations) → declared_in env.scope ≡ d → (x : Tree) (v : Ending) (k count : ℕ) (e f : Drafted) (j : Untaken) → PushesLed d k count v x.place e f (items.Untaken j) → OpensBehind b env x (term.Value v) e f (items.Untaken j)
value_untaken b env d alike x v k count e f j p =
    let l : LedUntaken d k count x.place j = p.leads in
    let u = declared_view v.of in
    let of_is : u ≡ type.class k = class_is u k p.of_is in
    let Q : Untaken → Type 0 = λ (z : Untaken). OpensBehind b env x (term.Value v) e f (items.Untaken z) in
    subst Q (sym l.is) (record {
      grown = p.grown;
      named = tt;
      stands = λ tree others is below base z at before h s.
          let place = place_told tree in
          let whole = expression_of h.made place u in (
            below,
            (
              record {
                place_is = at;
                before = whole ∷ [];
                before_long = refl;
                wrong = λ gs rule w.
                    let broken = led_broken (are_places gs && (length gs == count)) l.rule rule w in
                    brackets_given b env place (callee env tree (term_of env tree)) z gs before (some_places b gs (length gs == count) broken.0)
                    ∙ ap (λ (y : terms.Term). indexed env place (item_of env place y) gs) h.is ∙ value_broken env d place h.made k u gs l.rule alike of_is (l.breaks_it gs (places_many count gs broken.0))
                    ∙ ap (λ (n : ℕ). wrong_arguments env place n type.variant (also whole) gs) broken.1;
                on_top = p.stands h.made below h.ends ∙ ap (λ (q : Place). an_expr (expression_of h.made q u) ∷ below) at;
              },
              s,
            ),
          );
    })

pub opens_led_value : (b : Bool) (env : Env) (d : Declarations) → declared_in env.scope ≡ d → (x : Tree) (v : Ending) (k count : ℕ) (e f : Drafted) (i : Item) → PushesLed d k count v x.place e f i → OpensBehind b env x (term.Value v) e f i
opens_led_value b env d alike x v k count e f (items.Indexed j) p = value_led b env d alike x v k count e f j p
opens_led_value b env d alike x v k count e f (items.Untaken j) p = value_untaken b env d alike x v k count e f j p
opens_led_value b env d alike x v k count e f i p = absurd p.leads

pub pushes_led : (d : Declarations) (k count : ℕ) (v : Ending) (place : Place) (e f : Drafted) (i : Item) → class_in (declared_view v.of) ≡ Some k → f ≡ record e { pieces = put e.tables (node_of v.kind place v.of) e.pieces } → Leads d k count place i
    → PushesLed d k count v place e f i
pushes_led d k count v place e f i of_is eq l =
    let P : Drafted → Type 0 = λ (z : Drafted). PushesLed d k count v place e z i in
    subst P (sym eq) (record { grown = grown_pieces e (put e.tables (node_of v.kind place v.of) e.pieces); leads = l; of_is = of_is; stands = λ made below ends. ends (node_of v.kind place v.of) })

-- a value of a class that is assigned to
pub pushes_led_place : (d : Declarations) (k count : ℕ) (v : Ending) (of : DeclaredType) (place : Place) (e b f : Drafted) → class_in (declared_view v.of) ≡ Some k → ((gs : List Given) → ArePlain count gs → class_led d k gs ≡ known (declared_view of))
    → b ≡ record e { pieces = put e.tables (node_of v.kind place v.of) e.pieces } → f ≡ record b { pieces = put b.tables (node_of kinds.PlaceOf place (Plain element_kind.Variant)) b.pieces }
    → PushesLedPlace d count v place e f (whole_of place (target.LedAsPlace count) of)
pushes_led_place d k count v of place e b f class leads one two =
    let x : Indexed = whole_of place (target.LedAsPlace count) of in
    let u = declared_view v.of in
    let of_is : u ≡ type.class k = class_is u k class in
    let n = node_of v.kind place v.of in
    let m = node_of kinds.PlaceOf place (Plain element_kind.Variant) in
    let b1 : Drafted = record e { pieces = put e.tables n e.pieces } in
    let f1 : Drafted = record b1 { pieces = put b1.tables m b1.pieces } in
    let both : f ≡ f1 = two ∙ ap (λ (z : Drafted). record z { pieces = put z.tables m z.pieces }) one in
    let P : Drafted → Type 0 = λ (z : Drafted). PushesLedPlace d count v place e z x in
    subst P (sym both) (record {
      grown = grown_twice e b1 f1 (grown_pieces e b1.pieces) (grown_pieces b1 f1.pieces);
      is = refl;
      stands = λ env alike tree below at h.
          let told = place_told tree in
          let z = callee env tree (term_of env tree) in
          let same : item_of env told z ≡ a_value h.made u = ap (λ (y : terms.Term). item_of env told y) h.is ∙ same_value env told h.made u (no_item_host env h.made told u (ap is_host_type of_is)) in
          record {
            between = f1.pieces;
            target_is = record {
              whole = expression_of h.made told u;
              is = λ gs es plain along. by_led env told z h.made u gs (declared_view of) es (indexed_as env told z h.made u same) (led_type env d k u (declared_view of) h.made told gs alike of_is (leads gs plain)) along;
              on_top = ap (λ (st : List Piece). of_value (λ (y : bound.Expr). a_place (value_place y)) st) (h.ends n) ∙ ap (λ (q : Place). a_place (value_place (expression_of h.made q u)) ∷ below) at;
            };
            place_is = at;
            made = [];
            numbers = tt;
            count_is = refl;
            on_top = refl;
          };
    })

-- ---- and behind a place

pub opens_led_place : (env : Env) (d : Declarations) → declared_in env.scope ≡ d → (x : Tree) (at : Ending) (bounds : ℕ) (lends makes : Bool) (k count : ℕ) (of : DeclaredType) (e f : Drafted) → class_in (declared_view at.of) ≡ Some k
    → (j : Indexed) → BeginsLed at x.place lends makes count of e f j → ((gs : List Given) → ArePlain count gs → class_led d k gs ≡ known (declared_view of))
    → OpensTerm env x (term.Place at.kind at.of bounds lends makes) e f (items.Indexed j)
opens_led_place env d alike x at bounds lends makes k count of e f class j b leads =
    let n = node_of at.kind x.place at.of in
    let ps = put e.tables n e.pieces in
    let u = declared_view at.of in
    let of_is : u ≡ type.class k = class_is u k class in
    let I : Indexed → Type 0 = λ (z : Indexed). OpensTerm env x (term.Place at.kind at.of bounds lends makes) e f (items.Indexed z) in
    let P : Drafted → Type 0 = λ (z : Drafted). OpensTerm env x (term.Place at.kind at.of bounds lends makes) e z (items.Indexed (begun x.place (target.PlaceLed count) of lends makes 0)) in
    subst I (sym b.is) (subst P (sym b.pushed) (record {
      grown = grown_pieces e ps;
      named = tt;
      stands = λ tree others is' below base told h s. (
        below,
        (
          record {
            between = ps;
            target_is = record {
              at = h.at;
              whole = u;
              bounds = bounds;
              is = h.is;
              no_host = ap is_host_type of_is;
              leads = λ gs plain. led_type env d k u (declared_view of) (read_of makes h.at) (place_told tree) gs alike of_is (leads gs plain);
              on_top = h.ends n;
            };
            place_is = told;
            made = [];
            numbers = tt;
            count_is = refl;
            on_top = refl;
          },
          s,
        ),
      );
    }))

pub opens_broken_place : (env : Env) (d : Declarations) → declared_in env.scope ≡ d → (x : Tree) (at : Ending) (bounds : ℕ) (lends makes : Bool) (k count one : ℕ) (e f : Drafted) → class_in (declared_view at.of) ≡ Some k → (j : Untaken) → RefusesLed at makes x.place one count e f j
    → ((gs : List Given) → ArePlain count gs → class_led d k gs ≡ breaks one) → OpensTerm env x (term.Place at.kind at.of bounds lends makes) e f (items.Untaken j)
opens_broken_place env d alike x at bounds lends makes k count one e f class j pushed breaks_it =
    let u = declared_view at.of in
    let of_is : u ≡ type.class k = class_is u k class in
    let y = term.Place at.kind at.of bounds lends makes in
    let i = items.Untaken (record { place = x.place; refuser = refuser.Led one count }) in
    let n = node_of at.kind x.place at.of in
    let l = node_of (read_kind makes) x.place at.of in
    let between : Drafted = record e { pieces = put e.tables n e.pieces } in
    let after : Drafted = record between { pieces = put between.tables l between.pieces } in
    let same : f ≡ after = pushed.second ∙ ap (λ (z : Drafted). record z { pieces = put z.tables l z.pieces }) pushed.first in
    let J : Untaken → Type 0 = λ (z : Untaken). OpensTerm env x y e f (items.Untaken z) in
    let P : Drafted → Type 0 = λ (z : Drafted). OpensTerm env x y e z i in
    subst J (sym pushed.is) (subst P (sym same) (record {
      grown = grown_twice e between after (grown_pieces e (put e.tables n e.pieces)) (grown_pieces between (put between.tables l between.pieces));
      named = tt;
      stands = λ tree others is' below base told h s.
          let place = place_told tree in
          let whole = expression_of (read_of makes h.at) place u in (
            below,
            (
              record {
                place_is = told;
                before = whole ∷ [];
                before_long = refl;
                wrong = λ gs rule w.
                    let b = led_broken (are_places gs && (length gs == count)) one rule w in
                    ap (λ (z : terms.Term). indexed env place (item_of env place z) gs) h.is ∙ place_broken env d place h.at bounds lends makes k u gs one alike of_is (breaks_it gs (places_many count gs b.0))
                    ∙ ap (λ (m : ℕ). wrong_arguments env place m type.variant (also whole) gs) b.1;
                on_top = read_ends makes e.tables h.at between.pieces below (h.ends n) l ∙ ap (λ (q : Place). an_expr (expression_of (read_of makes h.at) q u) ∷ below) told;
              },
              s,
            ),
          );
    }))
