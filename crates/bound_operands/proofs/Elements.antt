-- What numbers and other arguments in brackets make of places and values.
use Rattle.std.proofs.Common.{◌≡◌, ℕ, zero, suc, ◌<◌, ◌==◌, Bool, true, false, ◌&&◌, ◌||◌, not, List, [], ◌∷◌, length, Option, Some, None, is_some, if◌then◌else◌, refl, sym, ap, subst, ◌∙◌, arith, ne_eqb}
use Rattle.std.proofs.lemmas.Bool.{and_right}
use Rattle.std.specs.Prelude.{codes}
use Rattle.vba_base.specs.declared.place.Place.{Place}
use Rattle.vba_expression.specs.Tree.{Expr}
use Rattle.vba_values.specs.Types.{Declared}
use Rattle.vba_values.specs.Types as type
use Rattle.bound_project.specs.declared.declared_type.DeclaredType.{DeclaredType}
use Rattle.bound_project.specs.declared.declared_type.DeclaredType.TheVariants.{Plain}
use Rattle.bound_project.specs.declared.declared_type.ElementType.TheVariants as element_kind
use Rattle.bound_project.specs.declared.variable.Variable.{Variable}
use Rattle.bound_project.specs.declared.node.NodeKind.{NodeKind}
use Rattle.bound_project.specs.declared.node.NodeKind.TheVariants as kinds
use Rattle.bound_project.specs.declared.node.Node.{Node}
use Rattle.bound_project.specs.View.{declared_view, variable_view}
use Rattle.bound_project.specs.Expressions.{Exprs, no_exprs, Lvalue, as_new, item, element, element_along, element_value, field, kept_place, late_item, object_field, value_place}
use Rattle.bound_project.specs.Expressions as bound
use Rattle.bound_project.specs.Lists.{exprs_of}
use Rattle.bound_project.specs.Pieces.{Piece, Tables, an_expr, a_place, exprs_off, of_place, of_found, of_place_found, of_value, put_kind, put, nothing}
use Rattle.bound_project.specs.Drafts.{Drafted}
use Rattle.bound_members.specs.bound_calls.specs.bound_forms.specs.Terms.{Env, Given, a_value, expression_of, has_names, listed_values, read_of}
use Rattle.bound_members.specs.bound_calls.specs.bound_forms.specs.Terms as terms
use Rattle.bound_members.specs.bound_calls.specs.bound_forms.specs.Operands.{along_of, along_type, are_numbers, element_place, element_type, fits_bounds, indexed_type, indexed_value, is_found_late, is_host_type, is_of_class, may_be_instance, numbers_of, operand_of, place_told, term_or}
use Rattle.bound_members.specs.bound_calls.specs.bound_forms.specs.Members.{has_item_member, item_of, object_member}
use Rattle.bound_members.specs.bound_calls.specs.bound_forms.specs.ExpressionsBound.{along_value, callee, indexed, term_of, wrong_term}
use Rattle.bound_members.specs.bound_calls.specs.declared.term.Ending.{Ending}
use Rattle.bound_members.specs.bound_calls.specs.declared.term.Routine.{Routine}
use Rattle.bound_members.specs.bound_calls.specs.declared.term.Term.{Term}
use Rattle.bound_members.specs.bound_calls.specs.declared.term.Term.TheVariants as term
use Rattle.bound_members.specs.bound_calls.specs.declared.term.Tree.{Tree}
use Rattle.bound_members.specs.bound_calls.specs.declared.term.Target.{Target}
use Rattle.bound_members.specs.bound_calls.specs.declared.term.Target.TheVariants as target
use Rattle.bound_members.specs.bound_calls.specs.declared.term.Indexed.{Indexed}
use Rattle.bound_members.specs.bound_calls.specs.declared.term.Item.{Item}
use Rattle.bound_members.specs.bound_calls.specs.declared.term.Item.TheVariants as items
use Rattle.bound_members.specs.bound_calls.specs.Calls.{node_of, PushesReceiver}
use Rattle.bound_members.specs.bound_calls.specs.Standing.{AllListed, AllNumbers, Grown, NumbersStand, TargetStands, TermStands, ValueEnds, along_given}
use Rattle.bound_members.specs.bound_calls.specs.bound_forms.specs.Targets.{value_before}
use Rattle.bound_members.specs.bound_calls.proofs.Before.{indexed_before}
use Rattle.bound_operands.specs.declared.indexing.WholePlace.{WholePlace}
use Rattle.bound_operands.specs.Indexing.{HasElements, HowIndexed, IsBefore, OpensBehind, PushesAlong, PushesAsPlace, PushesWhole, begun, fits_count, is_along, is_led, place_term, read_ending, whole_of}
use Rattle.bound_members.specs.bound_calls.specs.References.{IsFoundLate}
use Rattle.bound_members.specs.bound_calls.specs.Indexing.{TargetAt, PushesTarget, OpensTerm, is_part}
use Rattle.bound_members.proofs.Listing.{all_listed, every_listed, listed_nameless, no_names, numbers_listed}
use Rattle.bound_members.proofs.LateItems.{no_item_late}
use Rattle.bound_members.specs.bound_calls.proofs.Growing.{grown_same, grown_pieces, grown_twice}
use Rattle.bound_members.specs.bound_calls.specs.bound_declarations.specs.constant_values.specs.declared_names.specs.binder.specs.Classes.{has_class}
use Rattle.bound_members.specs.bound_calls.proofs.Taking.{read_ends}

-- ---- numbers

all_numbers : (value : terms.Term → Place → Option bound.Expr) (g : Given) (gs : List Given) (e : bound.Expr) (es : List bound.Expr) → AllNumbers value (g ∷ gs) (e ∷ es) → are_numbers (g ∷ gs) ≡ true
all_numbers value g [] e es h = ap (λ (o : Option terms.Term). is_some o) h.0.given
all_numbers value g (other ∷ gs) e [] h = absurd h.1
all_numbers value g (other ∷ gs) e (f ∷ es) h =
    ap (λ (o : Option terms.Term). is_some o && are_numbers (other ∷ gs)) h.0.given ∙ all_numbers value other gs f es h.1

pub numbers_are : (value : terms.Term → Place → Option bound.Expr) (gs : List Given) (es : List bound.Expr) → AllNumbers value gs es → 0 < length es → numbers_of value gs ≡ Some (exprs_of es)
numbers_are value gs [] h lt = absurd (omega (arith, lt))
numbers_are value [] (e ∷ es) h lt = absurd h
numbers_are value (g ∷ gs) (e ∷ es) h lt =
    ap (λ (b : Bool). if b && not (has_names (g ∷ gs)) then listed_values value (g ∷ gs) else None) (all_numbers value g gs e es h)
    ∙ ap (λ (b : Bool). if not b then listed_values value (g ∷ gs) else None) (no_names value (g ∷ gs) (e ∷ es) h) ∙ all_listed value (g ∷ gs) (e ∷ es) h

-- as many as an array is declared with bounds
pub numbers_long : (value : terms.Term → Place → Option bound.Expr) (gs : List Given) (es : List bound.Expr) → AllNumbers value gs es → length gs ≡ length es
numbers_long value [] [] h = refl
numbers_long value [] (e ∷ es) h = absurd h
numbers_long value (g ∷ gs) [] h = absurd h
numbers_long value (g ∷ gs) (e ∷ es) h = omega (arith, numbers_long value gs es h.1)

pub fits_given : (bounds : ℕ) (gs : List Given) → fits_count bounds (length gs) ≡ fits_bounds bounds gs
fits_given zero gs = refl
fits_given (suc n) gs = ap (λ (b : Bool). b || (length gs == suc n)) (ne_eqb (suc n) 0 (λ (e : suc n ≡ 0). omega (arith, e)))

pub fits_numbers : (value : terms.Term → Place → Option bound.Expr) (bounds count : ℕ) (gs : List Given) (es : List bound.Expr) → fits_count bounds count ≡ true → count ≡ length es → AllNumbers value gs es → fits_bounds bounds gs ≡ true
fits_numbers value bounds count gs es h c k = sym (fits_given bounds gs) ∙ ap (fits_count bounds) (numbers_long value gs es k ∙ sym c) ∙ h

-- arguments that lead on as the run says
pub along_are : (env : Env) (gs : List Given) (es : List bound.Expr) → AllListed (along_given env) gs es → 0 < length es → along_of (along_value env) gs ≡ Some (exprs_of es)
along_are env gs [] h lt = absurd (omega (arith, lt))
along_are env [] (e ∷ es) h lt = absurd h
along_are env (g ∷ gs) (e ∷ es) h lt =
    ap (λ (b : Bool). if b then None else listed_values (along_given env) (g ∷ gs)) (listed_nameless (along_given env) (g ∷ gs) (e ∷ es) h) ∙ every_listed (along_given env) (g ∷ gs) (e ∷ es) h

-- and behind an object of a class, where they are all written
pub led_are : (env : Env) (gs : List Given) (es : List bound.Expr) → AllNumbers (along_given env) gs es → 0 < length es → along_of (along_value env) gs ≡ Some (exprs_of es)
led_are env gs es h lt = along_are env gs es (numbers_listed (along_given env) gs es h) lt

-- what was pushed for arguments, by what is indexed
pub none_pushed : (env : Env) (x : Target) → NumbersStand env x [] []
none_pushed env (target.Variable v) = tt
none_pushed env target.Place = tt
none_pushed env target.Value = tt
none_pushed env target.PlaceAlong = tt
none_pushed env target.ValueAlong = tt
none_pushed env target.ValueAsPlace = tt
none_pushed env (target.PlaceLed count) = tt
none_pushed env (target.ValueLed count) = tt
none_pushed env (target.LedAsPlace count) = tt

pub as_numbers : (env : Env) (x : Target) (gs : List Given) (es : List bound.Expr) → is_along x ≡ false → is_led x ≡ false → NumbersStand env x gs es → AllNumbers (operand_of env) gs es
as_numbers env (target.Variable v) gs es n m h = h
as_numbers env target.Place gs es n m h = h
as_numbers env target.Value gs es n m h = h
as_numbers env target.PlaceAlong gs es n m h = let e : true ≡ false = n in absurd cc
as_numbers env target.ValueAlong gs es n m h = let e : true ≡ false = n in absurd cc
as_numbers env target.ValueAsPlace gs es n m h = let e : true ≡ false = n in absurd cc
as_numbers env (target.PlaceLed count) gs es n m h = let e : true ≡ false = m in absurd cc
as_numbers env (target.ValueLed count) gs es n m h = let e : true ≡ false = m in absurd cc
as_numbers env (target.LedAsPlace count) gs es n m h = let e : true ≡ false = m in absurd cc

pub from_numbers : (env : Env) (x : Target) (gs : List Given) (es : List bound.Expr) → is_along x ≡ false → is_led x ≡ false → AllNumbers (operand_of env) gs es → NumbersStand env x gs es
from_numbers env (target.Variable v) gs es n m h = h
from_numbers env target.Place gs es n m h = h
from_numbers env target.Value gs es n m h = h
from_numbers env target.PlaceAlong gs es n m h = let e : true ≡ false = n in absurd cc
from_numbers env target.ValueAlong gs es n m h = let e : true ≡ false = n in absurd cc
from_numbers env target.ValueAsPlace gs es n m h = let e : true ≡ false = n in absurd cc
from_numbers env (target.PlaceLed count) gs es n m h = let e : true ≡ false = m in absurd cc
from_numbers env (target.ValueLed count) gs es n m h = let e : true ≡ false = m in absurd cc
from_numbers env (target.LedAsPlace count) gs es n m h = let e : true ≡ false = m in absurd cc

pub as_listed : (env : Env) (x : Target) (gs : List Given) (es : List bound.Expr) → is_along x ≡ true → NumbersStand env x gs es → AllListed (along_given env) gs es
as_listed env (target.Variable v) gs es n h = let e : false ≡ true = n in absurd cc
as_listed env target.Place gs es n h = let e : false ≡ true = n in absurd cc
as_listed env target.Value gs es n h = let e : false ≡ true = n in absurd cc
as_listed env target.PlaceAlong gs es n h = h
as_listed env target.ValueAlong gs es n h = h
as_listed env target.ValueAsPlace gs es n h = h
as_listed env (target.PlaceLed count) gs es n h = let e : false ≡ true = n in absurd cc
as_listed env (target.ValueLed count) gs es n h = let e : false ≡ true = n in absurd cc
as_listed env (target.LedAsPlace count) gs es n h = let e : false ≡ true = n in absurd cc

pub from_listed : (env : Env) (x : Target) (gs : List Given) (es : List bound.Expr) → is_along x ≡ true → AllListed (along_given env) gs es → NumbersStand env x gs es
from_listed env (target.Variable v) gs es n h = let e : false ≡ true = n in absurd cc
from_listed env target.Place gs es n h = let e : false ≡ true = n in absurd cc
from_listed env target.Value gs es n h = let e : false ≡ true = n in absurd cc
from_listed env target.PlaceAlong gs es n h = h
from_listed env target.ValueAlong gs es n h = h
from_listed env target.ValueAsPlace gs es n h = h
from_listed env (target.PlaceLed count) gs es n h = let e : false ≡ true = n in absurd cc
from_listed env (target.ValueLed count) gs es n h = let e : false ≡ true = n in absurd cc
from_listed env (target.LedAsPlace count) gs es n h = let e : false ≡ true = n in absurd cc

pub as_led : (env : Env) (x : Target) (gs : List Given) (es : List bound.Expr) → is_led x ≡ true → NumbersStand env x gs es → AllNumbers (along_given env) gs es
as_led env (target.Variable v) gs es n h = let e : false ≡ true = n in absurd cc
as_led env target.Place gs es n h = let e : false ≡ true = n in absurd cc
as_led env target.Value gs es n h = let e : false ≡ true = n in absurd cc
as_led env target.PlaceAlong gs es n h = let e : false ≡ true = n in absurd cc
as_led env target.ValueAlong gs es n h = let e : false ≡ true = n in absurd cc
as_led env target.ValueAsPlace gs es n h = let e : false ≡ true = n in absurd cc
as_led env (target.PlaceLed count) gs es n h = h
as_led env (target.ValueLed count) gs es n h = h
as_led env (target.LedAsPlace count) gs es n h = h

pub from_led : (env : Env) (x : Target) (gs : List Given) (es : List bound.Expr) → is_led x ≡ true → AllNumbers (along_given env) gs es → NumbersStand env x gs es
from_led env (target.Variable v) gs es n h = let e : false ≡ true = n in absurd cc
from_led env target.Place gs es n h = let e : false ≡ true = n in absurd cc
from_led env target.Value gs es n h = let e : false ≡ true = n in absurd cc
from_led env target.PlaceAlong gs es n h = let e : false ≡ true = n in absurd cc
from_led env target.ValueAlong gs es n h = let e : false ≡ true = n in absurd cc
from_led env target.ValueAsPlace gs es n h = let e : false ≡ true = n in absurd cc
from_led env (target.PlaceLed count) gs es n h = h
from_led env (target.ValueLed count) gs es n h = h
from_led env (target.LedAsPlace count) gs es n h = h

-- ---- what is indexed

-- a part of another place is no plain variable
made_of : (make : Lvalue → Lvalue) (st : List Piece) (at : Lvalue) (below : List Piece) → of_place (λ (x : Lvalue). a_place (make x)) st ≡ a_place at ∷ below → (x : Lvalue) × (make x ≡ at)
made_of make (a_place x ∷ st) at below h = let e : a_place (make x) ∷ st ≡ a_place at ∷ below = h in (x, cc)
made_of make st at below h = let e : nothing ∷ [] ≡ a_place at ∷ below = h in absurd cc

made_of_value : (make : bound.Expr → Lvalue) (st : List Piece) (at : Lvalue) (below : List Piece) → of_value (λ (x : bound.Expr). a_place (make x)) st ≡ a_place at ∷ below → (x : bound.Expr) × (make x ≡ at)
made_of_value make (an_expr x ∷ st) at below h = let e : a_place (make x) ∷ st ≡ a_place at ∷ below = h in (x, cc)
made_of_value make st at below h = let e : nothing ∷ [] ≡ a_place at ∷ below = h in absurd cc

item_at : (v : bound.Variable) (o : Option (Exprs × List Piece)) (at : Lvalue) (below : List Piece) → of_found (λ (es : Exprs). a_place (item v es)) o ≡ a_place at ∷ below → (es : Exprs) → element_place at es ≡ element at es
item_at v None at below h es = let e : nothing ∷ [] ≡ a_place at ∷ below = h in absurd cc
item_at v (Some f) at below h es =
    let e : a_place (item v f.0) ∷ f.1 ≡ a_place at ∷ below = h in
    let same : item v f.0 ≡ at = cc in
    let P : Lvalue → Type 0 = λ (z : Lvalue). element_place z es ≡ element z es in subst P same refl

element_at : (o : Option (Exprs × List Piece)) (at : Lvalue) (below : List Piece) → of_place_found (λ (x : Lvalue) (es : Exprs). a_place (element x es)) o ≡ a_place at ∷ below → (es : Exprs) → element_place at es ≡ element at es
element_at None at below h es = let e : nothing ∷ [] ≡ a_place at ∷ below = h in absurd cc
element_at (Some f) at below h es =
    let m = made_of (λ (x : Lvalue). element x f.0) f.1 at below h in
    let P : Lvalue → Type 0 = λ (z : Lvalue). element_place z es ≡ element z es in subst P m.1 refl

part_at : (t : Tables) (n : Node) (k : NodeKind) (ps : List Piece) (at : Lvalue) (below : List Piece) → is_part k ≡ true → put_kind t n k ps ≡ a_place at ∷ below → (es : Exprs) → element_place at es ≡ element at es
part_at t n (kinds.Item x count) ps at below p h es = item_at (variable_view x) (exprs_off count ps no_exprs) at below h es
part_at t n (kinds.Element count) ps at below p h es = element_at (exprs_off count ps no_exprs) at below h es
part_at t n (kinds.Field i of bounded) ps at below p h es =
    let m = made_of (λ (x : Lvalue). field x i (declared_view of) bounded) ps at below h in
    let P : Lvalue → Type 0 = λ (z : Lvalue). element_place z es ≡ element z es in subst P m.1 refl
part_at t n (kinds.KeptPlace header) ps at below p h es =
    let e : a_place (kept_place header) ∷ ps ≡ a_place at ∷ below = h in
    let same : kept_place header ≡ at = cc in
    let P : Lvalue → Type 0 = λ (z : Lvalue). element_place z es ≡ element z es in subst P same refl
part_at t n (kinds.ObjectField i of bounded) ps at below p h es =
    let m = made_of_value (λ (x : bound.Expr). object_field x i (declared_view of) bounded) ps at below h in
    let P : Lvalue → Type 0 = λ (z : Lvalue). element_place z es ≡ element z es in subst P m.1 refl
part_at t n (kinds.NewVariable x c) ps at below p h es =
    let e : a_place (as_new c (bound.variable (variable_view x))) ∷ ps ≡ a_place at ∷ below = h in
    let same : as_new c (bound.variable (variable_view x)) ≡ at = cc in
    let P : Lvalue → Type 0 = λ (z : Lvalue). element_place z es ≡ element z es in subst P same refl
part_at t n (kinds.AsNew c) ps at below p h es =
    let m = made_of (λ (x : Lvalue). as_new c x) ps at below h in
    let P : Lvalue → Type 0 = λ (z : Lvalue). element_place z es ≡ element z es in subst P m.1 refl
part_at t n k ps at below p h es = let e : false ≡ true = p in absurd cc

pub pushes_part : (k : NodeKind) (of : DeclaredType) (place : Place) (d e : Drafted) → is_part k ≡ true → e ≡ record d { pieces = put d.tables (node_of k place of) d.pieces } → PushesTarget k d e target.Place
pushes_part k of place d e part eq =
    let P : Drafted → Type 0 = λ (z : Drafted). PushesTarget k d z target.Place in
    subst P (sym eq) (record {
      grown = grown_pieces d (put d.tables (node_of k place of) d.pieces);
      stands = λ at below h. (part_at d.tables (node_of k place of) k d.pieces at below part (h (node_of k place of)), h (node_of k place of));
    })

pub pushes_variable : (k : NodeKind) (v : Variable) (of : DeclaredType) (place : Place) (d : Drafted) → k ≡ kinds.Variable v → PushesTarget k d d (target.Variable v)
pushes_variable k v of place d is =
    let P : NodeKind → Type 0 = λ (z : NodeKind). PushesTarget z d d (target.Variable v) in
    subst P (sym is) (record {
      grown = grown_same d;
      stands = λ at below h.
          let e : a_place (bound.variable (variable_view v)) ∷ d.pieces ≡ a_place at ∷ below = h (node_of k place of) in
          let one : at ≡ bound.variable (variable_view v) = cc in
          let other : d.pieces ≡ below = cc in (one, other);
    })

-- what numbers index is no object
no_object : (of u : Declared) → element_type of ≡ Some u → is_host_type of ≡ false
no_object (type.array_of of) u h = refl
no_object type.variant u h = refl
no_object type.boolean u h = refl
no_object type.byte u h = refl
no_object type.integer u h = refl
no_object type.long u h = refl
no_object type.long_long u h = refl
no_object type.currency u h = refl
no_object type.text u h = refl
no_object (type.fixed_text n) u h = refl
no_object (type.class n) u h = refl
no_object type.collection u h = let e : None ≡ Some u = h in absurd cc
no_object (type.udt n) u h = refl
no_object type.object u h = let e : None ≡ Some u = h in absurd cc
no_object type.worksheet u h = let e : None ≡ Some u = h in absurd cc
no_object type.range u h = let e : None ≡ Some u = h in absurd cc

-- what numbers index before the run
pub element_of_type : (b : Bool) (o : Option Declared) (u : Declared) → (if b then None else o) ≡ Some u → o ≡ Some u
element_of_type true o u h = let e : None ≡ Some u = h in absurd cc
element_of_type false o u h = h

pub indexed_by : (env : Env) (node : bound.Node) (place : Place) (of u : Declared) → may_be_instance env (expression_of node place of) ≡ false → element_type of ≡ Some u → indexed_type env (expression_of node place of) ≡ Some u
indexed_by env node place of u none h = ap (λ (b : Bool). if b then None else element_type of) none ∙ h

-- and that isn't what the run says
no_instance : (b : Bool) (o : Option Declared) (u : Declared) → (if b then None else o) ≡ Some u → b ≡ false
no_instance true o u h = let e : None ≡ Some u = h in absurd cc
no_instance false o u h = refl

not_late : (env : Env) (node : bound.Node) (place : Place) (of u : Declared) → indexed_type env (expression_of node place of) ≡ Some u → is_found_late env (expression_of node place of) ≡ false
not_late env node place of u h =
    let b = may_be_instance env (expression_of node place of) in and_right (not (is_of_class of)) b (no_instance b (element_type of) u h)

-- what is no object of the host has no default member Item that is known
pub no_item_host : (env : Env) (node : bound.Node) (place : Place) (of : Declared) → is_host_type of ≡ false → has_item_member env (expression_of node place of) ≡ false
no_item_host env node place of h = ap (λ (b : Bool). b && not (may_be_instance env (expression_of node place of))) h

-- what has elements has no default member Item
pub no_item_elements : (env : Env) (node : bound.Node) (place : Place) (of u : Declared) → element_type of ≡ Some u → has_item_member env (expression_of node place of) ≡ false
no_item_elements env node place of u h = no_item_host env node place of (no_object of u h)

pub same_place : (env : Env) (place : Place) (at : Lvalue) (whole : Declared) (bounds : ℕ) (lends makes : Bool) → has_item_member env (expression_of (read_of makes at) place whole) ≡ false
    → item_of env place (terms.a_place at whole bounds lends makes) ≡ terms.a_place at whole bounds lends makes
same_place env place at whole bounds lends makes h =
    ap (λ (b : Bool). if b then object_member place place (read_of makes at) whole (codes "item") else terms.a_place at whole bounds lends makes) h

pub same_value : (env : Env) (place : Place) (made : bound.Node) (whole : Declared) → has_item_member env (expression_of made place whole) ≡ false → item_of env place (a_value made whole) ≡ a_value made whole
same_value env place made whole h = ap (λ (b : Bool). if b then object_member place place made whole (codes "item") else a_value made whole) h

-- of which type arguments lead to something: not behind what has elements
pub elements_along : (env : Env) (node : bound.Node) (place : Place) (of u : Declared) (gs : List Given) → indexed_type env (expression_of node place of) ≡ Some u → along_type env (expression_of node place of) gs ≡ None
elements_along env node place (type.class n) u gs h = let e : None ≡ Some u = element_of_type (may_be_instance env (expression_of node place (type.class n))) None u h in absurd cc
elements_along env node place of u gs h = ap (λ (b : Bool). if b then Some type.variant else None) (not_late env node place of u h)

-- and a Variant behind what the run says more of
pub late_along : (env : Env) (node : bound.Node) (place : Place) (of : Declared) (gs : List Given) → is_found_late env (expression_of node place of) ≡ true → along_type env (expression_of node place of) gs ≡ Some type.variant
late_along env node place (type.class n) gs h = let e : false ≡ true = h in absurd cc
late_along env node place of gs h = ap (λ (b : Bool). if b then Some type.variant else None) h

pub place_indexed : (env : Env) (place : Place) (at : Lvalue) (whole : Declared) (bounds : ℕ) (lends makes : Bool) (gs : List Given) (of : Declared) (es : Exprs) → indexed_type env (expression_of (read_of makes at) place whole) ≡ Some of
    → fits_bounds bounds gs ≡ true → numbers_of (operand_of env) gs ≡ Some es → indexed env place (terms.a_place at whole bounds lends makes) gs ≡ terms.a_place (element_place at es) of 0 lends makes
place_indexed env place at whole bounds lends makes gs of es h fits k = rw (elements_along env (read_of makes at) place whole of gs h, fits, h, k) refl

pub place_led : (env : Env) (place : Place) (at : Lvalue) (whole : Declared) (bounds : ℕ) (lends makes : Bool) (gs : List Given) (of : Declared) (es : Exprs) → along_type env (expression_of (read_of makes at) place whole) gs ≡ Some of
    → along_of (along_value env) gs ≡ Some es → indexed env place (terms.a_place at whole bounds lends makes) gs ≡ terms.a_place (element_along at es) of 0 lends makes
place_led env place at whole bounds lends makes gs of es h k = rw (h, k) refl

pub place_along : (env : Env) (place : Place) (at : Lvalue) (whole : Declared) (bounds : ℕ) (lends makes : Bool) (gs : List Given) (es : Exprs) → is_found_late env (expression_of (read_of makes at) place whole) ≡ true
    → along_of (along_value env) gs ≡ Some es → indexed env place (terms.a_place at whole bounds lends makes) gs ≡ terms.a_place (element_along at es) type.variant 0 lends makes
place_along env place at whole bounds lends makes gs es h k = place_led env place at whole bounds lends makes gs type.variant es (late_along env (read_of makes at) place whole gs h) k

-- a value by its elements, and one in which arguments lead on
pub by_elements : (env : Env) (place : Place) (made : bound.Node) (whole : Declared) (gs : List Given) (of : Declared) (es : Exprs) → indexed_type env (expression_of made place whole) ≡ Some of → numbers_of (operand_of env) gs ≡ Some es
    → indexed_value (operand_of env) (along_value env) env place made whole gs ≡ a_value (element_value (expression_of made place whole) es) of
by_elements env place made whole gs of es h k = rw (elements_along env made place whole of gs h, h, k) refl

pub by_arguments : (env : Env) (place : Place) (made : bound.Node) (whole : Declared) (gs : List Given) (of : Declared) (es : Exprs) → along_type env (expression_of made place whole) gs ≡ Some of → along_of (along_value env) gs ≡ Some es
    → indexed_value (operand_of env) (along_value env) env place made whole gs ≡ a_value (late_item (expression_of made place whole) es) of
by_arguments env place made whole gs of es h k = rw (h, k) refl

-- what a term is that is indexed as a value is
abbrev pub IndexedAs : Env → Place → terms.Term → (made : bound.Node) → Declared → Type 0
IndexedAs env place z made whole = (g : Given) (gs : List Given) (node : bound.Node) (of : Declared) → indexed_value (operand_of env) (along_value env) env place made whole (g ∷ gs) ≡ a_value node of → indexed env place (item_of env place z) (g ∷ gs) ≡ a_value node of

pub indexed_as : (env : Env) (place : Place) (z : terms.Term) (made : bound.Node) (whole : Declared) → item_of env place z ≡ a_value made whole → IndexedAs env place z made whole
indexed_as env place z made whole same = λ g gs node of h.
    ap (λ (y : terms.Term). indexed env place y (g ∷ gs)) same ∙ ap (λ (y : terms.Term). term_or y (wrong_term env place (a_value made whole) (g ∷ gs))) h

-- the same of what a property without parameters gives
pub indexed_behind : (env : Env) (place : Place) (z : terms.Term) (made : bound.Node) (whole : Declared) → ((g : Given) (gs : List Given) → value_before env place (g ∷ gs) z ≡ a_value made whole) → IndexedAs env place z made whole
indexed_behind env place z made whole before = λ g gs node of h.
    indexed_before env place z (g ∷ gs) ∙ ap (λ (y : terms.Term). indexed env place y (g ∷ gs)) (before g gs) ∙ ap (λ (y : terms.Term). term_or y (wrong_term env place (a_value made whole) (g ∷ gs))) h

-- and of either
pub indexed_given : (b : Bool) (env : Env) (place : Place) (z y : terms.Term) (made : bound.Node) (whole : Declared) → IsBefore b env place z y → item_of env place y ≡ a_value made whole → IndexedAs env place z made whole
indexed_given false env place z y made whole before same = indexed_as env place z made whole (ap (λ (t : terms.Term). item_of env place t) before ∙ same)
indexed_given true env place z y made whole before same = indexed_behind env place z made whole (λ g gs. before g gs ∙ same)

-- what brackets make behind what a property gave is what they make behind that, where there are some arguments
abbrev pub HasSome : (of_property : Bool) → List Given → Type 0
HasSome true [] = ⊥
HasSome b gs = Unit {0}

pub brackets_given : (b : Bool) (env : Env) (place : Place) (z y : terms.Term) (gs : List Given) → IsBefore b env place z y → HasSome b gs → indexed env place (item_of env place z) gs ≡ indexed env place (item_of env place y) gs
brackets_given false env place z y gs before some = ap (λ (t : terms.Term). indexed env place (item_of env place t) gs) before
brackets_given true env place z y [] before some = absurd some
brackets_given true env place z y (g ∷ gs) before some = indexed_before env place z (g ∷ gs) ∙ ap (λ (t : terms.Term). indexed env place t (g ∷ gs)) (before g gs)

by_numbers : (env : Env) (place : Place) (z : terms.Term) (made : bound.Node) (whole : Declared) (gs : List Given) (of : Declared) (es : Exprs) → IndexedAs env place z made whole → indexed_type env (expression_of made place whole) ≡ Some of
    → numbers_of (operand_of env) gs ≡ Some es → indexed env place (item_of env place z) gs ≡ a_value (element_value (expression_of made place whole) es) of
by_numbers env place z made whole [] of es way h k = let e : ◌≡◌ {A = Option Exprs} None (Some es) = k in absurd cc
by_numbers env place z made whole (g ∷ gs) of es way h k = way g gs (element_value (expression_of made place whole) es) of (by_elements env place made whole (g ∷ gs) of es h k)

pub by_led : (env : Env) (place : Place) (z : terms.Term) (made : bound.Node) (whole : Declared) (gs : List Given) (of : Declared) (es : Exprs) → IndexedAs env place z made whole → along_type env (expression_of made place whole) gs ≡ Some of
    → along_of (along_value env) gs ≡ Some es → indexed env place (item_of env place z) gs ≡ a_value (late_item (expression_of made place whole) es) of
by_led env place z made whole [] of es way h k = let e : ◌≡◌ {A = Option Exprs} None (Some es) = k in absurd cc
by_led env place z made whole (g ∷ gs) of es way h k = way g gs (late_item (expression_of made place whole) es) of (by_arguments env place made whole (g ∷ gs) of es h k)

by_along : (env : Env) (place : Place) (z : terms.Term) (made : bound.Node) (whole : Declared) (gs : List Given) (es : Exprs) → IndexedAs env place z made whole → is_found_late env (expression_of made place whole) ≡ true
    → along_of (along_value env) gs ≡ Some es → indexed env place (item_of env place z) gs ≡ a_value (late_item (expression_of made place whole) es) type.variant
by_along env place z made whole gs es way h k = by_led env place z made whole gs type.variant es way (late_along env made place whole gs h) k

-- ---- arguments begin

target_stands : (env : Env) (x : Target) (of whole : DeclaredType) (bounds : ℕ) (lends makes : Bool) (place : Place) (z : terms.Term) (at : Lvalue) (ps below : List Piece)
    → indexed_type env (expression_of (read_of makes at) place (declared_view whole)) ≡ Some (declared_view of) → z ≡ terms.a_place at (declared_view whole) bounds lends makes → TargetAt x at ps below → TargetStands env x of bounds lends makes place z ps below
target_stands env (target.Variable v) of whole bounds lends makes place z at ps below e is q = record {
  whole = declared_view whole;
  is = is ∙ ap (λ (y : Lvalue). terms.a_place y (declared_view whole) bounds lends makes) q.0;
  element_is = ap (λ (y : Lvalue). indexed_type env (expression_of (read_of makes y) place (declared_view whole))) (sym q.0) ∙ e;
  none_pushed = q.1;
}
target_stands env target.Place of whole bounds lends makes place z at ps below e is q =
    record { at = at; whole = declared_view whole; is = is; element_is = e; no_variable = q.0; on_top = q.1 }
target_stands env x of whole bounds lends makes place z at ps below e is q = absurd q

pub opens_place : (env : Env) (has : Bool) (x : Tree) (at : WholePlace) (element_of : DeclaredType) (d e : Drafted) (t : Target) → has_class env.scope.spaces ≡ has
    → HasElements has d.tables (read_ending at) element_of → PushesTarget at.kind d e t → OpensTerm env x (place_term at) d e (items.Indexed (begun x.place t element_of at.lends at.makes at.bounds))
opens_place env has x at element_of d e t known elements p = record {
  grown = p.grown;
  named = tt;
  stands = λ tree others is' below base told h s.
      let place = place_told tree in
      let n = node_of at.kind place at.of in
      let of = declared_view at.of in
      let no = elements.none env (read_of at.makes h.at) place (put d.tables n d.pieces) below known (read_ends at.makes d.tables h.at (put d.tables n d.pieces) below (h.ends n)) in
      let element_is = indexed_by env (read_of at.makes h.at) place of (declared_view element_of) no elements.element_is in (
        below,
        (
          record {
            between = e.pieces;
            target_is = target_stands env t element_of at.of at.bounds at.lends at.makes place (callee env tree (term_of env tree)) h.at e.pieces below element_is h.is (p.stands h.at below h.ends);
            place_is = told;
            made = [];
            numbers = none_pushed env t;
            count_is = refl;
            on_top = refl;
          },
          s,
        ),
      );
}

-- a place from which arguments lead on
pub opens_along : (env : Env) (x : Tree) (at : WholePlace) (d e : Drafted) → e ≡ record d { pieces = put d.tables (node_of at.kind x.place at.of) d.pieces }
    → IsFoundLate (has_class env.scope.spaces) d.tables (read_ending at) true
    → OpensTerm env x (place_term at) d e (items.Indexed (begun x.place target.PlaceAlong (Plain element_kind.Variant) at.lends at.makes 0))
opens_along env x at d e eq late =
    let n = node_of at.kind x.place at.of in
    let ps = put d.tables n d.pieces in
    let P : Drafted → Type 0 = λ (z : Drafted). OpensTerm env x (place_term at) d z (items.Indexed (begun x.place target.PlaceAlong (Plain element_kind.Variant) at.lends at.makes 0)) in
    subst P (sym eq) (record {
      grown = grown_pieces d ps;
      named = tt;
      stands = λ tree others is' below base told h s. (
        below,
        (
          record {
            between = ps;
            target_is = record {
              at = h.at;
              whole = declared_view at.of;
              bounds = at.bounds;
              is = h.is;
              late = late env (read_of at.makes h.at) (place_told tree) ps below refl (read_ends at.makes d.tables h.at ps below (h.ends n));
              of_is = refl;
              on_top = h.ends n;
            };
            place_is = told;
            made = [];
            numbers = tt;
            count_is = refl;
            on_top = refl;
          },
          s,
        ),
      );
    })

-- a value is pushed that arguments index
pub pushes_whole : (has : Bool) (ending : Ending) (element_of : DeclaredType) (place : Place) (d e : Drafted) → HasElements has d.tables ending element_of
    → e ≡ record d { pieces = put d.tables (node_of ending.kind place ending.of) d.pieces } → PushesWhole has ending place d e (whole_of place target.Value element_of)
pushes_whole has ending element_of place d e elements eq =
    let P : Drafted → Type 0 = λ (z : Drafted). PushesWhole has ending place d z (whole_of place target.Value element_of) in
    subst P (sym eq) (record { grown = grown_pieces d (put d.tables (node_of ending.kind place ending.of) d.pieces); is = refl; how = elements; stands = λ made below ends. ends (node_of ending.kind place ending.of) })

pub pushes_along : (ending : Ending) (place : Place) (d e : Drafted) → e ≡ record d { pieces = put d.tables (node_of ending.kind place ending.of) d.pieces }
    → PushesAlong ending place d e (whole_of place target.ValueAlong (Plain element_kind.Variant))
pushes_along ending place d e eq =
    let P : Drafted → Type 0 = λ (z : Drafted). PushesAlong ending place d z (whole_of place target.ValueAlong (Plain element_kind.Variant)) in
    subst P (sym eq) (record { grown = grown_pieces d (put d.tables (node_of ending.kind place ending.of) d.pieces); is = refl; of_is = refl; stands = λ made below ends. ends (node_of ending.kind place ending.of) })

pub along_whole : (has : Bool) (ending : Ending) (place : Place) (d e : Drafted) (x : Indexed) → IsFoundLate has d.tables ending true → PushesAlong ending place d e x → PushesWhole has ending place d e x
along_whole has ending place d e x late p =
    let P : Indexed → Type 0 = λ (z : Indexed). PushesWhole has ending place d e z in
    subst P (sym p.is) (record { grown = p.grown; is = refl; how = record { late = late; of_is = p.of_is }; stands = p.stands })

-- what begins behind a term by itself
pub opens_plain : (env : Env) (x : Tree) (y : Term) (i : Item) (d e : Drafted) → OpensBehind false env x y d e i → OpensTerm env x y d e i
opens_plain env x y i d e o = record {
  grown = o.grown;
  named = o.named;
  stands = λ tree others is below base at h s. o.stands tree others is below base (callee env tree (term_of env tree)) at refl h s;
}

-- a value was pushed that arguments index, of what a term is
pub opens_whole : (b : Bool) (env : Env) (x : Tree) (y : Term) (i : Indexed) (d e : Drafted) → Grown d e → i ≡ whole_of x.place i.target i.of
    → ((tree : Expr) (below : List Piece) (z : terms.Term) → x.place ≡ place_told tree → IsBefore b env (place_told tree) (callee env tree (term_of env tree)) z → TermStands env d.tables y z d.pieces below
    → TargetStands env i.target i.of 0 false false (place_told tree) (callee env tree (term_of env tree)) e.pieces below) → OpensBehind b env x y d e (items.Indexed i)
opens_whole b env x y i d e grown is make =
    let P : Indexed → Type 0 = λ (z : Indexed). OpensBehind b env x y d e (items.Indexed z) in
    subst P (sym is) (record {
      grown = grown;
      named = tt;
      stands = λ tree others is' below base z at before h s. (
        below,
        (record { between = e.pieces; target_is = make tree below z at before h; place_is = at; made = []; numbers = none_pushed env i.target; count_is = refl; on_top = refl }, s),
      );
    })

pub whole_stands : (env : Env) (has : Bool) (t : Tables) (v : Ending) (x : Target) (of : DeclaredType) (place : Place) (z : terms.Term) (made : bound.Node) (qs ps below : List Piece) → has_class env.scope.spaces ≡ has → HowIndexed has t v x of
    → ValueEnds t v.kind made qs below → IndexedAs env place z made (declared_view v.of) → ps ≡ an_expr (expression_of made place (declared_view v.of)) ∷ below → TargetStands env x of 0 false false place z ps below
whole_stands env has t v (target.Variable x) of place z made qs ps below known how ends way top = absurd how
whole_stands env has t v target.Place of place z made qs ps below known how ends way top = absurd how
whole_stands env has t v target.PlaceAlong of place z made qs ps below known how ends way top = absurd how
whole_stands env has t v target.ValueAsPlace of place z made qs ps below known how ends way top = absurd how
whole_stands env has t v (target.PlaceLed count) of place z made qs ps below known how ends way top = absurd how
whole_stands env has t v (target.ValueLed count) of place z made qs ps below known how ends way top = absurd how
whole_stands env has t v (target.LedAsPlace count) of place z made qs ps below known how ends way top = absurd how
whole_stands env has t v target.Value of place z made qs ps below known how ends way top =
    let u = declared_view v.of in
    let element_is = indexed_by env made place u (declared_view of) (how.none env made place qs below known ends) how.element_is in
    record { whole = expression_of made place u; is = λ gs es numbers. by_numbers env place z made u gs (declared_view of) es way element_is numbers; on_top = top }
whole_stands env has t v target.ValueAlong of place z made qs ps below known how ends way top =
    let u = declared_view v.of in
    let late = how.late env made place qs below known ends in
    record { whole = expression_of made place u; is = λ gs es along. by_along env place z made u gs es way late along; of_is = how.of_is; on_top = top }

-- which has no default member Item that is known before the run
whole_item : (env : Env) (has : Bool) (t : Tables) (v : Ending) (x : Target) (of : DeclaredType) (place : Place) (made : bound.Node) (qs below : List Piece) → has_class env.scope.spaces ≡ has → HowIndexed has t v x of → ValueEnds t v.kind made qs below
    → has_item_member env (expression_of made place (declared_view v.of)) ≡ false
whole_item env has t v (target.Variable x) of place made qs below known how ends = absurd how
whole_item env has t v target.Place of place made qs below known how ends = absurd how
whole_item env has t v target.PlaceAlong of place made qs below known how ends = absurd how
whole_item env has t v target.ValueAsPlace of place made qs below known how ends = absurd how
whole_item env has t v (target.PlaceLed count) of place made qs below known how ends = absurd how
whole_item env has t v (target.ValueLed count) of place made qs below known how ends = absurd how
whole_item env has t v (target.LedAsPlace count) of place made qs below known how ends = absurd how
whole_item env has t v target.Value of place made qs below known how ends = no_item_elements env made place (declared_view v.of) (declared_view of) how.element_is
whole_item env has t v target.ValueAlong of place made qs below known how ends = no_item_late env place made (declared_view v.of) (how.late env made place qs below known ends)

pub opens_value : (b : Bool) (env : Env) (has : Bool) (x : Tree) (ending : Ending) (d e : Drafted) (i : Indexed) → has_class env.scope.spaces ≡ has → PushesWhole has ending x.place d e i → OpensBehind b env x (term.Value ending) d e (items.Indexed i)
opens_value b env has x ending d e i known p =
    opens_whole b env x (term.Value ending) i d e p.grown p.is (λ tree below z at before h.
    let place = place_told tree in
    let u = declared_view ending.of in
    let same : item_of env place z ≡ a_value h.made u =
    ap (λ (y : terms.Term). item_of env place y) h.is ∙ same_value env place h.made u (whole_item env has d.tables ending i.target i.of place h.made d.pieces below known p.how h.ends) in
    whole_stands env has d.tables ending i.target i.of place (callee env tree (term_of env tree)) h.made d.pieces e.pieces below known p.how h.ends (indexed_given b env place (callee env tree (term_of env tree)) z h.made u before same)
    (p.stands h.made below h.ends ∙ ap (λ (q : Place). an_expr (expression_of h.made q u) ∷ below) at))

-- a value that is assigned to
pub pushes_as_place : (ending : Ending) (place : Place) (d b e : Drafted) → b ≡ record d { pieces = put d.tables (node_of ending.kind place ending.of) d.pieces }
    → e ≡ record b { pieces = put b.tables (node_of kinds.PlaceOf place (Plain element_kind.Variant)) b.pieces }
    → PushesAsPlace ending place d e (whole_of place target.ValueAsPlace (Plain element_kind.Variant))
pushes_as_place ending place d b e one two =
    let x = whole_of place target.ValueAsPlace (Plain element_kind.Variant) in
    let u = declared_view ending.of in
    let n = node_of ending.kind place ending.of in
    let m = node_of kinds.PlaceOf place (Plain element_kind.Variant) in
    let b1 : Drafted = record d { pieces = put d.tables n d.pieces } in
    let e1 : Drafted = record b1 { pieces = put b1.tables m b1.pieces } in
    let both : e ≡ e1 = two ∙ ap (λ (z : Drafted). record z { pieces = put z.tables m z.pieces }) one in
    let P : Drafted → Type 0 = λ (z : Drafted). PushesAsPlace ending place d z x in
    subst P (sym both) (record {
      grown = grown_twice d b1 e1 (grown_pieces d b1.pieces) (grown_pieces b1 e1.pieces);
      is = refl;
      stands = λ env late tree below at h.
          let told = place_told tree in
          let z = callee env tree (term_of env tree) in
          let found = late env h.made told d.pieces below refl h.ends in
          let same : item_of env told z ≡ a_value h.made u = ap (λ (y : terms.Term). item_of env told y) h.is ∙ same_value env told h.made u (no_item_late env told h.made u found) in
          record {
            between = e1.pieces;
            target_is = record {
              whole = expression_of h.made told u;
              is = λ gs es along. by_along env told z h.made u gs es (indexed_as env told z h.made u same) found along;
              of_is = refl;
              on_top = ap (λ (st : List Piece). of_value (λ (y : bound.Expr). a_place (value_place y)) st) (h.ends n) ∙ ap (λ (q : Place). a_place (value_place (expression_of h.made q u)) ∷ below) at;
            };
            place_is = at;
            made = [];
            numbers = tt;
            count_is = refl;
            on_top = refl;
          };
    })

pub opens_call : (env : Env) (x : Tree) (r : Routine) (d e : Drafted) → PushesReceiver r.receiver d e
    → OpensTerm env x (term.Routine r) d e (items.Call (record { place = x.place; routine = r; passed = record { left = r.parameters; count = 0 } }))
opens_call env x r d e p = record {
  grown = p.grown;
  named = tt;
  stands = λ tree others is below base at h s. (
    below,
    (
      record {
        routine = h.routine;
        between = e.pieces;
        there = p.there h.routine.base below h.routine.received h.pushed;
        place_is = at;
        passed = record { made = []; taken = refl; count_is = refl; on_top = refl };
      },
      s,
    ),
  );
}
