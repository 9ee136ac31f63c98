-- Places and values that are assigned to.
use Rattle.std.proofs.Common.{◌≡◌, ℕ, Bool, true, false, List, [], ◌∷◌, Option, Some, None, if◌then◌else◌, refl, sym, ap, subst, ◌∙◌}
use Rattle.std.specs.Prelude.{◌||◌, not, IfSome, MatchBool}
use Rattle.vba_base.specs.declared.place.Place.{Place}
use Rattle.vba_values.specs.Types.{Declared}
use Rattle.vba_values.specs.Types as type
use Rattle.bound_project.specs.declared.declared_type.DeclaredType.{DeclaredType}
use Rattle.bound_project.specs.declared.declared_type.DeclaredType.TheVariants.{Plain}
use Rattle.bound_project.specs.declared.declared_type.ElementType.TheVariants.{Variant}
use Rattle.bound_project.specs.declared.node.LateUse.TheVariants.{Reading}
use Rattle.bound_project.specs.declared.node.NodeKind.{NodeKind}
use Rattle.bound_project.specs.declared.node.NodeKind.TheVariants as kinds
use Rattle.bound_project.specs.declared.node.Node.{Node}
use Rattle.bound_project.specs.declared.statement.ActionKind.{ActionKind}
use Rattle.bound_project.specs.declared.statement.ActionKind.TheVariants as action
use Rattle.bound_project.specs.declared.variable.Variable.{Variable}
use Rattle.bound_project.specs.Bodies.{action_of, element_found, item_found}
use Rattle.bound_project.specs.Expressions.{Exprs, Lvalue, no_exprs, also, expr, constant, load, err_value, marked, element_value, field_value, unary, binary, call, same, is_type, library, host_member, named_member, this, late_item, late_member, none_given, no_args, in_order, load_made, method, item, element_along}
use Rattle.bound_project.specs.Expressions as bound
use Rattle.bound_project.specs.Pieces.{Piece, Tables, a_place, an_expr, arguments_off, as_operand, expr_of, exprs_off, given_off, misfit, by_name_in, name_in, of_place, of_place_found, of_value, of_value_found, order_in, put, put_kind, sought_in}
use Rattle.bound_project.specs.Drafts.{ActionNamed, Drafted}
use Rattle.bound_project.specs.Statements.{Action, assign, assign_default, assign_element, assign_item, assign_through}
use Rattle.bound_project.specs.Project as project
use Rattle.bound_project.specs.View.{base_view, declared_view, variable_view}
use Rattle.bound_members.specs.bound_calls.specs.bound_declarations.specs.constant_values.specs.declared_names.specs.binder.specs.Types.{is_object}
use Rattle.bound_members.specs.bound_calls.specs.bound_declarations.specs.constant_values.specs.declared_names.specs.binder.specs.Classes.{class_in}
use Rattle.bound_members.specs.bound_calls.specs.bound_forms.specs.Terms.{Env, expression_of, read_of}
use Rattle.bound_members.specs.bound_calls.specs.bound_forms.specs.Terms as plain
use Rattle.bound_members.specs.bound_calls.specs.bound_forms.specs.ClassDefaults.{class_written}
use Rattle.bound_members.specs.bound_calls.specs.bound_forms.specs.ClassDefaults as defaults
use Rattle.bound_members.specs.bound_calls.specs.bound_forms.specs.Operands.{HostKind, has_object, host_kind, is_found_late, is_of_class, may_be_instance}
use Rattle.bound_members.specs.bound_calls.specs.bound_forms.specs.Targets.{assigned, broken_target, class_written_or_broken, default_written, has_written_default, is_indexed_late, is_unassignable, not_assignable, place_assigned, takes_value, value_written, write_rule, written_or_broken, written_through}
use Rattle.bound_members.specs.bound_calls.specs.declared.term.Ending.{Ending}
use Rattle.bound_members.specs.declared.kinds.HostKind as declared
use Rattle.bound_members.specs.Kinds.{EndingOfKind, kind_view}
use Rattle.bound_members.specs.bound_calls.specs.declared.term.Term.{Term}
use Rattle.bound_members.specs.bound_calls.specs.declared.term.Term.TheVariants as term
use Rattle.bound_members.specs.bound_calls.specs.Calls.{node_of}
use Rattle.bound_members.specs.bound_calls.specs.class_defaults.specs.Known.{known_view}
use Rattle.bound_members.specs.bound_calls.specs.class_defaults.specs.declared.known.Known.{Known}
use Rattle.bound_members.specs.bound_calls.specs.class_defaults.specs.declared.known.Known.TheVariants as known_of
use Rattle.bound_members.specs.bound_calls.specs.References.{EndingGives, IsFoundLate, IsInstance}
use Rattle.bound_members.specs.bound_calls.specs.Standing.{PlaceEnds, ValueEnds}
use Rattle.bound_members.specs.bound_calls.specs.Taking.{broken_ending, read_kind}
use Rattle.bound_members.specs.bound_calls.proofs.Growing.{grown_pieces, grown_same}
use Rattle.bound_members.specs.bound_calls.proofs.LastNodes.{any_node, both_pass, found_passes, late_found_passes, member_found_passes, named_found_passes, place_passes, value_found_passes, value_passes, object_found_passes}
use Rattle.bound_members.specs.bound_calls.proofs.PlaceNodes.{no_item}
use Rattle.bound_members.specs.bound_calls.specs.bound_declarations.specs.constant_values.specs.declared_names.specs.View.{space_view, written_view}
use Rattle.bound_members.specs.bound_calls.specs.bound_declarations.specs.constant_values.specs.declared_names.specs.binder.specs.Constants.{is_variant}
use Rattle.bound_members.specs.bound_calls.specs.bound_declarations.specs.constant_values.specs.declared_names.specs.binder.specs.Declarations.{Written}
use Rattle.bound_members.specs.bound_calls.specs.bound_declarations.specs.constant_values.specs.declared_names.specs.binder.specs.Scopes.{Space}
use Rattle.statement_terms.specs.Members.{AssignsIn, AssignsTerm}
use Rattle.statement_terms.specs.Targets.{AssignsIndexed, EndsItem, EndsLate, EndsObject, EndsValue, EndsWrong, IndexedLate, IsLateValue, WrittenIs, default_kind, ends_unassignable, ends_value, gives_object, is_item_along, is_kept, is_value_kind, kind_known, numbers_along}
use Rattle.bound_members.specs.bound_calls.specs.class_defaults.proofs.Passed.{class_is}
use Rattle.bound_members.specs.bound_calls.proofs.Taking.{read_ends}

-- ---- places

to_place : (env : Env) (place : Place) (v : bound.Expr) (t : plain.Term) (x : Lvalue) (of : Declared) (bounds : ℕ) (lends makes : Bool) → t ≡ plain.a_place x of bounds lends makes → is_object of ≡ false → assigned env place v [] t ≡ Some (place_assigned x v)
to_place env place v t x of bounds lends makes e h =
    ap (λ (z : plain.Term). assigned env place v [] z) e
    ∙ ap (λ (b : Bool). if b then default_written env place (read_of makes x) of v else Some (place_assigned x v)) h

-- a place to which arguments lead from another one, as the run says
abbrev pub is_along : Lvalue → Bool
is_along (element_along x es) = true
is_along x = false

no_along_on_top : List Piece → Bool
no_along_on_top (a_place x ∷ st) = not (is_along x)
no_along_on_top st = true

no_along_item : (t : Tables) (n : Node) (x : Variable) (count : ℕ) (st : List Piece) → no_along_on_top (put_kind t n (kinds.Item x count) st) ≡ true
unfolding no_along_on_top
no_along_item t n x count st = found_passes no_along_on_top refl (λ es. a_place (item (variable_view x) es)) (λ es rest. refl) (exprs_off count st no_exprs)

no_item_along : (x : Lvalue) → not (plain.may_be_item x) ≡ true → is_along x ≡ false
no_item_along (element_along x es) h = let e : false ≡ true = h in absurd cc
no_item_along x h = refl

not_along : (b : Bool) → not b ≡ true → b ≡ false
not_along false h = refl
not_along true h = let e : false ≡ true = h in absurd cc

pub no_along : (t : Tables) (kind : NodeKind) (at : Lvalue) (ps below : List Piece) → numbers_along kind ≡ None → PlaceEnds t kind at ps below → is_along at ≡ false
unfolding no_along_on_top
no_along t (kinds.Item x count) at ps below h ends = not_along (is_along at) (sym (ap no_along_on_top (ends any_node)) ∙ no_along_item t any_node x count ps)
no_along t (kinds.ElementAlong count) at ps below h ends = let e : Some count ≡ None = h in absurd cc
no_along t kind at ps below h ends = no_item_along at (no_item t kind at ps below refl ends)

assigned_plainly : (x : Lvalue) (v : bound.Expr) → is_along x ≡ false → place_assigned x v ≡ assign x v
assigned_plainly (element_along x es) v h = let e : true ≡ false = h in absurd cc
assigned_plainly x v h = refl

pub plain_assigned : (place : Place) (at : Ending) (d e : Drafted) → is_object (declared_view at.of) ≡ false → numbers_along at.kind ≡ None → e ≡ record d { pieces = put d.tables (node_of at.kind place at.of) d.pieces }
    → (has : Bool) (bounds : ℕ) (lends makes : Bool) (may : Option Bool) → AssignsTerm has may place (term.Place at.kind at.of bounds lends makes) d e action.Assign false
plain_assigned place at d e none other eq has bounds lends makes may =
    let P : Drafted → Type 0 = λ (z : Drafted). AssignsTerm has may place (term.Place at.kind at.of bounds lends makes) d z action.Assign false in
    let n = node_of at.kind place at.of in
    subst P (sym eq) (record {
      grown = grown_pieces d (put d.tables n d.pieces);
      named = tt;
      takes = λ env z ps below h. ap (λ (y : plain.Term). takes_value env y) h.is;
      stands = λ env known z value goes h.
          record {
            made = assign h.at value;
            is = to_place env place value z h.at (declared_view at.of) bounds lends makes h.is none
                ∙ ap (λ (a : Action). Some a) (assigned_plainly h.at value (no_along d.tables at.kind h.at d.pieces (an_expr value ∷ []) other h.ends));
            fits = ap (λ (ps : List Piece). action_of d.tables action.Assign ps) (h.ends n);
          };
    })

-- numbers stand above a place from which they lead on, as the run says
pub record AlongThere (at : Lvalue) (o : Option (Exprs × List Piece)) (below : List Piece) : Type 0 where
  pub base : Lvalue
  pub numbers : Exprs
  pub at_is : at ≡ element_along base numbers
  pub is : o ≡ Some (numbers, a_place base ∷ below)

along_at : (at : Lvalue) (es : Exprs) (st below : List Piece) → of_place (λ x. a_place (element_along x es)) st ≡ a_place at ∷ below → AlongThere at (Some (es, st)) below
along_at at es (a_place x ∷ st) below h =
    let same : element_along x es ≡ at = (let e : a_place (element_along x es) ∷ st ≡ a_place at ∷ below = h in cc) in
    let rest : st ≡ below = (let e : a_place (element_along x es) ∷ st ≡ a_place at ∷ below = h in cc) in
    record { base = x; numbers = es; at_is = sym same; is = ap (λ (l : List Piece). Some (es, a_place x ∷ l)) rest }
along_at at es st below h = let e : misfit ≡ a_place at ∷ below = h in absurd cc

along_of : (at : Lvalue) (o : Option (Exprs × List Piece)) (below : List Piece) → of_place_found (λ x es. a_place (element_along x es)) o ≡ a_place at ∷ below → AlongThere at o below
along_of at None below h = let e : misfit ≡ a_place at ∷ below = h in absurd cc
along_of at (Some found) below h = along_at at found.0 found.1 below h

along_kind : (kind : NodeKind) (count : ℕ) → numbers_along kind ≡ Some count → kind ≡ kinds.ElementAlong count
along_kind (kinds.ElementAlong n) count h = let e : Some n ≡ Some count = h in let same : n ≡ count = cc in ap (λ (k : ℕ). kinds.ElementAlong k) same
along_kind kind count h = let e : None ≡ Some count = h in absurd cc

pub along_there : (t : Tables) (kind : NodeKind) (count : ℕ) (at : Lvalue) (ps below : List Piece) → numbers_along kind ≡ Some count → PlaceEnds t kind at ps below → AlongThere at (exprs_off count ps no_exprs) below
along_there t kind count at ps below h ends =
    let K : NodeKind → Type 0 = λ (k : NodeKind). put_kind t any_node k ps ≡ a_place at ∷ below in
    along_of at (exprs_off count ps no_exprs) below (subst K (along_kind kind count h) (ends any_node))

pub along_assigned : (place : Place) (at : Ending) (count : ℕ) (d : Drafted) → is_object (declared_view at.of) ≡ false → numbers_along at.kind ≡ Some count
    → (has : Bool) (bounds : ℕ) (lends makes : Bool) (may : Option Bool) → AssignsTerm has may place (term.Place at.kind at.of bounds lends makes) d d (action.AssignElement count) false
along_assigned place at count d none along has bounds lends makes may = record {
  grown = grown_same d;
  named = tt;
  takes = λ env z ps below h. ap (λ (y : plain.Term). takes_value env y) h.is;
  stands = λ env known z value goes h.
      let there = along_there d.tables at.kind count h.at d.pieces (an_expr value ∷ []) along h.ends in
      record {
        made = assign_element there.base there.numbers value;
        is = to_place env place value z h.at (declared_view at.of) bounds lends makes h.is none ∙ ap (λ (x : Lvalue). Some (place_assigned x value)) there.at_is;
        fits = ap (λ o. element_found (λ x es e. assign_element x es e) o) there.is;
      };
}

-- what is known of the default member of an object that is written: of one of no class by its kind, and of one of a class by
-- what the project declares
written_plainly : (env : Env) (place : Place) (made : bound.Node) (of : Declared) (v : bound.Expr) → class_in of ≡ None
    → default_written env place made of v ≡ written_or_broken env (write_rule (host_kind made of)) place (expression_of made place of) of v
written_plainly env place made (type.class n) v h = let e : Some n ≡ None = h in absurd cc
written_plainly env place made of v h = refl

kind_known_is : (env : Env) (rule : Option ℕ) (place : Place) (target : bound.Expr) (of : Declared) (v : bound.Expr)
    → written_or_broken env rule place target of v ≡ class_written_or_broken env (kind_known rule of) place target v
kind_known_is env (Some rule) place target of v = refl
kind_known_is env None place target of v = by (has_written_default of)
  where
    by : (b : Bool) → (if b then Some (written_through env target v) else None) ≡ class_written_or_broken env (if b then defaults.known type.variant else defaults.not_said) place target v
    by true = refl
    by false = refl

pub host_is_known : (ending : Ending) (kind : declared.HostKind) (found : Known) → class_in (declared_view ending.of) ≡ None → EndingOfKind ending kind
    → known_view found ≡ kind_known (write_rule (Some (kind_view kind))) (declared_view ending.of) → (all : project.Declarations) → WrittenIs all ending found
host_is_known ending kind found none is k all env t made place v ps below alike ends =
    let of = declared_view ending.of in
    let target = expression_of made place of in
    written_plainly env place made of v none
    ∙ ap (λ (o : Option HostKind). written_or_broken env (write_rule o) place target of v) (is t made ps below ends)
    ∙ kind_known_is env (write_rule (Some (kind_view kind))) place target of v
    ∙ ap (λ (z : defaults.Known). class_written_or_broken env z place target v) (sym k)

pub class_is_known : (all : project.Declarations) (ending : Ending) (number : ℕ) (found : Known) → class_in (declared_view ending.of) ≡ Some number → known_view found ≡ class_written all number → WrittenIs all ending found
class_is_known all ending number found is k env t made place v ps below alike ends =
    let same = class_is (declared_view ending.of) number is in
    let target = expression_of made place (type.class number) in
    ap (λ (u : Declared). default_written env place made u v) same
    ∙ ap (λ (z : project.Declarations). class_written_or_broken env (class_written z number) place target v) alike
    ∙ ap (λ (z : defaults.Known). class_written_or_broken env z place target v) (sym k)
    ∙ ap (λ (u : Declared). class_written_or_broken env (known_view found) place (expression_of made place u) v) (sym same)

-- what is done with the default member of what may be an object of a class, or not
abbrev default_action : (through : Bool) → (target value : bound.Expr) → Action
default_action true target value = assign_through target value
default_action false target value = assign_default target value

through_is : (env : Env) (target value : bound.Expr) (through : Bool) → may_be_instance env target ≡ through → written_through env target value ≡ default_action through target value
through_is env target value through may = ap (λ (b : Bool). if b then assign_through target value else assign_default target value) may ∙ by through
  where
    by : (b : Bool) → (if b then assign_through target value else assign_default target value) ≡ default_action b target value
    by true = refl
    by false = refl

default_fits : (t : Tables) (through : Bool) (target value : bound.Expr) → action_of t (default_kind through) (an_expr target ∷ an_expr value ∷ []) ≡ Some (default_action through target value)
default_fits t true target value = refl
default_fits t false target value = refl

default_named : (t : Tables) (through : Bool) → ActionNamed t (default_kind through)
default_named t true = tt
default_named t false = tt

-- a place of an object that has one
pub object_assigned : (place : Place) (at : Ending) (makes through : Bool) (d f e : Drafted) → is_object (declared_view at.of) ≡ true
    → f ≡ record d { pieces = put d.tables (node_of at.kind place at.of) d.pieces } → e ≡ record f { pieces = put f.tables (node_of (read_kind makes) place at.of) f.pieces }
    → (all : project.Declarations) (u : DeclaredType) (has : Bool) (bounds : ℕ) (lends : Bool) (may : Option Bool) → WrittenIs all (record { kind = read_kind makes; of = at.of }) (known_of.Type u)
    → IsInstance has d.tables (record { kind = read_kind makes; of = at.of }) through → AssignsIn all has may place (term.Place at.kind at.of bounds lends makes) d e (default_kind through) false
object_assigned place at makes through d f e object first second all u has bounds lends may written instance =
    let n = node_of at.kind place at.of in
    let m = node_of (read_kind makes) place at.of in
    let low = put d.tables n d.pieces in
    let E : Drafted = record d { pieces = put d.tables m low } in
    let P : Drafted → Type 0 = λ (z : Drafted). AssignsIn all has may place (term.Place at.kind at.of bounds lends makes) d z (default_kind through) false in
    let is : e ≡ E = second ∙ ap (λ (z : Drafted). record z { pieces = put z.tables m z.pieces }) first in
    subst P (sym is) (record {
      grown = grown_pieces d (put d.tables m low);
      named = default_named d.tables through;
      takes = λ env z ps below h. ap (λ (y : plain.Term). takes_value env y) h.is;
      stands = λ env known alike z value goes h.
          let below : List Piece = an_expr value ∷ [] in
          let made = read_of makes h.at in
          let of = declared_view at.of in
          let target = expression_of made place of in
          let ends = read_ends makes d.tables h.at low below (h.ends n) in
          record {
            made = default_action through target value;
            is = ap (λ (y : plain.Term). assigned env place value [] y) h.is ∙ ap (λ (b : Bool). if b then default_written env place made of value else Some (place_assigned h.at value)) object
                ∙ written env d.tables made place value low below alike ends ∙ ap (λ (a : Action). Some a) (through_is env target value through (instance env made place low below known ends));
            fits = ap (λ (ps : List Piece). action_of d.tables (default_kind through) ps) (ends m) ∙ default_fits d.tables through target value;
          };
    })

-- ---- what breaks a rule

-- the mark of a target, of its value and what it is written with
abbrev mark_node : (rule : ℕ) → Place → Node
mark_node rule place = node_of (broken_ending rule place (Plain Variant) 2).kind place (broken_ending rule place (Plain Variant) 2).of

evaluated : (t : Tables) (rule : ℕ) (place : Place) (v target : bound.Expr) (ps : List Piece) → ps ≡ an_expr target ∷ an_expr v ∷ [] → action_of t action.Evaluate (put t (mark_node rule place) ps) ≡ Some (broken_target rule place v (also target no_exprs))
evaluated t rule place v target ps h = ap (λ (st : List Piece). action_of t action.Evaluate (put t (mark_node rule place) st)) h

-- a place of an object whose default member isn't written
pub unwritten_assigned : (place : Place) (at : Ending) (makes : Bool) (rule : ℕ) (d f g e : Drafted) → is_object (declared_view at.of) ≡ true
    → f ≡ record d { pieces = put d.tables (node_of at.kind place at.of) d.pieces } → g ≡ record f { pieces = put f.tables (node_of (read_kind makes) place at.of) f.pieces }
    → e ≡ record g { pieces = put g.tables (mark_node rule place) g.pieces } → (all : project.Declarations) (has : Bool) (bounds : ℕ) (lends : Bool) (may : Option Bool)
    → WrittenIs all (record { kind = read_kind makes; of = at.of }) (known_of.Breaks rule) → AssignsIn all has may place (term.Place at.kind at.of bounds lends makes) d e action.Evaluate false
unwritten_assigned place at makes rule d f g e object first second third all has bounds lends may broken =
    let n = node_of at.kind place at.of in
    let m = node_of (read_kind makes) place at.of in
    let high = put d.tables n d.pieces in
    let low = put d.tables m high in
    let two : g ≡ record d { pieces = low } = second ∙ ap (λ (z : Drafted). record z { pieces = put z.tables m z.pieces }) first in
    let is : e ≡ record d { pieces = put d.tables (mark_node rule place) low } = third ∙ ap (λ (z : Drafted). record z { pieces = put z.tables (mark_node rule place) z.pieces }) two in
    let P : Drafted → Type 0 = λ (z : Drafted). AssignsIn all has may place (term.Place at.kind at.of bounds lends makes) d z action.Evaluate false in
    subst P (sym is) (record {
      grown = grown_pieces d (put d.tables (mark_node rule place) low);
      named = tt;
      takes = λ env z ps below h. ap (λ (y : plain.Term). takes_value env y) h.is;
      stands = λ env known alike z value goes h.
          let below : List Piece = an_expr value ∷ [] in
          let made = read_of makes h.at in
          let of = declared_view at.of in
          let target = expression_of made place of in
          let ends = read_ends makes d.tables h.at high below (h.ends n) in
          record {
            made = broken_target rule place value (also target no_exprs);
            is = ap (λ (y : plain.Term). assigned env place value [] y) h.is ∙ ap (λ (b : Bool). if b then default_written env place made of value else Some (place_assigned h.at value)) object
                ∙ broken env d.tables made place value high below alike ends;
            fits = evaluated d.tables rule place value target low (ends m);
          };
    })

-- ---- values by their last nodes

abbrev is_element : bound.Node → Bool
is_element (element_value e es) = true
is_element node = false

abbrev is_use : bound.Node → Bool
is_use (library f text_form es compare base) = true
is_use this = true
is_use node = false

-- neither that nor what arguments lead to in the run gives an object that is written
abbrev is_apart : bound.Node → Bool
is_apart (library f text_form es compare base) = true
is_apart this = true
is_apart (late_item e es) = true
is_apart node = false

-- no element is on top
none_on_top : List Piece → Bool
none_on_top (an_expr (expr made place of operand) ∷ st) = not (is_element made)
none_on_top st = true

no_element_there : (t : Tables) (n : Node) (k : NodeKind) (st : List Piece) → ends_value k ≡ true → none_on_top (put_kind t n k st) ≡ true
unfolding none_on_top
no_element_there t n kinds.Load st h = place_passes none_on_top refl (λ x. expr_of n (load x)) (λ x rest. refl) st
no_element_there t n kinds.LoadMade st h = place_passes none_on_top refl (λ x. expr_of n (load_made x)) (λ x rest. refl) st
no_element_there t n (kinds.Method p count) st h = object_found_passes none_on_top refl (λ e args. expr_of n (method e p args)) (λ e args rest. refl) (arguments_off count st no_args)
no_element_there t n (kinds.MethodInOrder p count order) st h =
    object_found_passes none_on_top refl (λ e args. expr_of n (method e p (in_order (order_in t order) args))) (λ e args rest. refl) (arguments_off count st no_args)
no_element_there t n (kinds.FieldValue i) st h = value_passes none_on_top refl (λ e. expr_of n (field_value e i)) (λ e rest. refl) st
no_element_there t n (kinds.Call p count) st h = found_passes none_on_top refl (λ args. expr_of n (call p args)) (λ args rest. refl) (arguments_off count st no_args)
no_element_there t n (kinds.CallInOrder p count order) st h =
    found_passes none_on_top refl (λ args. expr_of n (call p (in_order (order_in t order) args))) (λ args rest. refl) (arguments_off count st no_args)
no_element_there t n (kinds.Library f text_form count compare one) st h =
    found_passes none_on_top refl (λ es. expr_of n (library f text_form es compare (base_view one))) (λ es rest. refl) (exprs_off count st no_exprs)
no_element_there t n (kinds.Marked broken count) st h = found_passes none_on_top refl (λ es. expr_of n (marked broken es)) (λ es rest. refl) (exprs_off count st no_exprs)
no_element_there t n (kinds.HostMember i count) st h =
    member_found_passes none_on_top refl (name_in t i) (λ e es. expr_of n (host_member e (name_in t i) es)) (λ e es rest. refl) (exprs_off count st no_exprs)
no_element_there t n (kinds.NamedMember i by count) st h =
    named_found_passes none_on_top refl (name_in t i) (by_name_in t by) (λ e es. expr_of n (named_member e (name_in t i) (by_name_in t by) es)) (λ e es rest. refl) (exprs_off count st no_exprs)
no_element_there t n (kinds.HostObject reference) st h = refl
no_element_there t n kinds.ActiveSheet st h = refl
no_element_there t n k st h = let e : false ≡ true = h in absurd cc

not_true : (b : Bool) → not b ≡ true → b ≡ false
not_true false h = refl
not_true true h = absurd cc

no_element : (t : Tables) (k : NodeKind) (made : bound.Node) (ps below : List Piece) → ends_value k ≡ true → ValueEnds t k made ps below → is_element made ≡ false
unfolding none_on_top
no_element t k made ps below h ends = not_true (is_element made) (sym (ap none_on_top (ends any_node)) ∙ no_element_there t any_node k ps h)

-- no use of a function of the library is on top, not Me, and nothing that arguments lead to in the run
no_use_on_top : List Piece → Bool
no_use_on_top (an_expr (expr made place of operand) ∷ st) = not (is_apart made)
no_use_on_top st = true

no_use_there : (t : Tables) (n : Node) (k : NodeKind) (st : List Piece) → is_kept k ≡ false → is_item_along k ≡ false → is_value_kind k ≡ true → no_use_on_top (put_kind t n k st) ≡ true
unfolding no_use_on_top
no_use_there t n (kinds.Constant i) st h along value = refl
no_use_there t n kinds.Load st h along value = place_passes no_use_on_top refl (λ x. expr_of n (load x)) (λ x rest. refl) st
no_use_there t n kinds.LoadMade st h along value = place_passes no_use_on_top refl (λ x. expr_of n (load_made x)) (λ x rest. refl) st
no_use_there t n kinds.This st h along value = let e : true ≡ false = h in absurd cc
no_use_there t n (kinds.NewObject c) st h along value = refl
no_use_there t n (kinds.Method p count) st h along value = object_found_passes no_use_on_top refl (λ e args. expr_of n (method e p args)) (λ e args rest. refl) (arguments_off count st no_args)
no_use_there t n (kinds.MethodInOrder p count order) st h along value =
    object_found_passes no_use_on_top refl (λ e args. expr_of n (method e p (in_order (order_in t order) args))) (λ e args rest. refl) (arguments_off count st no_args)
no_use_there t n (kinds.ElementValue count) st h along value = value_found_passes no_use_on_top refl (λ e es. expr_of n (element_value e es)) (λ e es rest. refl) (exprs_off count st no_exprs)
no_use_there t n (kinds.FieldValue i) st h along value = value_passes no_use_on_top refl (λ e. expr_of n (field_value e i)) (λ e rest. refl) st
no_use_there t n (kinds.Unary o of) st h along value = value_passes no_use_on_top refl (λ a. expr_of n (unary o (as_operand of a))) (λ e rest. refl) st
no_use_there t n (kinds.Binary o compare left right) st h along value =
    both_pass no_use_on_top refl (λ a b. expr_of n (binary o compare (as_operand left a) (as_operand right b))) (λ a b rest. refl) st
no_use_there t n (kinds.Call p count) st h along value = found_passes no_use_on_top refl (λ args. expr_of n (call p args)) (λ args rest. refl) (arguments_off count st no_args)
no_use_there t n (kinds.CallInOrder p count order) st h along value =
    found_passes no_use_on_top refl (λ args. expr_of n (call p (in_order (order_in t order) args))) (λ args rest. refl) (arguments_off count st no_args)
no_use_there t n (kinds.ErrValue _) st h along value = refl
no_use_there t n (kinds.Library f text_form count compare one) st h along value = let e : true ≡ false = h in absurd cc
no_use_there t n (kinds.Marked broken count) st h along value = found_passes no_use_on_top refl (λ es. expr_of n (marked broken es)) (λ es rest. refl) (exprs_off count st no_exprs)
no_use_there t n kinds.Same st h along value = both_pass no_use_on_top refl (λ a b. expr_of n (same a b)) (λ a b rest. refl) st
no_use_there t n (kinds.IsType of) st h along value = value_passes no_use_on_top refl (λ e. expr_of n (is_type e (declared_view of))) (λ e rest. refl) st
no_use_there t n (kinds.HostObject reference) st h along value = refl
no_use_there t n kinds.ActiveSheet st h along value = refl
no_use_there t n (kinds.HostMember i count) st h along value =
    member_found_passes no_use_on_top refl (name_in t i) (λ e es. expr_of n (host_member e (name_in t i) es)) (λ e es rest. refl) (exprs_off count st no_exprs)
no_use_there t n (kinds.NamedMember i by count) st h along value =
    named_found_passes no_use_on_top refl (name_in t i) (by_name_in t by) (λ e es. expr_of n (named_member e (name_in t i) (by_name_in t by) es)) (λ e es rest. refl) (exprs_off count st no_exprs)
no_use_there t n (kinds.LateMember x) st h along value =
    late_found_passes no_use_on_top refl (sought_in t Reading x) (λ e given. expr_of n (late_member e (name_in t x.name) (by_name_in t x.names) given)) (λ e given rest. refl)
    (given_off (sought_in t Reading x) x.arguments st none_given)
no_use_there t n (kinds.ItemAlong count) st h along value = let e : true ≡ false = along in absurd cc
no_use_there t n k st h along value = let e : false ≡ true = value in absurd cc

or_left : (a b : Bool) → a ≡ true → (a || b) ≡ true
or_left a b h = ap (λ (c : Bool). c || b) h

or_right : (a b : Bool) → b ≡ true → (a || b) ≡ true
or_right true b h = refl
or_right false b h = h

or_none : (a b : Bool) → a ≡ false → b ≡ false → (a || b) ≡ false
or_none true b h k = h
or_none false b h k = k

no_use : (e : Ending) (t : Tables) (made : bound.Node) (ps below : List Piece) → is_kept e.kind ≡ false → is_item_along e.kind ≡ false → is_value_kind e.kind ≡ true → ValueEnds t e.kind made ps below → is_apart made ≡ false
unfolding no_use_on_top
no_use e t made ps below other along value ends = not_true (is_apart made) (sym (ap no_use_on_top (ends any_node)) ∙ no_use_there t any_node e.kind ps other along value)

-- ---- values that give objects

object_gives : (made : bound.Node) (of : Declared) → is_apart made ≡ false → is_object of ≡ true → gives_object made of ≡ true
object_gives (late_item x es) of n h = let e : true ≡ false = n in absurd cc
object_gives (element_value x es) of n h = h
object_gives (library f text_form es compare base) of n h = let e : true ≡ false = n in absurd cc
object_gives this of n h = let e : true ≡ false = n in absurd cc
object_gives made of n h = or_left (is_object of) (has_object made of) h

pub ends_object : (e : Ending) → is_kept e.kind ≡ false → is_item_along e.kind ≡ false → is_value_kind e.kind ≡ true → is_object (declared_view e.of) ≡ true → EndsObject e
ends_object e other along value object t made ps below ends = object_gives made (declared_view e.of) (no_use e t made ps below other along value ends) object

variant_gives : (made : bound.Node) (of : Declared) → is_element made ≡ false → is_apart made ≡ false → has_object made of ≡ true → gives_object made of ≡ true
variant_gives (late_item x es) of n u h = let e : true ≡ false = u in absurd cc
variant_gives (element_value x es) of n u h = let e : true ≡ false = n in absurd cc
variant_gives (library f text_form es compare base) of n u h = let e : true ≡ false = u in absurd cc
variant_gives this of n u h = let e : true ≡ false = u in absurd cc
variant_gives made of n u h = or_right (is_object of) (has_object made of) h

pub ends_variant : (e : Ending) (gives : Bool) → is_kept e.kind ≡ false → is_item_along e.kind ≡ false → is_value_kind e.kind ≡ true → ends_value e.kind ≡ true → EndingGives e gives → MatchBool gives (EndsObject e) (Unit {0})
ends_variant e true other along value no_item g = λ t made ps below ends.
    variant_gives made (declared_view e.of) (no_element t e.kind made ps below no_item ends) (no_use e t made ps below other along value ends) (g t made ps below ends)
ends_variant e false other along value no_item g = tt

value_default : (env : Env) (place : Place) (v : bound.Expr) (made : bound.Node) (of : Declared) → gives_object made of ≡ true → value_written env place v made of ≡ default_written env place made of v
value_default env place v (late_item x es) of h = let e : false ≡ true = h in absurd cc
value_default env place v (element_value x es) of h = ap (λ (b : Bool). if b then default_written env place (element_value x es) of v else Some (assign_item x es v)) h
value_default env place v (library f text_form es compare base) of h = let e : false ≡ true = h in absurd cc
value_default env place v this of h = let e : false ≡ true = h in absurd cc
value_default env place v made of h = ap (λ (b : Bool). if b then default_written env place made of v else (if is_unassignable made then Some (not_assignable place v made of) else None)) h

pub value_assigned : (all : project.Declarations) (u : DeclaredType) (has : Bool) (may : Option Bool) (place : Place) (ending : Ending) (through : Bool) (d e : Drafted) → IsInstance has d.tables ending through → EndsObject ending
    → WrittenIs all ending (known_of.Type u) → e ≡ record d { pieces = put d.tables (node_of ending.kind place ending.of) d.pieces }
    → AssignsIn all has may place (term.Value ending) d e (default_kind through) false
value_assigned all u has may place ending through d e instance gives written eq =
    let P : Drafted → Type 0 = λ (z : Drafted). AssignsIn all has may place (term.Value ending) d z (default_kind through) false in
    let n = node_of ending.kind place ending.of in
    subst P (sym eq) (record {
      grown = grown_pieces d (put d.tables n d.pieces);
      named = default_named d.tables through;
      takes = λ env z ps below h. ap (λ (y : plain.Term). takes_value env y) h.is;
      stands = λ env known alike z value goes h.
          let of = declared_view ending.of in
          let below : List Piece = an_expr value ∷ [] in
          let target = expression_of h.made place of in
          record {
            made = default_action through target value;
            is = ap (λ (y : plain.Term). assigned env place value [] y) h.is ∙ value_default env place value h.made of (gives d.tables h.made d.pieces below h.ends)
                ∙ written env d.tables h.made place value d.pieces below alike h.ends ∙ ap (λ (a : Action). Some a) (through_is env target value through (instance env h.made place d.pieces below known h.ends));
            fits = ap (λ (ps : List Piece). action_of d.tables (default_kind through) ps) (h.ends n) ∙ default_fits d.tables through target value;
          };
    })

-- ---- values that can't be assigned to

pub known_wrong : (all : project.Declarations) (place : Place) (ending : Ending) (rule : ℕ) → EndsObject ending → WrittenIs all ending (known_of.Breaks rule) → EndsWrong all ending rule place
known_wrong all place ending rule gives broken env t made value ps below alike ends =
    value_default env place value made (declared_view ending.of) (gives t made ps below ends) ∙ broken env t made place value ps below alike ends

-- no other value is on top
wrong_on_top : List Piece → Bool
wrong_on_top (an_expr (expr made place of operand) ∷ st) = is_unassignable made
wrong_on_top st = true

wrong_there : (t : Tables) (n : Node) (k : NodeKind) (st : List Piece) → ends_unassignable k ≡ true → wrong_on_top (put_kind t n k st) ≡ true
unfolding wrong_on_top
wrong_there t n (kinds.Constant i) st h = refl
wrong_there t n (kinds.ErrValue _) st h = refl
wrong_there t n (kinds.Library f text_form count compare one) st h =
    found_passes wrong_on_top refl (λ es. expr_of n (library f text_form es compare (base_view one))) (λ es rest. refl) (exprs_off count st no_exprs)
wrong_there t n (kinds.Call p count) st h = found_passes wrong_on_top refl (λ args. expr_of n (call p args)) (λ args rest. refl) (arguments_off count st no_args)
wrong_there t n (kinds.CallInOrder p count order) st h =
    found_passes wrong_on_top refl (λ args. expr_of n (call p (in_order (order_in t order) args))) (λ args rest. refl) (arguments_off count st no_args)
wrong_there t n (kinds.Method p count) st h = object_found_passes wrong_on_top refl (λ e args. expr_of n (method e p args)) (λ e args rest. refl) (arguments_off count st no_args)
wrong_there t n (kinds.MethodInOrder p count order) st h =
    object_found_passes wrong_on_top refl (λ e args. expr_of n (method e p (in_order (order_in t order) args))) (λ e args rest. refl) (arguments_off count st no_args)
wrong_there t n (kinds.FieldValue i) st h = value_passes wrong_on_top refl (λ e. expr_of n (field_value e i)) (λ e rest. refl) st
wrong_there t n (kinds.Marked broken count) st h = found_passes wrong_on_top refl (λ es. expr_of n (marked broken es)) (λ es rest. refl) (exprs_off count st no_exprs)
wrong_there t n k st h = let e : false ≡ true = h in absurd cc

pub unassignable : (t : Tables) (k : NodeKind) (made : bound.Node) (ps below : List Piece) → ends_unassignable k ≡ true → ValueEnds t k made ps below → is_unassignable made ≡ true
unfolding wrong_on_top
unassignable t k made ps below h ends = sym (ap wrong_on_top (ends any_node)) ∙ wrong_there t any_node k ps h

-- no other value than a use of a function of the library, or Me, is on top
use_on_top : List Piece → Bool
use_on_top (an_expr (expr made place of operand) ∷ st) = is_use made
use_on_top st = true

use_there : (t : Tables) (n : Node) (k : NodeKind) (st : List Piece) → is_kept k ≡ true → use_on_top (put_kind t n k st) ≡ true
unfolding use_on_top
use_there t n (kinds.Library f text_form count compare one) st h =
    found_passes use_on_top refl (λ es. expr_of n (library f text_form es compare (base_view one))) (λ es rest. refl) (exprs_off count st no_exprs)
use_there t n kinds.This st h = refl
use_there t n k st h = let e : false ≡ true = h in absurd cc

use_is : (t : Tables) (k : NodeKind) (made : bound.Node) (ps below : List Piece) → is_kept k ≡ true → ValueEnds t k made ps below → is_use made ≡ true
unfolding use_on_top
use_is t k made ps below h ends = sym (ap use_on_top (ends any_node)) ∙ use_there t any_node k ps h

use_written : (env : Env) (place : Place) (v : bound.Expr) (made : bound.Node) (of : Declared) → is_use made ≡ true → value_written env place v made of ≡ Some (not_assignable place v made of)
use_written env place v (library f text_form es compare base) of h = refl
use_written env place v this of h = refl
use_written env place v made of h = let e : false ≡ true = h in absurd cc

pub kept_wrong : (ending : Ending) → is_kept ending.kind ≡ true → (all : project.Declarations) (place : Place) → EndsWrong all ending 27 place
kept_wrong ending h all place env t made value ps below alike ends = use_written env place value made (declared_view ending.of) (use_is t ending.kind made ps below h ends)

constant_written : (env : Env) (place : Place) (v : bound.Expr) (made : bound.Node) (of : Declared) → is_unassignable made ≡ true → (is_object of || has_object made of) ≡ false → value_written env place v made of ≡ Some (not_assignable place v made of)
constant_written env place v (constant c) of h none = ap (λ (b : Bool). if b then default_written env place (constant c) of v else Some (not_assignable place v (constant c) of)) none
constant_written env place v (err_value m) of h none = ap (λ (b : Bool). if b then default_written env place (err_value m) of v else Some (not_assignable place v (err_value m) of)) none
constant_written env place v (library f text_form es compare base) of h none = refl
constant_written env place v (call p args) of h none = ap (λ (b : Bool). if b then default_written env place (call p args) of v else Some (not_assignable place v (call p args) of)) none
constant_written env place v (method e p args) of h none = ap (λ (b : Bool). if b then default_written env place (method e p args) of v else Some (not_assignable place v (method e p args) of)) none
constant_written env place v (field_value e i) of h none = ap (λ (b : Bool). if b then default_written env place (field_value e i) of v else Some (not_assignable place v (field_value e i) of)) none
constant_written env place v (marked broken es) of h none = ap (λ (b : Bool). if b then default_written env place (marked broken es) of v else Some (not_assignable place v (marked broken es) of)) none
constant_written env place v made of h none = let e : false ≡ true = h in absurd cc

pub constant_wrong : (ending : Ending) (value : Bool) → ends_unassignable ending.kind ≡ true → MatchBool value (EndsValue ending) (Unit {0}) → MatchBool value ((all : project.Declarations) (place : Place) → EndsWrong all ending 27 place) (Unit {0})
constant_wrong ending true h plainly = λ all place env t made v ps below alike ends.
    constant_written env place v made (declared_view ending.of) (unassignable t ending.kind made ps below h ends) (plainly t made ps below ends)
constant_wrong ending false h plainly = tt

pub ends_plain : (ending : Ending) (gives : Bool) → is_object (declared_view ending.of) ≡ false → EndingGives ending gives → MatchBool (not gives) (EndsValue ending) (Unit {0})
ends_plain ending true none g = tt
ends_plain ending false none g = λ t made ps below ends. or_none (is_object (declared_view ending.of)) (has_object made (declared_view ending.of)) none (g t made ps below ends)

pub value_broken : (place : Place) (ending : Ending) (rule : ℕ) (d f e : Drafted) → f ≡ record d { pieces = put d.tables (node_of ending.kind place ending.of) d.pieces }
    → e ≡ record f { pieces = put f.tables (mark_node rule place) f.pieces } → (all : project.Declarations) (has : Bool) (may : Option Bool) → EndsWrong all ending rule place → AssignsIn all has may place (term.Value ending) d e action.Evaluate false
value_broken place ending rule d f e first second all has may wrong =
    let n = node_of ending.kind place ending.of in
    let low = put d.tables n d.pieces in
    let is : e ≡ record d { pieces = put d.tables (mark_node rule place) low } = second ∙ ap (λ (z : Drafted). record z { pieces = put z.tables (mark_node rule place) z.pieces }) first in
    let P : Drafted → Type 0 = λ (z : Drafted). AssignsIn all has may place (term.Value ending) d z action.Evaluate false in
    subst P (sym is) (record {
      grown = grown_pieces d (put d.tables (mark_node rule place) low);
      named = tt;
      takes = λ env z ps below h. ap (λ (y : plain.Term). takes_value env y) h.is;
      stands = λ env known alike z value goes h.
          let below : List Piece = an_expr value ∷ [] in
          let target = expression_of h.made place (declared_view ending.of) in
          record {
            made = broken_target rule place value (also target no_exprs);
            is = ap (λ (y : plain.Term). assigned env place value [] y) h.is ∙ wrong env d.tables h.made value d.pieces below alike h.ends;
            fits = evaluated d.tables rule place value target low (h.ends n);
          };
    })

-- a place that is no object's, and a member, are what they are in any project
pub term_in : (all : project.Declarations) (has : Bool) (may : Option Bool) (place : Place) (x : Term) (d e : Drafted) (kind : ActionKind) (given : Bool) → AssignsTerm has may place x d e kind given → AssignsIn all has may place x d e kind given
term_in all has may place x d e kind given a = record { grown = a.grown; named = a.named; takes = a.takes; stands = λ env known alike z value goes h. a.stands env known z value goes h }

-- ---- elements

-- numbers stand above a value of which they mean an item
record ItemThere (made : bound.Node) (o : Option (Exprs × List Piece)) (below : List Piece) : Type 0 where
  pub base : bound.Expr
  pub numbers : Exprs
  pub made_is : made ≡ element_value base numbers
  pub is : o ≡ Some (numbers, an_expr base ∷ below)

item_at : (made : bound.Node) (es : Exprs) (st below : List Piece) → of_value (λ x. expr_of any_node (element_value x es)) st ≡ expr_of any_node made ∷ below → ItemThere made (Some (es, st)) below
item_at made es (an_expr x ∷ st) below h =
    let same : element_value x es ≡ made = (let e : expr_of any_node (element_value x es) ∷ st ≡ expr_of any_node made ∷ below = h in cc) in
    let rest : st ≡ below = (let e : expr_of any_node (element_value x es) ∷ st ≡ expr_of any_node made ∷ below = h in cc) in
    record { base = x; numbers = es; made_is = sym same; is = ap (λ (l : List Piece). Some (es, an_expr x ∷ l)) rest }
item_at made es st below h = let e : misfit ≡ expr_of any_node made ∷ below = h in absurd cc

item_there : (made : bound.Node) (o : Option (Exprs × List Piece)) (below : List Piece) → of_value_found (λ x es. expr_of any_node (element_value x es)) o ≡ expr_of any_node made ∷ below → ItemThere made o below
item_there made None below h = let e : misfit ≡ expr_of any_node made ∷ below = h in absurd cc
item_there made (Some found) below h = item_at made found.0 found.1 below h

item_written : (env : Env) (place : Place) (v base : bound.Expr) (numbers : Exprs) (of : Declared) → is_object of ≡ false → value_written env place v (element_value base numbers) of ≡ Some (assign_item base numbers v)
item_written env place v base numbers of h =
    ap (λ (b : Bool). if b then default_written env place (element_value base numbers) of v else Some (assign_item base numbers v)) h

pub item_indexed : (all : project.Declarations) (has : Bool) (may : Option Bool) (place : Place) (ending : Ending) (count : ℕ) (d : Drafted) → EndsItem ending count → AssignsIndexed all has may place (term.Value ending) d d (action.AssignItem count)
item_indexed all has may place ending count d ends = record {
  grown = grown_same d;
  named = tt;
  stands = λ env known alike z value goes h.
      let of = declared_view ending.of in
      let below : List Piece = an_expr value ∷ [] in
      let K : NodeKind → Type 0 = λ (k : NodeKind). put_kind d.tables any_node k d.pieces ≡ expr_of any_node h.made ∷ below in
      let there = item_there h.made (exprs_off count d.pieces no_exprs) below (subst K ends.kind_is (h.ends any_node)) in
      record {
        made = assign_item there.base there.numbers value;
        is = ap (λ (y : plain.Term). assigned env place value [] y) h.is ∙ ap (λ (n : bound.Node). value_written env place value n of) there.made_is ∙ item_written env place value there.base there.numbers of ends.no_object;
        fits = ap (λ o. item_found o) there.is;
      };
}

-- what brackets made
pub term_indexed : (all : project.Declarations) (has : Bool) (may : Option Bool) (place : Place) (x : Term) (d e : Drafted) (kind : ActionKind) → AssignsIn all has may place x d e kind false → AssignsIndexed all has may place x d e kind
term_indexed all has may place x d e kind a = record { grown = a.grown; named = a.named; stands = λ env known alike z value goes h. a.stands env known alike z value goes h }

-- ---- what arguments index as the run says

pub late_variant : (has : Bool) (t : Tables) (e : Ending) → is_variant (declared_view e.of) ≡ true → EndsLate has t e true
late_variant has t e h env made place ps below known ends = ap (λ (b : Bool). b || (is_of_class (declared_view e.of) || is_found_late env (expression_of made place (declared_view e.of)))) h

pub late_class : (has : Bool) (t : Tables) (e : Ending) → is_variant (declared_view e.of) ≡ false → is_of_class (declared_view e.of) ≡ true → EndsLate has t e true
late_class has t e h c env made place ps below known ends =
    ap (λ (b : Bool). b || (is_of_class (declared_view e.of) || is_found_late env (expression_of made place (declared_view e.of)))) h
    ∙ ap (λ (b : Bool). b || is_found_late env (expression_of made place (declared_view e.of))) c

pub late_other : (has : Bool) (t : Tables) (e : Ending) (late : Option Bool) → is_variant (declared_view e.of) ≡ false → is_of_class (declared_view e.of) ≡ false → IfSome late (λ b. IsFoundLate has t e b) → IfSome late (λ b. EndsLate has t e b)
late_other has t e None h c l = tt
late_other has t e (Some b) h c l = λ env made place ps below known ends.
    ap (λ (d : Bool). d || (is_of_class (declared_view e.of) || is_found_late env (expression_of made place (declared_view e.of)))) h
    ∙ ap (λ (d : Bool). d || is_found_late env (expression_of made place (declared_view e.of))) c ∙ l env made place ps below known ends

pub place_late : (has : Bool) (t : Tables) (kind read : NodeKind) (of : DeclaredType) (bounds : ℕ) (lends makes : Bool) (late : Option Bool) → read ≡ read_kind makes → IfSome late (λ b. EndsLate has t (record { kind = read; of = of }) b)
    → IfSome late (λ b. IndexedLate has t (term.Place kind of bounds lends makes) b)
place_late has t kind read of bounds lends makes None reads l = tt
place_late has t kind read of bounds lends makes (Some b) reads l = λ env place z ps below known h.
    let N : NodeKind → Type 0 = λ (q : NodeKind). EndsLate has t (record { kind = q; of = of }) b in
    let n = node_of kind place of in
    let qs = put t n ps in
    ap (λ (y : plain.Term). is_indexed_late env place y) h.is ∙ subst N reads l env (read_of makes h.at) place qs below known (read_ends makes t h.at qs below (h.ends n))

pub value_late : (has : Bool) (t : Tables) (e : Ending) (late : Option Bool) → IfSome late (λ b. EndsLate has t e b) → IfSome late (λ b. IndexedLate has t (term.Value e) b)
value_late has t e None l = tt
value_late has t e (Some b) l = λ env place z ps below known h. ap (λ (y : plain.Term). is_indexed_late env place y) h.is ∙ l env h.made place ps below known h.ends

-- what is no place and no value isn't indexed
routine_late : (env : Env) (place : Place) (base : Option bound.Expr) (space : Space) (number : ℕ) (w : Written) → is_indexed_late env place (plain.routine_term base space number w) ≡ false
routine_late env place None space number w = refl
routine_late env place (Some b) space number w = refl

pub other_late : (has : Bool) (t : Tables) (x : Term) → ((kind : NodeKind) (of : DeclaredType) (bounds : ℕ) (lends makes : Bool) → (x ≡ term.Place kind of bounds lends makes) → ⊥) → ((e : Ending) → (x ≡ term.Value e) → ⊥) → IndexedLate has t x false
other_late has t (term.Place kind of bounds lends makes) n o = absurd (n kind of bounds lends makes refl)
other_late has t (term.Value e) n o = absurd (o e refl)
other_late has t (term.Routine r) n o = λ env place z ps below known h.
    let q = h.routine in ap (λ (y : plain.Term). is_indexed_late env place y) q.is ∙ routine_late env place q.base q.space q.number q.written
other_late has t (term.Property p) n o = λ env place z ps below known h.
    let q = h.property in ap (λ (y : plain.Term). is_indexed_late env place y) q.is ∙ routine_late env place q.base (space_view p.space.now) q.number (written_view p.written)
other_late has t (term.Function f) n o = λ env place z ps below known h. ap (λ (y : plain.Term). is_indexed_late env place y) h.0.is
other_late has t (term.HostMember m) n o = λ env place z ps below known h. ap (λ (y : plain.Term). is_indexed_late env place y) h.is
other_late has t (term.SheetMember m) n o = λ env place z ps below known h. ap (λ (y : plain.Term). is_indexed_late env place y) h.0
other_late has t term.Err n o = λ env place z ps below known h. ap (λ (y : plain.Term). is_indexed_late env place y) h.0
other_late has t term.ErrRaise n o = λ env place z ps below known h. ap (λ (y : plain.Term). is_indexed_late env place y) h.0
other_late has t term.ErrClear n o = λ env place z ps below known h. ap (λ (y : plain.Term). is_indexed_late env place y) h.0
other_late has t term.ErrorWord n o = λ env place z ps below known h. ap (λ (y : plain.Term). is_indexed_late env place y) h.0
other_late has t term.Nothing n o = λ env place z ps below known h. ap (λ (y : plain.Term). is_indexed_late env place y) h

-- a value in which arguments lead on is indexed so
pub late_value_indexed : (has : Bool) (t : Tables) (x : Term) (e : Ending) → IsLateValue has t x e → IndexedLate has t x true
late_value_indexed has t x e v =
    let P : Term → Type 0 = λ (y : Term). IndexedLate has t y true in
    subst P (sym v.is) (λ env place z ps below known h.
    let of = declared_view e.of in
    ap (λ (y : plain.Term). is_indexed_late env place y) h.is ∙ or_right (is_variant of) (is_of_class of || is_found_late env (expression_of h.made place of))
    (or_right (is_of_class of) (is_found_late env (expression_of h.made place of)) (v.late env h.made place ps below known h.ends)))
