-- How terms are taken as references, and operands that are objects.
use Rattle.std.proofs.Common.{◌≡◌, Bool, true, false, List, ◌∷◌, Some, None, refl, sym, ap, subst, ◌∙◌}
use Rattle.std.specs.Prelude.{ℕ, ◌==◌, ◌||◌, ◌&&◌, [], Option, if◌then◌else◌, option_map, option_and_then}
use Rattle.vba_base.specs.declared.place.Place.{Place}
use Rattle.vba_values.specs.declared.object.HostRef.TheVariants as host
use Rattle.vba_values.specs.Types.{Declared}
use Rattle.vba_values.specs.Types as type
use Rattle.bound_project.specs.declared.declared_type.DeclaredType.{DeclaredType}
use Rattle.bound_project.specs.declared.declared_type.DeclaredType.TheVariants.{Plain}
use Rattle.bound_project.specs.declared.declared_type.ElementType.TheVariants as element
use Rattle.bound_project.specs.declared.variable.ErrMember.TheVariants as err_member
use Rattle.bound_project.specs.declared.node.NodeKind.{NodeKind}
use Rattle.bound_project.specs.declared.node.NodeKind.TheVariants as node
use Rattle.bound_project.specs.View.{declarations_view, declared_view}
use Rattle.bound_project.specs.Project as project
use Rattle.bound_project.specs.Expressions.{err_value, err_number, host_object, default_of, default_if_any, no_exprs, also}
use Rattle.bound_project.specs.Expressions as bound
use Rattle.bound_project.specs.Pieces.{Piece, Tables, an_expr, of_value, expr_of, put}
use Rattle.bound_project.specs.Drafts.{Drafted, NodeNamed}
use Rattle.bound_declarations.specs.constant_values.specs.declared_names.specs.binder.specs.Options.{or_else}
use Rattle.bound_declarations.specs.constant_values.specs.declared_names.specs.binder.specs.Types.{is_object}
use Rattle.bound_declarations.specs.constant_values.specs.declared_names.specs.binder.specs.Constants.{is_variant}
use Rattle.bound_forms.specs.Terms.{Env, broken_rule, expression_of, typed_value, read_as, read_of}
use Rattle.bound_forms.specs.Terms as plain
use Rattle.bound_forms.specs.ClassDefaults.{default_read}
use Rattle.bound_forms.specs.ClassDefaults as plain_defaults
use Rattle.bound_forms.specs.Operands.{alone, class_given_way, default_rule, host_kind, has_object, plain_operand, given_way, default_value, typed_reference, value_of, operand_of, reference_of, given_as, place_told, is_reference_type}
use Rattle.bound_forms.specs.ExpressionsBound.{if_any, term_of}
use Rattle.bound_declarations.specs.constant_values.specs.declared_names.specs.binder.specs.Classes.{class_in}
use Rattle.class_defaults.specs.Known.{known_view}
use Rattle.class_defaults.specs.declared.known.Known.{Known}
use Rattle.class_defaults.specs.declared.known.Known.TheVariants as known
use Rattle.bound_calls.specs.declared.term.Ending.{Ending}
use Rattle.bound_calls.specs.declared.term.Term.{Term}
use Rattle.bound_calls.specs.declared.term.Term.TheVariants as term
use Rattle.bound_calls.specs.declared.term.Tree.{Tree}
use Rattle.bound_calls.specs.Standing.{TermStands}
use Rattle.bound_calls.specs.Steps.{PushesLeft, PushesOperand}
use Rattle.bound_calls.specs.Taking.{ReadsValue, StandsAlone, read_kind}
use Rattle.bound_calls.specs.References.{is_referring, refers, may_refer, by_rule, gives_way, default_ending, read_operand, read_reference, DefaultBreaks, DefaultIs, EndingGives, PushesAs, PushesStanding, ReadsGiven, TakesReference, PushesReference, TakesGiven, PushesGiven, PushesIfAny}
use Rattle.class_defaults.proofs.Passed.{class_is}
use Rattle.bound_calls.proofs.Growing.{grown_same, grown_pieces, grown_twice}
use Rattle.bound_calls.proofs.Taking.{is_err, node_of, not_err, operand_split, read_ends, read_named, reference_alone, unless_err}

-- what is taken as a reference is no value
object_too : (of : Declared) → is_reference_type of ≡ true → is_object of ≡ true
object_too type.object h = refl
object_too type.worksheet h = refl
object_too type.range h = refl
object_too (type.class n) h = refl
object_too type.collection h = refl
object_too type.boolean h = h
object_too type.byte h = h
object_too type.integer h = h
object_too type.long h = h
object_too type.long_long h = h
object_too type.currency h = h
object_too type.text h = h
object_too (type.fixed_text n) h = h
object_too type.variant h = h
object_too (type.udt n) h = h
object_too (type.array_of of) h = h

no_value_typed : (made : bound.Node) (place : Place) (of : Declared) → is_reference_type of ≡ true → typed_value made place of ≡ None
no_value_typed made place of h = ap (λ b. if b then None else Some (expression_of made place of)) (object_too of h)

referred : (made : bound.Node) (place : Place) (of : Declared) → (is_reference_type of || is_variant of) ≡ true → typed_reference made place of ≡ Some (expression_of made place of)
referred made place of h = ap (λ b. if b then Some (expression_of made place of) else None) h

pub no_value_there : (t : Tables) (x : Term) (env : Env) (y : plain.Term) (ps below : List Piece) → refers x ≡ true → TermStands env t x y ps below → (place : Place) → read_as typed_value y place ≡ None
no_value_there t (term.Place kind of bounds lends makes) env y ps below r h place = ap (λ z. read_as typed_value z place) h.is ∙ no_value_typed (read_of makes h.at) place (declared_view of) r
no_value_there t (term.Value e) env y ps below r h place = ap (λ z. read_as typed_value z place) h.is ∙ no_value_typed h.made place (declared_view e.of) r
no_value_there t term.Err env y ps below r h place = ap (λ z. read_as typed_value z place) h.0
no_value_there t (term.HostMember m) env y ps below r h place = let e : false ≡ true = r in absurd cc
no_value_there t (term.SheetMember m) env y ps below r h place = let e : false ≡ true = r in absurd cc
no_value_there t (term.Routine s) env y ps below r h place = let e : false ≡ true = r in absurd cc
no_value_there t (term.Property p) env y ps below r h place = let e : false ≡ true = r in absurd cc
no_value_there t (term.Function f) env y ps below r h place = let e : false ≡ true = r in absurd cc
no_value_there t term.ErrRaise env y ps below r h place = let e : false ≡ true = r in absurd cc
no_value_there t term.ErrClear env y ps below r h place = let e : false ≡ true = r in absurd cc
no_value_there t term.ErrorWord env y ps below r h place = let e : false ≡ true = r in absurd cc
no_value_there t term.Nothing env y ps below r h place = let e : false ≡ true = r in absurd cc

-- ---- references

pub takes_place : (kind : NodeKind) (of : DeclaredType) (bounds : ℕ) (lends makes : Bool) (place : Place) (d e : Drafted) (read : NodeKind) → read ≡ read_kind makes → is_referring of ≡ true
    → e ≡ record d { pieces = put d.tables (node_of kind place of) d.pieces } → TakesReference (term.Place kind of bounds lends makes) place d e (record { kind = read; of = of })
takes_place kind of bounds lends makes place d e read reads r eq =
    let P : Drafted → Type 0 = λ x. TakesReference (term.Place kind of bounds lends makes) place d x (record { kind = read_kind makes; of = of }) in
    let Q : NodeKind → Type 0 = λ q. TakesReference (term.Place kind of bounds lends makes) place d e (record { kind = q; of = of }) in
    subst Q (sym reads) (subst P (sym eq) (record {
      grown = grown_pieces d (put d.tables (node_of kind place of) d.pieces);
      named = read_named d.tables makes;
      stands = λ env y below k. record {
        made = read_of makes k.at;
        is = ap (λ z. read_reference z place) k.is ∙ referred (read_of makes k.at) place (declared_view of) r;
        ends = read_ends makes d.tables k.at (put d.tables (node_of kind place of) d.pieces) below (k.ends (node_of kind place of));
      };
    }))

pub takes_value : (v : Ending) (place : Place) (d : Drafted) → is_referring v.of ≡ true → NodeNamed d.tables v.kind → TakesReference (term.Value v) place d d v
takes_value v place d r n = record {
  grown = grown_same d;
  named = n;
  stands = λ env y below k. record {
    made = k.made;
    is = ap (λ z. read_reference z place) k.is ∙ referred k.made place (declared_view v.of) r;
    ends = k.ends;
  };
}

abbrev pub err_reference : Ending
err_reference = record { kind = node.HostObject host.ErrObject; of = Plain element.Object }

pub takes_err : (place : Place) (d : Drafted) → TakesReference term.Err place d d err_reference
takes_err place d = record {
  grown = grown_same d;
  named = tt;
  stands = λ env y below k. record {
    made = host_object host.ErrObject;
    is = ap (λ z. read_reference z place) k.0;
    ends = λ n. ap (λ st. expr_of n (host_object host.ErrObject) ∷ st) k.1;
  };
}

-- ---- what is pushed

pub pushes_reference : (x : Tree) (d a m e : Drafted) (made : Term) (v : Ending) → StandsAlone x.term x.place d a made → TakesReference made x.place a m v
    → e ≡ record m { pieces = put m.tables (node_of v.kind x.place v.of) m.pieces } → PushesReference x d e v.of
pushes_reference x d a m e made v s t eq =
    let P : Drafted → Type 0 = λ z. PushesReference x d z v.of in
    let e1 : Drafted = record m { pieces = put m.tables (node_of v.kind x.place v.of) m.pieces } in
    subst P (sym eq) (record {
      grown = grown_twice d a e1 s.grown (grown_twice a m e1 t.grown (grown_pieces m e1.pieces));
      stands = λ env tree below k.
          let y = term_of env tree in
          let h = t.stands env (alone env x.place y) below (s.stands env y below k.term_is) in
          let A : Place → Type 0 = λ place. reference_of env y place ≡ Some (expression_of h.made x.place (declared_view v.of)) in
          record { made = h.made; place = x.place; is = subst A k.place_is (reference_alone env y x.place ∙ h.is); on_top = h.ends (node_of v.kind x.place v.of) };
    })

pub given_reference : (x : Term) (place : Place) (d e : Drafted) (v : Ending) → refers x ≡ true → TakesReference x place d e v → ReadsGiven x place d e v
given_reference x place d e v r t = record {
  grown = t.grown;
  named = t.named;
  stands = λ env y below k.
      let h = t.stands env y below k in
      record {
        made = h.made;
        is = ap (λ o. or_else o (read_reference y place)) (no_value_there d.tables x env y d.pieces below r k place) ∙ h.is;
        ends = h.ends;
      };
}

-- a value is given as it is
pub given_value : (x : Term) (place : Place) (d e : Drafted) (v : Ending) → ReadsValue x place d e (Some v) → ReadsGiven x place d e v
given_value x place d e v t = record {
  grown = t.grown;
  named = t.named;
  stands = λ env y below k.
      let h = t.stands env y below k in
      record { made = h.made; is = ap (λ o. or_else o (read_reference y place)) h.is; ends = h.ends };
}

pub given_alone : (x : Term) (place : Place) (d m e : Drafted) (made : Term) (v : Ending) → StandsAlone x place d m made → ReadsGiven made place m e v → TakesGiven x place d e v
given_alone x place d m e made v s t = record {
  grown = grown_twice d m e s.grown t.grown;
  named = t.named;
  stands = λ env y below k.
      let h = t.stands env (alone env place y) below (s.stands env y below k) in
      record { made = h.made; is = ap (λ o. or_else (value_of env y place) o) (reference_alone env y place) ∙ h.is; ends = h.ends };
}

pub pushes_given : (x : Tree) (d m e : Drafted) (v : Ending) → TakesGiven x.term x.place d m v → e ≡ record m { pieces = put m.tables (node_of v.kind x.place v.of) m.pieces } → PushesGiven x d e v.of
pushes_given x d m e v t eq =
    let P : Drafted → Type 0 = λ z. PushesGiven x d z v.of in
    subst P (sym eq) (record {
      grown = grown_twice d m (record m { pieces = put m.tables (node_of v.kind x.place v.of) m.pieces }) t.grown (grown_pieces m (put m.tables (node_of v.kind x.place v.of) m.pieces));
      stands = λ env tree below k.
          let h = t.stands env (term_of env tree) below k.term_is in
          let A : Place → Type 0 = λ place. given_as env (term_of env tree) place ≡ Some (expression_of h.made x.place (declared_view v.of)) in
          record { made = expression_of h.made x.place (declared_view v.of); is = subst A k.place_is h.is; operand = refl; on_top = h.ends (node_of v.kind x.place v.of) };
    })

-- ---- operands

-- what is taken as a reference may be taken as one
first_holds : (a b : Bool) → a ≡ true → (a || b) ≡ true
first_holds a b h = ap (λ c. c || b) h

pub refers_may : (x : Term) → refers x ≡ true → may_refer x ≡ true
refers_may (term.Place kind of bounds lends makes) h = first_holds (is_reference_type (declared_view of)) (is_variant (declared_view of)) h
refers_may (term.Value e) h = first_holds (is_reference_type (declared_view e.of)) (is_variant (declared_view e.of)) h
refers_may (term.HostMember m) h = h
refers_may (term.SheetMember m) h = h
refers_may (term.Routine r) h = h
refers_may (term.Property p) h = h
refers_may (term.Function f) h = h
refers_may term.Err h = refl
refers_may term.ErrRaise h = h
refers_may term.ErrClear h = h
refers_may term.ErrorWord h = h
refers_may term.Nothing h = h

pub gives_refers : (x : Term) → gives_way x ≡ true → refers x ≡ true
gives_refers (term.Place kind of bounds lends makes) h = h
gives_refers (term.Value e) h = h
gives_refers (term.HostMember m) h = h
gives_refers (term.SheetMember m) h = h
gives_refers (term.Routine s) h = h
gives_refers (term.Property p) h = h
gives_refers (term.Function f) h = h
gives_refers term.Err h = refl
gives_refers term.ErrRaise h = h
gives_refers term.ErrClear h = h
gives_refers term.ErrorWord h = h
gives_refers term.Nothing h = h

-- what gives way is a reference, and no Err
given_way_there : (t : Tables) (x : Term) (env : Env) (y : plain.Term) (ps below : List Piece) → gives_way x ≡ true → TermStands env t x y ps below → (place : Place) → read_reference y place ≡ read_as typed_reference y place
given_way_there t (term.Place kind of bounds lends makes) env y ps below g h place = unless_err y place (ap is_err h.is)
given_way_there t (term.Value e) env y ps below g h place = unless_err y place (ap is_err h.is)
given_way_there t (term.HostMember m) env y ps below g h place = unless_err y place (ap is_err h.is)
given_way_there t (term.SheetMember m) env y ps below g h place = unless_err y place (ap is_err h.0)
given_way_there t (term.Routine s) env y ps below g h place = let e : false ≡ true = g in absurd cc
given_way_there t (term.Property p) env y ps below g h place = let e : false ≡ true = g in absurd cc
given_way_there t (term.Function f) env y ps below g h place = unless_err y place (ap is_err h.0.is)
given_way_there t term.Err env y ps below g h place = let e : false ≡ true = g in absurd cc
given_way_there t term.ErrRaise env y ps below g h place = unless_err y place (ap is_err h.0)
given_way_there t term.ErrClear env y ps below g h place = unless_err y place (ap is_err h.0)
given_way_there t term.ErrorWord env y ps below g h place = unless_err y place (ap is_err h.0)
given_way_there t term.Nothing env y ps below g h place = unless_err y place (ap is_err h)

abbrev pub variant : DeclaredType
variant = Plain element.Variant

-- of what is no class the rule says it
default_found : (d : project.Declarations) (place : Place) (made : bound.Node) (at : Place) (of : Declared) → class_in of ≡ None
    → default_value d place (expression_of made at of) ≡ Some (given_way (default_rule (host_kind made of)) place (expression_of made at of))
default_found d place made at (type.class n) h = let e : Some n ≡ None = h in absurd cc
default_found d place made at of h = refl

way_by_rule : (rule : Option ℕ) (place : Place) (e : bound.Expr) → Some (given_way rule place e) ≡ class_given_way (by_rule rule) place e
way_by_rule None place e = refl
way_by_rule (Some rule) place e = refl

-- what is known of the value to which an object gives way: of one of a class by its default member, and else by the rule
pub class_default : (d : project.Declarations) (e : Ending) (number : ℕ) (found : Known) → class_in (declared_view e.of) ≡ Some number → known_view found ≡ default_read d number → DefaultIs d e found
class_default d e number found is k = record {
  is = λ t made ps below ends place at.
      let same = class_is (declared_view e.of) number is in
      ap (λ (u : Declared). default_value d place (expression_of made at u)) same
      ∙ ap (λ (z : plain_defaults.Known). class_given_way z place (expression_of made at (type.class number))) (sym k)
      ∙ ap (λ (u : Declared). class_given_way (known_view found) place (expression_of made at u)) (sym same);
}

pub other_default : (d : project.Declarations) (e : Ending) (rule : Option ℕ) (found : Known) → class_in (declared_view e.of) ≡ None → DefaultBreaks e rule → known_view found ≡ by_rule rule → DefaultIs d e found
other_default d e rule found none breaks k = record {
  is = λ t made ps below ends place at.
      let x = expression_of made at (declared_view e.of) in
      default_found d place made at (declared_view e.of) none
      ∙ ap (λ (r : Option ℕ). Some (given_way r place x)) (breaks.breaks t made ps below ends)
      ∙ way_by_rule rule place x
      ∙ ap (λ (z : plain_defaults.Known). class_given_way z place x) (sym k);
}

-- the node that stands behind the object
pub behind_named : (t : Tables) (found : Known) (place : Place) (behind : Ending) → default_ending found place ≡ Some behind → NodeNamed t behind.kind
behind_named t (known.Type of) place behind h =
    let made : Ending = record { kind = node.DefaultOf; of = of } in
    let e : Some made ≡ Some behind = h in
    let same : made ≡ behind = cc in
    let N : Ending → Type 0 = λ b. NodeNamed t b.kind in
    subst N same tt
behind_named t (known.Breaks rule) place behind h =
    let made : Ending = record { kind = node.Marked (record { rule = rule; place = place }) 1; of = variant } in
    let e : Some made ≡ Some behind = h in
    let same : made ≡ behind = cc in
    let N : Ending → Type 0 = λ b. NodeNamed t b.kind in
    subst N same tt
behind_named t known.NotSaid place behind h = let e : None ≡ Some behind = h in absurd cc

record GivesWay (t : Tables) (found : Known) (place : Place) (behind : Ending) (x : bound.Expr) (below : List Piece) : Type 0 where
  pub made : bound.Expr
  pub is : class_given_way (known_view found) place x ≡ Some made
  pub operand : bound.operand_type made ≡ declared_view behind.of
  pub on_top : put t (node_of behind.kind place behind.of) (an_expr x ∷ below) ≡ an_expr made ∷ below

behind_gives : (t : Tables) (found : Known) (place : Place) (behind : Ending) (x : bound.Expr) (below : List Piece) → default_ending found place ≡ Some behind → GivesWay t found place behind x below
behind_gives t (known.Type of) place behind x below h =
    let made : Ending = record { kind = node.DefaultOf; of = of } in
    let e : Some made ≡ Some behind = h in
    let same : made ≡ behind = cc in
    let N : Ending → Type 0 = λ b. GivesWay t (known.Type of) place b x below in
    subst N same (record { made = expression_of (default_of x) place (declared_view of); is = refl; operand = refl; on_top = refl })
behind_gives t (known.Breaks rule) place behind x below h =
    let made : Ending = record { kind = node.Marked (record { rule = rule; place = place }) 1; of = variant } in
    let e : Some made ≡ Some behind = h in
    let same : made ≡ behind = cc in
    let N : Ending → Type 0 = λ b. GivesWay t (known.Breaks rule) place b x below in
    subst N same (record { made = broken_rule rule place (also x no_exprs); is = refl; operand = refl; on_top = refl })
behind_gives t known.NotSaid place behind x below h = let e : None ≡ Some behind = h in absurd cc

pub pushes_default : (known : project.Declarations) (x : Term) (place : Place) (d m n e : Drafted) (v : Ending) (found : Known) (behind : Ending) → gives_way x ≡ true → TakesReference x place d m v → DefaultIs known v found
    → default_ending found place ≡ Some behind → n ≡ record m { pieces = put m.tables (node_of v.kind place v.of) m.pieces }
    → e ≡ record n { pieces = put n.tables (node_of behind.kind place behind.of) n.pieces } → PushesStanding known x place d e behind.of
pushes_default known x place d m n e v found behind w t gives is one two =
    let n1 : Drafted = record m { pieces = put m.tables (node_of v.kind place v.of) m.pieces } in
    let e1 : Drafted = record n1 { pieces = put n1.tables (node_of behind.kind place behind.of) n1.pieces } in
    let all : e ≡ e1 = two ∙ ap (λ (z : Drafted). record z { pieces = put z.tables (node_of behind.kind place behind.of) z.pieces }) one in
    let P : Drafted → Type 0 = λ z. PushesStanding known x place d z behind.of in
    subst P (sym all) (record {
      grown = grown_twice d m e1 t.grown (grown_twice m n1 e1 (grown_pieces m n1.pieces) (grown_pieces n1 e1.pieces));
      stands = λ env y below k.
          let h = t.stands env y below k in
          let reference = expression_of h.made place (declared_view v.of) in
          let g = behind_gives m.tables found place behind reference below is in
          record {
            made = g.made;
            is = ap (λ o. or_else (option_map plain_operand o) (option_and_then (default_value known place) (read_as typed_reference y place))) (no_value_there d.tables x env y d.pieces below (gives_refers x w) k place)
                ∙ ap (λ o. option_and_then (default_value known place) o) (sym (given_way_there d.tables x env y d.pieces below w k place) ∙ h.is)
                ∙ gives.is m.tables h.made m.pieces below h.ends place place
                ∙ g.is;
            operand = g.operand;
            on_top = ap (λ st. put m.tables (node_of behind.kind place behind.of) st) (h.ends (node_of v.kind place v.of)) ∙ g.on_top;
          };
    })

-- Err is its number
pub pushes_err : (x : Tree) (d e : Drafted) → x.term ≡ term.Err → e ≡ record d { pieces = put d.tables (node_of (node.ErrValue err_member.Number) x.place (Plain element.Long)) d.pieces } → PushesOperand x d e (Some (Plain element.Long))
pushes_err x d e is eq =
    let long = Plain element.Long in
    let P : Drafted → Type 0 = λ z. PushesOperand x d z (Some long) in
    let n = node_of (node.ErrValue err_member.Number) x.place long in
    subst P (sym eq) (record {
      grown = grown_pieces d (put d.tables n d.pieces);
      stands = λ env tree below k.
          let A : Term → Type 0 = λ t. TermStands env d.tables t (term_of env tree) d.pieces below in
          let s = subst A is k.term_is in
          record {
            made = expression_of (err_value err_number) x.place type.long;
            is = ap (λ z. operand_of env z (place_told tree)) s.0 ∙ ap (λ (q : Place). Some (expression_of (err_value err_number) q type.long)) (sym k.place_is);
            operand = refl;
            on_top = ap (λ st. expr_of n (err_value err_number) ∷ st) s.1;
          };
    })

-- ---- what stands behind the last node of a value

plain_is : (made : bound.Node) (place : Place) (of : Declared) (b : Bool) → has_object made of ≡ b
    → plain_operand (expression_of made place of) ≡ (if b then expression_of (default_of (expression_of made place of)) place type.variant else expression_of made place of)
plain_is made place of b h = ap (λ c. if c then expression_of (default_of (expression_of made place of)) place type.variant else expression_of made place of) h

pub plainly_same : (v : Ending) (place : Place) (d e : Drafted) → EndingGives v false → e ≡ record d { pieces = put d.tables (node_of v.kind place v.of) d.pieces } → PushesAs plain_operand v place d e v.of
plainly_same v place d e g eq =
    let P : Drafted → Type 0 = λ z. PushesAs plain_operand v place d z v.of in
    subst P (sym eq) (record {
      grown = grown_pieces d (put d.tables (node_of v.kind place v.of) d.pieces);
      stands = λ made below ends. record {
        made = expression_of made place (declared_view v.of);
        is = ap (λ x. Some x) (plain_is made place (declared_view v.of) false (g d.tables made d.pieces below ends));
        operand = refl;
        on_top = ends (node_of v.kind place v.of);
      };
    })

pub plainly_default : (v : Ending) (place : Place) (d m e : Drafted) → EndingGives v true → m ≡ record d { pieces = put d.tables (node_of v.kind place v.of) d.pieces }
    → e ≡ record m { pieces = put m.tables (node_of node.DefaultOf place variant) m.pieces } → PushesAs plain_operand v place d e variant
plainly_default v place d m e g one two =
    let m1 : Drafted = record d { pieces = put d.tables (node_of v.kind place v.of) d.pieces } in
    let e1 : Drafted = record m1 { pieces = put m1.tables (node_of node.DefaultOf place variant) m1.pieces } in
    let all : e ≡ e1 = two ∙ ap (λ (z : Drafted). record z { pieces = put z.tables (node_of node.DefaultOf place variant) z.pieces }) one in
    let P : Drafted → Type 0 = λ z. PushesAs plain_operand v place d z variant in
    subst P (sym all) (record {
      grown = grown_twice d m1 e1 (grown_pieces d m1.pieces) (grown_pieces m1 e1.pieces);
      stands = λ made below ends. record {
        made = expression_of (default_of (expression_of made place (declared_view v.of))) place type.variant;
        is = ap (λ x. Some x) (plain_is made place (declared_view v.of) true (g d.tables made d.pieces below ends));
        operand = refl;
        on_top = ap (λ st. of_value (λ x. expr_of (node_of node.DefaultOf place variant) (default_of x)) st) (ends (node_of v.kind place v.of));
      };
    })

any_is : (made : bound.Node) (place : Place) (of : Declared) (o b : Bool) → is_object of ≡ o → has_object made of ≡ b
    → if_any (expression_of made place of) ≡ (if o || b then expression_of (default_if_any (expression_of made place of)) place type.variant else expression_of made place of)
any_is made place of o b h k =
    ap (λ c. if c || has_object made of then expression_of (default_if_any (expression_of made place of)) place type.variant else expression_of made place of) h
    ∙ ap (λ c. if o || c then expression_of (default_if_any (expression_of made place of)) place type.variant else expression_of made place of) k

any_by : (made : bound.Node) (place : Place) (of : Declared) (o b c : Bool) → is_object of ≡ o → has_object made of ≡ b → (o || b) ≡ c
    → if_any (expression_of made place of) ≡ (if c then expression_of (default_if_any (expression_of made place of)) place type.variant else expression_of made place of)
any_by made place of o b c h k is =
    any_is made place of o b h k ∙ ap (λ z. if z then expression_of (default_if_any (expression_of made place of)) place type.variant else expression_of made place of) is

pub if_any_same : (v : Ending) (place : Place) (d e : Drafted) (o b : Bool) → is_object (declared_view v.of) ≡ o → EndingGives v b → (o || b) ≡ false → e ≡ record d { pieces = put d.tables (node_of v.kind place v.of) d.pieces }
    → PushesAs if_any v place d e v.of
if_any_same v place d e o b h g is eq =
    let P : Drafted → Type 0 = λ z. PushesAs if_any v place d z v.of in
    subst P (sym eq) (record {
      grown = grown_pieces d (put d.tables (node_of v.kind place v.of) d.pieces);
      stands = λ made below ends. record {
        made = expression_of made place (declared_view v.of);
        is = ap (λ x. Some x) (any_by made place (declared_view v.of) o b false h (g d.tables made d.pieces below ends) is);
        operand = refl;
        on_top = ends (node_of v.kind place v.of);
      };
    })

pub if_any_default : (v : Ending) (place : Place) (d m e : Drafted) (o b : Bool) → is_object (declared_view v.of) ≡ o → EndingGives v b → (o || b) ≡ true
    → m ≡ record d { pieces = put d.tables (node_of v.kind place v.of) d.pieces } → e ≡ record m { pieces = put m.tables (node_of node.DefaultIfAny place variant) m.pieces } → PushesAs if_any v place d e variant
if_any_default v place d m e o b h g is one two =
    let m1 : Drafted = record d { pieces = put d.tables (node_of v.kind place v.of) d.pieces } in
    let e1 : Drafted = record m1 { pieces = put m1.tables (node_of node.DefaultIfAny place variant) m1.pieces } in
    let all : e ≡ e1 = two ∙ ap (λ (z : Drafted). record z { pieces = put z.tables (node_of node.DefaultIfAny place variant) z.pieces }) one in
    let P : Drafted → Type 0 = λ z. PushesAs if_any v place d z variant in
    subst P (sym all) (record {
      grown = grown_twice d m1 e1 (grown_pieces d m1.pieces) (grown_pieces m1 e1.pieces);
      stands = λ made below ends. record {
        made = expression_of (default_if_any (expression_of made place (declared_view v.of))) place type.variant;
        is = ap (λ x. Some x) (any_by made place (declared_view v.of) o b true h (g d.tables made d.pieces below ends) is);
        operand = refl;
        on_top = ap (λ st. of_value (λ x. expr_of (node_of node.DefaultIfAny place variant) (default_if_any x)) st) (ends (node_of v.kind place v.of));
      };
    })

-- a value as an operand
pub value_plainly : (known : project.Declarations) (x : Term) (place : Place) (d m e : Drafted) (v : Ending) (of : DeclaredType) → ReadsValue x place d m (Some v) → PushesAs plain_operand v place m e of → PushesStanding known x place d e of
value_plainly known x place d m e v of t p = record {
  grown = grown_twice d m e t.grown p.grown;
  stands = λ env y below k.
      let h = t.stands env y below k in
      let s = p.stands h.made below h.ends in
      let other = option_and_then (default_value known place) (read_as typed_reference y place) in
      record {
        made = s.made;
        is = ap (λ o. or_else (option_map plain_operand o) other) h.is ∙ ap (λ o. or_else o other) s.is;
        operand = s.operand;
        on_top = s.on_top;
      };
}

-- what stands alone as an operand
pub operand_alone : (x : Tree) (d m e : Drafted) (made : Term) (of : DeclaredType) → not_err x.term → StandsAlone x.term x.place d m made → PushesStanding (declarations_view x.declared.now) made x.place m e of → PushesOperand x d e (Some of)
operand_alone x d m e made of n s p = record {
  grown = grown_twice d m e s.grown p.grown;
  stands = λ env tree below k.
      let y = term_of env tree in
      let known = declarations_view x.declared.now in
      let h = p.stands env (alone env x.place y) below (s.stands env y below k.term_is) in
      record {
        made = h.made;
        is = operand_split env d.tables x.term n y d.pieces below k.term_is (place_told tree)
            ∙ ap (λ (z : project.Declarations). read_operand z (alone env (place_told tree) y) (place_told tree)) k.declared_is
            ∙ ap (λ (q : Place). read_operand known (alone env q y) q) (sym k.place_is)
            ∙ h.is;
        operand = h.operand;
        on_top = h.on_top;
      };
}

pub given_if_any : (x : Tree) (d m e : Drafted) (v : Ending) (of : DeclaredType) → TakesGiven x.term x.place d m v → PushesAs if_any v x.place m e of → PushesIfAny x d e of
given_if_any x d m e v of t p = record {
  grown = grown_twice d m e t.grown p.grown;
  stands = λ env tree below k.
      let y = term_of env tree in
      let place = place_told tree in
      let h = t.stands env y below k.term_is in
      let s = p.stands h.made below h.ends in
      let here : given_as env y place ≡ Some (expression_of h.made x.place (declared_view v.of)) = ap (λ (q : Place). given_as env y q) (sym k.place_is) ∙ h.is in
      record { made = s.made; is = ap (λ o. option_map if_any o) here ∙ s.is; operand = s.operand; on_top = s.on_top };
}

-- ---- left operands

pub left_reference : (x : Tree) (d e : Drafted) (of : DeclaredType) → PushesReference x d e of → PushesLeft x d e (record { of = Some of; is_reference = true })
left_reference x d e of h = record {
  grown = h.grown;
  stands = λ env tree below k.
      let s = h.stands env tree below k in
      record { made = expression_of s.made s.place (declared_view of); is = s.is; operand = refl; on_top = s.on_top };
}

pub left_operand : (x : Tree) (d e : Drafted) (of : Option DeclaredType) → PushesOperand x d e of → PushesLeft x d e (record { of = of; is_reference = false })
left_operand x d e of h = record { grown = h.grown; stands = h.stands }
