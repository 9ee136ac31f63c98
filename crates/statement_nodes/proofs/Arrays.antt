-- Arrays and their bounds are pushed one after another.
use Rattle.std.proofs.Common.{◌≡◌, ℕ, ◌+◌, Bool, List, ◌∷◌, refl, ◌∙◌, sym, ap, subst}
use Rattle.std.specs.Prelude.{Option, Some, None, option_map, if◌then◌else◌}
use Rattle.vba_base.specs.declared.place.Place.{Place}
use Rattle.vba_values.specs.Types.{Declared}
use Rattle.vba_expression.specs.Tree.{Expr}
use Rattle.vba_lexer.specs.declared.token.Token.{Token}
use Rattle.vba_module.specs.Headers.{all_of}
use Rattle.vba_tree.specs.Tree.{Dim, upper, ReDimArray}
use Rattle.bound_project.specs.declared.declared_type.DeclaredType.{DeclaredType}
use Rattle.bound_project.specs.Expressions as bound
use Rattle.bound_project.specs.Expressions.{Lvalue, Exprs, no_exprs, also}
use Rattle.bound_project.specs.Statements.{Resizes, resize, Arrays, an_array}
use Rattle.bound_project.specs.Pieces.{Piece, an_expr, a_place, a_resize, an_erased, of_place, of_place_found, exprs_off, resizes_off, arrays_off}
use Rattle.bound_project.specs.Drafts.{Drafted}
use Rattle.bound_calls.specs.bound_declarations.specs.constant_values.specs.declared_names.specs.binder.specs.Sources.{base_of}
use Rattle.bound_calls.specs.bound_declarations.specs.constant_values.specs.declared_names.specs.binder.specs.Options.{from_two, from_three}
use Rattle.bound_calls.specs.bound_declarations.specs.constant_values.specs.declared_names.specs.binder.specs.Constants.{place_of_expression}
use Rattle.bound_calls.specs.bound_forms.specs.Terms.{Env}
use Rattle.bound_calls.specs.bound_forms.specs.Operands.{place_told}
use Rattle.bound_calls.specs.bound_forms.specs.ExpressionsBound.{bound_operand, term_of}
use Rattle.bound_calls.specs.bound_forms.specs.StatementsBound.{integer, last_broken, may_resize, redim_bounds, redim_type, redim_arrays, resized_by, resized_place, place_in, erased_arrays}
use Rattle.statement_nodes.specs.Pushed.{PlacePushed}
use Rattle.statement_nodes.specs.Actions.{ValuePushed}
use Rattle.statement_nodes.specs.Reads.{ItemPushed, Read}
use Rattle.statement_nodes.specs.Resizing.{ArrayTold, MarksBounds, is_resized}
use Rattle.statement_nodes.proofs.Items.{made_of_two, made_of_three, read_begins, read_more}

-- ---- bounds

pub bounds_begin : (all : Option Exprs) (d : Drafted) → Read Exprs exprs_off all all 0 d d
bounds_begin all d = read_begins Exprs exprs_off all d (λ st a. refl)

bound_pushed : (found : Option bound.Expr) (of : DeclaredType) (rest : Option Exprs) (d e : Drafted) → ValuePushed found of d e
    → ItemPushed Exprs exprs_off (from_two also found rest) rest d e
bound_pushed found of rest d e v = record {
  same = v.same;
  piece = an_expr v.pushed.made;
  make = also v.pushed.made;
  is = made_of_two also found v.pushed.made rest v.pushed.is;
  on_top = v.pushed.on_top;
  taken = λ n st a. refl;
}

-- behind one more bound
pub bound_read : (found : Option bound.Expr) (of : DeclaredType) (all rest : Option Exprs) (before count : ℕ) (base d e : Drafted) → ValuePushed found of d e → count ≡ before + 1
    → Read Exprs exprs_off all (from_two also found rest) before base d → Read Exprs exprs_off all rest count base e
bound_read found of all rest before count base d e v one r =
    read_more Exprs exprs_off all (from_two also found rest) rest before count base d e r (bound_pushed found of rest d e v) one

-- behind a low bound that isn't written
pub base_read : (env : Env) (e : Expr) (place : Place) (n : ℕ) (of : DeclaredType) (all rest : Option Exprs) (before count : ℕ) (base d f : Drafted)
    → place ≡ place_of_expression e → n ≡ base_of env.scope.here.source → ValuePushed (Some (integer place n)) of d f → count ≡ before + 1
    → Read Exprs exprs_off all (from_two also (Some (integer (place_of_expression e) (base_of env.scope.here.source))) rest) before base d
    → Read Exprs exprs_off all rest count base f
base_read env e place n of all rest before count base d f place_is n_is v one r =
    let same : integer place n ≡ integer (place_of_expression e) (base_of env.scope.here.source) =
    ap (λ (p : Place). integer p n) place_is ∙ ap (integer (place_of_expression e)) n_is in
    bound_read (Some (integer place n)) of all rest before count base d f v one
    (subst (λ (x : bound.Expr). Read Exprs exprs_off all (from_two also (Some x) rest) before base d) (sym same) r)

-- the bounds of a dimension, one after another
upper_bounds : (low : bound.Expr) (high : Option bound.Expr) (rest : Option Exprs)
    → from_two (λ h es. also low (also h es)) high rest ≡ from_two also (Some low) (from_two also high rest)
upper_bounds low None None = refl
upper_bounds low None (Some es) = refl
upper_bounds low (Some h) None = refl
upper_bounds low (Some h) (Some es) = refl

range_bounds : (low high : Option bound.Expr) (rest : Option Exprs)
    → from_three (λ a b es. also a (also b es)) low high rest ≡ from_two also low (from_two also high rest)
range_bounds None None None = refl
range_bounds None None (Some es) = refl
range_bounds None (Some b) None = refl
range_bounds None (Some b) (Some es) = refl
range_bounds (Some a) None None = refl
range_bounds (Some a) None (Some es) = refl
range_bounds (Some a) (Some b) None = refl
range_bounds (Some a) (Some b) (Some es) = refl

-- behind a dimension without a low bound
pub upper_read : (env : Env) (e : Expr) (rest : List Dim) (all : Option Exprs) (before : ℕ) (base d : Drafted)
    → Read Exprs exprs_off all (redim_bounds env (upper e ∷ rest)) before base d
    → Read Exprs exprs_off all
    (from_two also (Some (integer (place_of_expression e) (base_of env.scope.here.source))) (from_two also (bound_operand env e) (redim_bounds env rest))) before base d
upper_read env e rest all before base d r =
    subst (λ (x : Option Exprs). Read Exprs exprs_off all x before base d)
    (upper_bounds (integer (place_of_expression e) (base_of env.scope.here.source)) (bound_operand env e) (redim_bounds env rest)) r

-- and with one
pub range_read : (env : Env) (low high : Expr) (to_word : Token) (rest : List Dim) (all : Option Exprs) (before : ℕ) (base d : Drafted)
    → Read Exprs exprs_off all (redim_bounds env (Dim.range low to_word high ∷ rest)) before base d
    → Read Exprs exprs_off all (from_two also (bound_operand env low) (from_two also (bound_operand env high) (redim_bounds env rest))) before base d
range_read env low high to_word rest all before base d r =
    subst (λ (x : Option Exprs). Read Exprs exprs_off all x before base d) (range_bounds (bound_operand env low) (bound_operand env high) (redim_bounds env rest)) r

-- ---- arrays of a ReDim

pub resizes_begin : (all : Option Resizes) (d : Drafted) → Read Resizes resizes_off all all 0 d d
resizes_begin all d = read_begins Resizes resizes_off all d (λ st a. refl)

-- an array with its bounds
resized : (env : Env) (a : ReDimArray) (rest : List ReDimArray) (of : Option Declared) (x : Lvalue) (es : Exprs) → of ≡ redim_type env a.type_clause
    → resized_place (place_told a.place) (term_of env a.place) ≡ x → redim_bounds env (all_of a.dims) ≡ Some es
    → redim_arrays env (a ∷ rest) ≡ option_map (resize x (resized_by env a es) of) (redim_arrays env rest)
resized env a rest of x es of_is place bounds =
    made_of_two (λ fs rs. resize (resized_place (place_told a.place) (term_of env a.place)) (resized_by env a fs) (redim_type env a.type_clause) rs) (redim_bounds env (all_of a.dims)) es
    (redim_arrays env rest) bounds
    ∙ (ap (λ (y : Lvalue). option_map (resize y (resized_by env a es) (redim_type env a.type_clause)) (redim_arrays env rest)) place
    ∙ ap (λ (t : Option Declared). option_map (resize x (resized_by env a es) t) (redim_arrays env rest)) (sym of_is))

-- the bounds that it gets, by its type and the written one
bounds_got : (env : Env) (a : ReDimArray) (of : Option Declared) (own : Option DeclaredType) (place : Place) (es : Exprs) → of ≡ redim_type env a.type_clause
    → ((written : Option Declared) → may_resize (term_of env a.place) written ≡ is_resized own written) → place ≡ place_told a.place
    → (if is_resized own of then es else last_broken place es) ≡ resized_by env a es
bounds_got env a of own place es of_is resizes place_is =
    ap (λ (t : Option Declared). if is_resized own t then es else last_broken place es) of_is
    ∙ (ap (λ (b : Bool). if b then es else last_broken place es) (sym (resizes (redim_type env a.type_clause)))
    ∙ ap (λ (p : Place). if may_resize (term_of env a.place) (redim_type env a.type_clause) then es else last_broken p es) place_is)

-- the place and the bounds of an array
resize_made : (make : Lvalue → Exprs → Piece) (found : Option (Exprs × List Piece)) (x : Lvalue) (es : Exprs) (below : List Piece) → found ≡ Some (es, a_place x ∷ below)
    → of_place_found make found ≡ make x es ∷ below
resize_made make found x es below is = rw is

pub array_pushed : (env : Env) (a : ReDimArray) (rest : List ReDimArray) (of : Option Declared) (own : Option DeclaredType) (place : Place) (count : ℕ) (d e f m g : Drafted)
    → of ≡ redim_type env a.type_clause → ArrayTold env a.place own place d e
    → Read Exprs exprs_off (redim_bounds env (all_of a.dims)) (Some no_exprs) count e f → MarksBounds own of place count f m
    → g ≡ record m { pieces = of_place_found (λ x es. a_resize x es of) (exprs_off count m.pieces no_exprs) }
    → ItemPushed Resizes resizes_off (redim_arrays env (a ∷ rest)) (redim_arrays env rest) d g
array_pushed env a rest of own place count d e f m g of_is p r b is =
    let made = r.make no_exprs in
    let got = if is_resized own of then made else last_broken place made in
    let es = resized_by env a made in
    let taken : exprs_off count f.pieces no_exprs ≡ Some (made, a_place p.at ∷ d.pieces) = r.taken no_exprs ∙ ap (λ (ps : List Piece). Some (made, ps)) p.on_top in
    let marked : exprs_off count m.pieces no_exprs ≡ Some (got, a_place p.at ∷ d.pieces) = b.stands made (a_place p.at ∷ d.pieces) taken in
    let whole : exprs_off count m.pieces no_exprs ≡ Some (es, a_place p.at ∷ d.pieces) =
    marked ∙ ap (λ (fs : Exprs). Some (fs, a_place p.at ∷ d.pieces)) (bounds_got env a of own place made of_is p.resizes p.place_is) in
    record {
      same = record {
        statements = ap (λ (x : Drafted). x.statements) is ∙ (b.same.statements ∙ (r.same.statements ∙ p.grown.statements));
        bodies = ap (λ (x : Drafted). x.bodies) is ∙ (b.same.bodies ∙ (r.same.bodies ∙ p.grown.bodies));
      };
      piece = a_resize p.at es of;
      make = resize p.at es of;
      is = resized env a rest of p.at made of_is p.is r.is;
      on_top = ap (λ (x : Drafted). x.pieces) is ∙ resize_made (λ x fs. a_resize x fs of) (exprs_off count m.pieces no_exprs) p.at es d.pieces whole;
      taken = λ n st b. refl;
    }

-- ---- arrays of an Erase

pub arrays_begin : (all : Option Arrays) (d : Drafted) → Read Arrays arrays_off all all 0 d d
arrays_begin all d = read_begins Arrays arrays_off all d (λ st a. refl)

pub erased_pushed : (env : Env) (e : Expr) (rest : List Expr) (d f g : Drafted) → PlacePushed (place_in (term_of env e)) d f
    → g ≡ record f { pieces = of_place (λ x. an_erased x) f.pieces }
    → ItemPushed Arrays arrays_off (erased_arrays env (e ∷ rest)) (erased_arrays env rest) d g
erased_pushed env e rest d f g p is = record {
  same = record {
    statements = ap (λ (x : Drafted). x.statements) is ∙ p.grown.statements;
    bodies = ap (λ (x : Drafted). x.bodies) is ∙ p.grown.bodies;
  };
  piece = an_erased p.made;
  make = an_array p.made;
  is = made_of_two an_array (place_in (term_of env e)) p.made (erased_arrays env rest) p.is;
  on_top = ap (λ (x : Drafted). x.pieces) is ∙ ap (of_place (λ x. an_erased x)) p.on_top;
  taken = λ n st b. refl;
}
