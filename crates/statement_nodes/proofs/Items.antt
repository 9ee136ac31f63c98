-- Tests and items are pushed one after another.
use Rattle.std.proofs.Common.{◌≡◌, ℕ, suc, ◌+◌, true, List, [], ◌∷◌, refl, ◌∙◌, sym, ap, subst, arith}
use Rattle.std.specs.Prelude.{Option, Some, None, Result, Ok, Err, OnOk, option_map}
use Rattle.vba_tree.specs.Tree.{CaseTest, value, comparison, PrintItem}
use Rattle.vba_lexer.specs.declared.token.Token.{Token}
use Rattle.vba_expression.specs.declared.operator.BinaryOperator.{BinaryOperator}
use Rattle.vba_expression.specs.Tree.{Expr}
use Rattle.vba_base.specs.declared.place.Place.{Place}
use Rattle.vba_values.specs.declared.types.OpKind.{OpKind}
use Rattle.vba_values.specs.declared.types.OpKind.TheVariants as op
use Rattle.bound_project.specs.declared.declared_type.DeclaredType.{DeclaredType}
use Rattle.bound_project.specs.Expressions as bound
use Rattle.bound_project.specs.Expressions.{Prints, shown, zone}
use Rattle.bound_project.specs.Statements.{Tests, test_is, test_range}
use Rattle.bound_project.specs.Pieces.{Piece, an_expr, a_value_shown, a_zone, a_test_begun, a_test_is, a_test_range, as_operand, of_value, of_test, of_range, prints_off, tests_off}
use Rattle.bound_project.specs.Drafts.{Drafted}
use Rattle.bound_calls.specs.bound_declarations.specs.constant_values.specs.declared_names.specs.binder.specs.Options.{from_two, from_three}
use Rattle.bound_calls.specs.bound_declarations.specs.constant_values.specs.declared_names.specs.binder.specs.Constants.{operator_kind, place_of_expression}
use Rattle.bound_calls.specs.bound_forms.specs.Terms.{Env}
use Rattle.bound_calls.specs.bound_forms.specs.ExpressionsBound.{bound_operand}
use Rattle.bound_calls.specs.bound_forms.specs.StatementsBound.{case_tests, ends_line}
use Rattle.statement_nodes.specs.Actions.{ValuePushed}
use Rattle.statement_nodes.specs.Reads.{ItemPushed, Read, ends_after}
use Rattle.statement_nodes.proofs.Ended.{as_operand_itself}

mapped_itself : {A : Type 0} (x : Option A) → x ≡ option_map (λ a. a) x
mapped_itself None = refl
mapped_itself (Some a) = refl

mapped_twice : {A : Type 0} (f g : A → A) (x : Option A) → option_map f (option_map g x) ≡ option_map (λ a. f (g a)) x
mapped_twice f g None = refl
mapped_twice f g (Some a) = refl

-- before the first
pub read_begins : (A : Type 0) (off : ℕ → List Piece → A → Option (A × List Piece)) (all : Option A) (d : Drafted)
    → ((st : List Piece) (a : A) → off 0 st a ≡ Some (a, st)) → Read A off all all 0 d d
read_begins A off all d none = record {
  same = record { statements = refl; bodies = refl };
  make = λ a. a;
  is = mapped_itself all;
  taken = λ a. none d.pieces a;
}

-- behind one more
pub read_more : (A : Type 0) (off : ℕ → List Piece → A → Option (A × List Piece)) (all left rest : Option A) (count more : ℕ) (d e f : Drafted)
    → Read A off all left count d e → ItemPushed A off left rest e f → more ≡ count + 1 → Read A off all rest more d f
read_more A off all left rest count more d e f r x one =
    let more_is : more ≡ suc count = omega arith in
    record {
      same = record { statements = x.same.statements ∙ r.same.statements; bodies = x.same.bodies ∙ r.same.bodies };
      make = λ a. r.make (x.make a);
      is = r.is ∙ (ap (option_map r.make) x.is ∙ mapped_twice r.make x.make rest);
      taken = λ a. ap (λ n. off n f.pieces a) more_is ∙ (ap (λ ps. off (suc count) ps a) x.on_top ∙ (x.taken count e.pieces a ∙ r.taken (x.make a)));
    }

pub tests_begin : (all : Option Tests) (d : Drafted) → Read Tests tests_off all all 0 d d
tests_begin all d = read_begins Tests tests_off all d (λ st a. refl)

pub prints_begin : (all : Option Prints) (d : Drafted) → Read Prints prints_off all all 0 d d
prints_begin all d = read_begins Prints prints_off all d (λ st a. refl)

-- ---- tests of a Case

pub made_of_two : {A B C : Type 0} (f : A → B → C) (x : Option A) (a : A) (y : Option B) → x ≡ Some a → from_two f x y ≡ option_map (f a) y
made_of_two f x a None is = rw is
made_of_two f x a (Some b) is = rw is

pub made_of_three : {A B C D : Type 0} (f : A → B → C → D) (x : Option A) (a : A) (y : Option B) (b : B) (z : Option C) → x ≡ Some a → y ≡ Some b
    → from_three f x y z ≡ option_map (f a b) z
made_of_three f x a y b None is is1 = rw (is, is1)
made_of_three f x a y b (Some c) is is1 = rw (is, is1)

-- `Is o value`
pub test_is_pushed : (o : OpKind) (at : Place) (found : Option bound.Expr) (of : DeclaredType) (rest : Option Tests) (d e f g : Drafted)
    → e ≡ record d { pieces = a_test_begun ∷ d.pieces } → ValuePushed found of e f
    → g ≡ record f { pieces = of_test (λ x. a_test_is o at (as_operand of x)) f.pieces }
    → ItemPushed Tests tests_off (from_two (test_is o at) found rest) rest d g
test_is_pushed o at found of rest d e f g begun v is =
    let begun_pieces : e.pieces ≡ a_test_begun ∷ d.pieces = ap (λ (x : Drafted). x.pieces) begun in
    let pieces : f.pieces ≡ an_expr v.pushed.made ∷ a_test_begun ∷ d.pieces = v.pushed.on_top ∙ ap (λ ps. an_expr v.pushed.made ∷ ps) begun_pieces in
    record {
      same = record {
        statements = ap (λ (x : Drafted). x.statements) is ∙ (v.same.statements ∙ ap (λ (x : Drafted). x.statements) begun);
        bodies = ap (λ (x : Drafted). x.bodies) is ∙ (v.same.bodies ∙ ap (λ (x : Drafted). x.bodies) begun);
      };
      piece = a_test_is o at v.pushed.made;
      make = test_is o at v.pushed.made;
      is = made_of_two (test_is o at) found v.pushed.made rest v.pushed.is;
      on_top =
          ap (λ (x : Drafted). x.pieces) is
          ∙ (ap (of_test (λ x. a_test_is o at (as_operand of x))) pieces ∙ ap (λ x. a_test_is o at x ∷ d.pieces) (as_operand_itself of v.pushed.made v.pushed.operand));
      taken = λ n st a. refl;
    }

-- `Is o value`, where the operator may be none
pub comparison_pushed : (found_operator : Option OpKind) (o : OpKind) (at : Place) (found : Option bound.Expr) (rest : Option Tests) (d g : Drafted)
    → Some o ≡ found_operator → ItemPushed Tests tests_off (from_two (test_is o at) found rest) rest d g
    → ItemPushed Tests tests_off (from_three (λ k x us. test_is k at x us) found_operator found rest) rest d g
comparison_pushed found_operator o at found rest d g is x = record {
  same = x.same;
  piece = x.piece;
  make = x.make;
  is = ap (λ p. from_three (λ k x us. test_is k at x us) p found rest) (sym is) ∙ (three_with o found rest ∙ x.is);
  on_top = x.on_top;
  taken = x.taken;
}
  where
    three_with : (o : OpKind) (found : Option bound.Expr) (rest : Option Tests) → from_three (λ k x us. test_is k at x us) (Some o) found rest ≡ from_two (test_is o at) found rest
    three_with o None None = refl
    three_with o None (Some b) = refl
    three_with o (Some a) None = refl
    three_with o (Some a) (Some b) = refl

-- `low To high`
pub test_range_pushed : (low high : Option bound.Expr) (of to_type : DeclaredType) (low_at high_at low_told high_told : Place) (rest : Option Tests) (d e f g h : Drafted)
    → e ≡ record d { pieces = a_test_begun ∷ d.pieces } → ValuePushed low of e f → ValuePushed high to_type f g
    → low_at ≡ low_told → high_at ≡ high_told → h ≡ record g { pieces = of_range (λ x y. a_test_range (as_operand of x) (as_operand to_type y) low_at high_at) g.pieces }
    → ItemPushed Tests tests_off (from_three (λ x y us. test_range x y low_told high_told us) low high rest) rest d h
test_range_pushed low high of to_type low_at high_at low_told high_told rest d e f g h begun a b one other is =
    let begun_pieces : e.pieces ≡ a_test_begun ∷ d.pieces = ap (λ (x : Drafted). x.pieces) begun in
    let a_is : f.pieces ≡ an_expr a.pushed.made ∷ a_test_begun ∷ d.pieces = a.pushed.on_top ∙ ap (λ ps. an_expr a.pushed.made ∷ ps) begun_pieces in
    let b_is : g.pieces ≡ an_expr b.pushed.made ∷ an_expr a.pushed.made ∷ a_test_begun ∷ d.pieces = b.pushed.on_top ∙ ap (λ ps. an_expr b.pushed.made ∷ ps) a_is in
    record {
      same = record {
        statements = ap (λ (x : Drafted). x.statements) is ∙ (b.same.statements ∙ (a.same.statements ∙ ap (λ (x : Drafted). x.statements) begun));
        bodies = ap (λ (x : Drafted). x.bodies) is ∙ (b.same.bodies ∙ (a.same.bodies ∙ ap (λ (x : Drafted). x.bodies) begun));
      };
      piece = a_test_range a.pushed.made b.pushed.made low_told high_told;
      make = λ us. test_range a.pushed.made b.pushed.made low_told high_told us;
      is = made_of_three (λ x y us. test_range x y low_told high_told us) low a.pushed.made high b.pushed.made rest a.pushed.is b.pushed.is;
      on_top =
          ap (λ (x : Drafted). x.pieces) is
          ∙ (ap (of_range (λ x y. a_test_range (as_operand of x) (as_operand to_type y) low_at high_at)) b_is
          ∙ (ap (λ x. a_test_range x (as_operand to_type b.pushed.made) low_at high_at ∷ d.pieces) (as_operand_itself of a.pushed.made a.pushed.operand)
          ∙ (ap (λ x. a_test_range a.pushed.made x low_at high_at ∷ d.pieces) (as_operand_itself to_type b.pushed.made b.pushed.operand)
          ∙ (ap (λ p. a_test_range a.pushed.made b.pushed.made p high_at ∷ d.pieces) one ∙ ap (λ p. a_test_range a.pushed.made b.pushed.made low_told p ∷ d.pieces) other))));
      taken = λ n st a. refl;
    }

-- a test by what was pushed for it, where memory lasts
pub value_test : {A E : Type 0} (r : Result A E) (env : Env) (test : CaseTest) (at : Place) (e : Expr) (d f : Drafted) → test ≡ value e → at ≡ place_of_expression e
    → OnOk r ((rest : Option Tests) → ItemPushed Tests tests_off (from_two (test_is op.Eq at) (bound_operand env e) rest) rest d f)
    → OnOk r ((rest : List CaseTest) → ItemPushed Tests tests_off (case_tests env (test ∷ rest)) (case_tests env rest) d f)
value_test (Ok a) env test at e d f is told h =
    λ rest. subst (λ (t : CaseTest). ItemPushed Tests tests_off (case_tests env (t ∷ rest)) (case_tests env rest) d f) (sym is)
    (subst (λ (p : Place). ItemPushed Tests tests_off (from_two (test_is op.Eq p) (bound_operand env e) (case_tests env rest)) (case_tests env rest) d f) told (h (case_tests env rest)))
value_test (Err x) env test at e d f is told h = tt

pub range_test : {A E : Type 0} (r : Result A E) (env : Env) (test : CaseTest) (low high : Expr) (to_word : Token) (d f : Drafted) → test ≡ CaseTest.range low to_word high
    → OnOk r ((rest : Option Tests) → ItemPushed Tests tests_off
    (from_three (λ a b us. test_range a b (place_of_expression low) (place_of_expression high) us) (bound_operand env low) (bound_operand env high) rest) rest d f)
    → OnOk r ((rest : List CaseTest) → ItemPushed Tests tests_off (case_tests env (test ∷ rest)) (case_tests env rest) d f)
range_test (Ok a) env test low high to_word d f is h =
    λ rest. subst (λ (t : CaseTest). ItemPushed Tests tests_off (case_tests env (t ∷ rest)) (case_tests env rest) d f) (sym is) (h (case_tests env rest))
range_test (Err x) env test low high to_word d f is h = tt

pub comparison_test : {A E : Type 0} (r : Result A E) (env : Env) (test : CaseTest) (is_word : Token) (operator : BinaryOperator) (token : Token) (o : OpKind) (e : Expr) (d f : Drafted)
    → test ≡ comparison is_word operator token e → Some o ≡ operator_kind operator
    → OnOk r ((rest : Option Tests) → ItemPushed Tests tests_off (from_two (test_is o token.place) (bound_operand env e) rest) rest d f)
    → OnOk r ((rest : List CaseTest) → ItemPushed Tests tests_off (case_tests env (test ∷ rest)) (case_tests env rest) d f)
comparison_test (Ok a) env test is_word operator token o e d f is kind_is h =
    λ rest. subst (λ (t : CaseTest). ItemPushed Tests tests_off (case_tests env (t ∷ rest)) (case_tests env rest) d f) (sym is)
    (comparison_pushed (operator_kind operator) o token.place (bound_operand env e) (case_tests env rest) d f kind_is (h (case_tests env rest)))
comparison_test (Err x) env test is_word operator token o e d f is kind_is h = tt

-- ---- items of Debug.Print

pub shown_pushed : (found : Option bound.Expr) (of : DeclaredType) (rest : Option Prints) (d f g : Drafted)
    → ValuePushed found of d f → g ≡ record f { pieces = of_value (λ x. a_value_shown x) f.pieces } → ItemPushed Prints prints_off (from_two shown found rest) rest d g
shown_pushed found of rest d f g v is = record {
  same = record {
    statements = ap (λ (x : Drafted). x.statements) is ∙ v.same.statements;
    bodies = ap (λ (x : Drafted). x.bodies) is ∙ v.same.bodies;
  };
  piece = a_value_shown v.pushed.made;
  make = shown v.pushed.made;
  is = made_of_two shown found v.pushed.made rest v.pushed.is;
  on_top = ap (λ (x : Drafted). x.pieces) is ∙ ap (of_value (λ x. a_value_shown x)) v.pushed.on_top;
  taken = λ n st a. refl;
}

pub zone_pushed : (rest : Option Prints) (d e : Drafted) → e ≡ record d { pieces = a_zone ∷ d.pieces } → ItemPushed Prints prints_off (option_map zone rest) rest d e
zone_pushed rest d e is = record {
  same = record { statements = ap (λ (x : Drafted). x.statements) is; bodies = ap (λ (x : Drafted). x.bodies) is };
  piece = a_zone;
  make = zone;
  is = refl;
  on_top = ap (λ (x : Drafted). x.pieces) is;
  taken = λ n st a. refl;
}

-- whether the line ends
pub ends_is : (items : List PrintItem) → ends_after true items ≡ ends_line items
ends_is [] = refl
ends_is (i ∷ []) = refl
ends_is (i ∷ j ∷ items) = ends_is (j ∷ items)
