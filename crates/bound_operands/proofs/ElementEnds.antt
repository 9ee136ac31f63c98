-- More arguments in brackets, and what their end makes of what is indexed.
use Rattle.std.proofs.Common.{Bor, ◌≡◌, ℕ, ◌<◌, ◌+◌, true, false, List, [], ◌∷◌, ◌++◌, map, length, Option, Some, None, refl, sym, ap, subst, ◌∙◌, arith, length-append}
use Rattle.std.proofs.lemmas.List.{map-append}
use Rattle.vba_lexer.specs.declared.token.Token.{Token}
use Rattle.vba_expression.specs.Nodes as nodes
use Rattle.vba_expression.specs.Nodes.{behind_node}
use Rattle.vba_expression.specs.declared.node.ExpressionNode.TheVariants as node
use Rattle.vba_values.specs.Types.{Declared}
use Rattle.bound_project.specs.declared.declared_type.DeclaredType.{DeclaredType}
use Rattle.bound_project.specs.declared.variable.Variable.{Variable}
use Rattle.bound_project.specs.declared.node.NodeKind.TheVariants as kinds
use Rattle.bound_project.specs.Project as project
use Rattle.bound_project.specs.declared.declarations.Declarations.{Declarations}
use Rattle.bound_project.specs.View.{declarations_view, declared_view, variable_view}
use Rattle.bound_project.specs.Expressions.{Exprs, Lvalue, item, element, element_along, element_value, late_item}
use Rattle.bound_project.specs.Expressions as bound
use Rattle.bound_project.specs.Lists.{above, exprs_of}
use Rattle.bound_project.proofs.Lists.{above_push}
use Rattle.bound_project.specs.Pieces.{Piece, Tables, an_expr, a_place, of_place, of_found, of_place_found, of_value, of_value_found, expr_of, put}
use Rattle.bound_project.specs.Drafts.{Drafted}
use Rattle.bound_members.specs.bound_calls.specs.bound_forms.specs.Terms.{Env, Given, a_value, expression_of, read_of}
use Rattle.bound_members.specs.bound_calls.specs.bound_forms.specs.Terms as terms
use Rattle.bound_members.specs.bound_calls.specs.bound_forms.specs.ClassDefaults.{declared_in}
use Rattle.bound_members.specs.bound_calls.specs.bound_forms.specs.Operands.{element_type, may_be_instance, operand_of, place_told}
use Rattle.bound_members.specs.bound_calls.specs.bound_forms.specs.Members.{item_of}
use Rattle.bound_members.specs.bound_calls.specs.bound_forms.specs.ExpressionsBound.{callee, givens, indexed, term_of}
use Rattle.bound_members.specs.bound_calls.specs.declared.term.Term.{Term}
use Rattle.bound_members.specs.bound_calls.specs.declared.term.Term.TheVariants as term
use Rattle.bound_members.specs.bound_calls.specs.declared.term.Tree.{Tree}
use Rattle.bound_members.specs.bound_calls.specs.declared.term.Target.{Target}
use Rattle.bound_members.specs.bound_calls.specs.declared.term.Target.TheVariants as target
use Rattle.bound_members.specs.bound_calls.specs.declared.term.Indexed.{Indexed}
use Rattle.bound_members.specs.bound_calls.specs.declared.term.Item.{Item}
use Rattle.bound_members.specs.bound_calls.specs.declared.term.Item.TheVariants as items
use Rattle.bound_members.specs.bound_calls.specs.declared.term.Passed.{Passed}
use Rattle.bound_members.specs.bound_calls.specs.Calls.{PassesMissing, passed_in, with_passed}
use Rattle.bound_members.specs.bound_calls.specs.class_defaults.specs.Items.{ArePlain}
use Rattle.bound_members.specs.bound_calls.specs.Standing.{AllNamed, AllNumbers, Base, ItemNamed, NumbersStand, PlaceStands, Stands, TargetStands, along_given, missing_given, missing_value}
use Rattle.bound_members.specs.bound_calls.specs.Steps.{Goes, PushesOperand}
use Rattle.bound_operands.specs.Indexing.{fits_count, is_along, is_led, place_element}
use Rattle.bound_operands.specs.Leading.{PushesLeading}
use Rattle.bound_members.specs.bound_calls.specs.Indexing.{AddsArgument, AddsMissing, Closes, EndsIndexed}
use Rattle.bound_members.proofs.Listing.{listed_more, numbers_more, plain_numbers, taken_off, value_given, value_missing}
use Rattle.bound_members.proofs.LateItems.{no_item_late}
use Rattle.bound_members.proofs.MemberSteps.{missing_node}
use Rattle.bound_members.specs.bound_calls.proofs.Growing.{grown_same, grown_pieces, all_named, item_named, stands_grows}
use Rattle.bound_members.specs.bound_calls.proofs.CallSteps.{goes_missing, tree_ended}
use Rattle.bound_operands.proofs.Elements.{along_are, as_led, as_listed, as_numbers, element_of_type, fits_numbers, from_led, from_listed, from_numbers, led_are, no_item_elements, no_item_host, numbers_are, place_along, place_indexed, place_led, same_place}

-- ---- one more number

numbered : (env : Env) (x : Indexed) (y : Tree) (of : DeclaredType) (count : ℕ) (comma : Option Token) (xs : List Item) (d e : Drafted) → is_along x.target ≡ false → is_led x.target ≡ false → count ≡ x.count + 1 → PushesOperand y d e (Some of) → AllNamed d.tables xs
    → (is : List nodes.Item) (base : Base) → Stands env d.tables (items.Tree y ∷ items.Indexed x ∷ xs) is d.pieces base
    → Stands env e.tables (items.Indexed (record x { count = count }) ∷ xs) (behind_node (node.PlainArgument comma) is) e.pieces base
numbered env x y of count comma xs d e n l c p k [] base h = absurd h
numbered env x y of count comma xs d e n l c p k (nodes.arguments args ∷ is) base h = absurd h
numbered env x y of count comma xs d e n l c p k (nodes.tree v ∷ []) base h = absurd h.1.1
numbered env x y of count comma xs d e n l c p k (nodes.tree v ∷ nodes.tree w ∷ is) base h = absurd h.1.1
numbered env x y of count comma xs d e n l c p k (nodes.tree v ∷ nodes.arguments args ∷ []) base h = absurd h.1.1
numbered env x y of count comma xs d e n l c p k (nodes.tree v ∷ nodes.arguments args ∷ nodes.arguments more ∷ is) base h = absurd h.1.1
numbered env x y of count comma xs d e n l c p k (nodes.tree v ∷ nodes.arguments args ∷ nodes.tree b ∷ is) base h =
    let low = h.1.1 in
    let s = low.1.0 in
    let m = p.stands env v h.0 h.1.0 in (
      low.0,
      (
        record {
          between = s.between;
          target_is = s.target_is;
          place_is = s.place_is;
          made = s.made ++ m.made ∷ [];
          numbers = from_numbers env x.target (givens env args ++ record { name = None; term = Some (term_of env v); place = place_told v } ∷ []) (s.made ++ m.made ∷ []) n l
              (numbers_more (operand_of env) (givens env args) s.made (record { name = None; term = Some (term_of env v); place = place_told v }) m.made (as_numbers env x.target (givens env args) s.made n l s.numbers)
              (record { no_name = refl; term = term_of env v; given = refl; is = m.is }));
          count_is = omega (arith, c, s.count_is, length-append s.made (m.made ∷ []));
          on_top = m.on_top ∙ ap (λ (ps : List Piece). an_expr m.made ∷ ps) s.on_top ∙ sym (above_push (map an_expr s.made) (an_expr m.made) s.between)
              ∙ ap (λ (ps : List Piece). above ps s.between) (sym (map-append an_expr s.made (m.made ∷ [])));
        },
        stands_grows env d.tables e.tables p.grown.tables xs k is low.0 base low.1.1,
      ),
    )

pub adds_number : (x : Indexed) (y : Tree) (of : DeclaredType) (count : ℕ) (d e : Drafted) → is_along x.target ≡ false → is_led x.target ≡ false → count ≡ x.count + 1 → PushesOperand y d e (Some of)
    → AddsArgument (items.Indexed x) y d e (items.Indexed (record x { count = count }))
adds_number x y of count d e n l c p = record { grown = p.grown; named = tt; stands = λ env comma xs is base k h. numbered env x y of count comma xs d e n l c p k is base h }

-- one more argument that leads on
leads_on : (env : Env) (x : Indexed) (y : Tree) (count : ℕ) (comma : Option Token) (xs : List Item) (d e : Drafted) → is_along x.target ≡ true → count ≡ x.count + 1 → PushesLeading y d e → AllNamed d.tables xs
    → (is : List nodes.Item) (base : Base) → Stands env d.tables (items.Tree y ∷ items.Indexed x ∷ xs) is d.pieces base
    → Stands env e.tables (items.Indexed (record x { count = count }) ∷ xs) (behind_node (node.PlainArgument comma) is) e.pieces base
leads_on env x y count comma xs d e n c p k [] base h = absurd h
leads_on env x y count comma xs d e n c p k (nodes.arguments args ∷ is) base h = absurd h
leads_on env x y count comma xs d e n c p k (nodes.tree v ∷ []) base h = absurd h.1.1
leads_on env x y count comma xs d e n c p k (nodes.tree v ∷ nodes.tree w ∷ is) base h = absurd h.1.1
leads_on env x y count comma xs d e n c p k (nodes.tree v ∷ nodes.arguments args ∷ []) base h = absurd h.1.1
leads_on env x y count comma xs d e n c p k (nodes.tree v ∷ nodes.arguments args ∷ nodes.arguments more ∷ is) base h = absurd h.1.1
leads_on env x y count comma xs d e n c p k (nodes.tree v ∷ nodes.arguments args ∷ nodes.tree b ∷ is) base h =
    let low = h.1.1 in
    let s = low.1.0 in
    let m = p.stands env v h.0 h.1.0 in
    let g : Given = record { name = None; term = Some (term_of env v); place = place_told v } in (
      low.0,
      (
        record {
          between = s.between;
          target_is = s.target_is;
          place_is = s.place_is;
          made = s.made ++ m.made ∷ [];
          numbers = from_listed env x.target (givens env args ++ g ∷ []) (s.made ++ m.made ∷ []) n
              (listed_more (along_given env) (givens env args) s.made g m.made (as_listed env x.target (givens env args) s.made n s.numbers) (value_given (along_given env) (term_of env v) (place_told v) m.made m.is));
          count_is = omega (arith, c, s.count_is, length-append s.made (m.made ∷ []));
          on_top = m.on_top ∙ ap (λ (ps : List Piece). an_expr m.made ∷ ps) s.on_top ∙ sym (above_push (map an_expr s.made) (an_expr m.made) s.between)
              ∙ ap (λ (ps : List Piece). above ps s.between) (sym (map-append an_expr s.made (m.made ∷ [])));
        },
        stands_grows env d.tables e.tables p.grown.tables xs k is low.0 base low.1.1,
      ),
    )

pub adds_along : (x : Indexed) (y : Tree) (count : ℕ) (d e : Drafted) → is_along x.target ≡ true → count ≡ x.count + 1 → PushesLeading y d e → AddsArgument (items.Indexed x) y d e (items.Indexed (record x { count = count }))
adds_along x y count d e n c p = record { grown = p.grown; named = tt; stands = λ env comma xs is base k h. leads_on env x y count comma xs d e n c p k is base h }

-- the same behind an object of a class
led_on : (env : Env) (x : Indexed) (y : Tree) (count : ℕ) (comma : Option Token) (xs : List Item) (d e : Drafted) → is_led x.target ≡ true → count ≡ x.count + 1 → PushesLeading y d e → AllNamed d.tables xs
    → (is : List nodes.Item) (base : Base) → Stands env d.tables (items.Tree y ∷ items.Indexed x ∷ xs) is d.pieces base
    → Stands env e.tables (items.Indexed (record x { count = count }) ∷ xs) (behind_node (node.PlainArgument comma) is) e.pieces base
led_on env x y count comma xs d e n c p k [] base h = absurd h
led_on env x y count comma xs d e n c p k (nodes.arguments args ∷ is) base h = absurd h
led_on env x y count comma xs d e n c p k (nodes.tree v ∷ []) base h = absurd h.1.1
led_on env x y count comma xs d e n c p k (nodes.tree v ∷ nodes.tree w ∷ is) base h = absurd h.1.1
led_on env x y count comma xs d e n c p k (nodes.tree v ∷ nodes.arguments args ∷ []) base h = absurd h.1.1
led_on env x y count comma xs d e n c p k (nodes.tree v ∷ nodes.arguments args ∷ nodes.arguments more ∷ is) base h = absurd h.1.1
led_on env x y count comma xs d e n c p k (nodes.tree v ∷ nodes.arguments args ∷ nodes.tree b ∷ is) base h =
    let low = h.1.1 in
    let s = low.1.0 in
    let m = p.stands env v h.0 h.1.0 in
    let g : Given = record { name = None; term = Some (term_of env v); place = place_told v } in (
      low.0,
      (
        record {
          between = s.between;
          target_is = s.target_is;
          place_is = s.place_is;
          made = s.made ++ m.made ∷ [];
          numbers = from_led env x.target (givens env args ++ g ∷ []) (s.made ++ m.made ∷ []) n
              (numbers_more (along_given env) (givens env args) s.made g m.made (as_led env x.target (givens env args) s.made n s.numbers) (record { no_name = refl; term = term_of env v; given = refl; is = m.is }));
          count_is = omega (arith, c, s.count_is, length-append s.made (m.made ∷ []));
          on_top = m.on_top ∙ ap (λ (ps : List Piece). an_expr m.made ∷ ps) s.on_top ∙ sym (above_push (map an_expr s.made) (an_expr m.made) s.between)
              ∙ ap (λ (ps : List Piece). above ps s.between) (sym (map-append an_expr s.made (m.made ∷ [])));
        },
        stands_grows env d.tables e.tables p.grown.tables xs k is low.0 base low.1.1,
      ),
    )

pub adds_led : (x : Indexed) (y : Tree) (count : ℕ) (d e : Drafted) → is_led x.target ≡ true → count ≡ x.count + 1 → PushesLeading y d e → AddsArgument (items.Indexed x) y d e (items.Indexed (record x { count = count }))
adds_led x y count d e n c p = record { grown = p.grown; named = tt; stands = λ env comma xs is base k h. led_on env x y count comma xs d e n c p k is base h }

-- one that isn't written
left_out : (env : Env) (x : Indexed) (count : ℕ) (comma : Option Token) (xs : List Item) (d : Drafted) → is_along x.target ≡ true → count ≡ x.count + 1 → (is : List nodes.Item) (base : Base) → Stands env d.tables (items.Indexed x ∷ xs) is d.pieces base
    → Stands env d.tables (items.Indexed (record x { count = count }) ∷ xs) (behind_node (node.MissingArgument comma) is) (put d.tables missing_node d.pieces) base
left_out env x count comma xs d n c [] base h = absurd h
left_out env x count comma xs d n c (nodes.tree z ∷ is) base h = absurd h
left_out env x count comma xs d n c (nodes.arguments args ∷ []) base h = absurd h
left_out env x count comma xs d n c (nodes.arguments args ∷ nodes.arguments more ∷ is) base h = absurd h
left_out env x count comma xs d n c (nodes.arguments args ∷ nodes.tree b ∷ is) base h =
    let s = h.1.0 in (
      h.0,
      (
        record {
          between = s.between;
          target_is = s.target_is;
          place_is = s.place_is;
          made = s.made ++ missing_value ∷ [];
          numbers = from_listed env x.target (givens env args ++ missing_given ∷ []) (s.made ++ missing_value ∷ []) n
              (listed_more (along_given env) (givens env args) s.made missing_given missing_value (as_listed env x.target (givens env args) s.made n s.numbers) (value_missing (along_given env)));
          count_is = omega (arith, c, s.count_is, length-append s.made (missing_value ∷ []));
          on_top = ap (λ (ps : List Piece). an_expr missing_value ∷ ps) s.on_top ∙ sym (above_push (map an_expr s.made) (an_expr missing_value) s.between)
              ∙ ap (λ (ps : List Piece). above ps s.between) (sym (map-append an_expr s.made (missing_value ∷ [])));
        },
        h.1.1,
      ),
    )

pub misses_along : (x : Indexed) (count : ℕ) (d e : Drafted) → is_along x.target ≡ true → count ≡ x.count + 1 → e ≡ record d { pieces = put d.tables missing_node d.pieces } → AddsMissing (items.Indexed x) d e (items.Indexed (record x { count = count }))
misses_along x count d e n c eq =
    let P : Drafted → Type 0 = λ (z : Drafted). AddsMissing (items.Indexed x) d z (items.Indexed (record x { count = count })) in
    subst P (sym eq) (record { grown = grown_pieces d (put d.tables missing_node d.pieces); named = tt; stands = λ env comma xs is base k h. left_out env x count comma xs d n c is base h })

pub goes_argument : (env : Env) (x : Tree) (i j : Item) (xs old between new : List Item) (comma : Option Token) (d e : Drafted) → old ≡ items.Tree x ∷ between → between ≡ i ∷ xs → new ≡ j ∷ xs → AllNamed d.tables old
    → AddsArgument i x d e j → Goes env d old e new (behind_node (node.PlainArgument comma))
goes_argument env x i j xs old between new comma d e o b n k m =
    let g = behind_node (node.PlainArgument comma) in
    let both : old ≡ items.Tree x ∷ i ∷ xs = o ∙ ap (λ (l : List Item). items.Tree x ∷ l) b in
    let N : List Item → Type 0 = λ (l : List Item). AllNamed d.tables l in
    let A : List Item → Type 0 = λ (l : List Item). Goes env d l e new g in
    let B : List Item → Type 0 = λ (l : List Item). Goes env d (items.Tree x ∷ i ∷ xs) e l g in
    let all = subst N both k in
    subst A (sym both) (subst B (sym n) (record {
      grown = m.grown;
      named = (m.named, all_named d.tables e.tables m.grown.tables xs all.1.1);
      stands = λ is base h. m.stands env comma xs is base all.1.1 h;
    }))

-- ---- elements

there_are : (x : Indexed) (made : List bound.Expr) → 0 < x.count → x.count ≡ length made → 0 < length made
there_are x made lt c = omega (arith, lt, c)

pub ends_variable : (x : Indexed) (v : Variable) → x.target ≡ target.Variable v → 0 < x.count → fits_count x.bounds x.count ≡ true → EndsIndexed x (place_element x (kinds.Item v x.count))
ends_variable x v is lt fits = record {
  named = λ t. tt;
  stands = λ env t e args ps below s.
      let gs = givens env args in
      let place = place_told e in
      let T : Target → Type 0 = λ (z : Target). TargetStands env z x.of x.bounds x.lends x.makes place (callee env e (term_of env e)) s.between below in
      let q = subst T is s.target_is in
      let N : Target → Type 0 = λ (z : Target). NumbersStand env z gs s.made in
      let es = exprs_of s.made in
      let numbers = numbers_are (operand_of env) gs s.made (subst N is s.numbers) (there_are x s.made lt s.count_is) in
      let A : terms.Term → Type 0 = λ (z : terms.Term). PlaceStands t (kinds.Item v x.count) x.of 0 x.lends x.makes (indexed env place (item_of env place z) gs) ps below in
      subst A (sym q.is) (record {
        at = item (variable_view v) es;
        is = ap (λ (z : terms.Term). indexed env place z gs) (same_place env place (bound.variable (variable_view v)) q.whole x.bounds x.lends x.makes (no_item_elements env (read_of x.makes (bound.variable (variable_view v))) place q.whole (declared_view x.of)
            (element_of_type (may_be_instance env (expression_of (read_of x.makes (bound.variable (variable_view v))) place q.whole)) (element_type q.whole) (declared_view x.of) q.element_is)))
            ∙ place_indexed env place (bound.variable (variable_view v)) q.whole x.bounds x.lends x.makes gs (declared_view x.of) es q.element_is (fits_numbers (operand_of env) x.bounds x.count gs s.made fits s.count_is (subst N is s.numbers)) numbers;
        ends = λ n. ap (λ (o : Option (Exprs × List Piece)). of_found (λ (xs : Exprs). a_place (item (variable_view v) xs)) o) (taken_off x.count s.made ps s.between s.count_is s.on_top) ∙ ap (λ (st : List Piece). a_place (item (variable_view v) es) ∷ st) q.none_pushed;
      });
}

pub ends_place : (x : Indexed) → x.target ≡ target.Place → 0 < x.count → fits_count x.bounds x.count ≡ true → EndsIndexed x (place_element x (kinds.Element x.count))
ends_place x is lt fits = record {
  named = λ t. tt;
  stands = λ env t e args ps below s.
      let gs = givens env args in
      let place = place_told e in
      let T : Target → Type 0 = λ (z : Target). TargetStands env z x.of x.bounds x.lends x.makes place (callee env e (term_of env e)) s.between below in
      let q = subst T is s.target_is in
      let N : Target → Type 0 = λ (z : Target). NumbersStand env z gs s.made in
      let es = exprs_of s.made in
      let numbers = numbers_are (operand_of env) gs s.made (subst N is s.numbers) (there_are x s.made lt s.count_is) in
      let A : terms.Term → Type 0 = λ (z : terms.Term). PlaceStands t (kinds.Element x.count) x.of 0 x.lends x.makes (indexed env place (item_of env place z) gs) ps below in
      subst A (sym q.is) (record {
        at = element q.at es;
        is = ap (λ (z : terms.Term). indexed env place z gs) (same_place env place q.at q.whole x.bounds x.lends x.makes (no_item_elements env (read_of x.makes q.at) place q.whole (declared_view x.of)
            (element_of_type (may_be_instance env (expression_of (read_of x.makes q.at) place q.whole)) (element_type q.whole) (declared_view x.of) q.element_is)))
            ∙ place_indexed env place q.at q.whole x.bounds x.lends x.makes gs (declared_view x.of) es q.element_is (fits_numbers (operand_of env) x.bounds x.count gs s.made fits s.count_is (subst N is s.numbers)) numbers
            ∙ ap (λ (y : Lvalue). terms.a_place y (declared_view x.of) 0 x.lends x.makes) (q.no_variable es);
        ends = λ n.
            ap (λ (o : Option (Exprs × List Piece)). of_place_found (λ (y : Lvalue) (xs : Exprs). a_place (element y xs)) o) (taken_off x.count s.made ps s.between s.count_is s.on_top)
            ∙ ap (λ (st : List Piece). of_place (λ (y : Lvalue). a_place (element y es)) st) q.on_top;
      });
}

pub ends_value : (x : Indexed) → x.target ≡ target.Value → 0 < x.count → EndsIndexed x (term.Value (record { kind = kinds.ElementValue x.count; of = x.of }))
ends_value x is lt = record {
  named = λ t. tt;
  stands = λ env t e args ps below s.
      let gs = givens env args in
      let place = place_told e in
      let T : Target → Type 0 = λ (z : Target). TargetStands env z x.of x.bounds x.lends x.makes place (callee env e (term_of env e)) s.between below in
      let q = subst T is s.target_is in
      let N : Target → Type 0 = λ (z : Target). NumbersStand env z gs s.made in
      let es = exprs_of s.made in
      record {
        made = element_value q.whole es;
        is = q.is gs es (numbers_are (operand_of env) gs s.made (subst N is s.numbers) (there_are x s.made lt s.count_is));
        ends = λ n.
            ap (λ (o : Option (Exprs × List Piece)). of_value_found (λ (y : bound.Expr) (xs : Exprs). expr_of n (element_value y xs)) o) (taken_off x.count s.made ps s.between s.count_is s.on_top)
            ∙ ap (λ (st : List Piece). of_value (λ (y : bound.Expr). expr_of n (element_value y es)) st) q.on_top;
      };
}

-- what arguments lead to
pub ends_place_along : (x : Indexed) → x.target ≡ target.PlaceAlong → 0 < x.count → EndsIndexed x (place_element x (kinds.ElementAlong x.count))
ends_place_along x is lt = record {
  named = λ t. tt;
  stands = λ env t e args ps below s.
      let gs = givens env args in
      let place = place_told e in
      let T : Target → Type 0 = λ (z : Target). TargetStands env z x.of x.bounds x.lends x.makes place (callee env e (term_of env e)) s.between below in
      let q = subst T is s.target_is in
      let N : Target → Type 0 = λ (z : Target). NumbersStand env z gs s.made in
      let es = exprs_of s.made in
      let along = along_are env gs s.made (subst N is s.numbers) (there_are x s.made lt s.count_is) in
      let A : terms.Term → Type 0 = λ (z : terms.Term). PlaceStands t (kinds.ElementAlong x.count) x.of 0 x.lends x.makes (indexed env place (item_of env place z) gs) ps below in
      subst A (sym q.is) (record {
        at = element_along q.at es;
        is = ap (λ (z : terms.Term). indexed env place z gs) (same_place env place q.at q.whole q.bounds x.lends x.makes (no_item_late env place (read_of x.makes q.at) q.whole q.late))
            ∙ place_along env place q.at q.whole q.bounds x.lends x.makes gs es q.late along ∙ ap (λ (u : Declared). terms.a_place (element_along q.at es) u 0 x.lends x.makes) (sym q.of_is);
        ends = λ n.
            ap (λ (o : Option (Exprs × List Piece)). of_place_found (λ (y : Lvalue) (xs : Exprs). a_place (element_along y xs)) o) (taken_off x.count s.made ps s.between s.count_is s.on_top)
            ∙ ap (λ (st : List Piece). of_place (λ (y : Lvalue). a_place (element_along y es)) st) q.on_top;
      });
}

pub ends_value_along : (x : Indexed) → x.target ≡ target.ValueAlong → 0 < x.count → EndsIndexed x (term.Value (record { kind = kinds.ItemAlong x.count; of = x.of }))
ends_value_along x is lt = record {
  named = λ t. tt;
  stands = λ env t e args ps below s.
      let gs = givens env args in
      let place = place_told e in
      let T : Target → Type 0 = λ (z : Target). TargetStands env z x.of x.bounds x.lends x.makes place (callee env e (term_of env e)) s.between below in
      let q = subst T is s.target_is in
      let N : Target → Type 0 = λ (z : Target). NumbersStand env z gs s.made in
      let es = exprs_of s.made in
      record {
        made = late_item q.whole es;
        is = q.is gs es (along_are env gs s.made (subst N is s.numbers) (there_are x s.made lt s.count_is)) ∙ ap (λ (u : Declared). a_value (late_item q.whole es) u) (sym q.of_is);
        ends = λ n.
            ap (λ (o : Option (Exprs × List Piece)). of_value_found (λ (y : bound.Expr) (xs : Exprs). expr_of n (late_item y xs)) o) (taken_off x.count s.made ps s.between s.count_is s.on_top)
            ∙ ap (λ (st : List Piece). of_value (λ (y : bound.Expr). expr_of n (late_item y es)) st) q.on_top;
      };
}

-- and behind an object of a class, where so many do
pub so_many : (env : Env) (x : Indexed) (n : ℕ) (gs : List Given) (made : List bound.Expr) → x.count ≡ n → x.count ≡ length made → AllNumbers (along_given env) gs made → ArePlain n gs
so_many env x n gs made same counted h = let A : ℕ → Type 0 = λ (m : ℕ). ArePlain m gs in subst A (sym counted ∙ same) (plain_numbers (along_given env) gs made h)

pub ends_place_led : (x : Indexed) (n : ℕ) → x.target ≡ target.PlaceLed n → 0 < x.count → x.count ≡ n → EndsIndexed x (place_element x (kinds.ElementAlong x.count))
ends_place_led x n is lt same = record {
  named = λ t. tt;
  stands = λ env t e args ps below s.
      let gs = givens env args in
      let place = place_told e in
      let T : Target → Type 0 = λ (z : Target). TargetStands env z x.of x.bounds x.lends x.makes place (callee env e (term_of env e)) s.between below in
      let q = subst T is s.target_is in
      let N : Target → Type 0 = λ (z : Target). NumbersStand env z gs s.made in
      let numbers = subst N is s.numbers in
      let es = exprs_of s.made in
      let along = led_are env gs s.made numbers (there_are x s.made lt s.count_is) in
      let A : terms.Term → Type 0 = λ (z : terms.Term). PlaceStands t (kinds.ElementAlong x.count) x.of 0 x.lends x.makes (indexed env place (item_of env place z) gs) ps below in
      subst A (sym q.is) (record {
        at = element_along q.at es;
        is = ap (λ (z : terms.Term). indexed env place z gs) (same_place env place q.at q.whole q.bounds x.lends x.makes (no_item_host env (read_of x.makes q.at) place q.whole q.no_host))
            ∙ place_led env place q.at q.whole q.bounds x.lends x.makes gs (declared_view x.of) es (q.leads gs (so_many env x n gs s.made same s.count_is numbers)) along;
        ends = λ m.
            ap (λ (o : Option (Exprs × List Piece)). of_place_found (λ (y : Lvalue) (xs : Exprs). a_place (element_along y xs)) o) (taken_off x.count s.made ps s.between s.count_is s.on_top)
            ∙ ap (λ (st : List Piece). of_place (λ (y : Lvalue). a_place (element_along y es)) st) q.on_top;
      });
}

pub ends_value_led : (x : Indexed) (n : ℕ) → x.target ≡ target.ValueLed n → 0 < x.count → x.count ≡ n → EndsIndexed x (term.Value (record { kind = kinds.ItemAlong x.count; of = x.of }))
ends_value_led x n is lt same = record {
  named = λ t. tt;
  stands = λ env t e args ps below s.
      let gs = givens env args in
      let place = place_told e in
      let T : Target → Type 0 = λ (z : Target). TargetStands env z x.of x.bounds x.lends x.makes place (callee env e (term_of env e)) s.between below in
      let q = subst T is s.target_is in
      let N : Target → Type 0 = λ (z : Target). NumbersStand env z gs s.made in
      let numbers = subst N is s.numbers in
      let es = exprs_of s.made in
      record {
        made = late_item q.whole es;
        is = q.is gs es (so_many env x n gs s.made same s.count_is numbers) (led_are env gs s.made numbers (there_are x s.made lt s.count_is));
        ends = λ m.
            ap (λ (o : Option (Exprs × List Piece)). of_value_found (λ (y : bound.Expr) (xs : Exprs). expr_of m (late_item y xs)) o) (taken_off x.count s.made ps s.between s.count_is s.on_top)
            ∙ ap (λ (st : List Piece). of_value (λ (y : bound.Expr). expr_of m (late_item y es)) st) q.on_top;
      };
}

-- ---- arguments end

abbrev pub ended : Indexed → Term → Bor Declarations → Tree
ended x y known = record { place = x.place; name = None; dotted = None; term = y; declared = known }

ended_stands : (env : Env) (x : Indexed) (y : Term) (known : Bor Declarations) → declared_in env.scope ≡ declarations_view known.now → (left right : Token) (xs : List Item) (d : Drafted) → EndsIndexed x y → (is : List nodes.Item) (base : Base) → Stands env d.tables (items.Indexed x ∷ xs) is d.pieces base
    → Stands env d.tables (items.Tree (ended x y known) ∷ xs) (behind_node (node.Index left right) is) d.pieces base
ended_stands env x y known w left right xs d m [] base h = absurd h
ended_stands env x y known w left right xs d m (nodes.tree v ∷ is) base h = absurd h
ended_stands env x y known w left right xs d m (nodes.arguments args ∷ []) base h = absurd h
ended_stands env x y known w left right xs d m (nodes.arguments args ∷ nodes.arguments more ∷ is) base h = absurd h
ended_stands env x y known w left right xs d m (nodes.arguments args ∷ nodes.tree b ∷ is) base h = (
  h.0,
  (tree_ended env d.tables y x.place known w b args left right d.pieces h.0 h.1.0.place_is (m.stands env d.tables b args d.pieces h.0 h.1.0), h.1.1),
)

pub closes_indexed : (x : Indexed) (y : Term) (known : Bor Declarations) (d : Drafted) → EndsIndexed x y → Closes (declarations_view known.now) (items.Indexed x) d d (ended x y known)
closes_indexed x y known d m = record { grown = grown_same d; named = m.named d.tables; stands = λ env w left right xs is base k h. ended_stands env x y known w left right xs d m is base h }

end_stands : (env : Env) (i : Item) (y : Tree) (known : project.Declarations) → declared_in env.scope ≡ known → (left right : Token) (xs : List Item) (d e : Drafted) → AllNamed d.tables (i ∷ xs) → Closes known i d e y → Goes env d (i ∷ xs) e (items.Tree y ∷ xs) (behind_node (node.Index left right))
end_stands env i y known w left right xs d e k c = record {
  grown = c.grown;
  named = (c.named, all_named d.tables e.tables c.grown.tables xs k.1);
  stands = λ is base h. c.stands env w left right xs is base k.1 h;
}

pub goes_end : (env : Env) (i : Item) (y : Tree) (known : project.Declarations) → declared_in env.scope ≡ known → (left right : Token) (xs old new : List Item) (d e : Drafted) → old ≡ i ∷ xs → new ≡ items.Tree y ∷ xs → AllNamed d.tables old → Closes known i d e y
    → Goes env d old e new (behind_node (node.Index left right))
goes_end env i y known w left right xs old new d e o n k c =
    let g = behind_node (node.Index left right) in
    let N : List Item → Type 0 = λ (l : List Item). AllNamed d.tables l in
    let A : List Item → Type 0 = λ (l : List Item). Goes env d l e new g in
    let B : List Item → Type 0 = λ (l : List Item). Goes env d (i ∷ xs) e l g in
    subst A (sym o) (subst B (sym n) (end_stands env i y known w left right xs d e (subst N o k) c))

-- ---- an argument that isn't written

-- an item with others is named as it was
passed_item : (t : Tables) (i : Item) (q : Passed) → ItemNamed t i → ItemNamed t (with_passed i q)
passed_item t (items.Call x) q h = tt
passed_item t (items.Listed x) q h = tt
passed_item t i q h = h

pub misses_passed : (i : Item) (p q : Passed) (d e : Drafted) → passed_in i ≡ Some p → ItemNamed d.tables i → PassesMissing p d e q → AddsMissing i d e (with_passed i q)
misses_passed i p q d e f n m = record {
  grown = m.grown;
  named = passed_item e.tables i q (item_named d.tables e.tables m.grown.tables i n);
  stands = λ env comma xs is base k h. (goes_missing env i xs (i ∷ xs) (with_passed i q ∷ xs) p q comma d e refl refl f (n, k) m).stands is base h;
}

pub goes_skipped : (env : Env) (i j : Item) (xs old new : List Item) (comma : Option Token) (d e : Drafted) → old ≡ i ∷ xs → new ≡ j ∷ xs → AllNamed d.tables old → AddsMissing i d e j
    → Goes env d old e new (behind_node (node.MissingArgument comma))
goes_skipped env i j xs old new comma d e o n k m =
    let g = behind_node (node.MissingArgument comma) in
    let N : List Item → Type 0 = λ (l : List Item). AllNamed d.tables l in
    let A : List Item → Type 0 = λ (l : List Item). Goes env d l e new g in
    let B : List Item → Type 0 = λ (l : List Item). Goes env d (i ∷ xs) e l g in
    let all = subst N o k in
    subst A (sym o) (subst B (sym n) (record {
      grown = m.grown;
      named = (m.named, all_named d.tables e.tables m.grown.tables xs all.1);
      stands = λ is base h. m.stands env comma xs is base all.1 h;
    }))
