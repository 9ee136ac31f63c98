-- Properties that are assigned to, whose last arguments may have names.
use Rattle.std.proofs.Common.{◌≡◌, ℕ, Bool, true, false, List, [], ◌∷◌, map, length, Option, Some, ap, ◌∙◌, None, is_some}
use Rattle.std.specs.Prelude.{◌<◌, reverse}
use Rattle.vba_expression.specs.declared.node.ExpressionNode.{ExpressionNode}
use Rattle.bound_project.specs.declared.declared_type.DeclaredType.{DeclaredType}
use Rattle.bound_project.specs.declared.declarations.Parameter.{Parameter}
use Rattle.bound_project.specs.Bodies.{action_of, behind_value, behind_object}
use Rattle.bound_project.specs.Drafts.{ActionNamed, Drafted}
use Rattle.bound_project.specs.Expressions as bound
use Rattle.bound_project.specs.Lists.{above, args_of}
use Rattle.bound_project.specs.Pieces.{Argument, Piece, Tables, an_argument, an_expr, arguments_off, order_in, an_object}
use Rattle.bound_project.specs.Statements.{Action}
use Rattle.bound_project.specs.Statements as to
use Rattle.bound_project.specs.View.{declared_view, parameter_view}
use Rattle.bound_project.proofs.Lists.{args_are}
use Rattle.bound_members.specs.bound_calls.specs.bound_forms.specs.Terms.{Env}
use Rattle.bound_members.specs.bound_calls.specs.bound_forms.specs.ExpressionsBound.{givens}
use Rattle.bound_members.specs.bound_calls.specs.declared.term.Ordered.{Ordered}
use Rattle.bound_members.specs.bound_calls.specs.declared.term.Passed.{Passed}
use Rattle.bound_members.specs.bound_calls.specs.InOrder.{EndsInOrder}
use Rattle.bound_members.specs.bound_calls.proofs.Growing.{grown_twice}
use Rattle.statement_terms.specs.Called.{LetsTaken, PassesAll, RestPushed, args_on, ordered_kind, property_kind}
use Rattle.statement_terms.specs.NamedCalls.{ReadsNamed}
use Rattle.statement_terms.proofs.Assigned.{let_made, property_named}
use Rattle.statement_terms.proofs.Called.{all_passed}
use Rattle.statement_terms.proofs.NamedCalls.{bound_on, reads_plain, some_reversed}
use Rattle.bound_members.specs.bound_calls.specs.bound_forms.specs.Targets.{property_given}
use Rattle.bound_members.specs.bound_calls.specs.Standing.{ReceiverThere}

-- ---- without names

lets_all : (of_object itself : Bool) (env : Env) (parameters : List Parameter) (procedure : ℕ) (of : DeclaredType) (ns : List ExpressionNode) (written all : ℕ) (d e : Drafted) → PassesAll env (map parameter_view parameters) ns d e written all
    → LetsTaken env (map parameter_view parameters) of_object itself procedure of ns d e (property_kind of_object itself procedure all of)
lets_all of_object itself env parameters procedure of ns written all d e h = record {
  grown = h.grown;
  named = property_named of_object itself e.tables procedure all of;
  framed = h.framed;
  stands = λ items value base same there.
      let_made of_object itself base env (map parameter_view parameters) (givens env (args_on items ns)) written all procedure of e.tables e.pieces d.pieces value (h.stands items) same there;
}

pub lets_plain : (of_object itself : Bool) (env : Env) (parameters : List Parameter) (procedure : ℕ) (of : DeclaredType) (ns : List ExpressionNode) (x : Passed) (named : List ℕ) (written all : ℕ) (d d1 e : Drafted) → named ≡ []
    → ReadsNamed env (map parameter_view parameters) ns d d1 x named → RestPushed x d1 e written all → LetsTaken env (map parameter_view parameters) of_object itself procedure of ns d e (property_kind of_object itself procedure all of)
lets_plain of_object itself env parameters procedure of ns x named written all d d1 e none a h =
    lets_all of_object itself env parameters procedure of ns written all d e
    (all_passed env parameters x ns d d1 e written all (reads_plain env ns (map parameter_view parameters) x named d d1 none a) h)

-- ---- with names

ordered_named : (of_object itself : Bool) (t : Tables) (procedure : ℕ) (o : Ordered) (of : DeclaredType) → o.order < length t.orders → ActionNamed t (ordered_kind of_object itself procedure o of)
ordered_named false false t procedure o of there = there
ordered_named false true t procedure o of there = there
ordered_named true false t procedure o of there = there
ordered_named true true t procedure o of there = there

ordered_fits : (of_object itself : Bool) (base : Option bound.Expr) (t : Tables) (o : Ordered) (procedure : ℕ) (of : DeclaredType) (all : List Argument) (places : List ℕ) (ps below : List Piece) (value : bound.Expr) → is_some base ≡ of_object
    → ReceiverThere base below (an_expr value ∷ []) → o.arguments ≡ length all → order_in t o.order ≡ places → ps ≡ above (map an_argument all) below
    → action_of t (ordered_kind of_object itself procedure o of) ps ≡ Some (property_given itself base procedure (bound.in_order places (args_of all)) value (declared_view of))
ordered_fits of_object itself base t o procedure of all places ps below value same there counted order a = by of_object itself base same there
  where
    off : (st : List Piece) → below ≡ st → arguments_off o.arguments ps bound.no_args ≡ Some (args_of all, st)
    off st k =
        ap (λ qs. arguments_off o.arguments qs bound.no_args) (a ∙ ap (λ qs. above (map an_argument all) qs) k) ∙ ap (λ n. arguments_off n (above (map an_argument all) st) bound.no_args) counted ∙ args_are all st

    plainly : (bound.Args → bound.Expr → Action) → List ℕ → Option (bound.Args × List Piece) → Option Action
    plainly make l found = behind_value found (λ args e. make (bound.in_order l args) e)

    of_base : (bound.Expr → bound.Args → bound.Expr → Action) → List ℕ → Option (bound.Args × List Piece) → Option Action
    of_base make l found = behind_object found (λ b args e. make b (bound.in_order l args) e)

    by : (m i : Bool) (q : Option bound.Expr) → is_some q ≡ m → ReceiverThere q below (an_expr value ∷ [])
        → action_of t (ordered_kind m i procedure o of) ps ≡ Some (property_given i q procedure (bound.in_order places (args_of all)) value (declared_view of))
    by false false None s k =
        let make : bound.Args → bound.Expr → Action = λ args e. to.let_property procedure args e (declared_view of) in
        ap (λ l. plainly make l (arguments_off o.arguments ps bound.no_args)) order ∙ ap (λ found. plainly make places found) (off (an_expr value ∷ []) k)
    by false true None s k =
        let make : bound.Args → bound.Expr → Action = λ args e. to.set_property procedure args e (declared_view of) in
        ap (λ l. plainly make l (arguments_off o.arguments ps bound.no_args)) order ∙ ap (λ found. plainly make places found) (off (an_expr value ∷ []) k)
    by true i None s k = let z : false ≡ true = s in absurd cc
    by false i (Some b) s k = let z : true ≡ false = s in absurd cc
    by true false (Some b) s k =
        let make : bound.Expr → bound.Args → bound.Expr → Action = λ base args e. to.let_method base procedure args e (declared_view of) in
        ap (λ l. of_base make l (arguments_off o.arguments ps bound.no_args)) order ∙ ap (λ found. of_base make places found) (off (an_object b ∷ an_expr value ∷ []) k)
    by true true (Some b) s k =
        let make : bound.Expr → bound.Args → bound.Expr → Action = λ base args e. to.set_method base procedure args e (declared_view of) in
        ap (λ l. of_base make l (arguments_off o.arguments ps bound.no_args)) order ∙ ap (λ found. of_base make places found) (off (an_object b ∷ an_expr value ∷ []) k)

pub lets_named : (of_object itself : Bool) (env : Env) (parameters : List Parameter) (procedure : ℕ) (of : DeclaredType) (ns : List ExpressionNode) (x : Passed) (named : List ℕ) (o : Ordered) (d d1 e : Drafted) → (named ≡ [] → ⊥)
    → ReadsNamed env (map parameter_view parameters) ns d d1 x named → EndsInOrder parameters x (reverse named) d1 e o → LetsTaken env (map parameter_view parameters) of_object itself procedure of ns d e (ordered_kind of_object itself procedure o of)
lets_named of_object itself env parameters procedure of ns x named o d d1 e some a h = record {
  grown = grown_twice d d1 e a.grown h.grown;
  named = ordered_named of_object itself e.tables procedure o of h.order_named;
  framed = a.framed;
  stands = λ items value base same there.
      let p = a.stands items in
      let gs = givens env (args_on items ns) in
      let m = bound_on env parameters x (reverse named) o d1 e gs p.before p.given p.made p.between d.pieces (some_reversed named some) h p.givens_are p.taken p.on_top p.passed in
      record {
        args = bound.in_order m.places (args_of m.all);
        bound_is = m.bound;
        fits = ordered_fits of_object itself base e.tables o procedure of m.all m.places e.pieces d.pieces value same there m.arguments_is m.order_is m.on_top;
      };
}
