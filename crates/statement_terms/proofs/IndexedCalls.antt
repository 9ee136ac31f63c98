-- Calls that stand as statements and call no procedure.
use Rattle.std.proofs.Common.{◌≡◌, Bool, true, false, List, [], ◌∷◌, ◌++◌, Option, Some, None, option_map, refl, sym, ap, subst, ◌∙◌}
use Rattle.std.specs.Prelude.{MatchBool}
use Rattle.vba_base.specs.declared.place.Place.{Place}
use Rattle.vba_lexer.specs.declared.token.Token.{Token}
use Rattle.vba_expression.specs.Tree.{Expr, Args, index}
use Rattle.vba_expression.specs.Nodes as nodes
use Rattle.vba_expression.specs.Nodes.{as_arguments, behind_node, behind_nodes, last_arguments, last_tree, rest}
use Rattle.vba_expression.specs.declared.node.ExpressionNode.{ExpressionNode}
use Rattle.vba_expression.specs.declared.node.ExpressionNode.TheVariants as node
use Rattle.bound_project.specs.declared.statement.ActionKind.{ActionKind}
use Rattle.bound_project.specs.declared.statement.ActionKind.TheVariants as action
use Rattle.bound_project.specs.Bodies.{action_of}
use Rattle.bound_project.specs.Drafts.{Drafted}
use Rattle.bound_project.specs.Expressions as bound
use Rattle.bound_project.specs.Pieces.{Piece}
use Rattle.bound_project.specs.Statements.{evaluate}
use Rattle.bound_members.specs.bound_calls.specs.bound_forms.specs.Terms.{Env, Given, a_place, a_value, a_routine, a_function, a_host_member, err_object, err_raise, err_clear, error_word, no_term, a_method}
use Rattle.bound_members.specs.bound_calls.specs.bound_forms.specs.Terms as plain
use Rattle.bound_members.specs.bound_calls.specs.bound_forms.specs.Operands.{given_as, place_told}
use Rattle.bound_members.specs.bound_calls.specs.bound_forms.specs.Members.{item_of}
use Rattle.bound_members.specs.bound_calls.specs.bound_forms.specs.ExpressionsBound.{callee, givens, indexed, term_of}
use Rattle.bound_members.specs.bound_calls.specs.bound_forms.specs.StatementsBound.{called_term, called_with}
use Rattle.bound_members.specs.bound_calls.specs.declared.term.Item.{Item}
use Rattle.bound_members.specs.bound_calls.specs.declared.term.Item.TheVariants as item
use Rattle.bound_members.specs.bound_calls.specs.declared.term.Tree.{Tree}
use Rattle.bound_members.specs.bound_calls.specs.Standing.{Grown, TermNamed, TreeStands, on_pieces}
use Rattle.bound_members.specs.bound_calls.specs.Steps.{Goes}
use Rattle.bound_members.specs.bound_calls.proofs.Growing.{grown_twice, tree_grows}
use Rattle.bound_members.specs.bound_calls.proofs.Steps.{goes_as, goes_twice}
use Rattle.statement_terms.specs.Assigning.{GivenPushed}
use Rattle.statement_terms.specs.Called.{ActionIs, CallsTreeOn, Continues, Framed, args_on}
use Rattle.statement_terms.specs.Heights.{AddsOne, GivesSome, bracket, brackets, is_argument}
use Rattle.statement_terms.proofs.Called.{none_there}
use Rattle.statement_terms.proofs.NodeTrees.{behind_both, behind_push, continues, only_tree}

-- ---- nodes

pub some_if : (ns front : List ExpressionNode) (last : ExpressionNode) (adds : Bool) → ns ≡ front ++ last ∷ [] → is_argument last ≡ true → MatchBool adds (AddsOne ns) (Unit {0}) → MatchBool adds (GivesSome ns) (Unit {0})
some_if ns front last true ends is adds = record { front = front; last = last; written = is; ends = ends; adds = adds }
some_if ns front last false ends is adds = tt

-- the arguments that the nodes are, whatever stands below
abbrev args_in : (ns : List ExpressionNode) → GivesSome ns → Args
args_in ns g = as_arguments g.adds.added

as_added : (ns : List ExpressionNode) (g : GivesSome ns) (items : List nodes.Item) → args_on items ns ≡ args_in ns g
as_added ns g items = ap last_arguments (g.adds.is items)

itself : (i : nodes.Item) (xs : Args) (items others : List nodes.Item) → i ∷ items ≡ nodes.arguments xs ∷ others → i ≡ nodes.arguments (as_arguments i)
itself (nodes.tree e) xs items others h = absurd cc
itself (nodes.arguments ys) xs items others h = refl

-- the last node makes an argument
abbrev added_args : ExpressionNode → List nodes.Item → Args
added_args (node.PlainArgument comma) items = Args.plain (last_arguments (rest items)) comma (last_tree items)
added_args (node.NamedArgument comma name mark) items = Args.named (last_arguments (rest items)) comma name mark (last_tree items)
added_args n items = Args.no_args

makes_args : (n : ExpressionNode) (items : List nodes.Item) → is_argument n ≡ true → behind_node n items ≡ nodes.arguments (added_args n items) ∷ rest (rest items)
makes_args (node.PlainArgument comma) items h = refl
makes_args (node.NamedArgument comma name mark) items h = refl
makes_args n items h = let e : false ≡ true = h in absurd cc

last_is : (ns : List ExpressionNode) (g : GivesSome ns) (items : List nodes.Item) → behind_nodes items ns ≡ nodes.arguments (added_args g.last (behind_nodes items g.front)) ∷ rest (rest (behind_nodes items g.front))
last_is ns g items = ap (λ (l : List ExpressionNode). behind_nodes items l) g.ends ∙ behind_push items g.front g.last ∙ makes_args g.last (behind_nodes items g.front) g.written

added_is : (ns : List ExpressionNode) (g : GivesSome ns) → g.adds.added ≡ nodes.arguments (args_in ns g)
added_is ns g =
    let before = behind_nodes [] g.front in
    itself g.adds.added (as_arguments (nodes.arguments (added_args g.last before))) [] (rest (rest before)) (sym (g.adds.is []) ∙ last_is ns g [])

framed : (ns : List ExpressionNode) → GivesSome ns → Framed ns
framed ns g items =
    g.adds.is items ∙ ap (λ (i : nodes.Item). i ∷ items) (added_is ns g) ∙ ap (λ (xs : Args). nodes.arguments xs ∷ items) (sym (as_added ns g items))

-- some argument is given
pub record SomeGiven (gs : List Given) : Type 0 where
  pub first : Given
  pub others : List Given
  pub is : gs ≡ first ∷ others

given_last : (gs : List Given) (g : Given) → SomeGiven (gs ++ g ∷ [])
given_last [] g = record { first = g; others = []; is = refl }
given_last (h ∷ gs) g = record { first = h; others = gs ++ g ∷ []; is = refl }

some_added : (env : Env) (n : ExpressionNode) (items : List nodes.Item) → is_argument n ≡ true → SomeGiven (givens env (added_args n items))
some_added env (node.PlainArgument comma) items h =
    let e = last_tree items in given_last (givens env (last_arguments (rest items))) (record { name = None; term = Some (term_of env e); place = place_told e })
some_added env (node.NamedArgument comma name mark) items h =
    let e = last_tree items in given_last (givens env (last_arguments (rest items))) (record { name = Some name.name; term = Some (term_of env e); place = place_told e })
some_added env n items h = let e : false ≡ true = h in absurd cc

some_given : (env : Env) (ns : List ExpressionNode) (g : GivesSome ns) → SomeGiven (givens env (args_in ns g))
some_given env ns g =
    let before = behind_nodes [] g.front in
    let P : Args → Type 0 = λ (xs : Args). SomeGiven (givens env xs) in
    let same : args_in ns g ≡ added_args g.last before = sym (as_added ns g []) ∙ ap last_arguments (last_is ns g []) in
    subst P (sym same) (some_added env g.last before g.written)

-- whatever stands below them
pub args_given : (env : Env) (ns : List ExpressionNode) (g : GivesSome ns) (items : List nodes.Item) → SomeGiven (givens env (args_on items ns))
args_given env ns g items = let P : Args → Type 0 = λ (xs : Args). SomeGiven (givens env xs) in subst P (sym (as_added ns g items)) (some_given env ns g)

-- ---- what is called

by_items : (env : Env) (place : Place) (t : plain.Term) (g : Given) (gs : List Given) (made : bound.Expr) → given_as env (indexed env place (item_of env place t) (g ∷ gs)) place ≡ Some made → called_term env place t (g ∷ gs) ≡ Some (evaluate made)
by_items env place (a_place x of bounds lends makes) g gs made h = ap (λ (o : Option bound.Expr). option_map evaluate o) h
by_items env place (a_value node of) g gs made h = ap (λ (o : Option bound.Expr). option_map evaluate o) h
by_items env place (a_routine space number p) g gs made h = ap (λ (o : Option bound.Expr). option_map evaluate o) h
by_items env place (a_method base space number p) g gs made h = ap (λ (o : Option bound.Expr). option_map evaluate o) h
by_items env place (a_function f text_form base) g gs made h = ap (λ (o : Option bound.Expr). option_map evaluate o) h
by_items env place (a_host_member e m) g gs made h = ap (λ (o : Option bound.Expr). option_map evaluate o) h
by_items env place err_object g gs made h = ap (λ (o : Option bound.Expr). option_map evaluate o) h
by_items env place err_raise g gs made h = absurd (none_there made h)
by_items env place err_clear g gs made h = ap (λ (o : Option bound.Expr). option_map evaluate o) h
by_items env place error_word g gs made h = absurd (none_there made h)
by_items env place no_term g gs made h = ap (λ (o : Option bound.Expr). option_map evaluate o) h

called_by : (env : Env) (place : Place) (t : plain.Term) (gs : List Given) (made : bound.Expr) → SomeGiven gs → given_as env (indexed env place (item_of env place t) gs) place ≡ Some made → called_term env place t gs ≡ Some (evaluate made)
called_by env place t gs made s h =
    let P : List Given → Type 0 = λ (l : List Given). called_term env place t l ≡ Some (evaluate made) in
    let G : List Given → Type 0 = λ (l : List Given). given_as env (indexed env place (item_of env place t) l) place ≡ Some made in
    subst P (sym s.is) (by_items env place t s.first s.others made (subst G s.is h))

-- brackets behind an expression make a value
indexed_called : (env : Env) (tree : Expr) (args : Args) (mark : Token) (more : Tree) (m e : Drafted) → SomeGiven (givens env args) → TreeStands env m.tables more (index tree mark args mark) m.pieces [] → GivenPushed more.term more.place m e
    → ActionIs action.Evaluate (called_with env tree (givens env args)) e.tables e.pieces
indexed_called env tree args mark more m e some there g =
    let p = place_told tree in
    let z = callee env tree (term_of env tree) in
    let gs = givens env args in
    let whole = index tree mark args mark in
    let pushed = g.stands env (term_of env whole) [] there.term_is in
    let is : given_as env (indexed env p (item_of env p z) gs) p ≡ Some pushed.made = ap (λ (q : Place). given_as env (indexed env p (item_of env p z) gs) q) (sym there.place_is) ∙ pushed.is in
    record { made = evaluate pushed.made; is = called_by env p z gs pushed.made some is; fits = ap (λ (ps : List Piece). action_of e.tables action.Evaluate ps) pushed.on_top }

behind_brackets : (ns : List ExpressionNode) (g : GivesSome ns) (tree : Expr) (mark : Token) → last_tree (behind_nodes (nodes.tree tree ∷ []) (ns ++ node.Index mark mark ∷ [])) ≡ index tree mark (args_in ns g) mark
behind_brackets ns g tree mark =
    let base = nodes.tree tree ∷ [] in
    let close = node.Index mark mark in
    ap last_tree (behind_push base ns close) ∙ ap (λ (l : List nodes.Item). last_tree (behind_node close l)) (g.adds.is base)

closed_called : (env : Env) (x more : Tree) (ns : List ExpressionNode) (place : Place) (d m e : Drafted) → GivesSome ns → Continues env x (ns ++ brackets place) d m more → GivenPushed more.term more.place m e → CallsTreeOn env x ns d e action.Evaluate
closed_called env x more ns place d m e g c p = record {
  framed = framed ns g;
  calls = λ items. record {
    grown = grown_twice d m e c.goes.grown p.grown;
    named = tt;
    stands = λ tree k.
        let base = nodes.tree tree ∷ [] in
        let mark = bracket place in
        let end = only_tree env m.tables more (behind_nodes base (ns ++ brackets place)) m.pieces [] (c.goes.stands base (on_pieces []) ([], (k, (refl, refl)))) in
        let T : Expr → Type 0 = λ (t : Expr). TreeStands env m.tables more t m.pieces [] in
        let P : Args → Type 0 = λ (xs : Args). ActionIs action.Evaluate (called_with env tree (givens env xs)) e.tables e.pieces in
        subst P (sym (as_added ns g items)) (indexed_called env tree (args_in ns g) mark more m e (some_given env ns g) (subst T (behind_brackets ns g tree mark) end) p);
  };
}

pub calls_closed : (env : Env) (x more : Tree) (ns close : List ExpressionNode) (d m e : Drafted) → GivesSome ns → close ≡ brackets x.place → Continues env x (ns ++ close) d m more → GivenPushed more.term more.place m e
    → CallsTreeOn env x ns d e action.Evaluate
calls_closed env x more ns close d m e g is c p =
    let C : List ExpressionNode → Type 0 = λ (l : List ExpressionNode). Continues env x (ns ++ l) d m more in closed_called env x more ns x.place d m e g (subst C is c) p

-- what is read behind an expression, in two parts
pub continues_twice : (env : Env) (ms ns : List ExpressionNode) (x y : Tree) (zs ys xs start : List Item) (d f e : Drafted) → start ≡ item.Tree x ∷ [] → zs ≡ item.Tree y ∷ xs → xs ≡ [] → Goes env d start f ys (λ is. behind_nodes is ms)
    → Goes env f ys e zs (λ is. behind_nodes is ns) → Continues env x (ms ++ ns) d e y
continues_twice env ms ns x y zs ys xs start d f e s a b g h =
    continues env (ms ++ ns) x y zs xs start d e s a b
    (goes_as env d e start zs (λ is. behind_nodes (behind_nodes is ms) ns) (λ is. behind_nodes is (ms ++ ns)) (λ is. sym (behind_both is ms ns)) (goes_twice env d f e start ys zs (λ is. behind_nodes is ms) (λ is. behind_nodes is ns) g h))

-- the same behind a draft that has grown
pub calls_later : (env : Env) (x : Tree) (ns : List ExpressionNode) (kind : ActionKind) (d f e : Drafted) → Grown d f → f.pieces ≡ d.pieces → TermNamed d.tables x.term → CallsTreeOn env x ns f e kind → CallsTreeOn env x ns d e kind
calls_later env x ns kind d f e grown same named c = record {
  framed = c.framed;
  calls = λ items.
      let s = c.calls items in
      record {
        grown = grown_twice d f e grown s.grown;
        named = s.named;
        stands = λ tree k.
            let A : List Piece → Type 0 = λ (ps : List Piece). TreeStands env f.tables x tree ps [] in
            s.stands tree (subst A (sym same) (tree_grows env d.tables f.tables grown.tables x named tree d.pieces [] k));
      };
}
